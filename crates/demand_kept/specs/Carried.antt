-- A SOUND COMPONENT IS THE SAME COMPONENT where its octets are copied k further, inside any limit that holds it. Assumes nothing.
use Prim.Native.Nat.{ℕ, ◌+◌}
use Rattle.laws.specs.If.{if_eq}
use Rattle.paper.specs.declared.Component.{Component}

-- the component k further
abbrev pub further : ℕ → Component → Component
further k c = record {
  tag = c.tag;
  id = c.id;
  linked = c.linked;
  problem = c.problem;
  fault = c.fault;
  stop = k + c.stop;
  par = if_eq c.parstop 0 0 (k + c.par);
  parstop = if_eq c.parstop 0 0 (k + c.parstop);
}
