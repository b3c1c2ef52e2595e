use Rattle.paper.specs.Elements.{tag_more}
use Prim.Native.Nat.{◌+◌, ◌-◌}
use mathlib.Core.Path.{◌≡◌}
use Rattle.reading_elements.proofs.tag_more.Given as goal

abbrev pub invariant-loop-p : goal.invariant-loop-p
invariant-loop-p l = tag_more l.s l.lim 4 l.at ≡ tag_more l.s l.lim (l.at + 4 - l.p) l.p
