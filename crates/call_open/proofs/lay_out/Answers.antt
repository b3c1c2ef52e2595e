use lib.ListN.{length}
use Rattle.call_open.specs.Fresh.{fresh-octets}
use lib.ListN.{replicate}
use Prim.Native.Nat.{ℕ}
use mathlib.Core.Path.{◌≡◌, ap, ◌∙◌}
use Rattle.paper.specs.Layout.{table_size}
use Rattle.call_open.proofs.lay_out.Goals as goal

pub returns : goal.returns
returns c =
    let n : length c.args.t.now ≡ table_size = c.requires.0 in
    fresh-octets c.args.t.now _ _ _ c.args.g.now c.args.l.now _ _ _ n c.requires.1 c.requires.2
    (c.clear.ensures ∙ ap (λ (n : ℕ). replicate n 0) n) c.copy_at.ensures c.copy_at-2.ensures _ c.copy_at-3.ensures
