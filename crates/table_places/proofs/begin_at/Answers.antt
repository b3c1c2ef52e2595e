use Prim.Native.Nat.{ℕ}
use mathlib.Core.Path.{ap, ◌∙◌}
use mathlib.Core.List.{List}
use native.Mathlib.Omega.{arith}
use Rattle.table_map.specs.Map.{without_bit}
use Rattle.paper.specs.Layout.{map_bit}
use Rattle.table_places.proofs.Changes.{begin-bit, place-begun}
use Rattle.table_places.proofs.begin_at.Goals as goal

pub clear_bit-requires : goal.clear_bit-requires
clear_bit-requires c =
    (c.requires.small, omega arith, ap (λ (u : List ℕ). map_bit u c.args.p) c.put_control.ensures ∙ begin-bit c.args.t.now c.args.p c.args.c c.requires)

pub returns : goal.returns
returns c =
    c.clear_bit.ensures ∙ ap (λ (u : List ℕ). without_bit u c.args.p) c.put_control.ensures
    ∙ place-begun c.args.t.now c.args.p c.args.c c.requires
