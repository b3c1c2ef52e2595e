use mathlib.Core.Path.{◌≡◌, ◌∙◌, ap}
use mathlib.Core.List.{List}
use Prim.Native.Nat.{ℕ, ◌+◌, ◌-◌}
use native.Mathlib.Nat.{add-sub_cancel_left}
use lib.ListN.{take, drop}
use Rattle.paper.specs.declared.Run.{Run}
use Rattle.paper.specs.Readers.{parameter_at, parameter}
use Rattle.reading_parameter.proofs.parameter.Goals as goal

ranged : (s : List ℕ) (start len : ℕ) (r : Run) → r ≡ parameter_at s start len → take (r.start + r.length - r.start) (drop r.start s) ≡ parameter s start len
unfolding parameter
ranged s start len r e =
    ap (λ (k : ℕ). take k (drop r.start s)) (add-sub_cancel_left r.start r.length) ∙ ap (λ (r : Run). take r.length (drop r.start s)) e

pub returns : goal.returns
returns c =
    ranged _ _ _ _ c.parameter_at-r.ensures.is
