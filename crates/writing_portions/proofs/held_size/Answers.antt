use mathlib.Core.Path.{ap, ◌∙◌}
use Prim.Native.Nat.{ℕ, ◌+◌}
use native.Mathlib.Omega.{arith}
use Rattle.writing_octets.specs.Lengths.{element_size}
use Rattle.writing_portions.proofs.held_size.Goals as goal

pub returns : goal.returns
returns c =
    let a0 = c.element_size.ensures.is ∙ ap element_size c.element_size-pdu.ensures.is in
    record { is = ap (λ (n : ℕ). 9 + n) a0; within = omega arith }
