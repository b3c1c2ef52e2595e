use mathlib.Core.Path.{◌∙◌}
use native.Mathlib.Omega.{arith}
use Rattle.writing_portions.specs.Forms.{around-size}
use Rattle.writing_portions.proofs.around_size.Goals as goal

pub returns : goal.returns
returns c =
    let held = c.held_size.ensures.is in
    let external = c.element_size-external.ensures.is in
    record { is = c.element_size.ensures.is ∙ around-size c.args.n _ _ held external; within = omega arith }
