use native.Mathlib.Omega.{arith}
use Rattle.paper.specs.Writing.{error_octets}
use Rattle.writing_components.proofs.write_error.Goals as goal

pub returns : goal.returns
unfolding error_octets
returns c =
    record { is = c.write_plain.ensures.is; within = omega arith }
