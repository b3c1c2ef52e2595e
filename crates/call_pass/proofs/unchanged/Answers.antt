use native.Mathlib.Omega.{arith}
use Rattle.call_pass.specs.Passings.{same_first}
use Rattle.call_pass.proofs.unchanged.Goals as goal

pub returns : goal.returns
returns c =
    record { slot = omega arith; is = same_first _ }
