use native.Mathlib.Omega.{arith}
use Rattle.program_text.specs.Said.{said-one, said-cut}
use Rattle.program_text.proofs.put.Goals as goal

pub returns-then-at-out : goal.returns-then-at-out
returns-then-at-out c =
    said-cut _ _ _ (omega arith)

pub returns : goal.returns
returns c =
    said-one _ _ _ (omega arith)
