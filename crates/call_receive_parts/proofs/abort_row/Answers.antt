use native.Mathlib.Omega.{arith}
use Rattle.laws.specs.If.{eq, ne}
use Rattle.call_receive_parts.proofs.abort_row.Goals as goal

pub returns-then-m-eq-NO_PROBLEM : goal.returns-then-m-eq-NO_PROBLEM
returns-then-m-eq-NO_PROBLEM c =
    eq _ _ _ _ (omega arith) c.dialogue_row.ensures

pub returns-else-m-eq-NO_PROBLEM : goal.returns-else-m-eq-NO_PROBLEM
returns-else-m-eq-NO_PROBLEM c =
    ne _ _ _ _ (λ h. omega arith) c.dialogue_row-else-m-eq-NO_PROBLEM.ensures
