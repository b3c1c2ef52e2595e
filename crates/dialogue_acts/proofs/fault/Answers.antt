use Rattle.std.proofs.Common.{refl, sym, ap, ◌∙◌, arith}
use Rattle.laws.specs.If.{eq, ne, yes, no}
use Rattle.dialogue_acts.specs.Told.{told-as, told-stored, stays-shown, stays-stored}
use Rattle.paper.specs.Invocations.{faults, faulty_reject, released, rejected, acted}
use Rattle.paper.specs.Kinds.{row_not_stored}
use Rattle.dialogue_acts.proofs.fault.Goals as goal

pub returns-then-p-eq-NO_PROBLEM-clause-is : goal.returns-then-p-eq-NO_PROBLEM-clause-is
unfolding faults faulty_reject
returns-then-p-eq-NO_PROBLEM-clause-is c =
    λ room d e q. stays-shown d _ _ _ _ c.stays.ensures (λ h. omega arith) ∙ eq _ _ _ _ (omega arith) (eq _ _ _ _ (omega arith) (ap (acted d row_not_stored) c.from-code.ensures))

pub returns-then-p-eq-REJECT_TAG-clause-is : goal.returns-then-p-eq-REJECT_TAG-clause-is
unfolding faults faulty_reject
returns-then-p-eq-REJECT_TAG-clause-is c =
    λ room d e q. told-as d _ _ _ (c.release.ensures.is d e) _ _ c.release.ensures.told.0 (c.release.ensures.told.1 ∙ c.from-code.ensures) (λ h. omega arith)
    ∙ eq _ _ _ _ (omega arith) (ne _ _ _ _ (λ h. omega arith) refl)

pub returns-then-is_answer-clause-is : goal.returns-then-is_answer-clause-is
unfolding faults
returns-then-is_answer-clause-is c =
    λ room d e q. told-stored d _ _ _ (c.release-then-is_answer.ensures.is d e) room (c.release-then-is_answer.ensures.told.0 ∙ q) ∙ ap (rejected room (released d _) _) (c.release-then-is_answer.ensures.told.1 ∙ c.from-code.ensures) ∙ ne _ _ _ _ (λ h. omega arith) (yes _ _ _ (sym c.is_answer.ensures ∙ c.if-is_answer.true) refl)

pub returns-clause-is : goal.returns-clause-is
unfolding faults
returns-clause-is c =
    λ room d e q. stays-stored d _ _ _ _ c.stays-2.ensures room q ∙ ap (rejected room d _) c.from-code.ensures ∙ ne _ _ _ _ (λ h. omega arith) (no _ _ _ (sym c.is_answer.ensures ∙ c.if-is_answer.false) refl)
