use Rattle.std.proofs.Common.{refl, ap, ◌∙◌, arith}
use Rattle.laws.specs.If.{eq, ne}
use Rattle.dialogue_acts.specs.Told.{stored_kind}
use Rattle.paper.specs.Invocations.{act}
use Rattle.dialogue_acts.proofs.act.Goals as goal

pub returns-then-p-ne-NO_FAULT-clause-is : goal.returns-then-p-ne-NO_FAULT-clause-is
unfolding act
returns-then-p-ne-NO_FAULT-clause-is c =
    λ d e n. c.fault.ensures.is _ d e (c.stored_kind-kind.ensures.is ∙ ap (stored_kind _) n) ∙ ne _ _ _ _ (λ h. omega arith) refl

pub returns-in-161-clause-is : goal.returns-in-161-clause-is
unfolding act
returns-in-161-clause-is c =
    λ d e n. c.invoke.ensures.is _ _ d e (c.stored_kind-kind.ensures.is ∙ ap (stored_kind _) n) ∙ eq _ _ _ _ (omega arith) (eq _ _ _ _ (omega arith) refl)

pub returns-in-164-clause-is : goal.returns-in-164-clause-is
unfolding act
returns-in-164-clause-is c =
    λ d e n. c.reject.ensures.is d e ∙ eq _ _ _ _ (omega arith) (ne _ _ _ _ (λ h. omega arith) (eq _ _ _ _ (omega arith) refl))

pub returns-in_default-clause-is : goal.returns-in_default-clause-is
unfolding act
returns-in_default-clause-is c =
    λ d e n. c.answer.ensures.is _ d e (c.stored_kind-kind.ensures.is ∙ ap (stored_kind _) n) ∙ eq _ _ _ _ (omega arith) (ne _ _ _ _ (λ h. omega arith) (ne _ _ _ _ (λ h. omega arith) refl))
