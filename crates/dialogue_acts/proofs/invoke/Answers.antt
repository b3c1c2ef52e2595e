use Rattle.std.proofs.Common.{refl, sym, ap, ◌∙◌, List, eqb-true, eq-eqb, arith}
use Rattle.std.proofs.lemmas.Bool.{eqb-false}
use Rattle.laws.specs.If.{eq, ne, true-false}
use Rattle.paper.specs.declared.Invocation.{Invocation}
use Rattle.dialogue_acts.specs.Told.{stays-shown, stays-stored}
use Rattle.paper.specs.Invocations.{invokes, invocation_of}
use Rattle.dialogue_acts.proofs.invoke.Goals as goal
use Rattle.dialogue_acts.proofs.invoke.Goals.{then-linked-eq-NO_ID, else-linked-eq-NO_ID}

pub returns-then-state_of-eq-SENT-clause-is : goal.returns-then-state_of-eq-SENT-clause-is
unfolding invokes
returns-then-state_of-eq-SENT-clause-is c =
    λ room id d e q. stays-shown d id _ _ _ c.stays.ensures (λ h. omega arith) ∙
    elim c.if-linked-eq-NO_ID.branch [
      | then-linked-eq-NO_ID w ↦ eq _ _ _ _ w.if-linked-eq-NO_ID.true refl
      | else-linked-eq-NO_ID w ↦ ne _ _ _ _ w.if-linked-eq-NO_ID.false (eq _ _ _ _ (ap (λ (l : List Invocation). (invocation_of l c.args.linked).state) (sym e) ∙ sym w.state_of.ensures ∙ eqb-true _ _ (sym w.value-is ∙ c.if-state_of-eq-SENT.true)) refl)
    ]

pub returns-else-state_of-eq-SENT-clause-is : goal.returns-else-state_of-eq-SENT-clause-is
unfolding invokes
returns-else-state_of-eq-SENT-clause-is c =
    λ room id d e q. stays-stored d id _ _ _ c.stays-else-state_of-eq-SENT.ensures room q ∙
    elim c.if-linked-eq-NO_ID.branch [
      | then-linked-eq-NO_ID w ↦ absurd (true-false (sym (eq-eqb _ _ w.if-linked-eq-NO_ID.true) ∙ sym w.value-is ∙ c.if-state_of-eq-SENT.false))
      | else-linked-eq-NO_ID w ↦ ne _ _ _ _ w.if-linked-eq-NO_ID.false (ne _ _ _ _ (λ h. eqb-false _ _ (sym w.value-is ∙ c.if-state_of-eq-SENT.false) (w.state_of.ensures ∙ sym (ap (λ (l : List Invocation). (invocation_of l c.args.linked).state) (sym e)) ∙ h)) refl)
    ]
