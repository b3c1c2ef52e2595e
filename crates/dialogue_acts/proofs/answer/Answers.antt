use Rattle.std.proofs.Common.{refl, ap, ◌∙◌, List}
use Rattle.laws.specs.If.{eq, ne}
use Rattle.paper.specs.declared.Invocation.{Invocation}
use Rattle.paper.specs.Invocations.{answers, rejected, invocation_of}
use Rattle.dialogue_acts.specs.Told.{state-is, stays-stored}
use Rattle.dialogue_acts.proofs.answer.Goals as goal

pub returns-in-Some-clause-is : goal.returns-in-Some-clause-is
unfolding answers
returns-in-Some-clause-is c =
    λ room d e q.
    let s = c.in-Some.ensures.some in
    c.answer_sent.ensures.is room c.args.id d e s.1 q ∙ eq _ _ _ _ (state-is d c.args.id c.in-Some.i c.args.l e s.1 _ refl ∙ s.2) refl

pub returns-in-None-clause-is : goal.returns-in-None-clause-is
unfolding answers
returns-in-None-clause-is c =
    λ room d e q. stays-stored d _ _ _ _ c.stays.ensures room q ∙ ap (rejected room d _) c.answer_problem.ensures
    ∙ ne _ _ _ _ (λ h. c.in-None.ensures.none (ap (λ (l : List Invocation). (invocation_of l c.args.id).state) e ∙ h)) refl
