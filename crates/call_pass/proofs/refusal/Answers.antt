use mathlib.Core.Path.{sym, ap, ◌∙◌}
use Rattle.paper.specs.Dialogues.{refusal}
use Rattle.call_pass.specs.declared.Passing.{Passing}
use Rattle.call_pass.specs.Passings.{passing}
use Rattle.call_pass.proofs.refusal.Goals as goal

pub returns-in-AnInvoke : goal.returns-in-AnInvoke
unfolding refusal
returns-in-AnInvoke c =
    λ x s e f. c.invoke_refusal.ensures x e f ∙ ap (λ (w : Passing). refusal x (passing w c.args.code.now c.args.par.now)) (sym c.in-AnInvoke.is)

pub returns-in-AResult : goal.returns-in-AResult
unfolding refusal
returns-in-AResult c =
    λ x s e f. c.result_refusal.ensures x s f ∙ ap (λ (w : Passing). refusal x (passing w c.args.code.now c.args.par.now)) (sym c.in-AResult.is)

pub returns-in-AnError : goal.returns-in-AnError
unfolding refusal
returns-in-AnError c =
    λ x s e f. c.error_refusal.ensures x s f ∙ ap (λ (w : Passing). refusal x (passing w c.args.code.now c.args.par.now)) (sym c.in-AnError.is)

pub returns-in-AReject : goal.returns-in-AReject
unfolding refusal
returns-in-AReject c =
    λ x s e f. c.reject_refusal.ensures x s e f ∙ ap (λ (w : Passing). refusal x (passing w c.args.code.now c.args.par.now)) (sym c.in-AReject.is)
