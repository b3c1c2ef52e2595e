use Rattle.call_pass.specs.Refusing.{result-open, result-pieces}
use mathlib.Core.Path.{sym, ◌∙◌}
use Rattle.call_pass.proofs.result_refusal.Goals as goal

pub returns-then-state-eq-DIALOGUE_OPEN : goal.returns-then-state-eq-DIALOGUE_OPEN
returns-then-state-eq-DIALOGUE_OPEN c =
    λ x e f. result-open x c.args.tag c.args.id c.args.op.now c.args.par.now (e ∙ c.if-state-eq-DIALOGUE_OPEN.true)

pub returns : goal.returns
returns c =
    λ x e f. result-pieces x c.args.tag c.args.id c.args.op.now c.args.par.now (λ q. c.if-state-eq-DIALOGUE_OPEN.false (sym e ∙ q)) f c.both_refusal.ensures
