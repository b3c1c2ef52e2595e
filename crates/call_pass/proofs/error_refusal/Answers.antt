use Rattle.call_pass.specs.Refusing.{error-open, error-pieces}
use mathlib.Core.Path.{sym, ◌∙◌}
use Rattle.call_pass.proofs.error_refusal.Goals as goal

pub returns-then-state-eq-DIALOGUE_OPEN : goal.returns-then-state-eq-DIALOGUE_OPEN
returns-then-state-eq-DIALOGUE_OPEN c =
    λ x e f. error-open x c.args.id c.args.err.now c.args.par.now (e ∙ c.if-state-eq-DIALOGUE_OPEN.true)

pub returns : goal.returns
returns c =
    λ x e f. error-pieces x c.args.id c.args.err.now c.args.par.now (λ q. c.if-state-eq-DIALOGUE_OPEN.false (sym e ∙ q)) f c.pieces_refusal.ensures
