use Rattle.std.proofs.Common.{refl, ap, ◌∙◌, ℕ, arith}
use Rattle.laws.specs.If.{lt, ge}
use Rattle.dialogue_acts.specs.Told.{told-as, stays-shown}
use Rattle.paper.specs.Invocations.{rejects, acted}
use Rattle.dialogue_acts.proofs.reject.Goals as goal

pub returns-then-problem-lt-RESULT_PROBLEMS-clause-is : goal.returns-then-problem-lt-RESULT_PROBLEMS-clause-is
unfolding rejects
returns-then-problem-lt-RESULT_PROBLEMS-clause-is c =
    λ d e. told-as d _ _ _ (c.release.ensures.is d e) _ _ (c.release.ensures.told.0 ∙ c.reject_kind-kind.ensures.is) c.release.ensures.told.1 (λ h. omega arith) ∙ lt _ _ _ _ (omega arith) refl

pub returns-else-problem-lt-RESULT_PROBLEMS-clause-is : goal.returns-else-problem-lt-RESULT_PROBLEMS-clause-is
unfolding rejects
returns-else-problem-lt-RESULT_PROBLEMS-clause-is c =
    λ d e. stays-shown d _ _ _ _ c.stays.ensures (λ h. omega arith) ∙ ap (λ (k : ℕ). acted d k c.args.problem) c.reject_kind-kind.ensures.is ∙ ge _ _ _ _ (omega arith) refl
