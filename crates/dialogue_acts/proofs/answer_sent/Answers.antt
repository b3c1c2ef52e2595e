use Rattle.std.proofs.Common.{◌≡◌, ℕ, ap, sym, ◌∙◌, arith}
use Rattle.dialogue_acts.specs.Told.{taken, sent-rejected, sent-shown, sent-waits}
use Rattle.dialogue_acts.proofs.answer_sent.Goals as goal

pub returns-in-Rejected-clause-is : goal.returns-in-Rejected-clause-is
returns-in-Rejected-clause-is c =
    λ room id d e s q. sent-rejected d id _ _ e s c.requires.0 room _ _ _ c.takes.ensures _ _ c.puts.ensures q c.answer_problem.ensures (ap taken c.in-Rejected.is)

pub returns-in-StaysSent-clause-is : goal.returns-in-StaysSent-clause-is
returns-in-StaysSent-clause-is c =
    λ room id d e s q. sent-shown d id _ _ e s c.requires.0 room _ _ _ c.takes.ensures _ c.requires.1 c.puts-in-StaysSent.ensures c.answer_kind.ensures.is c.answer_kind.ensures.low (ap taken c.in-StaysSent.is)

pub returns-in-Waits-clause-is : goal.returns-in-Waits-clause-is
returns-in-Waits-clause-is c =
    λ room id d e s q. sent-waits d id _ _ e s c.requires.0 room _ _ _ c.takes.ensures _ c.puts-in-Waits.ensures c.answer_kind-in-Waits.ensures.is c.answer_kind-in-Waits.ensures.low
    (λ z. let w : ◌≡◌ {A = ℕ} 2 0 = sym (ap taken c.in-Waits.is) ∙ z in absurd (omega arith))
    (λ z. let w : ◌≡◌ {A = ℕ} 2 1 = sym (ap taken c.in-Waits.is) ∙ z in absurd (omega arith))
