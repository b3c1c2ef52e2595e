use Rattle.std.proofs.Common.{refl, sym, ◌∙◌, arith}
use Rattle.reading_messages.specs.Steps.{long-drops, wrong-drops, message-by}
use Rattle.reading_messages.proofs.message_of.Goals as goal

pub returns-then-s-eq31 : goal.returns-then-s-eq31
returns-then-s-eq31 c =
    let both = long-drops _ _ _ refl c.dropped.ensures (omega arith) in
    record { is = both.0; within = both.1 }

pub returns-in-Wrong : goal.returns-in-Wrong
returns-in-Wrong c =
    let both = message-by _ _ _ (λ h. omega arith) (sym c.in-Wrong.is ∙ c.length_at.ensures.is) (wrong-drops _ _ _ refl c.dropped-in-Wrong.ensures) in
    record { is = both.0; within = both.1 }

pub returns-in-Until : goal.returns-in-Until
returns-in-Until c =
    let both = message-by _ _ _ (λ h. omega arith) (sym c.in-Until.is ∙ c.length_at.ensures.is) c.by_until.ensures in
    record { is = both.0; within = both.1 }

pub returns-in-Given : goal.returns-in-Given
returns-in-Given c =
    let both = message-by _ _ _ (λ h. omega arith) (sym c.in-Given.is ∙ c.length_at.ensures.is) c.by_given.ensures in
    record { is = both.0; within = both.1 }
