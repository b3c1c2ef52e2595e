use Rattle.std.proofs.Common.{sym, ◌∙◌, arith}
use Rattle.reading_portion.specs.Steps.{absent_by, fault-by, short-by, whole_by}
use Rattle.reading_portion.proofs.portion.Goals as goal

pub returns-then-tag_at-ne107-clause-is : goal.returns-then-tag_at-ne107-clause-is
returns-then-tag_at-ne107-clause-is c = absent_by _ _ c.tag_at.ensures (λ h. omega arith)

pub returns-in-Ok : goal.returns-in-Ok
returns-in-Ok c =
    let both = whole_by _ _ c.tag_at.ensures (omega arith) _ _ (sym c.in-Ok.is ∙ c.element.ensures.is) (omega arith) c.by_form.ensures in
    record { is = both.0; within = both.1 }

pub returns-in_default-clause-is : goal.returns-in_default-clause-is
returns-in_default-clause-is c =
    (short-by _ _ c.tag_at.ensures (omega arith) _ (sym c.in-Ok.is ∙ c.element.ensures.is) c.if-e-n.false).0

pub returns-in_default-2-clause-is : goal.returns-in_default-2-clause-is
returns-in_default-2-clause-is c =
    (fault-by _ _ c.tag_at.ensures (omega arith) _ (sym c.in_default.is ∙ c.element.ensures.is)).0
