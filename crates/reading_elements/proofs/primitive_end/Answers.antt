use Rattle.reading_elements.specs.Steps.{by-head}
use Rattle.reading_elements.specs.Short.{short}
use Rattle.reading_elements.specs.Bounds.{head_in}
use mathlib.Core.Path.{sym, ◌∙◌}
use native.Mathlib.Omega.{arith}
use Rattle.reading_elements.proofs.primitive_end.Goals as goal

pub short_head-requires : goal.short_head-requires
short_head-requires c =
    let h = c.is_short.ensures c.if-not-is_short.false in
    (omega arith, short _ _ _ (omega arith) h.0 h.1 h.2)

pub returns-in-Whole-clause-is : goal.returns-in-Whole-clause-is
returns-in-Whole-clause-is c =
    by-head _ _ _ _ _ c.if-left-eq0.false (sym c.in-Whole.is ∙ c.short_head.ensures)

pub returns-in-Whole-clause-within : goal.returns-in-Whole-clause-within
returns-in-Whole-clause-within c = head_in _ _ _ _ (sym c.in-Whole.is ∙ c.short_head.ensures)
