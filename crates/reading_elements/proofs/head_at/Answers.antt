use native.Mathlib.Omega.{arith}
use Rattle.reading_elements.specs.Bounds.{head_in}
use Rattle.reading_elements.specs.Short.{short}
use Rattle.reading_elements.proofs.head_at.Goals as goal

pub short_head-requires : goal.short_head-requires
short_head-requires c =
    let h = c.is_short.ensures c.if-is_short.true in
    (omega arith, short _ _ _ (omega arith) h.0 h.1 h.2)

pub returns-then-is_short-clause-within : goal.returns-then-is_short-clause-within
returns-then-is_short-clause-within c = head_in _ _ _ _ c.short_head.ensures
