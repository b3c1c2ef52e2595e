use Rattle.std.proofs.Common.{refl, sym, ◌∙◌}
use Rattle.laws.specs.If.{eq, yes, no}
use Rattle.table_rules.specs.Kinds.{used-parts}
use Rattle.table_rules.proofs.used_kept.Goals as goal

pub returns-then-head_kept : goal.returns-then-head_kept
returns-then-head_kept c = eq _ _ _ _ refl (yes _ _ _ (cc) c.tail_kept.ensures) ∙ sym (used-parts _ _)

pub returns-else-head_kept : goal.returns-else-head_kept
returns-else-head_kept c = c.if-head_kept.false ∙ eq _ _ _ _ refl (no _ _ _ (cc) refl) ∙ sym (used-parts _ _)
