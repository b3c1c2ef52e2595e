use Rattle.std.proofs.Common.{refl, ap, ◌∙◌, ℕ, eqb, ne_eqb, arith}
use Rattle.laws.specs.If.{eq}
use Rattle.table_laws.specs.Slots.{free_kept}
use Rattle.table_rules.specs.Kinds.{free_kind, seen-free, kind-used, kind-free}
use Rattle.table_rules.proofs.Laws.{kind-here}
use Rattle.table_rules.proofs.is_free.Goals as goal

pub returns-then-state-eq-DIALOGUE_FREE : goal.returns-then-state-eq-DIALOGUE_FREE
unfolding free_kept
returns-then-state-eq-DIALOGUE_FREE c =
    c.free_kept.ensures ∙ eq _ _ _ _ refl refl ∙ kind-free _ 1 (omega arith) ∙ ap (λ (k : ℕ). eqb k free_kind) (kind-here c.args.t.now _ c.args.p 1 c.slot-rec.ensures.is (seen-free c.args.t.now _ c.args.p c.slot-rec.ensures.is (omega arith)))

pub returns-else-state-eq-DIALOGUE_FREE : goal.returns-else-state-eq-DIALOGUE_FREE
returns-else-state-eq-DIALOGUE_FREE c =
    ne_eqb _ _ c.if-state-eq-DIALOGUE_FREE.false ∙ kind-used _ _ (λ z. c.if-state-eq-DIALOGUE_FREE.false (c.state.ensures ∙ z)) ∙ ap (λ (k : ℕ). eqb k free_kind) (kind-here c.args.t.now _ c.args.p _ c.slot-rec.ensures.is refl)
