use Rattle.std.proofs.Common.{◌≡◌, not, sym, ap, ◌∙◌, arith}
use Rattle.std.proofs.lemmas.Bool.{eqb-true, eq-eqb}
use Rattle.laws.specs.If.{true-false}
use Rattle.table_places.proofs.Laws.{dialogue-none, dialogue-other, dialogue-turn}
use Rattle.table_places.proofs.is_dialogue.Goals as goal
use Rattle.table_places.proofs.is_dialogue.Goals.{then-state-ne-DIALOGUE_FREE, else-state-ne-DIALOGUE_FREE}

pub returns-then-from-service : goal.returns-then-from-service
returns-then-from-service c =
    elim c.if-state-ne-DIALOGUE_FREE.branch [
      | then-state-ne-DIALOGUE_FREE w ↦
          (let same : w.from.result ≡ c.args.service = eqb-true w.from.result c.args.service (cc) in
          dialogue-turn c.args.rec.now c.args.service c.args.turn (λ z. omega arith) (omega arith) c.turn.result c.turn.ensures.0)
      | else-state-ne-DIALOGUE_FREE w ↦ absurd (true-false (sym c.if-from-service.true ∙ w.value-is ∙ ap not (eq-eqb c.state.result 0 (omega arith))))
    ]

pub returns-else-from-service : goal.returns-else-from-service
returns-else-from-service c =
    elim c.if-state-ne-DIALOGUE_FREE.branch [
      | then-state-ne-DIALOGUE_FREE w ↦
          (c.if-from-service.false ∙ dialogue-other c.args.rec.now c.args.service c.args.turn (λ z. omega arith)
          (λ z. (let e : w.from.result ≡ c.args.service = omega arith in cc (eq-eqb w.from.result c.args.service e))))
      | else-state-ne-DIALOGUE_FREE w ↦ (c.if-from-service.false ∙ dialogue-none c.args.rec.now c.args.service c.args.turn (omega arith))
    ]
