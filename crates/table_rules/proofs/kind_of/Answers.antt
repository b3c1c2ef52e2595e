use Rattle.std.proofs.Common.{ℕ, refl, sym, ◌∙◌, arith}
use Rattle.laws.specs.If.{ne, yes, no}
use Rattle.table_rules.specs.Kinds.{kind_of, seen_bit, seen-set, seen-used, kind-marked, kind-broken, used-service}
use Rattle.table_rules.proofs.Laws.{kind-here}
use Rattle.table_rules.proofs.kind_of.Goals as goal
use Rattle.table_rules.proofs.kind_of.Goals.{else-bit_at-eq0-via-then-bit_at-eq0+then-state-ne-DIALOGUE_FREE+else-used_kept, else-bit_at-eq0-via-then-bit_at-eq0+else-state-ne-DIALOGUE_FREE, else-bit_at-eq0-via-else-bit_at-eq0}

pub returns-then-used_kept-clause-is : goal.returns-then-used_kept-clause-is
unfolding kind_of
returns-then-used_kept-clause-is c =
    c.from.ensures ∙ c.service.ensures ∙ ne _ _ _ _ (λ h. omega arith) (yes _ _ _ (sym c.used_kept.ensures ∙ c.if-used_kept.true) refl)
    ∙ kind-here c.args.t.now _ c.args.p 0 c.slot-rec.ensures.is (sym c.if-bit_at-eq0.true ∙ c.bit_at.ensures.0 ∙ seen-used c.args.t.now _ c.args.p c.slot-rec.ensures.is (λ h. omega arith))

pub returns-then-used_kept-clause-within : goal.returns-then-used_kept-clause-within
returns-then-used_kept-clause-within c =
    omega (arith, c.from.ensures, c.service.ensures, used-service c.slot-rec.result.now 0 (sym c.used_kept.ensures ∙ c.if-used_kept.true))

pub returns-else-bit_at-eq0-clause-is : goal.returns-else-bit_at-eq0-clause-is
unfolding kind_of
returns-else-bit_at-eq0-clause-is c =
    let b : ℕ = seen_bit c.args.t.now c.args.p in
    let k = kind-here c.args.t.now _ c.args.p _ c.slot-rec.ensures.is refl in
    elim c.else-bit_at-eq0.branch [
      | else-bit_at-eq0-via-then-bit_at-eq0+then-state-ne-DIALOGUE_FREE+else-used_kept w ↦ ne _ _ _ _ (λ h. omega arith) (no _ _ _ (sym w.used_kept.ensures ∙ w.if-used_kept.false) refl)
          ∙ kind-here c.args.t.now _ c.args.p 0 c.slot-rec.ensures.is (sym w.if-bit_at-eq0.true ∙ c.bit_at.ensures.0 ∙ seen-used c.args.t.now _ c.args.p c.slot-rec.ensures.is (λ h. omega arith))
      | else-bit_at-eq0-via-then-bit_at-eq0+else-state-ne-DIALOGUE_FREE w ↦ kind-broken c.slot-rec.result.now b (omega arith) (λ q. c.requires.2 (sym k ∙ q)) ∙ k
      | else-bit_at-eq0-via-else-bit_at-eq0 w ↦ kind-marked c.slot-rec.result.now b (seen-set c.args.t.now c.args.p (λ z. w.if-bit_at-eq0.false (c.bit_at.ensures.0 ∙ z))) (λ q. c.requires.2 (sym k ∙ q)) ∙ k
    ]
