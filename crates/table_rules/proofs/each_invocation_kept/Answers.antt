use Rattle.std.proofs.Common.{refl, sym, ◌∙◌, arith}
use Rattle.laws.specs.If.{yes, no}
use Rattle.table_rules.proofs.Laws.{kept_step, kept-end}
use Rattle.table_rules.proofs.each_invocation_kept.Goals as goal

pub returns-then-not-invocation_at_kept : goal.returns-then-not-invocation_at_kept
returns-then-not-invocation_at_kept c =
    sym (c.loop-i.invariant ∙ kept_step c.args.rec.now c.loop-i.i (omega arith) ∙ sym (no _ _ _ (sym c.invocation_at_kept.ensures ∙ c.if-not-invocation_at_kept.true) refl))

pub loop-i-preserved : goal.loop-i-preserved
loop-i-preserved c =
    c.loop-i.invariant ∙ kept_step c.args.rec.now c.loop-i.i (omega arith) ∙ sym (yes _ _ _ (sym c.invocation_at_kept.ensures ∙ c.if-not-invocation_at_kept.false) refl)

pub returns : goal.returns
returns c = sym (c.loop-i.invariant ∙ kept-end c.args.rec.now c.args.n c.loop-i.i c.requires (omega arith))
