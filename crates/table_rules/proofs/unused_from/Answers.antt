use Rattle.std.proofs.Common.{refl, sym, ap, ◌∙◌, arith}
use Rattle.laws.specs.If.{yes, no}
use Rattle.paper.specs.Invocations.{is_open}
use Rattle.table_rules.proofs.Laws.{open_step, open-end}
use Rattle.table_rules.proofs.unused_from.Goals as goal

pub returns-then-is_open : goal.returns-then-is_open
returns-then-is_open c =
    let v = ap (is_open c.args.id) (sym c.invocation_at.ensures) in
    sym (c.loop-k.invariant ∙ open_step c.args.rec.now c.loop-k.k (omega arith) c.args.id ∙ sym (yes _ _ _ (v ∙ sym c.is_open.ensures ∙ c.if-is_open.true) refl))

pub loop-k-preserved : goal.loop-k-preserved
loop-k-preserved c =
    let v = ap (is_open c.args.id) (sym c.invocation_at.ensures) in
    c.loop-k.invariant ∙ open_step c.args.rec.now c.loop-k.k (omega arith) c.args.id ∙ sym (no _ _ _ (v ∙ sym c.is_open.ensures ∙ c.if-is_open.false) refl)

pub returns : goal.returns
returns c = sym (c.loop-k.invariant ∙ open-end c.args.rec.now c.args.n c.loop-k.k c.requires.1 (omega arith) c.args.id)
