use Rattle.std.proofs.Common.{ℕ, ◌+◌, ◌*◌, ◌∙◌, get_or, ne_eqb, arith}
use Rattle.laws.specs.If.{lt, ge}
use Rattle.paper.specs.Layout.{first_reject}
use Rattle.table_rules.specs.Kinds.{reject_at_kept}
use Rattle.table_rules.proofs.Laws.{zero-not, zero_is}
use Rattle.table_rules.proofs.reject_at_kept.Goals as goal

pub returns-then-i-n : goal.returns-then-i-n
unfolding reject_at_kept
returns-then-i-n c = lt _ _ _ _ (omega arith) c.reject_kept.ensures

pub returns-then-id-eq0 : goal.returns-then-id-eq0
unfolding reject_at_kept
returns-then-id-eq0 c =
    let id : ℕ = get_or c.args.rec.now (first_reject + 2 * c.args.i) 0 in
    let o : ℕ = get_or c.args.rec.now (first_reject + 2 * c.args.i + 1) 0 in
    ge _ _ _ _ (omega arith) (zero_is id o (omega arith) c.if-id-eq0.true)

pub returns-else-id-eq0 : goal.returns-else-id-eq0
unfolding reject_at_kept
returns-else-id-eq0 c =
    let id : ℕ = get_or c.args.rec.now (first_reject + 2 * c.args.i) 0 in
    let o : ℕ = get_or c.args.rec.now (first_reject + 2 * c.args.i + 1) 0 in
    ne_eqb _ _ c.if-id-eq0.false ∙ ge _ _ _ _ (omega arith) (zero-not id o (omega arith) c.if-id-eq0.false)
