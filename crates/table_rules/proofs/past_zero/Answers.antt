use Rattle.std.proofs.Common.{ap, ◌∙◌, arith, ℕ, ◌*◌, ◌/◌, ◌^◌, eqb}
use Rattle.table_rules.proofs.Laws.{past-zero}
use Rattle.table_rules.proofs.past_zero.Goals as goal

pub returns : goal.returns
returns c =
    ap (λ (w : ℕ). eqb (w / 2 ^ (c.args.n * 8)) 0) c.number_of.ensures.is ∙ past-zero c.args.peer (omega arith) c.number_of.ensures.small c.args.n (omega arith)
