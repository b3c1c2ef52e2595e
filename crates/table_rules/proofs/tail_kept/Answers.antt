use Rattle.std.proofs.Common.{◌∙◌, arith}
use Rattle.table_rules.proofs.Laws.{tail_none}
use Rattle.table_rules.proofs.tail_kept.Goals as goal

pub returns-then-k-eq0 : goal.returns-then-k-eq0
returns-then-k-eq0 c =
    c.zeros_from.ensures ∙ tail_none c.args.rec.now (λ i. omega arith) (omega arith) (omega arith) (omega arith)
