use Rattle.std.proofs.Common.{◌∙◌}
use Rattle.table_rules.proofs.Laws.{octets-none}
use Rattle.table_rules.proofs.octets_kept.Goals as goal

pub returns-then-n-eq0 : goal.returns-then-n-eq0
returns-then-n-eq0 c = c.zeros_from.ensures ∙ octets-none c.args.rec.now c.args.n c.if-n-eq0.true
