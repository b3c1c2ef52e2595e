use Rattle.std.proofs.Common.{arith}
use Rattle.std.proofs.lemmas.Grind.{common_steps}
use Rattle.laws.specs.If.{if_eq}
use Rattle.table_rules.proofs.Laws.{free-words}
use Rattle.table_rules.proofs.free_kept.Goals as goal

pub returns-then-word-eq0-3 : goal.returns-then-word-eq0-3
unfolding if_eq
returns-then-word-eq0-3 c = let f = free-words c.args.rec.now (omega arith) (omega arith) in grind (arith, common_steps, f)

pub returns-else-word-eq0-3 : goal.returns-else-word-eq0-3
unfolding if_eq
returns-else-word-eq0-3 c = let f = free-words c.args.rec.now (omega arith) (omega arith) in grind (arith, common_steps, f)
