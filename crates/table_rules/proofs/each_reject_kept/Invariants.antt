use Rattle.std.proofs.Common.{◌≡◌, ◌-◌}
use Rattle.paper.specs.Rules.{rejects_kept}
use Rattle.table_rules.specs.Kinds.{rejects_from}
use Rattle.table_rules.proofs.each_reject_kept.Given as goal

abbrev pub invariant-loop-i : goal.invariant-loop-i
invariant-loop-i l = rejects_kept l.n (rejects_from 0 l.rec) ≡ rejects_kept (l.n - l.i) (rejects_from l.i l.rec)
