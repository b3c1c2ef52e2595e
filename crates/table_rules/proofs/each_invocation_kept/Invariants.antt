use Rattle.std.proofs.Common.{◌≡◌}
use Rattle.paper.specs.Rules.{invocations_kept}
use Rattle.table_rules.specs.Kinds.{invocations_from}
use Rattle.table_rules.proofs.each_invocation_kept.Given as goal

abbrev pub invariant-loop-i : goal.invariant-loop-i
invariant-loop-i l = invocations_kept (invocations_from 0 l.rec) ≡ invocations_kept (invocations_from l.i l.rec)
