use Rattle.std.proofs.Common.{◌≡◌}
use Rattle.table_rules.specs.Kinds.{invocations_from, none_open}
use Rattle.table_rules.proofs.unused_from.Given as goal

abbrev pub invariant-loop-k : goal.invariant-loop-k
invariant-loop-k l = none_open l.id (invocations_from l.i l.rec) ≡ none_open l.id (invocations_from l.k l.rec)
