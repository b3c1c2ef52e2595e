use Rattle.std.proofs.Common.{◌≡◌, ℕ, ◌≤◌, ◌<◌}
use Rattle.table_rules.specs.Kinds.{free_kind, kind_at}
use Rattle.table_rules.proofs.free_end.Given as goal

abbrev pub invariant-loop-q : goal.invariant-loop-q
invariant-loop-q l = (i : ℕ) → l.p ≤ i → i < l.q → kind_at l.t i ≡ free_kind
