use Rattle.std.proofs.Common.{◌≡◌, ◌*◌, ◌≤◌, get_or}
use Rattle.laws.specs.Sums.{sum}
use Rattle.table_rules.proofs.total.Given as goal

abbrev pub invariant-loop-count : goal.invariant-loop-count
invariant-loop-count l = (l.n ≡ sum (λ i. get_or l.count-items i 0) l.count-index) × (l.n ≤ l.count-index * 256)
