use Rattle.std.proofs.Common.{◌*◌, ◌≤◌, get_or}
use Rattle.paper.specs.Shares.{shared}
use Rattle.table_shares.specs.Telling.{Walked}
use Rattle.table_shares.proofs.shares_kept.Given as goal

abbrev pub invariant-loop-k : goal.invariant-loop-k
invariant-loop-k l = Walked (shared l.size 16 l.guarantees l.limits (λ i. get_or l.counts i 0)) l.k l.sum l.unused l.over × (l.sum ≤ l.k * 256) × (l.unused ≤ l.k * 256) × (l.over ≤ l.k * 512)
