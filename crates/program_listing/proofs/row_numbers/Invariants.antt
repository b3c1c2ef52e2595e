use Rattle.std.proofs.Common.{◌<◌, ◌≤◌, length}
use Rattle.program_listing.proofs.row_numbers.Given as goal

abbrev pub invariant-loop-n : goal.invariant-loop-n
invariant-loop-n l = 0 < l.n-index → l.k ≤ length l.out
