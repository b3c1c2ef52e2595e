-- A TABLE WITH FEWER DIALOGUES THAN PLACES has a lowest free place. Assumes nothing.
use Rattle.std.specs.Prelude.{◌≡◌, ℕ, ◌+◌, ◌<◌}
use Rattle.std.proofs.Common.{subst, arith}
use Rattle.laws.specs.Sums.{sum, sum_by}
use Rattle.laws.specs.Lists.{first_at}
use Rattle.paper.specs.Sizes.{places_in_all, services}
use Rattle.paper.specs.Calls.{Table, is_free, held, lowest_free}
use Rattle.paper.specs.Layout.{flag}
use Rattle.table_laws.specs.Fine.{Fine}
use Rattle.table_laws.proofs.Counts.{first-there, all-places}

-- a table with fewer dialogues than places has a lowest free place
pub free-there : (T : Table) → Fine T → sum (held T.places) services < places_in_all → lowest_free T < places_in_all
unfolding lowest_free
free-there T f h =
    subst (λ (n : ℕ). first_at is_free T.places < n) f.places
    (first-there T.places (more (sum (held T.places) services) (sum_by flag T.places) (all-places T f) h))
  where
    more : (n m : ℕ) → n + m ≡ places_in_all → n < places_in_all → 0 < m
    more n m e h = omega arith
