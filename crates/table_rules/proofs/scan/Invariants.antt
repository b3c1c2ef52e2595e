use Rattle.table_rules.specs.Tally.{Upto}
use Rattle.paper.specs.Sizes.{places_in_all}
use Prim.Native.Nat.{◌-◌}
use Rattle.table_rules.proofs.scan.Given as goal

abbrev pub invariant-loop-p : goal.invariant-loop-p
invariant-loop-p l = Upto l.t l.p l.counts

abbrev pub decreases-loop-p : goal.decreases-loop-p
decreases-loop-p l = places_in_all - l.p
