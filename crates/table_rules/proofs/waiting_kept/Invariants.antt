use Rattle.table_laws.specs.Following.{Rest}
use Rattle.paper.specs.Rules.{is_sound_item}
use lib.ListN.{length}
use Prim.Native.Nat.{◌-◌, ◌<◌}
use Rattle.table_rules.proofs.waiting_kept.Given as goal

abbrev pub invariant-loop-c : goal.invariant-loop-c
invariant-loop-c l = (l.at < length l.w) × Rest is_sound_item l.w l.at

abbrev pub decreases-loop-c : goal.decreases-loop-c
decreases-loop-c l = length l.w - l.at
