use Prim.Native.Nat.{◌-◌}
use lib.ListN.{length}
use Rattle.paper.specs.Dialogues.{of_class4}
use Rattle.table_laws.specs.Following.{Rest}
use Rattle.call_send_parts.proofs.each_class4.Given as goal

abbrev pub invariant-loop-c : goal.invariant-loop-c
invariant-loop-c l = Rest (of_class4 l.c) l.w l.at

abbrev pub decreases-loop-c : goal.decreases-loop-c
decreases-loop-c l = length l.w - l.at
