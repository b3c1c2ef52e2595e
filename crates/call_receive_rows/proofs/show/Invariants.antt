use Prim.Native.Nat.{◌-◌}
use Rattle.call_receive_rows.proofs.Loop.{Rest}
use Rattle.call_receive_rows.proofs.show.Given as goal

abbrev pub invariant-loop-at : goal.invariant-loop-at
invariant-loop-at l = Rest l.me l.room l.s l.lim l.from l.initial.c l.initial.rows l.rows l.c l.at l.k

abbrev pub decreases-loop-at : goal.decreases-loop-at
decreases-loop-at l = l.lim - l.at
