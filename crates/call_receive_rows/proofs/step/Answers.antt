use native.Mathlib.Omega.{arith}
use Rattle.call_receive_rows.proofs.Loop.{next-in, step-told}
use Rattle.call_receive_rows.proofs.step.Goals as goal

pub returns : goal.returns
returns c =
    record { is = λ d e n. step-told _ _ _ _ _ d _ _ _ _ c.component_at-p.ensures.is (c.act-told.ensures.is d e n) c.component_row-row.ensures c.next_start-next.ensures; within = next-in _ _ _ _ (omega arith) c.component_at-p.ensures.within c.next_start-next.ensures; waits = c.act-told.ensures.waits }
