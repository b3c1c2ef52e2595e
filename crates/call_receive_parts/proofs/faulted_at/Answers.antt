use mathlib.Core.Path.{ap, ◌∙◌}
use Prim.Native.Nat.{ℕ}
use Rattle.paper.specs.Messages.{no_run}
use Rattle.paper.specs.Rows.{dialogue_row}
use Rattle.call_receive_parts.proofs.Laws.{fault-leaves}
use Rattle.call_receive_parts.proofs.faulted_at.Goals as goal

pub returns : goal.returns
returns c =
    fault-leaves _ _ _ _ _ _ c.write_row.ensures.is c.free_at.ensures _ (c.dialogue_row-row.ensures ∙ ap (λ (n : ℕ). dialogue_row 6 c.args.dialogue n no_run 0) c.number-cause.ensures.0)
