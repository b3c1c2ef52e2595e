use Rattle.call_receive_parts.proofs.Laws.{abort-leaves}
use Rattle.call_receive_parts.proofs.abort_received.Goals as goal

pub returns : goal.returns
returns c =
    abort-leaves _ _ _ _ _ _ c.write_row.ensures.is c.free_at.ensures _ c.abort_row-row.ensures
