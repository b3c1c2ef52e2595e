use Rattle.call_receive_parts.proofs.Laws.{end_leaves}
use Rattle.call_receive_parts.proofs.end_received.Goals as goal

pub returns : goal.returns
returns c =
    end_leaves _ _ _ c.shown-r.result _ _ c.load-c.ensures _ _ _ c.shown-r.ensures c.free_at.ensures
