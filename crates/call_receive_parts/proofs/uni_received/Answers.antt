use Rattle.call_receive_parts.proofs.Laws.{uni-leaves}
use Rattle.call_receive_parts.proofs.uni_received.Goals as goal

pub returns : goal.returns
returns c =
    λ T. uni-leaves T _ _ _ _ _ c.shown-r.result c.begun-c.ensures c.shown-r.ensures
