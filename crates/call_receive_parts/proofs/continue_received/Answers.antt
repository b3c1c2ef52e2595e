use Rattle.call_receive_parts.proofs.Laws.{continued-storing, continue-leaves}
use Rattle.call_receive_parts.proofs.continue_received.Goals as goal

pub store_control-requires : goal.store_control-requires
store_control-requires c =
    continued-storing _ _ _ c.shown-r.result _ _ c.load-c.ensures _ c.continued-d.ensures c.requires.0 c.requires.3 c.requires.1 c.shown-r.ensures.control

pub returns : goal.returns
returns c =
    continue-leaves _ _ _ c.shown-r.result _ _ c.load-c.ensures _ c.continued-d.ensures _ _ _ c.shown-r.ensures c.store_control.ensures
