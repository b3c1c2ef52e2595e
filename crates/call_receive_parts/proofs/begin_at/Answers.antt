use Rattle.call_receive_parts.proofs.Laws.{begun-storing, begin-leaves}
use Rattle.call_receive_parts.proofs.begin_at.Goals as goal

pub begin_at-requires : goal.begin_at-requires
begin_at-requires c =
    begun-storing _ _ _ c.shown-r.result _ _ _ _ _ c.peer_of-peer.ensures c.begun-c.ensures c.requires.0 c.requires.1 c.turn_at-turn.ensures.1 c.requires.4 c.requires.2 c.shown-r.ensures.control

pub returns : goal.returns
returns c =
    begin-leaves _ _ _ c.shown-r.result _ _ _ _ _ c.peer_of-peer.ensures c.begun-c.ensures _ _ _ _ c.turn_at-turn.ensures.0 c.id_at-me.ensures c.shown-r.ensures c.begin_at.ensures
