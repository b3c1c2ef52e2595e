use Rattle.call_receive_parts.proofs.Laws.{pad-four}
use Rattle.call_receive_parts.proofs.peer_of.Goals as goal

pub returns : goal.returns
returns c =
    pad-four _ _ _ _ _ c.octet_of.ensures c.octet_of-2.ensures c.octet_of-3.ensures c.octet_of-4.ensures
