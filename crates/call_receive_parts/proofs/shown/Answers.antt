use Rattle.call_receive_parts.proofs.Laws.{rowed}
use Rattle.call_receive_parts.proofs.shown.Goals as goal

pub returns : goal.returns
returns c =
    rowed _ _ _ _ _ _ _ _ _ _ c.components_shown-r.ensures _ c.dialogue_row-row.ensures c.write_row.ensures.is c.write_row.ensures.long
