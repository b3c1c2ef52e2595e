use mathlib.Core.Path.{◌∙◌}
use Rattle.table_places.proofs.Laws.{waits-is}
use Rattle.table_places.proofs.Changes.{control-stored}
use Rattle.table_places.proofs.store_control.Goals as goal

pub returns : goal.returns
returns c =
    c.put_control.ensures
    ∙ control-stored c.args.t.now c.args.p c.args.c c.requires _ (c.waiting_length-n.ensures ∙ waits-is c.args.t.now c.args.p c.requires.small c.requires.ready _ c.slot.ensures.is)
