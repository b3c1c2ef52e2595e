use mathlib.Core.Path.{◌∙◌}
use Rattle.table_places.proofs.Laws.{control-is}
use Rattle.table_places.proofs.load.Goals as goal

pub returns : goal.returns
returns c =
    c.control.ensures ∙ control-is c.args.t.now c.args.p c.requires.0 _ c.slot.ensures.is
