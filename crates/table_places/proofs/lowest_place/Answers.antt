use mathlib.Core.Path.{◌∙◌}
use Rattle.table_laws.proofs.Counts.{ready-lowest}
use Rattle.table_places.proofs.lowest_place.Goals as goal

pub returns : goal.returns
returns c =
    (c.lowest_free.ensures.0 ∙ ready-lowest c.args.t.now c.requires, c.lowest_free.ensures.1)
