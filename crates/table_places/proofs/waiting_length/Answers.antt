use native.Mathlib.Omega.{arith}
use mathlib.Core.Path.{◌∙◌}
use Rattle.table_places.proofs.Laws.{waits-is}
use Rattle.table_places.proofs.waiting_length.Goals as goal

pub returns : goal.returns
returns c =
    let e = c.from.ensures ∙ c.waiting_length.ensures ∙ waits-is c.args.t.now c.args.p c.requires.1 c.requires.0 _ c.slot.ensures.is in
    (e, omega (arith, e, (c.requires.0.fine.each c.args.p c.requires.1).room))
