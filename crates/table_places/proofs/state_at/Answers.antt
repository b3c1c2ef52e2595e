use mathlib.Core.Path.{ap, ◌∙◌}
use Rattle.paper.specs.declared.Control.{Control}
use Rattle.table_places.proofs.Laws.{control-is}
use Rattle.table_places.proofs.state_at.Goals as goal

pub returns : goal.returns
returns c =
    c.state.ensures ∙ ap (λ (k : Control). k.state) (control-is c.args.t.now c.args.p c.requires.0 _ c.slot.ensures.is)
