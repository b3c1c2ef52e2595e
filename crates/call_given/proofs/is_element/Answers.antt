use Rattle.call_given.specs.Pieces.{element-is}
use mathlib.Core.Path.{sym, ◌∙◌}
use Rattle.call_given.proofs.is_element.Goals as goal

pub returns-in-Ok : goal.returns-in-Ok
returns-in-Ok c =
    element-is c.args.l.now c.args.left _ (sym c.in-Ok.is ∙ c.element.ensures.is)

pub returns-in-Err : goal.returns-in-Err
returns-in-Err c =
    element-is c.args.l.now c.args.left _ (sym c.in-Err.is ∙ c.element.ensures.is)
