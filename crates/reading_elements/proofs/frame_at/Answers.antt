use Rattle.reading_elements.specs.Steps.{frame-told}
use Rattle.std.proofs.Common.{sym, ◌∙◌, ap}
use Rattle.paper.specs.Elements.{frame_to}
use Rattle.reading_elements.proofs.frame_at.Goals as goal

pub returns-in-Ok-clause-within : goal.returns-in-Ok-clause-within
returns-in-Ok-clause-within c =
    (frame-told _ _ _ _ _ (sym c.in-Opens.is ∙ c.head_at.ensures.is) (ap (frame_to _) (sym c.in-Ok.is ∙ c.element.ensures.is))).1
