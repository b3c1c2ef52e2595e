use Rattle.std.proofs.Common.{◌∙◌}
use Rattle.reading_portion.specs.Steps.{prefix-stands}
use Rattle.reading_portion.proofs.stands.Goals as goal

pub returns-clause-is : goal.returns-clause-is
returns-clause-is c = c.starts_with.ensures.value ∙ prefix-stands _ _ c.requires _ _ _ c.min.ensures
