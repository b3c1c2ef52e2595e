use Rattle.program_text.specs.Said.{said_more}
use Rattle.program_digits.proofs.spaced.Goals as goal

pub returns : goal.returns
returns c =
    said_more c.put-a.ensures c.decimal.ensures
