use Rattle.laws.specs.Picks.{picks}
use Rattle.program_digits.specs.Digits.{positive}
use Rattle.program_digits.proofs.positive.Goals as goal

pub returns-in-0-to-127 : goal.returns-in-0-to-127
unfolding positive
returns-in-0-to-127 c =
    search picks

pub returns-in_default : goal.returns-in_default
unfolding positive
returns-in_default c =
    search picks
