use Rattle.laws.specs.Picks.{picks}
use Rattle.program_digits.specs.Digits.{negative}
use Rattle.program_digits.proofs.negative.Goals as goal

pub returns-in-1-to-128 : goal.returns-in-1-to-128
unfolding negative
returns-in-1-to-128 c =
    search picks

pub returns-in_default : goal.returns-in_default
unfolding negative
returns-in_default c =
    search picks

pub returns-in-0 : goal.returns-in-0
unfolding negative
returns-in-0 c =
    search picks
