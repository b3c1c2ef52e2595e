use Rattle.laws.specs.Picks.{picks}
use Rattle.program_digits.specs.Digits.{sign}
use Rattle.program_digits.proofs.sign_of.Goals as goal

pub returns-then-d-lt10 : goal.returns-then-d-lt10
unfolding sign
returns-then-d-lt10 c =
    search picks

pub returns-else-d-lt10 : goal.returns-else-d-lt10
unfolding sign
returns-else-d-lt10 c =
    search picks
