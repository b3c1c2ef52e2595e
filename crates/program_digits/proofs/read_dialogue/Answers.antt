use Rattle.laws.specs.Picks.{picks}
use Rattle.program_digits.specs.Digits.{read_dialogue}
use Rattle.program_digits.proofs.read_dialogue.Goals as goal

pub returns-then-s-ne8 : goal.returns-then-s-ne8
unfolding read_dialogue
returns-then-s-ne8 c =
    search picks

pub returns : goal.returns
unfolding read_dialogue
returns c =
    search picks
