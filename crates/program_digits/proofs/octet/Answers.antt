use Rattle.program_text.specs.Said.{said_more}
use Rattle.program_digits.specs.Digits.{hex}
use Rattle.program_digits.proofs.octet.Goals as goal

pub returns : goal.returns
unfolding hex
returns c =
    rw (c.sign_of.ensures, c.sign_of-2.ensures) at (said_more c.put-a.ensures c.put.ensures)
