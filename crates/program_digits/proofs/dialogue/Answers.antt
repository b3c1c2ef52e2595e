use Rattle.std.proofs.Common.{arith}
use Rattle.program_text.specs.Said.{said_more, said-as}
use Rattle.program_digits.specs.Digits.{hex}
use Rattle.program_digits.specs.Steps.{of_bytes}
use Rattle.program_digits.proofs.dialogue.Goals as goal

pub returns : goal.returns
unfolding hex
returns c =
    said-as (said_more c.octet-a.ensures (said_more c.octet-b.ensures (said_more c.octet-c.ensures c.octet.ensures))) (of_bytes c.args.id c.to_be_bytes.result (omega arith) c.to_be_bytes.ensures)
