use mathlib.Core.Path.{◌∙◌}
use native.Mathlib.Omega.{arith}
use Rattle.program_text.specs.Said.{said-as}
use Rattle.program_digits.specs.Steps.{printed}
use Rattle.program_digits.proofs.decimal.Goals as goal

pub returns : goal.returns
returns c =
    said-as c.word.ensures (c.decimal-k.ensures.digits ∙ printed c.args.n c.decimal-k.result (omega arith) c.decimal-k.ensures.len)
