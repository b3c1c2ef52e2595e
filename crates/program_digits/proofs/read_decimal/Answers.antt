use Rattle.std.proofs.Common.{arith}
use Rattle.laws.specs.Picks.{picks}
use Rattle.program_digits.specs.Digits.{read_decimal}
use Rattle.program_digits.specs.Steps.{zero_alone}
use Rattle.program_digits.proofs.read_decimal.Goals as goal

pub returns-in-empty : goal.returns-in-empty
unfolding read_decimal
returns-in-empty c =
    search picks

pub returns-in-48 : goal.returns-in-48
returns-in-48 c =
    zero_alone c.args.s.now (omega arith) (omega arith) c.is_empty.ensures c.then_some.ensures

pub returns-in-len1-up : goal.returns-in-len1-up
unfolding read_decimal
returns-in-len1-up c =
    search picks
