use Rattle.std.proofs.Common.{arith, ◌∙◌, sym}
use Rattle.laws.specs.Picks.{picks}
use Rattle.program_digits.specs.Digits.{read_id, negative, positive}
use Rattle.program_digits.specs.Steps.{id_minus, id_plain}
use Rattle.program_digits.proofs.read_id.Goals as goal

pub returns-in-empty : goal.returns-in-empty
unfolding read_id
returns-in-empty c =
    search picks

pub returns-in_err-read_decimal-in-45 : goal.returns-in_err-read_decimal-in-45
unfolding negative
returns-in_err-read_decimal-in-45 c =
    id_minus c.args.s.now (omega arith) (omega arith) (sym c.in_err-read_decimal-in-45.was ∙ c.read_decimal.ensures) c.from_residual.ensures

pub returns-in_ok-read_decimal-in-45 : goal.returns-in_ok-read_decimal-in-45
returns-in_ok-read_decimal-in-45 c =
    id_minus c.args.s.now (omega arith) (omega arith) (sym c.in_ok-read_decimal-in-45.was ∙ c.read_decimal.ensures) c.negative.ensures

pub returns-in_err-read_decimal-in-len1-up : goal.returns-in_err-read_decimal-in-len1-up
unfolding positive
returns-in_err-read_decimal-in-len1-up c =
    id_plain c.args.s.now (omega arith) (λ z. omega arith) (sym c.in_err-read_decimal-in-len1-up.was ∙ c.read_decimal-in-len1-up.ensures) c.from_residual-in_err-read_decimal-in-len1-up.ensures

pub returns-in_ok-read_decimal-in-len1-up : goal.returns-in_ok-read_decimal-in-len1-up
returns-in_ok-read_decimal-in-len1-up c =
    id_plain c.args.s.now (omega arith) (λ z. omega arith) (sym c.in_ok-read_decimal-in-len1-up.was ∙ c.read_decimal-in-len1-up.ensures) c.positive.ensures
