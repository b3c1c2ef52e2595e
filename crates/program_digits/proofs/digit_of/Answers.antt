use native.Mathlib.Omega.{arith}
use Rattle.laws.specs.Picks.{picks}
use Rattle.program_digits.specs.Digits.{digit}
use Rattle.program_digits.specs.Steps.{digit_some, digit_none}
use Rattle.program_digits.proofs.digit_of.Goals as goal

pub returns-in-48-to-57-clause-value : goal.returns-in-48-to-57-clause-value
unfolding digit
returns-in-48-to-57-clause-value c =
    digit_some _ _ (search picks depth 8) (omega arith)

pub returns-in-65-to-70-clause-value : goal.returns-in-65-to-70-clause-value
unfolding digit
returns-in-65-to-70-clause-value c =
    digit_some _ _ (search picks depth 8) (omega arith)

pub returns-in-97-to-102-clause-value : goal.returns-in-97-to-102-clause-value
unfolding digit
returns-in-97-to-102-clause-value c =
    digit_some _ _ (search picks depth 8) (omega arith)

pub returns-in_default-clause-value : goal.returns-in_default-clause-value
unfolding digit
returns-in_default-clause-value c =
    digit_none _ (search picks depth 8)

pub returns-in_default-2-clause-value : goal.returns-in_default-2-clause-value
unfolding digit
returns-in_default-2-clause-value c =
    digit_none _ (search picks depth 8)

pub returns-in_default-3-clause-value : goal.returns-in_default-3-clause-value
unfolding digit
returns-in_default-3-clause-value c =
    digit_none _ (search picks depth 8)

pub returns-in_default-4-clause-value : goal.returns-in_default-4-clause-value
unfolding digit
returns-in_default-4-clause-value c =
    digit_none _ (search picks depth 8)
