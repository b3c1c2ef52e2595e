use mathlib.Core.Path.{refl}
use native.Mathlib.Omega.{arith}
use Rattle.call_portion.specs.Asked.{too_few, one-row}
use Rattle.call_portion.proofs.try_portion.Goals as goal

pub returns-then-rows-lt-LEAST_ROWS : goal.returns-then-rows-lt-LEAST_ROWS
returns-then-rows-lt-LEAST_ROWS c =
    too_few _ _ _ _ (omega arith) refl

pub returns : goal.returns
returns c =
    one-row _ _ _ _ _ _ _ (omega arith) c.portion_at-p.ensures.is c.row_of-r.ensures c.write_row.ensures.is refl
