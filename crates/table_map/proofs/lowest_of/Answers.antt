use native.Mathlib.Omega.{arith}
use lib.Count.{trailing_le}
use Rattle.laws.specs.Digits.{lowest-two, lowest-high}
use Rattle.table_map.proofs.lowest_of.Goals as goal

pub returns-then-low-ne0 : goal.returns-then-low-ne0
returns-then-low-ne0 c =
    (lowest-two c.args.low c.args.high (omega arith) (omega arith), omega (arith, trailing_le 64 c.args.low))

pub returns-else-low-ne0 : goal.returns-else-low-ne0
returns-else-low-ne0 c =
    (lowest-high c.args.low c.args.high (omega arith), omega (arith, trailing_le 64 c.args.high))
