use native.Mathlib.Omega.{arith}
use Rattle.table_map.proofs.Laws.{bit_is}
use Rattle.table_map.proofs.bit_at.Goals as goal

pub returns : goal.returns
returns c =
    (bit_is c.args.t.now c.args.p (omega arith) (omega arith), omega arith)
