use Prim.Native.Nat.{ℕ, ◌+◌, ◌/◌, ◌%◌}
use mathlib.Core.Path.{ap}
use native.Mathlib.Omega.{arith}
use lib.ListN.{get_or, set}
use Rattle.table_map.specs.Map.{with_bit}
use Rattle.table_map.proofs.Laws.{power_at, bit-room}
use Rattle.table_map.proofs.set_bit.Goals as goal

pub overflow_add-t : goal.overflow_add-t
overflow_add-t c =
    let r = c.requires in
    omega (arith, power_at (c.args.p % 8) (omega arith), bit-room c.args.t.now c.args.p r.0 r.1 (omega (arith, c.slice_known-1.given (c.args.p / 8))) r.2)

pub returns : goal.returns
unfolding with_bit
returns c =
    ap (λ (x : ℕ). set c.args.t.now (c.args.p / 8) (get_or c.args.t.now (c.args.p / 8) 0 + x)) (power_at (c.args.p % 8) (omega arith))
