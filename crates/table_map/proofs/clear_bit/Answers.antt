use Prim.Native.Nat.{ℕ, ◌-◌, ◌/◌, ◌%◌}
use mathlib.Core.Path.{ap}
use native.Mathlib.Omega.{arith}
use lib.ListN.{get_or, set}
use Rattle.table_map.specs.Map.{without_bit}
use Rattle.table_map.proofs.Laws.{power_at, bit-there}
use Rattle.table_map.proofs.clear_bit.Goals as goal

pub overflow_sub-t : goal.overflow_sub-t
overflow_sub-t c =
    let r = c.requires in
    omega (arith, power_at (c.args.p % 8) (omega arith), bit-there c.args.t.now c.args.p r.0 r.1 r.2)

pub returns : goal.returns
unfolding without_bit
returns c =
    ap (λ (x : ℕ). set c.args.t.now (c.args.p / 8) (get_or c.args.t.now (c.args.p / 8) 0 - x)) (power_at (c.args.p % 8) (omega arith))
