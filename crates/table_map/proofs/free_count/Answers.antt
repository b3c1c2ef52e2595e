use mathlib.Core.List.{List}
use Prim.Native.Nat.{ℕ}
use native.Mathlib.Omega.{arith}
use Rattle.table_map.proofs.Laws.{two-words}
use Rattle.table_map.proofs.free_count.Goals as goal

pub returns : goal.returns
returns c =
    let t : List ℕ = c.args.t.now in
    let w = two-words t (λ i. omega (arith, c.type_inv.t i)) (omega arith) in
    ((cc w), omega (arith, c.count_of.ensures.1))
