-- THE ROWS OF EVERY STEP FIT into 128, and their numbers into four octets, on a table that keeps the rules and for a message of octets.
-- Assumes nothing.
use mathlib.Core.List.{List}
use Prim.Native.Nat.{◌≤◌}
use Rattle.std.proofs.Math.ListN.{length}
use Rattle.paper.specs.declared.Row.{Row}
use Rattle.demands.specs.Rows.{AllSmall}

pub record Fit (rs : List Row) : Type 0 where
  pub few : length rs ≤ 128
  pub small : AllSmall rs
