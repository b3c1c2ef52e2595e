-- WHAT WAS LENT STANDS where it is refused neither by 1 nor by 2. Assumes nothing.
use Rattle.std.specs.Prelude.{◌≡◌, true, ◌≤◌, length}
use Rattle.paper.specs.Layout.{table_size}
use Rattle.paper.specs.Rules.{rules}
use Rattle.paper.specs.Outcome.{Lent, Spaces}

pub record Stands (l : Lent) (n : Spaces) : Type 0 where
  pub long : length l.table ≡ table_size
  pub rows : n.rows ≤ length l.rows
  pub space : n.space ≤ length l.space
  pub kept : rules l.table ≡ true
