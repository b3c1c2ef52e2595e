-- THE SHARES ARE KEPT where a place is taken, freed, or stays its service's (demand 3). Assumes nothing.
use Rattle.std.specs.Prelude.{ℕ}
use Rattle.paper.specs.Calls.{Table, dialogues}
use Rattle.table_shares.specs.Counting.{only, Moves}
use Rattle.table_laws.specs.Fine.{Fine}

-- A TABLE THAT ONE CALL OF A SERVICE LEFT: fine; what was begun (b) and ended (e) of that service is what it holds more or less
pub record Moved (T : Table) (s b e : ℕ) (U : Table) : Type 0 where
  pub fine : Fine U
  pub moves : Moves (dialogues T) (only s b) (only s e) (dialogues U)
