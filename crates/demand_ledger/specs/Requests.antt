-- A REQUEST OR TIMER EVENT that isn't refused: the ledger goes with the table, and the message holds what the ledger says. Assumes nothing.
use Rattle.std.specs.Prelude.{◌≡◌, length}
use mathlib.Core.List.{List}
use Prim.Native.Nat.{ℕ, ◌≤◌}
use Rattle.paper.specs.Sizes.{place_of}
use Rattle.paper.specs.Dialogues.{Place, Request}
use Rattle.paper.specs.Calls.{Table, with_place}
use Rattle.paper.specs.Outcome.{spaces_of}
use Rattle.paper.specs.Contents.{content_of}
use Rattle.paper.specs.Ledger.{Ledger, find, noted, said_of}
use Rattle.demand_ledger.specs.Agrees.{Agrees}

-- WHAT A REQUEST LEAVES AND WRITES
pub record Follows (T : Table) (L : Ledger) (d : ℕ) (r : Request) (y : Place) (m : List ℕ) : Type 0 where
  pub agrees : Agrees (with_place T (place_of d) y) (noted L d r)
  pub says : content_of m ≡ said_of (find L.dialogues d) r
  pub fits : length m ≤ (spaces_of r).space
