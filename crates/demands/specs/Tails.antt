-- WHAT A CALL LEAVES AS IT WAS (01, "Answer numbers"): octets after the message written and rows after the last; everything, where a
-- received message is dropped; the table, where a fresh one is refused. Assumes nothing.
use Rattle.std.specs.Prelude.{◌≡◌, ◌*◌, length, drop}
use Rattle.paper.specs.Calls.{Table, Out}
use Rattle.paper.specs.Outcome.{Lent, Outcome}

-- A RECEIVED MESSAGE that is read is answered 0; one without a row was dropped, or answered by an Abort alone, and changes no table
pub record Quiet (T : Table) (o : Out) : Type 0 where
  pub done : o.answer ≡ 0
  pub same : length o.rows ≡ 0 → o.table ≡ T

pub record Tails (l : Lent) (o : Outcome) : Type 0 where
  pub space : drop o.length o.lent.space ≡ drop o.length l.space
  pub rows : drop (32 * o.rows) o.lent.rows ≡ drop (32 * o.rows) l.rows
