-- ROWS AS THE HOST READS THEM: they fit into the row space, and are had back from its octets. Assumes nothing.
use Rattle.std.specs.Prelude.{List, get_or}
use Prim.Native.Nat.{ℕ, ◌<◌}
use Rattle.std.proofs.Math.ListN.{length}
use Rattle.paper.specs.declared.Row.{Row}

-- A ROW OF NUMBERS BELOW 2 ^ 32, that four octets hold
pub record SmallRow (r : Row) : Type 0 where
  pub kind : r.kind < 4294967296
  pub dialogue : r.dialogue < 4294967296
  pub invoke : r.invoke < 4294967296
  pub linked : r.linked < 4294967296
  pub problem : r.problem < 4294967296
  pub start : r.start < 4294967296
  pub length : r.length < 4294967296
  pub follow : r.follow < 4294967296

abbrev pub no_row : Row
no_row = record { kind = 0; dialogue = 0; invoke = 0; linked = 0; problem = 0; start = 0; length = 0; follow = 0 }

abbrev pub AllSmall : List Row → Type 0
AllSmall rs = (i : ℕ) → i < length rs → SmallRow (get_or rs i no_row)
