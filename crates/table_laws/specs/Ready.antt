-- THE TABLE RULES HOLD exactly where the octets are those of a fine table. Assumes nothing.
use Rattle.std.specs.Prelude.{◌≡◌, List, ℕ, length}
use Rattle.paper.specs.Layout.{table_size, encode, view}
use Rattle.table_laws.specs.Fine.{Fine}

-- ---- OCTETS THAT KEEP THE RULES are a fine table's: all that a call ever asks of its table
pub record Ready (t : List ℕ) : Type 0 where
  pub long : length t ≡ table_size
  pub fine : Fine (view t)
  pub same : encode (view t) ≡ t
