-- WHAT A FRESH, AN OPEN AND A RECEIVED MESSAGE ARE ANSWERED, at the octets of a table that keeps the rules. Assumes nothing.
use Rattle.std.specs.Prelude.{◌≡◌, true, List, [], length}
use Prim.Native.Nat.{ℕ, ◌≤◌}
use Rattle.paper.specs.Sizes.{places_in_all, services}
use Rattle.paper.specs.Shares.{shared, shares_fit}
use Rattle.paper.specs.Calls.{Table, fresh_table}
use Rattle.paper.specs.Calls.Call.{Open}
use Rattle.paper.specs.Layout.{encode}
use Rattle.paper.specs.Outcome.{Lent, spaces_for, fresh_outcome}
use Rattle.demands.specs.History.{Made}

-- A FRESH THAT IS ANSWERED 0: sixteen guarantees and limits that fit, and the empty table of those shares
pub record Begun (t g l : List ℕ) : Type 0 where
  pub guarantees : length g ≡ 16
  pub limits : length l ≡ 16
  pub fit : shares_fit (shared places_in_all services g l (λ k. 0)) ≡ true
  pub table : (fresh_outcome t g l).lent.table ≡ encode (fresh_table g l)

-- A CALL with spaces of the right sizes, on the octets of a table that keeps the rules, gives what its step gives
abbrev pub lent_with : Table → Made → Lent
lent_with T m = record { table = encode T; rows = m.rows; space = m.space }

pub record Wide (m : Made) : Type 0 where
  pub rows : (spaces_for m.call).rows ≤ length m.rows
  pub space : (spaces_for m.call).space ≤ length m.space

-- AN OPEN by a service, as a host makes it: the share rule
abbrev pub asks : ℕ → Made
asks s = record { call = Open s; rows = []; space = [] }
