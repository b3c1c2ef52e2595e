-- HISTORIES OF CALLS, at octets: what a host that hands the table on unaltered sees. Assumes nothing.
use Rattle.std.specs.Prelude.{◌≡◌, List, ℕ}
use Rattle.paper.specs.Rows.{rows_at}
use Rattle.paper.specs.Calls.{Table, Call, dialogues}
use Rattle.paper.specs.Layout.{encode}
use Rattle.paper.specs.Outcome.{Outcome, outcome}
use Rattle.table_laws.specs.Fine.{Fine}
use Rattle.table_shares.specs.Counting.{only, Moves, led, over, Each}
use Rattle.paper.specs.Counting.{Notice, service_of, begun_by, ended_by}
use Rattle.demand_kept.specs.StepKept.{WellFormed}

-- A CALL AS A HOST MAKES IT: beside the table it lends a row space and a message space, of any sizes
pub record Made : Type 0 where
  pub call : Call
  pub rows : List ℕ
  pub space : List ℕ

-- what it gives, on a table's octets
abbrev pub gave : List ℕ → Made → Outcome
gave t m = outcome (record { table = t; rows = m.rows; space = m.space }) m.call

-- the table handed on unaltered from call to call
abbrev pub handed : List ℕ → Made → List ℕ
handed t m = (gave t m).lent.table

abbrev pub after : List ℕ → List Made → List ℕ
after t ms = led handed t ms

-- WHAT A HOST SEES of a call: its answer, the dialogue, and the rows that it reads from the row space
abbrev pub told : Outcome → Notice
told o = record { answer = o.answer; dialogue = o.dialogue; rows = rows_at o.rows 0 o.lent.rows }

-- COUNTED FROM THE CALLS ALONE (crates/paper/specs/Counting.antt): of each service by one call, and of one over a history
abbrev pub begins : List ℕ → Made → ℕ → ℕ
begins t m = only (service_of m.call) (begun_by m.call (told (gave t m)))

abbrev pub ends : List ℕ → Made → ℕ → ℕ
ends t m = only (service_of m.call) (ended_by m.call (told (gave t m)))

abbrev pub begun_of : ℕ → List ℕ → List Made → ℕ
begun_of s t ms = over handed begins t ms s

abbrev pub ended_of : ℕ → List ℕ → List Made → ℕ
ended_of s t ms = over handed ends t ms s

-- ONE CALL: the table afterwards is a table that keeps the rules, and what is held moves by what the call begins and ends
pub record Next (T : Table) (m : Made) : Type 0 where
  pub to : Table
  pub fine : Fine to
  pub table : handed (encode T) m ≡ encode to
  pub moves : Moves (dialogues T) (begins (encode T) m) (ends (encode T) m) (dialogues to)

-- calls as a host can make them: octets are below 256, IDs are octets
abbrev pub AllFormed : List Made → Type 0
AllFormed ms = Each (λ m. WellFormed m.call) ms

-- WHERE A HISTORY LEADS, any list of calls, wrong ones among them: a table that keeps the rules, with the same shares; begun less ended is
-- what it holds
pub record Reached (t : List ℕ) (T : Table) (ms : List Made) : Type 0 where
  pub to : Table
  pub fine : Fine to
  pub table : after t ms ≡ encode to
  pub moves : Moves (dialogues T) (λ s. begun_of s t ms) (λ s. ended_of s t ms) (dialogues to)
