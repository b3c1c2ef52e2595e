-- THE LEDGER OF A HISTORY (demand 2), played over what a host sees of its calls, and that it agrees with the table. Assumes nothing.
use Rattle.std.specs.Prelude.{◌≡◌, List, [], ◌∷◌, take}
use Prim.Native.Nat.{ℕ, zero, suc, ◌≤◌}
use Rattle.paper.specs.Calls.{Table, Call}
use Rattle.paper.specs.Layout.{encode}
use Rattle.paper.specs.Contents.{Wire, content_of}
use Rattle.paper.specs.Ledger.{Ledger, played, said}
use Rattle.paper.specs.Outcome.{Outcome, spaces_for}
use Rattle.table_laws.specs.Fine.{Fine}
use Rattle.demand_ledger.specs.Agrees.{Agrees}
use Rattle.demands.specs.History.{Made, gave, after, told}

-- over the calls, each with what it told
abbrev pub ledger_of : Ledger → List ℕ → List Made → Ledger
ledger_of L t [] = L
ledger_of L t (m ∷ ms) = ledger_of (played L m.call (told (gave t m))) (gave t m).lent.table ms

-- THE MESSAGE that a call wrote: it stands at the start of the message space
abbrev pub message_out : Outcome → List ℕ
message_out o = take o.length o.lent.space

-- what the ledger says of it, by the answer: a refusal writes nothing
abbrev pub heard : Ledger → Call → ℕ → Wire
heard L c zero = said L c
heard L c (suc n) = Wire.Nothing

-- ONE CALL
pub record Booked (T : Table) (L : Ledger) (m : Made) (o : Outcome) : Type 0 where
  pub to : Table
  pub fine : Fine to
  pub table : o.lent.table ≡ encode to
  pub agrees : Agrees to (played L m.call (told o))
  pub says : content_of (message_out o) ≡ heard L m.call o.answer
  pub fits : o.length ≤ (spaces_for m.call).space

-- A HISTORY: the table it leads to, and the ledger, agree
pub record Followed (t : List ℕ) (L : Ledger) (ms : List Made) : Type 0 where
  pub to : Table
  pub fine : Fine to
  pub table : after t ms ≡ encode to
  pub agrees : Agrees to (ledger_of L t ms)
