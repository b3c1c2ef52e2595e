-- A LEDGER'S DIALOGUES: found, altered, removed, added. Assumes nothing.
use Rattle.std.proofs.Math.Path.{◌≡◌}
use Rattle.std.proofs.Math.Option.{Option, none, some}
use mathlib.Core.List.{List, [], ◌∷◌}
use Rattle.paper.specs.Ledger.{Entry, find}

-- their IDs differ
abbrev pub Distinct : List Entry → Type 0
Distinct [] = Unit
Distinct (e ∷ l) = (find l e.id ≡ none) × Distinct l

abbrev pub mapped : (Entry → Entry) → Option Entry → Option Entry
mapped f none = none
mapped f (some e) = some (f e)
