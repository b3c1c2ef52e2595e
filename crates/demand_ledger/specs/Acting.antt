-- THE REJECTS THAT WAIT after a message's components acted are those that waited before, then those of its rows 13; partner, state,
-- service and turn stay. Assumes nothing.
use Rattle.std.specs.Prelude.{◌≡◌, ℕ}
use mathlib.Core.List.{List, [], ◌∷◌, ◌++◌}
use Rattle.laws.specs.If.{if_eq}
use Rattle.paper.specs.declared.Control.{Control}
use Rattle.paper.specs.declared.Acted.{Acted}
use Rattle.paper.specs.Writing.{Written}
use Rattle.paper.specs.Dialogues.{peer_of}
use Rattle.paper.specs.Kinds.{row_rejected}
use Rattle.demand_ledger.specs.Agrees.{waits}

-- A CONTROL RECORD ALIKE but for its invocations
pub record Alike (c d : Control) : Type 0 where
  pub turn : d.turn ≡ c.turn
  pub state : d.state ≡ c.state
  pub service : d.service ≡ c.service
  pub peer : peer_of d ≡ peer_of c
  pub count : d.count ≡ c.count
  pub rejects : d.rejects ≡ c.rejects

-- WHAT A COMPONENT OF AN ID LEAVES WAITING: as many, or its own reject after them, by the kind of its row
abbrev pub rejects_of : ℕ → Acted → List Written
rejects_of id a = if_eq a.kind row_rejected (Written.Reject id a.problem ∷ []) []

pub record LeavesWaiting (c : Control) (id : ℕ) (a : Acted) : Type 0 where
  pub turn : a.control.turn ≡ c.turn
  pub state : a.control.state ≡ c.state
  pub service : a.control.service ≡ c.service
  pub peer : peer_of a.control ≡ peer_of c
  pub waiting : waits a.control ≡ waits c ++ rejects_of id a

-- ALL COMPONENTS
pub record AllLeaveWaiting (c d : Control) (ws : List Written) : Type 0 where
  pub turn : d.turn ≡ c.turn
  pub state : d.state ≡ c.state
  pub service : d.service ≡ c.service
  pub peer : peer_of d ≡ peer_of c
  pub waiting : waits d ≡ waits c ++ ws
