-- WHAT A REQUEST OR TIMER DOES TO ITS DIALOGUE KEEPS THE RULES (01, "Dialogue states"). Assumes nothing.
use Rattle.std.specs.Prelude.{◌≡◌, Bool, true, false, ℕ, ◌≤◌, ◌<◌}
use Rattle.paper.specs.Components.{no_id}
use Rattle.paper.specs.Writing.{Written}
use Rattle.paper.specs.Dialogues.{Place, Request, Invoke, Result, Error, UserReject, Cancel, Begin, Continue, End, Prearranged, Abort, Unidirectional, Timeout, RejectTimeout, NoReaction, freed, shape_of}
use Rattle.demand_readback.specs.Written.{ResultTag}
use Rattle.table_laws.specs.Fine.{FinePlace}

-- A DIALOGUE THAT GOES ON, of the same service
pub record GoesOn (x y : Place) : Type 0 where
  pub fine : FinePlace y
  pub state : y.control.state ≡ 0 → ⊥
  pub service : y.control.service ≡ x.control.service

-- A REQUEST AS A CALLER CAN MAKE IT: IDs are octets, a linked one 256 for none, a result's tag is A2 or A7
abbrev pub Formed : Request → Type 0
Formed (Invoke id linked class op par) = (id < 256) × (linked ≤ no_id)
Formed (Result tag id op par) = ResultTag tag × (id < 256)
Formed (Error id err par) = id < 256
Formed (UserReject id p) = id < 256
Formed (Cancel id) = Unit
Formed (Begin name info) = Unit
Formed (Continue name info) = Unit
Formed (End name info) = Unit
Formed Prearranged = Unit
Formed (Abort given) = Unit
Formed (Unidirectional name info) = Unit
Formed (Timeout id) = Unit
Formed (RejectTimeout id) = Unit
Formed NoReaction = Unit

-- the request that passes a component, an invoke with its class; what it isn't refused for
abbrev pub request_of : ℕ → Written → Request
request_of class (Written.Invoke id linked op par) = Invoke id linked class op par
request_of class (Written.Result tag id op par) = Result tag id op par
request_of class (Written.Error id err par) = Error id err par
request_of class (Written.Reject id p) = UserReject id p

-- those that free the place
abbrev pub frees : Request → Bool
frees r = (shape_of r).frees

-- what one leaves: a freed place, or the dialogue
abbrev pub Leaves : Bool → Place → Place → Type 0
Leaves true x y = y ≡ freed x
Leaves false x y = GoesOn x y
