-- WHAT A RECEIVED MESSAGE LEAVES of a dialogue, beside the ledger's entry. Assumes nothing.
use Rattle.std.specs.Prelude.{◌≡◌, List, ℕ}
use Rattle.laws.specs.If.{if_eq}
use Rattle.paper.specs.declared.Message.{Message}
use Rattle.paper.specs.Messages.{continue_tag}
use Rattle.paper.specs.Dialogues.{Place, peer_of}
use Rattle.paper.specs.Calls.{continued_control}
use Rattle.paper.specs.Ledger.{Entry}
use Rattle.demand_ledger.specs.Agrees.{waits}

-- CONTINUE: "in Sent stores the peer's ID and makes Active; later ones don't change it"
abbrev pub Continued : Place → Entry → List ℕ → Message → List ℕ → Type 0
Continued there e s m origin =
    (there.control.state ≡ 3 → ⊥) → m.tag ≡ continue_tag
    → ((continued_control there.control s m).turn ≡ there.control.turn) × ((continued_control there.control s m).state ≡ 4)
    × ((continued_control there.control s m).service ≡ there.control.service)
    × (peer_of (continued_control there.control s m) ≡ if_eq e.state 2 origin e.peer) × (waits (continued_control there.control s m) ≡ waits there.control)
    × ((continued_control there.control s m).invocations ≡ there.control.invocations)
