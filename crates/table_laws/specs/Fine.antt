-- WHAT A TABLE THAT KEEPS THE RULES IS (01, "Answer numbers", table rules), said of the records. Assumes nothing.
use Rattle.std.specs.Prelude.{◌≡◌, true, false, List, ℕ, ◌<◌, ◌≤◌, length, get_or, drop}
use Rattle.laws.specs.Lists.{zeros}
use Rattle.paper.specs.Sizes.{places_in_all, services, most_invocations, most_rejects, most_waiting, turns}
use Rattle.paper.specs.declared.Invocation.{Invocation}
use Rattle.paper.specs.declared.Reject.{Reject}
use Rattle.paper.specs.declared.Control.{Control}
use Rattle.paper.specs.Problems.{sender_of_problem, by_layer, kind_of}
use Rattle.paper.specs.Invocations.{no_invocation}
use Rattle.paper.specs.Dialogues.{Place, empty_place, no_reject, has_peer}
use Rattle.paper.specs.Calls.{Table, place_at}
use Rattle.paper.specs.Rules.{waiting_kept, shares_of_table}

-- what a lent slice is
abbrev pub Octets : List ℕ → Type 0
Octets l = (i : ℕ) → get_or l i 0 < 256

-- "octets and invocations not in use are zero; states .. classes .. are in range"
pub record FineInvocation (v : Invocation) : Type 0 where
  pub state : v.state ≤ 4
  pub least : (v.state ≡ 0 → ⊥) → 1 ≤ v.class
  pub class : v.class ≤ 4
  pub shown : v.shown ≤ 1
  pub unused : v.state ≡ 0 → v ≡ no_invocation

-- "invoke IDs within a dialogue differ": of those in use
pub record FineInvocations (l : List Invocation) : Type 0 where
  pub each : (i : ℕ) → i < length l → FineInvocation (get_or l i no_invocation)
  pub differ : (i j : ℕ) → i < j → j < length l → ((get_or l i no_invocation).state ≡ 0 → ⊥) → ((get_or l j no_invocation).state ≡ 0 → ⊥)
      → (get_or l j no_invocation).id ≡ (get_or l i no_invocation).id → ⊥

-- "waiting rejects are ones the component sub-layer sends": only a general one may lack its ID
pub record FineReject (r : Reject) : Type 0 where
  pub sender : sender_of_problem r.problem ≡ by_layer
  pub id : r.id ≤ 256
  pub general : r.id ≡ 256 → kind_of r.problem ≡ 0

-- n that wait, then none
pub record FineRejects (n : ℕ) (l : List Reject) : Type 0 where
  pub each : (i : ℕ) → i < n → i < length l → FineReject (get_or l i no_reject)
  pub rest : (i : ℕ) → n ≤ i → i < length l → get_or l i no_reject ≡ no_reject

-- "a peer ID has 1 to 4 octets in Received and Active and none in Open and Sent"
pub record FinePeer (state peerlen : ℕ) (peer : List ℕ) : Type 0 where
  pub some : has_peer state ≡ true → 1 ≤ peerlen
  pub none : has_peer state ≡ false → peerlen ≡ 0
  pub most : peerlen ≤ 4
  pub rest : zeros (drop peerlen peer) ≡ true

-- "states, services, classes and lengths are in range"
pub record FineControl (c : Control) : Type 0 where
  pub turn : c.turn < turns
  pub state : c.state < 5
  pub service : c.service < services
  pub four : length c.peer ≡ 4
  pub peer : FinePeer c.state c.peerlen c.peer
  pub count : c.count ≤ most_rejects
  pub eight : length c.invocations ≡ most_invocations
  pub invocations : FineInvocations c.invocations
  pub eights : length c.rejects ≡ most_rejects
  pub rejects : FineRejects c.count c.rejects

-- "a free place is all zero but its turn"; "waiting octets are whole components, well formed and with the pieces that Coding gives"
pub record FinePlace (x : Place) : Type 0 where
  pub control : FineControl x.control
  pub room : length x.waiting ≤ most_waiting
  pub whole : waiting_kept x.waiting ≡ true
  pub free : x.control.state ≡ 0 → x ≡ empty_place x.control.turn

-- "the map agrees with the places" is in the octet form: the map is made of the places there.
-- "shares as for 13; nobody above the limit; free places at least the sum of unused guarantees"
pub record Fine (T : Table) : Type 0 where
  pub guarantees : length T.guarantees ≡ services
  pub limits : length T.limits ≡ services
  pub places : length T.places ≡ places_in_all
  pub each : (p : ℕ) → p < places_in_all → FinePlace (place_at T p)
  pub shares : shares_of_table T ≡ true
