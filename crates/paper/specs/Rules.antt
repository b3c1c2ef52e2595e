-- THE TABLE RULES (01, "Answer numbers"): a test of each place's record, the shares, and that the octets lent are those records, laid out.
-- Assumes nothing.
use Rattle.std.specs.Prelude.{Bool, true, false, List, [], ◌∷◌, ℕ, zero, suc, length, drop, eqb, ltb, leb}
use Rattle.laws.specs.If.{if_lt, if_eq, if_b, all}
use Rattle.laws.specs.Lists.{zeros, every}
use Rattle.paper.specs.declared.Invocation.{Invocation}
use Rattle.paper.specs.declared.Reject.{Reject}
use Rattle.paper.specs.declared.Control.{Control}
use Rattle.paper.specs.Sizes.{places_in_all, services, most_rejects, most_waiting}
use Rattle.paper.specs.Problems.{sender_of_problem, by_layer, kind_of}
use Rattle.paper.specs.Components.{Item, no_id, no_fault, waiting_items}
use Rattle.paper.specs.Invocations.{idle, slot_of}
use Rattle.paper.specs.Dialogues.{Place, dialogue_free, dialogue_active, has_peer}
use Rattle.paper.specs.Shares.{shares_kept}
use Rattle.paper.specs.Calls.{Table, place_at, dialogues}
use Rattle.paper.specs.Layout.{place_octets, state_at, encode, view}

-- "octets and invocations not in use are zero; states .. classes .. are in range"
unfoldable pub invocation_kept : Invocation → Bool
invocation_kept v =
    if_eq v.state idle (if_eq v.id 0 (if_eq v.class 0 (eqb v.shown 0) false) false)
    (if_lt 4 v.state false (if_lt v.class 1 false (if_lt 4 v.class false (leb v.shown 1))))

-- "invoke IDs within a dialogue differ": no later one that is open has the ID of an open one
unfoldable pub differs : Invocation → List Invocation → Bool
differs v l = if_eq v.state idle true (eqb (slot_of l v.id) (length l))

unfoldable pub invocations_kept : List Invocation → Bool
invocations_kept [] = true
invocations_kept (v ∷ l) = if_b (invocation_kept v) (if_b (differs v l) (invocations_kept l) false) false

-- "waiting rejects are ones the component sub-layer sends": only a general one may lack its ID
unfoldable pub reject_kept : Reject → Bool
reject_kept r =
    if_eq (sender_of_problem r.problem) by_layer (if_lt r.id no_id true (if_eq r.id no_id (eqb (kind_of r.problem) 0) false)) false

unfoldable pub reject_zero : Reject → Bool
reject_zero r = if_eq r.id 0 (eqb r.problem 0) false

-- n waiting, then none
unfoldable pub rejects_kept : ℕ → List Reject → Bool
rejects_kept n [] = true
rejects_kept zero (r ∷ l) = if_b (reject_zero r) (rejects_kept zero l) false
rejects_kept (suc n) (r ∷ l) = if_b (reject_kept r) (rejects_kept n l) false

-- "a peer ID has 1 to 4 octets in Received and Active and none in Open and Sent"
unfoldable pub peer_kept : Control → Bool
peer_kept c =
    if_b (has_peer c.state) (if_lt c.peerlen 1 false (if_lt 4 c.peerlen false (zeros (drop c.peerlen c.peer))))
    (if_eq c.peerlen 0 (zeros c.peer) false)

-- "waiting octets are whole components, well formed and with the pieces that Coding gives"
unfoldable pub is_sound_item : Item → Bool
is_sound_item i = eqb i.part.fault no_fault

unfoldable pub waiting_kept : List ℕ → Bool
waiting_kept w = every is_sound_item (waiting_items w)

-- WHAT A DIALOGUE'S PLACE KEEPS: "states, services, classes and lengths are in range" and the rest, a test of its record each
abbrev pub dialogue_rules : List (Place → Bool)
dialogue_rules =
    (λ x. leb x.control.state dialogue_active)
    ∷ (λ x. ltb x.control.service services)
    ∷ (λ x. peer_kept x.control)
    ∷ (λ x. leb x.control.count most_rejects)
    ∷ (λ x. invocations_kept x.control.invocations)
    ∷ (λ x. rejects_kept x.control.count x.control.rejects)
    ∷ (λ x. leb (length x.waiting) most_waiting)
    ∷ (λ x. waiting_kept x.waiting)
    ∷ []

unfoldable pub dialogue_kept : Place → Bool
dialogue_kept x = every (λ r. r x) dialogue_rules

-- "a free place is all zero but its turn"
unfoldable pub place_kept : Place → Bool
place_kept x = if_eq x.control.state dialogue_free (zeros (drop state_at (place_octets x))) (dialogue_kept x)

-- "shares as for 13; nobody above the limit; free places at least the sum of unused guarantees"
unfoldable pub shares_of_table : Table → Bool
shares_of_table T = shares_kept (dialogues T)

-- the same octets
unfoldable pub alike : List ℕ → List ℕ → Bool
alike [] [] = true
alike [] (y ∷ m) = false
alike (x ∷ l) [] = false
alike (x ∷ l) (y ∷ m) = if_eq x y (alike l m) false

-- "octets .. not in use are zero", "the map agrees with the places": no octet is other than where the records are laid out
unfoldable pub rules : List ℕ → Bool
rules t = if_b (alike (encode (view t)) t) (if_b (all (λ p. place_kept (place_at (view t) p)) places_in_all) (shares_of_table (view t)) false) false
