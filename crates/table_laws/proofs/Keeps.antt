-- EACH CHANGE OF A CONTROL RECORD KEEPS THE RULES. Assumes nothing.
use Rattle.std.specs.Prelude.{◌≡◌, Bool, List, [], ◌∷◌, map, ℕ, ◌+◌, ◌≤◌, ◌<◌, eqb}
use Rattle.std.proofs.Math.Path.{refl}
use Rattle.std.proofs.Common.{sym, ap, subst, ◌∙◌, arith, get_or-set_same, get_or-set_other}
use Rattle.std.proofs.Math.Bool.{true, false}
use Rattle.std.proofs.Math.Dec.{ltb}
use borrow.Author.Tests.{eqb-true, eqb-false, ltb-true, ltb-false}
use lib.ListN.{length, get_or, set, length-set, length-map}
use Rattle.laws.specs.If.{if_eq, was-eq, if_b, was-yes}
use Rattle.paper.specs.Sizes.{services, turns}
use Rattle.paper.specs.declared.Invocation.{Invocation}
use Rattle.paper.specs.declared.Reject.{Reject}
use Rattle.paper.specs.declared.Control.{Control}
use Rattle.paper.specs.Invocations.{no_invocation, slot_of, idle_slot, invocation_of, state_of, with_invocations, with_invocation, in_state, to_state, to_idle, all_idle, passed, not_last_shown, transmitted, rejecting_ids, all_transmitted, with_reject}
use Rattle.paper.specs.Dialogues.{no_reject, begun, with_state, without_rejects, has_peer}
use Rattle.paper.specs.Calls.{with_peer}
use Rattle.table_laws.specs.Fine.{FineInvocation, FineInvocations, FineReject, FineRejects, FinePeer, FineControl}
use Rattle.table_laws.proofs.Slots.{empty-fine}
use Rattle.table_laws.proofs.Invocations.{idle-fine, same-id-fine, found-open, pass-fine, all-transmitted-fine}

-- "1 to 4 octets in Received and Active and none in Open and Sent"
pub peers : (has_peer 1 ≡ false) × (has_peer 2 ≡ false) × (has_peer 3 ≡ true) × (has_peer 4 ≡ true)
unfolding has_peer if_eq
peers = (refl, refl, refl, refl)

-- a Begin's and a Continue's new state has a peer where the one that they need has
pub begin-peer : (state : ℕ) → ◌≡◌ {A = ℕ} 0 (if_eq state 1 0 6) → has_peer 2 ≡ has_peer state
begin-peer state e = peers.1 ∙ sym (ap has_peer (was-eq _ _ _ _ e (λ z. omega arith)).0 ∙ peers.0)

pub continue-peer : (state : ℕ) → ◌≡◌ {A = ℕ} 0 (if_b (has_peer state) 0 6) → has_peer 4 ≡ has_peer state
continue-peer state e = peers.3 ∙ sym (was-yes _ _ _ e (λ z. omega arith)).0

-- A NEW DIALOGUE
pub begun-fine : (turn state service peerlen : ℕ) (peer : List ℕ) → turn < turns → state < 5 → service < services → length peer ≡ 4
    → FinePeer state peerlen peer → FineControl (begun turn state service peerlen peer)
begun-fine turn state service peerlen peer a b c d e =
    let f = (empty-fine 0 (omega arith)).control in
    record {
      turn = a;
      state = b;
      service = c;
      four = d;
      peer = e;
      count = omega arith;
      eight = refl;
      invocations = f.invocations;
      eights = refl;
      rejects = f.rejects;
    }

-- ONE THAT GOES ON keeps its turn and service
module _ (c : Control) (f : FineControl c) where
  goes_on : {state peerlen count : ℕ} {peer : List ℕ} {l : List Invocation} {w : List Reject}
      → state < 5 → length peer ≡ 4 → FinePeer state peerlen peer → count ≤ 8 → length l ≡ 8 → FineInvocations l → length w ≡ 8 → FineRejects count w
      → FineControl (record { turn = c.turn; state = state; service = c.service; peerlen = peerlen; peer = peer; count = count; invocations = l; rejects = w })
  goes_on a b d e g h i j = record {
    turn = f.turn;
    state = a;
    service = f.service;
    four = b;
    peer = d;
    count = e;
    eight = g;
    invocations = h;
    eights = i;
    rejects = j;
  }

  -- in another state with a peer as before; the peer's ID stored; the rejects sent
  pub with-state-fine : (state : ℕ) → state < 5 → has_peer state ≡ has_peer c.state → FineControl (with_state c state)
  with-state-fine state h e =
      let p = f.peer in
      goes_on h f.four (record { some = λ z. p.some (sym e ∙ z); none = λ z. p.none (sym e ∙ z); most = p.most; rest = p.rest })
      f.count f.eight f.invocations f.eights f.rejects

  pub with-peer-fine : (n : ℕ) (l : List ℕ) → length l ≡ 4 → FinePeer 4 n l → FineControl (with_peer c n l)
  with-peer-fine n l e p = goes_on (omega arith) e p f.count f.eight f.invocations f.eights f.rejects

  pub without-rejects-fine : FineControl (without_rejects c)
  without-rejects-fine = goes_on f.state f.four f.peer (omega arith) f.eight f.invocations refl (empty-fine 0 (omega arith)).control.rejects

  -- only the invocations changed
  pub invocations-fine : (l : List Invocation) → length l ≡ 8 → FineInvocations l → FineControl (with_invocations c l)
  invocations-fine l n g = goes_on f.state f.four f.peer f.count n g f.eights f.rejects

  long : (i : ℕ) (v : Invocation) → length (set c.invocations i v) ≡ 8
  long i v = length-set c.invocations i v ∙ f.eight

  pub to-idle-fine : (id : ℕ) → FineControl (to_idle c id)
  unfolding to_idle
  to-idle-fine id =
      invocations-fine (set c.invocations (slot_of c.invocations id) no_invocation) (long (slot_of c.invocations id) no_invocation)
      (idle-fine c.invocations (slot_of c.invocations id) f.invocations)

  pub passed-fine : (id class : ℕ) → state_of c id ≡ 0 → 1 ≤ class → class ≤ 4 → FineControl (passed c id class)
  unfolding passed
  passed-fine id class e a b =
      invocations-fine _ (long (idle_slot c.invocations) (record { id = id; class = class; state = 1; shown = 0 }))
      (pass-fine c.invocations id class f.invocations e a b)

  -- the slot of one that isn't in Idle
  pub there : (id : ℕ) → (state_of c id ≡ 0 → ⊥) → slot_of c.invocations id < 8
  unfolding invocation_of
  there id n = go (ltb (slot_of c.invocations id) 8) refl
    where
      go : (b : Bool) → ltb (slot_of c.invocations id) 8 ≡ b → slot_of c.invocations id < 8
      go true e = ltb-true (slot_of c.invocations id) 8 e
      go false e =
          let g : 8 ≤ slot_of c.invocations id = ltb-false (slot_of c.invocations id) 8 e in
          absurd (n (ap (λ (v : Invocation). v.state) (lib.ListN.get_or-eq_default c.invocations no_invocation {n = slot_of c.invocations id} (omega (arith, f.eight)))))

  -- one in use goes to another state, or is marked
  pub changed-fine : (id : ℕ) (v : Invocation) → (state_of c id ≡ 0 → ⊥) → FineInvocation v → v.id ≡ (invocation_of c.invocations id).id
      → FineControl (with_invocation c (slot_of c.invocations id) v)
  unfolding invocation_of
  changed-fine id v n g e =
      let h : slot_of c.invocations id < length c.invocations = omega (arith, there id n, f.eight) in
      invocations-fine _ (long (slot_of c.invocations id) v)
      (same-id-fine c.invocations (slot_of c.invocations id) v f.invocations h (found-open c.invocations id h).0 g e)

  -- our invocation of an ID, in use
  pub one-fine : (id : ℕ) → (state_of c id ≡ 0 → ⊥) → FineInvocation (invocation_of c.invocations id)
  unfolding invocation_of
  one-fine id n = f.invocations.each (slot_of c.invocations id) (omega (arith, there id n, f.eight))

  pub to-state-fine : (id state : ℕ) → (state_of c id ≡ 0 → ⊥) → 1 ≤ state → state ≤ 4 → FineControl (to_state c id state)
  unfolding to_state
  to-state-fine id state n a b =
      let g = one-fine id n in
      changed-fine id (in_state (invocation_of c.invocations id) state) n
      (record { state = b; least = λ h. g.least n; class = g.class; shown = g.shown; unused = λ h. absurd (omega arith) }) refl

  pub shown-fine : (id : ℕ) → (state_of c id ≡ 0 → ⊥) → FineControl (not_last_shown c id)
  unfolding not_last_shown
  shown-fine id n =
      let g = one-fine id n in
      changed-fine id _ n (record { state = g.state; least = λ h. g.least n; class = g.class; shown = omega arith; unused = λ h. absurd (n h) }) refl

  -- one more reject waits
  pub with-reject-fine : (r : Reject) → c.count < 8 → FineReject r → FineControl (with_reject c r)
  with-reject-fine r h g =
      goes_on f.state f.four f.peer (omega arith) f.eight f.invocations (length-set c.rejects c.count r ∙ f.eights)
      (record { each = λ i a b. each i a (eqb i c.count) refl; rest = rest })
    where
      in-it : c.count < length c.rejects
      in-it = omega (arith, f.eights)

      each : (i : ℕ) → i < c.count + 1 → (b : Bool) → eqb i c.count ≡ b → FineReject (get_or (set c.rejects c.count r) i no_reject)
      each i a true e =
          subst FineReject (sym (ap (λ (k : ℕ). get_or (set c.rejects c.count r) k no_reject) (eqb-true i c.count e) ∙ get_or-set_same c.rejects c.count r no_reject in-it)) g
      each i a false e =
          let n : i ≡ c.count → ⊥ = eqb-false i c.count e in
          subst FineReject (sym (get_or-set_other c.rejects c.count i r no_reject n)) (f.rejects.each i (omega arith) (omega (arith, f.eights)))

      rest : (i : ℕ) → c.count + 1 ≤ i → i < length (set c.rejects c.count r) → get_or (set c.rejects c.count r) i no_reject ≡ no_reject
      rest i a b =
          get_or-set_other c.rejects c.count i r no_reject (λ e. omega arith)
          ∙ f.rejects.rest i (omega arith) (omega (arith, length-set c.rejects c.count r))

-- A SENDING: some go to Idle, one by one, and only the invocations change
pub all-idle-fine : (ids : List ℕ) (c : Control) → FineControl c → FineControl (all_idle c ids)
unfolding all_idle
all-idle-fine [] c f = f
all-idle-fine (id ∷ ids) c f = all-idle-fine ids (to_idle c id) (to-idle-fine c f id)

pub sent-fine : (c : Control) → FineControl c → FineControl (with_invocations c (map transmitted c.invocations))
sent-fine c f = invocations-fine c f _ (length-map c.invocations _ ∙ f.eight) (all-transmitted-fine c.invocations f.invocations)

pub transmitted-fine : (c : Control) → FineControl c → FineControl (all_transmitted c)
unfolding all_transmitted
transmitted-fine c f = all-idle-fine (rejecting_ids c.invocations) _ (sent-fine c f)

idle-only : (ids : List ℕ) (c : Control) (state : ℕ) → all_idle (with_state c state) ids ≡ with_state (with_invocations c (all_idle c ids).invocations) state
unfolding all_idle to_idle
idle-only [] c state = refl
idle-only (id ∷ ids) c state = idle-only ids (to_idle c id) state

pub sent-only : (c : Control) (state : ℕ) → all_transmitted (with_state c state) ≡ with_state (with_invocations c (all_transmitted c).invocations) state
unfolding all_transmitted
sent-only c = idle-only (rejecting_ids c.invocations) (with_invocations c (map transmitted c.invocations))
