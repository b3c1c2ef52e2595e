-- A PLACE'S OCTETS AND ITS BIT, walked over as the code does, pass exactly where they are those of a fine place. Assumes nothing.
use Rattle.std.specs.Prelude.{◌≡◌, Bool, ℕ, ◌+◌, ◌-◌, ◌<◌, eqb, length, drop, replicate}
use Rattle.std.proofs.Math.Path.{refl, sym, ap, subst}
use Rattle.std.proofs.Common.{◌∙◌, arith, eqb-true, eq-eqb, ne_eqb, length-drop, drop-drop}
use Rattle.std.proofs.Math.Bool.{true, false}
use mathlib.Core.List.{List, ◌∷◌, ◌++◌}
use Rattle.std.proofs.lemmas.Bool.{eqb-false}
use Rattle.std.proofs.Math.ListN.{get_or}
use Rattle.std.proofs.lemmas.List.{length-replicate, get_or-replicate}
use Rattle.laws.specs.If.{if_eq, ge, eq, ne, yes, no, was-ge, was-eq, was-yes, by-eq, true-false}
use Rattle.laws.specs.Lists.{zeros, every, span-drop}
use Rattle.paper.specs.declared.Invocation.{Invocation}
use Rattle.paper.specs.Invocations.{no_invocation}
use Rattle.paper.specs.Sizes.{most_waiting, turns}
use Rattle.paper.specs.Components.{waiting_items}
use Rattle.paper.specs.Dialogues.{Place, empty_place, no_reject, has_peer}
use Rattle.paper.specs.Calls.{is_free}
use Rattle.paper.specs.Layout.{place_octets, place_size, state_at, waiting_length_at, waiting_start, place_by, flag}
use Rattle.paper.specs.Rules.{waiting_kept, dialogue_kept, place_kept}
use Rattle.table_laws.proofs.Zeros.{zeros-are, zeros_of, pad-none, pad-rest}
use Rattle.table_laws.specs.Fine.{Octets, FineInvocation, FineInvocations, FineRejects, FinePlace}
use Rattle.table_laws.proofs.Kept.{dialogue-is, dialogue-kept}
use Rattle.table_laws.proofs.Octets.{slot_turn, slot-back, place-back, length_at, waiting-at}
use Rattle.table_laws.specs.Slots.{free_kept, used_kept, slot_kept, KeptSlot}

-- ---- free or used
pub flag-free : (x : Place) → x.control.state ≡ 0 → flag x ≡ 1
unfolding flag is_free
flag-free x e = sym (yes (eqb x.control.state 0) 1 0 (eq-eqb x.control.state 0 e) refl)

pub flag-used : (x : Place) → (x.control.state ≡ 0 → ⊥) → flag x ≡ 0
unfolding flag is_free
flag-used x n = sym (no (eqb x.control.state 0) 1 0 (ne_eqb x.control.state 0 n) refl)

pub free-is : (x : Place) → flag x ≡ 1 → x.control.state ≡ 0
free-is x e = go (eqb x.control.state 0) refl
  where
    go : (b : Bool) → eqb x.control.state 0 ≡ b → x.control.state ≡ 0
    go true q = eqb-true x.control.state 0 q
    go false q = absurd (omega (arith, e, flag-used x (eqb-false x.control.state 0 q)))

-- ---- a free place is fine
none_open : (n : ℕ) → FineInvocations (replicate n no_invocation)
none_open n = record {
  each = λ i h. subst FineInvocation (sym (at i h)) (record { state = omega arith; least = λ z. absurd (z refl); class = omega arith; shown = omega arith; unused = λ z. refl });
  differ = λ i j h g m k. absurd (k (ap (λ (v : Invocation). v.state) (at j g)));
}
  where
    at : (i : ℕ) → i < length (replicate n no_invocation) → get_or (replicate n no_invocation) i no_invocation ≡ no_invocation
    at i h = get_or-replicate n i no_invocation no_invocation (omega (arith, length-replicate n no_invocation))

none-wait : (n : ℕ) → FineRejects 0 (replicate n no_reject)
none-wait n = record {
  each = λ i h k. absurd (omega arith);
  rest = λ i h k. get_or-replicate n i no_reject no_reject (omega (arith, length-replicate n no_reject));
}

pub empty-fine : (turn : ℕ) → turn < turns → FinePlace (empty_place turn)
unfolding has_peer waiting_kept waiting_items every zeros if_eq
empty-fine turn h = record {
  control = record {
    turn = h;
    state = omega arith;
    service = omega arith;
    four = refl;
    peer = record { some = λ z. absurd (true-false (sym z)); none = λ z. refl; most = omega arith; rest = refl };
    count = omega arith;
    eight = refl;
    invocations = none_open 8;
    eights = refl;
    rejects = none-wait 8;
  };
  room = omega arith;
  whole = refl;
  free = λ z. refl;
}

module _ (s : List ℕ) (e : length s ≡ place_size) (h : Octets s) where
  -- "a free place is all zero but its turn"
  blank : zeros (drop state_at s) ≡ true → s ≡ get_or s 0 0 ∷ get_or s 1 0 ∷ get_or s 2 0 ∷ replicate (place_size - state_at) 0
  blank z =
      let n : length (drop state_at s) ≡ place_size - state_at = simp length-drop (omega arith) in
      sym (span-drop state_at 0 s (omega arith))
      ∙ ap (λ (l : List ℕ). get_or s 0 0 ∷ get_or s 1 0 ∷ get_or s 2 0 ∷ l) (zeros-are (drop state_at s) z ∙ ap (λ (k : ℕ). replicate k 0) n)

  empty-by : zeros (drop state_at s) ≡ true → place_by s ≡ empty_place (place_by s).control.turn
  unfolding place_by
  empty-by z = ap place_by (blank z)

  -- a place whose octets are its record's is fine where its record passes
  pub place_is : place_octets (place_by s) ≡ s → place_kept (place_by s) ≡ true → FinePlace (place_by s)
  unfolding place_kept place_by
  place_is q k =
      by-eq _ _ _ _ (sym k)
      (λ st w. subst FinePlace (sym (empty-by (ap (λ (l : List ℕ). zeros (drop state_at l)) (sym q) ∙ sym w))) (empty-fine (place_by s).control.turn (slot_turn s e h)))
      (λ st w. dialogue-is (place_by s) (slot_turn s e h) refl refl refl st (sym w))

  module _ (bit : ℕ) where
    free-slot : get_or s state_at 0 ≡ 0 → free_kept s bit ≡ true → KeptSlot s bit
    unfolding free_kept place_kept place_by
    free-slot st q =
        let a = was-eq bit 1 (zeros (drop state_at s)) false (sym q) true-false in
        let z : zeros (drop state_at s) ≡ true = sym a.1 in
        let n : get_or s waiting_length_at 0 ≡ 0 = ap (λ (l : List ℕ). get_or l waiting_length_at 0) (blank z) in
        let b : place_octets (place_by s) ≡ s =
        slot-back s e h (omega arith) (ap (λ (k : ℕ). zeros (drop (waiting_start + k) s)) n ∙ ap (λ (l : List ℕ). zeros (drop waiting_start l)) (blank z) ∙ zeros_of most_waiting) in
        record { kept = sym (eq _ _ _ _ st (sym (ap (λ (l : List ℕ). zeros (drop state_at l)) b ∙ z))); same = b; told = a.0 ∙ sym (flag-free (place_by s) st) }

    used-slot : (get_or s state_at 0 ≡ 0 → ⊥) → used_kept s bit ≡ true → KeptSlot s bit
    unfolding used_kept place_kept place_by
    used-slot st q =
        let a = was-eq _ _ _ _ (sym q) true-false in
        let c = was-ge _ _ _ _ a.1 true-false in
        let d = was-yes _ _ _ c.1 true-false in
        record { kept = sym (ne _ _ _ _ st d.1); same = slot-back s e h c.0 d.0; told = a.0 ∙ sym (flag-used (place_by s) st) }

    pub slot_is : slot_kept s bit ≡ true → KeptSlot s bit
    slot_is q = by-eq _ _ _ _ (sym q) (λ st w. free-slot st (sym w)) (λ st w. used-slot st (sym w))

-- ---- FROM A RECORD
module _ (x : Place) (f : FinePlace x) where
  blank-octets : x.control.state ≡ 0 → zeros (drop state_at (place_octets x)) ≡ true
  blank-octets st =
      ap (λ (y : Place). zeros (drop state_at (place_octets y))) (f.free st)
      ∙ ap (λ (l : List ℕ). zeros (replicate (waiting_start - state_at) 0 ++ l)) (pad-none most_waiting)
      ∙ zeros_of (place_size - state_at)

  zero-octets : zeros (drop (waiting_start + get_or (place_octets x) waiting_length_at 0) (place_octets x)) ≡ true
  zero-octets =
      ap (λ (k : ℕ). zeros (drop (waiting_start + k) (place_octets x))) (length_at x f.control)
      ∙ ap zeros (sym (drop-drop (length x.waiting) waiting_start (place_octets x)) ∙ ap (drop (length x.waiting)) (waiting-at x f.control))
      ∙ (pad-rest most_waiting x.waiting f.room).1

  -- free or used
  by_state : {P : Type 0} → (x.control.state ≡ 0 → P) → ((x.control.state ≡ 0 → ⊥) → P) → P
  by_state p q = by-eq {r = if_eq x.control.state 0 x x} _ _ _ _ refl (λ a _. p a) (λ a _. q a)

  pub fine-place : place_kept x ≡ true
  unfolding place_kept
  fine-place = by_state (λ st. sym (eq _ _ _ _ st (sym (blank-octets st)))) (λ st. sym (ne _ _ _ _ st (sym (dialogue-kept x f))))

  pub fine-kept : slot_kept (place_octets x) (flag x) ≡ true
  unfolding free_kept used_kept
  fine-kept =
      by_state (λ st. sym (eq _ _ _ _ st (eq _ _ _ _ (flag-free x st) (sym (blank-octets st)))))
      (λ st. sym (ne _ _ _ _ st (eq _ _ _ _ (flag-used x st) (ge _ _ _ _ (omega (arith, length_at x f.control, f.room))
      (yes _ _ _ zero-octets (sym (ap dialogue_kept (place-back x f.control f.room) ∙ dialogue-kept x f)))))))
