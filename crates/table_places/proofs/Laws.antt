-- What is read of one place, in the words of the record model. Assumes nothing.
use Prim.Native.Nat.{ℕ, zero, suc, ◌+◌, ◌-◌, ◌≤◌, ◌<◌}
use mathlib.Core.Path.{◌≡◌, refl, sym, ap, ◌∙◌}
use mathlib.Core.Bool.{Bool, false}
use mathlib.Core.List.{List, [], ◌∷◌}
use native.Mathlib.Omega.{arith}
use native.Mathlib.Nat.{zero-add, suc-add}
use lib.Dec.{eqb}
use borrow.Author.Tests.{eq-eqb, ne_eqb}
use lib.ListN.{length, get_or, take, drop}
use lib.Seq.{take-nil, take-take, drop-drop}
use Rattle.laws.specs.If.{if_eq, lt, eq, ne, yes, no}
use Rattle.paper.specs.Sizes.{places_in_all, most_waiting, place_of, turn_of}
use Rattle.paper.specs.Dialogues.{Place}
use Rattle.paper.specs.Calls.{place_at, is_free, is_dialogue, owns}
use Rattle.paper.specs.Layout.{place_start, waiting_length_at, waiting_start, control_by, place_by, slot, view}
use Rattle.table_laws.specs.Octets.{waiting_from}
use Rattle.table_laws.proofs.Octets.{length_at}
use Rattle.table_laws.proofs.Whole.{view-at}
use Rattle.table_laws.specs.Ready.{Ready}
use Rattle.table_laws.proofs.Ready.{ready-slot}

module _ (t : List ℕ) (p : ℕ) (h : p < places_in_all) where
  pub slot-place : (s : List ℕ) → s ≡ slot t p → place_by s ≡ place_at (view t) p
  slot-place s e = ap place_by e ∙ sym (view-at t p h)

  pub control-is : (s : List ℕ) → s ≡ slot t p → control_by s ≡ (place_at (view t) p).control
  unfolding place_by
  control-is s e = ap (λ (x : Place). x.control) (slot-place s e)

  pub waits-is : Ready t → (s : List ℕ) → s ≡ slot t p → get_or s waiting_length_at 0 ≡ length (place_at (view t) p).waiting
  waits-is r s e = ap (λ (l : List ℕ). get_or l waiting_length_at 0) (e ∙ ready-slot t r p h) ∙ length_at (place_at (view t) p) (r.fine.each p h).control

drop-take : (m n : ℕ) (l : List ℕ) → drop m (take (m + n) l) ≡ take n (drop m l)
drop-take zero n l = ap (λ (k : ℕ). take k l) (zero-add n)
drop-take (suc m) n [] = ap (drop (suc m)) (take-nil (suc m + n)) ∙ sym (take-nil n)
drop-take (suc m) n (x ∷ l) = ap (λ (k : ℕ). drop (suc m) (take k (x ∷ l))) (suc-add m n) ∙ drop-take m n l

pub waiting-is : (t : List ℕ) (p : ℕ) → p < places_in_all → Ready t → (n : ℕ) → n ≡ length (place_at (view t) p).waiting → n ≤ most_waiting
    → take (waiting_from p + n - waiting_from p) (drop (waiting_from p) t) ≡ (place_at (view t) p).waiting
unfolding place_by slot
waiting-is t p h r n e l =
    let k : waiting_from p + n - waiting_from p ≡ n = omega arith in
    let j : waiting_from p ≡ place_start p + waiting_start = omega arith in
    ap (λ (i : ℕ). take i (drop (waiting_from p) t)) k
    ∙ ap (λ (i : ℕ). take n (drop i t)) j
    ∙ ap (take n) (sym (drop-drop waiting_start (place_start p) t))
    ∙ sym (take-take n most_waiting (drop waiting_start (drop (place_start p) t)) l)
    ∙ ap (take n) (sym (drop-take waiting_start most_waiting (drop (place_start p) t)))
    ∙ ap (λ (i : ℕ). take i (drop waiting_start (slot t p))) (sym (waits-is t p h r (slot t p) refl ∙ sym e))
    ∙ ap (λ (x : Place). x.waiting) (sym (view-at t p h))

-- ---- whose dialogue it is
module _ (s : List ℕ) (service turn : ℕ) where
  pub dialogue-none : (control_by s).state ≡ 0 → false ≡ is_dialogue (place_by s) service turn
  unfolding is_dialogue is_free place_by
  dialogue-none e = yes (eqb (control_by s).state 0) false (if_eq (control_by s).service service (eqb (control_by s).turn turn) false) (eq-eqb (control_by s).state 0 e) refl

  pub dialogue-other : ((control_by s).state ≡ 0 → ⊥) → ((control_by s).service ≡ service → ⊥) → false ≡ is_dialogue (place_by s) service turn
  unfolding is_dialogue is_free place_by
  dialogue-other n m =
      no (eqb (control_by s).state 0) false (if_eq (control_by s).service service (eqb (control_by s).turn turn) false) (ne_eqb (control_by s).state 0 n)
      (ne (control_by s).service service (eqb (control_by s).turn turn) false m refl)

  pub dialogue-turn : ((control_by s).state ≡ 0 → ⊥) → (control_by s).service ≡ service → (r : ℕ) → r ≡ (control_by s).turn
      → eqb r turn ≡ is_dialogue (place_by s) service turn
  unfolding is_dialogue is_free place_by
  dialogue-turn n m r e =
      no (eqb (control_by s).state 0) false (if_eq (control_by s).service service (eqb (control_by s).turn turn) false) (ne_eqb (control_by s).state 0 n)
      (eq (control_by s).service service (eqb (control_by s).turn turn) false m (ap (λ (k : ℕ). eqb k turn) e))

pub owner-is : (t : List ℕ) (service dialogue : ℕ) (b : Bool) → place_of dialogue < places_in_all
    → (s : List ℕ) → s ≡ slot t (place_of dialogue) → b ≡ is_dialogue (place_by s) service (turn_of dialogue) → b ≡ owns (view t) service dialogue
unfolding owns
owner-is t service dialogue b h s q e =
    lt (place_of dialogue) places_in_all (is_dialogue (place_at (view t) (place_of dialogue)) service (turn_of dialogue)) false h
    (e ∙ ap (λ (x : Place). is_dialogue x service (turn_of dialogue)) (slot-place t (place_of dialogue) h s q))
