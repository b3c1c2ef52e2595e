-- What each change leaves of a ready table. Assumes nothing.
use Prim.Native.Nat.{ℕ, ◌+◌, ◌-◌, ◌/◌, ◌%◌, ◌<◌}
use mathlib.Core.Path.{◌≡◌, sym, ap, ◌∙◌}
use mathlib.Core.List.{List, [], ◌∷◌, ◌++◌}
use native.Mathlib.Omega.{arith}
use borrow.Rule.Slice.PartMut.{put_mid}
use lib.ListN.{length, set, take, drop, replicate, length-drop}
use lib.Seq.{length-take-le}
use Rattle.laws.specs.Parts.{over, put-over}
use Rattle.paper.specs.declared.Control.{Control}
use Rattle.paper.specs.Sizes.{places_in_all, most_waiting, next_turn}
use Rattle.paper.specs.Dialogues.{Place, empty_place, with_control, freed}
use Rattle.paper.specs.Calls.{place_at, with_place}
use Rattle.paper.specs.Layout.{place_start, place_octets, place_size, waiting_start, flag, encode, view, map_bit}
use Rattle.table_map.specs.Map.{with_bit, without_bit}
use Rattle.table_laws.proofs.Zeros.{pad-none}
use Rattle.table_laws.specs.Octets.{waiting_from, control_octets}
use Rattle.table_laws.proofs.Octets.{place_octets-length}
use Rattle.table_laws.proofs.Slots.{empty-fine}
use Rattle.table_laws.specs.Ready.{Ready}
use Rattle.table_laws.proofs.Stores.{stored-octets, begun-octets, sent-octets, freed-octets, bit-stays}
use Rattle.table_places.specs.Storing.{Storing, with_waiting}

module _ (t : List ℕ) (p : ℕ) (c : Control) (s : Storing 0 t p c) where
  pub control-stored : (n : ℕ) → n ≡ length (place_at (view t) p).waiting
      → over t (place_start p) (control_octets c n) ≡ encode (with_place (view t) p (with_control (place_at (view t) p) c))
  control-stored n e =
      ap (λ (k : ℕ). over t (place_start p) (control_octets c k)) e
      ∙ ap (λ (u : List ℕ). over u (place_start p) (control_octets c (length (place_at (view t) p).waiting))) (sym s.ready.same)
      ∙ stored-octets (view t) s.ready.fine p s.small c s.control s.state s.told

  -- the waiting octets that were lent and zeroed
  pub octets-sent : (last : List ℕ) → last ≡ replicate (length (take (waiting_from p + most_waiting - (waiting_from p)) (drop (waiting_from p) t))) 0
      → over (put_mid (waiting_from p) (waiting_from p + most_waiting - (waiting_from p)) t last) (place_start p) (control_octets c 0) ≡ encode (with_place (view t) p (with_waiting c []))
  octets-sent last e =
      let k : waiting_from p + most_waiting - (waiting_from p) ≡ most_waiting = omega arith in
      let j : waiting_from p ≡ place_start p + waiting_start = omega arith in
      let q : length (take (waiting_from p + most_waiting - (waiting_from p)) (drop (waiting_from p) t)) ≡ most_waiting =
      ap (λ (n : ℕ). length (take n (drop (waiting_from p) t))) k
      ∙ length-take-le most_waiting (drop (waiting_from p) t) (simp length-drop (omega (arith, s.ready.long, s.small))) in
      let r : last ≡ replicate most_waiting 0 = e ∙ ap (λ (n : ℕ). replicate n 0) q in
      ap (λ (u : List ℕ). over u (place_start p) (control_octets c 0))
      (ap (put_mid (waiting_from p) (waiting_from p + most_waiting - (waiting_from p)) t) r
      ∙ put-over (waiting_from p) (waiting_from p + most_waiting - (waiting_from p)) t (replicate most_waiting 0) (sym k)
      ∙ ap (λ (n : ℕ). over t n (replicate most_waiting 0)) j
      ∙ ap (λ (u : List ℕ). over u (place_start p + waiting_start) (replicate most_waiting 0)) (sym s.ready.same))
      ∙ sent-octets (view t) s.ready.fine p s.small c s.control s.state s.told

module _ (t : List ℕ) (p : ℕ) (c : Control) (s : Storing 1 t p c) where
  put_same : over t (place_start p) (control_octets c 0) ≡ over (encode (view t)) (place_start p) (control_octets c 0)
  put_same = ap (λ (u : List ℕ). over u (place_start p) (control_octets c 0)) (sym s.ready.same)

  pub begin-bit : map_bit (over t (place_start p) (control_octets c 0)) p ≡ 1
  begin-bit = ap (λ (u : List ℕ). map_bit u p) put_same ∙ bit-stays (view t) s.ready.fine p s.small (control_octets c 0) ∙ s.told

  pub place-begun : without_bit (over t (place_start p) (control_octets c 0)) p ≡ encode (with_place (view t) p (with_waiting c []))
  place-begun = ap (λ (u : List ℕ). without_bit u p) put_same ∙ begun-octets (view t) s.ready.fine p s.small c s.control s.state s.told

-- the octets of a place that was blanked
pub blanked : (n : ℕ) → set (set (set (replicate place_size 0) 0 (n / 65536 % 256)) 1 (n / 256 % 256)) 2 (n % 256) ≡ place_octets (empty_place n)
blanked n = ap (λ (l : List ℕ). n / 65536 % 256 ∷ n / 256 % 256 ∷ n % 256 ∷ (replicate (waiting_start - 3) 0 ++ l)) (sym (pad-none most_waiting))

module _ (t last : List ℕ) (p : ℕ) (r : Ready t) (h : p < places_in_all) (e : last ≡ place_octets (freed (place_at (view t) p))) where
  pub lent-freed : put_mid (place_start p) (place_start p + place_size - (place_start p)) t last ≡ over (encode (view t)) (place_start p) (place_octets (freed (place_at (view t) p)))
  lent-freed =
      let x : Place = freed (place_at (view t) p) in
      let n : place_start p + place_size - (place_start p) ≡ place_size = omega arith in
      let l : length (place_octets x) ≡ place_size = place_octets-length x (empty-fine (next_turn (place_at (view t) p).control.turn) (omega arith)).control in
      ap (put_mid (place_start p) (place_start p + place_size - (place_start p)) t) e
      ∙ put-over (place_start p) (place_start p + place_size - (place_start p)) t (place_octets x) (l ∙ sym n)
      ∙ ap (λ (u : List ℕ). over u (place_start p) (place_octets x)) (sym r.same)

  module _ (u : flag (place_at (view t) p) ≡ 0) where
    pub free-bit : map_bit (put_mid (place_start p) (place_start p + place_size - (place_start p)) t last) p ≡ 0
    free-bit = ap (λ (v : List ℕ). map_bit v p) lent-freed ∙ bit-stays (view t) r.fine p h (place_octets (freed (place_at (view t) p))) ∙ u

    pub place-freed : with_bit (put_mid (place_start p) (place_start p + place_size - (place_start p)) t last) p ≡ encode (with_place (view t) p (freed (place_at (view t) p)))
    place-freed = ap (λ (v : List ℕ). with_bit v p) lent-freed ∙ freed-octets (view t) r.fine p h u
