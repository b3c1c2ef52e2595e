-- A PLACE AND ITS OCTETS: each is had back from the other. Assumes nothing.
use Rattle.std.specs.Prelude.{◌≡◌, refl, Bool, true, false, ltb, length, drop, replicate}
use Rattle.std.proofs.Math.Path.{sym, ap}
use Rattle.std.proofs.Common.{subst, ◌∙◌, arith, ltb-true, ltb-false, drop-drop, get_or-drop, take_all}
use mathlib.Core.List.{List, [], ◌∷◌, ◌++◌}
use Prim.Native.Nat.{ℕ, suc, ◌+◌, ◌*◌, ◌/◌, ◌%◌, ◌<◌, ◌≤◌}
use Rattle.std.proofs.Math.Nat.{div-div-eq-div-mul}
use Rattle.std.proofs.Math.ListN.{get_or, take, length-drop}
use Rattle.std.proofs.lemmas.List.{length-replicate}
use Rattle.std.proofs.Math.Seq.{length-take-le}
use Rattle.laws.specs.Lists.{zeros, pad, span, span-part}
use Rattle.laws.specs.Fields.{laid_out, Sized, sized-take, laid-length, laid-split, laid-drop, field-at, laid_from, pairs-length, pairs-at, pairs-from, pairs_at, offset}
use Rattle.paper.specs.declared.Invocation.{Invocation}
use Rattle.paper.specs.declared.Reject.{Reject}
use Rattle.paper.specs.declared.Control.{Control}
use Rattle.paper.specs.Sizes.{most_invocations, most_rejects, most_waiting, turns}
use Rattle.paper.specs.Problems.{kind_of, code_of}
use Rattle.paper.specs.Invocations.{no_invocation}
use Rattle.paper.specs.Dialogues.{Place, no_reject}
use Rattle.paper.specs.Layout.{invocation_mark, reject_mark, place_fields, peer_field, waiting_length_field, count_field, invocations_field, rejects_field, waiting_field, place_octets, place_size, state_at, service_at, peer_length_at, peer_at, waiting_length_at, count_at, first_invocation, first_reject, waiting_start, invocation_by, reject_by, place_by}
use Rattle.table_laws.proofs.Zeros.{pad-length, pad-of, pad-rest}
use Rattle.table_laws.specs.Fine.{Octets, FineInvocation, FineRejects, FineControl}
use Rattle.table_laws.proofs.Kept.{same-invocation, same-reject, layer-small}
use Rattle.table_laws.specs.Octets.{SmallReject, before_waiting, control_octets}

pub rejects-small : (n : ℕ) (l : List Reject) → FineRejects n l → (i : ℕ) → i < length l → SmallReject (get_or l i no_reject)
rejects-small n l f i h = go (ltb i n) refl
  where
    go : (b : Bool) → ltb i n ≡ b → SmallReject (get_or l i no_reject)
    go true q =
        let r = f.each i (ltb-true i n q) h in
        let w = layer-small (kind_of (get_or l i no_reject).problem) (code_of (get_or l i no_reject).problem) r.sender in
        (omega (arith, r.id), omega (arith, w.0), omega (arith, w.1))
    go false q = subst SmallReject (sym (f.rest i (ltb-false i n q) h)) (omega arith, omega arith, omega arith)

-- ---- THE FIELDS' WIDTHS
-- one after another, as the list of fields asks
pub also : {P Q : Type 0} → P → Q → P × Q
also p q = (p, q)

lists-sized : (x : Place) → length x.control.peer ≡ 4 → length x.control.invocations ≡ most_invocations → length x.control.rejects ≡ most_rejects
    → Sized place_fields x
lists-sized x p i r =
    also refl (also refl (also refl (also refl (also p (also refl (also refl
    (also (omega (arith, i, pairs-length (λ v. v.id) invocation_mark invocation_by x.control.invocations))
    (also (omega (arith, r, pairs-length (λ v. v.id % 256) reject_mark reject_by x.control.rejects))
    (also (pad-length most_waiting x.waiting) tt)))))))))

place-sized : (x : Place) → FineControl x.control → Sized place_fields x
place-sized x f = lists-sized x f.four f.eight f.eights

pub place_octets-length : (x : Place) → FineControl x.control → length (place_octets x) ≡ place_size
place_octets-length x f = laid-length place_fields x (place-sized x f)

-- of a place that was read too, whatever it holds
pub read_length : (s : List ℕ) → length (place_octets (place_by s)) ≡ place_size
unfolding place_by
read_length s = laid-length place_fields (place_by s) (lists-sized (place_by s) refl refl refl)

pub control_octets-length : (c : Control) (n : ℕ) → FineControl c → length (control_octets c n) ≡ waiting_start
control_octets-length c n f =
    let x : Place = record { control = c; waiting = replicate n 0 } in
    laid-length (take waiting_field place_fields) x (sized-take place_fields x (place-sized x f) waiting_field)

pub place-split : (x : Place) → place_octets x ≡ control_octets x.control (length x.waiting) ++ pad most_waiting x.waiting
place-split x =
    let n : length {A = ℕ} (replicate (length x.waiting) 0) ≡ length x.waiting = length-replicate (length x.waiting) 0 in
    let q : control_octets x.control (length x.waiting) ≡ before_waiting x = rw n in
    laid-split place_fields x waiting_field ∙ ap (λ (l : List ℕ). l ++ pad most_waiting x.waiting) (sym q)

-- ---- FROM OCTETS
parts-of : (o : ℕ) → o % 8 + o / 8 % 16 * 8 + o / 128 * 128 ≡ o
parts-of o = let w : o / 128 ≡ o / 8 / 16 = sym (div-div-eq-div-mul o 8 16) in omega (arith, w)

reject-forth : (i o : ℕ) → i < 256 → ((reject_by i o).id % 256 ≡ i) × (reject_mark (reject_by i o) ≡ o)
reject-forth i o h =
    let r : Reject = reject_by i o in
    let x : code_of r.problem ≡ o % 8 = omega arith in
    let y : kind_of r.problem ≡ o / 8 % 16 = omega arith in
    let z : r.id / 256 ≡ o / 128 = omega arith in
    (omega arith, rw (x, y, z) (parts-of o))

module _ (s : List ℕ) (e : length s ≡ place_size) (h : Octets s) where
  pub slot_turn : (place_by s).control.turn < turns
  unfolding place_by
  slot_turn = omega (arith, h 0, h 1, h 2)

  module _ (k : get_or s waiting_length_at 0 ≤ most_waiting) where
    pub slot-waits : length (place_by s).waiting ≡ get_or s waiting_length_at 0
    unfolding place_by
    slot-waits = length-take-le (get_or s waiting_length_at 0) (drop waiting_start s) (simp length-drop (omega arith))

    -- the octets are had back
    pub slot-back : zeros (drop (waiting_start + get_or s waiting_length_at 0) s) ≡ true → place_octets (place_by s) ≡ s
    unfolding place_by
    slot-back z =
        let t : ℕ = (place_by s).control.turn in
        let a : t / 65536 % 256 ≡ get_or s 0 0 = omega (arith, h 0, h 1, h 2) in
        let b : t / 256 % 256 ≡ get_or s 1 0 = omega (arith, h 0, h 1, h 2) in
        let c : t % 256 ≡ get_or s 2 0 = omega (arith, h 0, h 1, h 2) in
        laid_from place_fields (place_by s) 0 s
        (also (rw (a, b, c) (span-part 3 0 s (omega arith)))
        (also (span-part 1 state_at s (omega arith))
        (also (span-part 1 service_at s (omega arith))
        (also (span-part 1 peer_length_at s (omega arith))
        (also (span-part 4 peer_at s (omega arith))
        (also (ap (λ (n : ℕ). n ∷ []) slot-waits ∙ span-part 1 waiting_length_at s (omega arith))
        (also (span-part 1 count_at s (omega arith))
        (also (pairs-from (λ v. v.id) invocation_mark invocation_by most_invocations first_invocation s (λ i. (refl, omega arith)) (omega arith))
        (also (pairs-from (λ r. r.id % 256) reject_mark reject_by most_rejects first_reject s (λ i. reject-forth (get_or s i 0) (get_or s (suc i) 0) (h i)) (omega arith))
        (also (pad-of most_waiting (get_or s waiting_length_at 0) (drop waiting_start s) (simp length-drop (omega arith)) (ap zeros (drop-drop (get_or s waiting_length_at 0) waiting_start s) ∙ z)
        ∙ sym (take_all most_waiting (drop waiting_start s) (simp length-drop (omega arith))))
        (omega arith)))))))))))

-- ---- FROM A RECORD
invocation-back : (v : Invocation) → FineInvocation v → invocation_by v.id (invocation_mark v) ≡ v
invocation-back v f =
    same-invocation (invocation_by v.id (invocation_mark v)) v refl (omega (arith, f.state, f.class)) (omega (arith, f.state, f.class)) (omega (arith, f.state, f.class))

reject-back : (r : Reject) → SmallReject r → reject_by (r.id % 256) (reject_mark r) ≡ r
reject-back r f = same-reject (reject_by (r.id % 256) (reject_mark r)) r (omega (arith, f.1, f.2)) (omega (arith, f.1, f.2))

-- a list of four, one by one
pub four-octets : (l : List ℕ) → length l ≡ 4 → span 4 0 l ≡ l
four-octets l e = span-part 4 0 l (omega arith) ∙ take_all 4 l (omega arith)

module _ (x : Place) (f : FineControl x.control) where
  sized : Sized place_fields x
  sized = place-sized x f

  long : length (place_octets x) ≡ place_size
  long = laid-length place_fields x sized

  -- an octet of what stands from field i on
  octet-from : (i k : ℕ) → get_or (place_octets x) (offset place_fields i + k) 0 ≡ get_or (laid_out (drop i place_fields) x) k 0
  octet-from i k = sym (get_or-drop (offset place_fields i) (place_octets x) k 0) ∙ ap (λ (l : List ℕ). get_or l k 0) (laid-drop place_fields x sized i)

  pub length_at : get_or (place_octets x) waiting_length_at 0 ≡ length x.waiting
  length_at = octet-from waiting_length_field 0

  pub waiting-at : drop waiting_start (place_octets x) ≡ pad most_waiting x.waiting
  waiting-at = laid-drop place_fields x sized waiting_field

  -- the record is had back
  pub place-back : length x.waiting ≤ most_waiting → place_by (place_octets x) ≡ x
  unfolding place_by
  place-back h =
      let s : List ℕ = place_octets x in
      let t : x.control.turn / 65536 % 256 * 65536 + x.control.turn / 256 % 256 * 256 + x.control.turn % 256 ≡ x.control.turn = omega (arith, f.turn) in
      let p : span 4 peer_at s ≡ x.control.peer = span-part 4 peer_at s (omega (arith, long)) ∙ field-at place_fields x sized peer_field in
      let k : get_or s count_at 0 ≡ x.control.count = octet-from count_field 0 in
      let v : pairs_at invocation_by most_invocations first_invocation s ≡ x.control.invocations =
      pairs-at (λ v. v.id) invocation_mark invocation_by x.control.invocations no_invocation most_invocations first_invocation s (laid_out (drop (suc invocations_field) place_fields) x)
      (λ i l. invocation-back (get_or x.control.invocations i no_invocation) (f.invocations.each i l)) f.eight (omega (arith, long)) (laid-drop place_fields x sized invocations_field) in
      let r : pairs_at reject_by most_rejects first_reject s ≡ x.control.rejects =
      pairs-at (λ r. r.id % 256) reject_mark reject_by x.control.rejects no_reject most_rejects first_reject s (laid_out (drop (suc rejects_field) place_fields) x)
      (λ i l. reject-back (get_or x.control.rejects i no_reject) (rejects-small x.control.count x.control.rejects f.rejects i l)) f.eights (omega (arith, long)) (laid-drop place_fields x sized rejects_field) in
      let w : take (get_or s waiting_length_at 0) (drop waiting_start s) ≡ x.waiting =
      ap (λ (n : ℕ). take n (drop waiting_start s)) length_at ∙ ap (take (length x.waiting)) waiting-at ∙ (pad-rest most_waiting x.waiting h).0 in
      rw (t, p, k, v, r, w)
