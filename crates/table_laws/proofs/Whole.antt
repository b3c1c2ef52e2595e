-- THE WHOLE TABLE: encode and view, each the other's inverse. Assumes nothing.
use Rattle.std.specs.Prelude.{◌≡◌, Bool, true, false, ℕ, zero, suc, ◌+◌, ◌*◌, ◌/◌, ◌%◌, ◌<◌, ◌≤◌, set, take, drop}
use Rattle.std.proofs.Math.Path.{refl, sym, ap}
use Rattle.std.proofs.Common.{subst, ◌∙◌, arith, length-set, drop-drop, get_or-drop, take_all}
use mathlib.Core.List.{List, [], ◌∷◌, map}
use Rattle.std.proofs.Math.ListN.{length, get_or, length-drop}
use Rattle.std.proofs.lemmas.List.{length-map}
use Rattle.std.proofs.Math.Seq.{ext_get_or, length-take-le}
use Rattle.laws.specs.If.{if_b, yes, no, all, all-at}
use Rattle.laws.specs.Lists.{tab, at-tab, length-tab, tab-all, tab-ext}
use Rattle.laws.specs.Digits.{digits, octet_digits, packed_octets, Binary, packed_octets-length, octet_digits-length, digits_of, octets-of, map-set}
use Rattle.laws.specs.Fields.{offset, Sized, laid-length, laid-drop, field-at, laid_from, Alike, records-length, record-at, records-from}
use Rattle.paper.specs.Dialogues.{Place, empty_place}
use Rattle.paper.specs.Calls.{Table, is_free, place_at}
use Rattle.paper.specs.Sizes.{places_in_all, services}
use Rattle.paper.specs.Layout.{place_start, place_octets, place_size, flag, map_size, map_octets, fields_of_table, table_size, guarantees_at, limits_at, encode, place_by, slot, view, map_bit}
use Rattle.paper.specs.Rules.{place_kept}
use Rattle.table_laws.specs.Fine.{Octets, FinePlace, Fine}
use Rattle.table_laws.proofs.Octets.{also, place_octets-length, read_length, place-back}
use Rattle.table_laws.specs.Slots.{KeptSlot, slot_kept}
use Rattle.table_laws.proofs.Slots.{slot_is, place_is, fine-kept}
use Rattle.table_laws.specs.Whole.{slot_at_kept}

-- ---- the map
flag-two : (x : Place) → flag x < 2
unfolding flag
flag-two x = go (is_free x) refl
  where
    go : (b : Bool) → is_free x ≡ b → if_b {A = ℕ} (is_free x) 1 0 < 2
    go true q = omega (arith, yes {A = ℕ} {r = 1} (is_free x) 1 0 q refl)
    go false q = omega (arith, no {A = ℕ} {r = 0} (is_free x) 1 0 q refl)

pub flags-two : (ps : List Place) → Binary (map flag ps)
flags-two [] i = omega arith
flags-two (x ∷ ps) zero = flag-two x
flags-two (x ∷ ps) (suc i) = flags-two ps i

pub flag_at : (ps : List Place) (i : ℕ) → i < length ps → get_or (map flag ps) i 0 ≡ flag (get_or ps i (empty_place 0))
flag_at [] i l = absurd (omega arith)
flag_at (x ∷ ps) zero l = refl
flag_at (x ∷ ps) (suc i) l = flag_at ps i (omega arith)

pub map-digits : (ps : List Place) → length ps ≡ places_in_all → octet_digits (map_octets ps) ≡ map flag ps
map-digits ps e = digits_of map_size (map flag ps) (length-map ps flag ∙ e) (flags-two ps)

pub map-length : (ps : List Place) → length (map_octets ps) ≡ map_size
map-length ps = packed_octets-length map_size (map flag ps)

map-flag-set : (ps : List Place) (p : ℕ) (x : Place) → map flag (set ps p x) ≡ set (map flag ps) p (flag x)
map-flag-set [] p x = refl
map-flag-set (y ∷ ps) zero x = refl
map-flag-set (y ∷ ps) (suc p) x = ap (λ (l : List ℕ). flag y ∷ l) (map-flag-set ps p x)

-- an octet of the map changed in the digit of place p: the map of the places with p changed
pub map-store : (ps : List Place) (p b : ℕ) (x : Place) → length ps ≡ places_in_all → p < places_in_all → Octets (set (map_octets ps) (p / 8) b)
    → digits 8 b ≡ set (digits 8 (get_or (map_octets ps) (p / 8) 0)) (p % 8) (flag x) → set (map_octets ps) (p / 8) b ≡ map_octets (set ps p x)
map-store ps p b x e h o q =
    let m : List ℕ = map_octets ps in
    let w : 8 * (p / 8) + p % 8 ≡ p = omega arith in
    let d : octet_digits (set m (p / 8) b) ≡ map flag (set ps p x) =
    map-set m (p / 8) (p % 8) b (flag x) (omega (arith, map-length ps)) (omega arith) q
    ∙ ap (λ (k : ℕ). set (octet_digits m) k (flag x)) w
    ∙ ap (λ (l : List ℕ). set l p (flag x)) (map-digits ps e)
    ∙ sym (map-flag-set ps p x) in
    let n : length (set m (p / 8) b) ≡ map_size = length-set m (p / 8) b ∙ map-length ps in
    sym (octets-of (set m (p / 8) b) o) ∙ ap (λ (k : ℕ). packed_octets k (octet_digits (set m (p / 8) b))) n ∙ ap (packed_octets map_size) d

-- ---- FROM RECORDS, where each has its length
module _ (T : Table) (g : length T.guarantees ≡ services) (l : length T.limits ≡ services) (n : length T.places ≡ places_in_all)
    (fit : Alike place_octets place_size (empty_place 0) T.places) where
  lists-sized : Sized fields_of_table T
  lists-sized =
      also (map-length T.places) (also g (also l
      (also (records-length place_octets place_size (empty_place 0) T.places fit ∙ ap (λ (n : ℕ). n * place_size) n) tt)))

  lists-slot : (p : ℕ) → p < places_in_all → slot (encode T) p ≡ place_octets (place_at T p)
  unfolding encode slot
  lists-slot p h =
      ap (take place_size) (sym (drop-drop (p * place_size) (offset fields_of_table 3) (encode T)) ∙ ap (drop (p * place_size)) (laid-drop fields_of_table T lists-sized 3))
      ∙ record-at place_octets place_size (empty_place 0) T.places fit p (omega (arith, n))

module _ (T : Table) (f : Fine T) where
  pub fine-fit : Alike place_octets place_size (empty_place 0) T.places
  fine-fit p h = place_octets-length (place_at T p) (f.each p (omega (arith, f.places))).control

  pub table-sized : Sized fields_of_table T
  table-sized = lists-sized T f.guarantees f.limits f.places fine-fit

  pub encode-length : length (encode T) ≡ table_size
  unfolding encode
  encode-length = laid-length fields_of_table T table-sized

  pub encode-slot : (p : ℕ) → p < places_in_all → slot (encode T) p ≡ place_octets (place_at T p)
  encode-slot p h = lists-slot T f.guarantees f.limits f.places fine-fit p h

  pub encode-bits : octet_digits (take map_size (encode T)) ≡ map flag T.places
  unfolding encode
  encode-bits = ap octet_digits (field-at fields_of_table T table-sized 0) ∙ map-digits T.places f.places

  pub encode-bit : (p : ℕ) → p < places_in_all → map_bit (encode T) p ≡ flag (place_at T p)
  unfolding map_bit
  encode-bit p h = ap (λ (l : List ℕ). get_or l p 0) encode-bits ∙ flag_at T.places p (omega (arith, f.places))

  pub view-encode : view (encode T) ≡ T
  unfolding view encode
  view-encode =
      let c : tab places_in_all 0 (λ p. place_by (slot (encode T) p)) ≡ T.places =
      tab-ext places_in_all (λ p. place_by (slot (encode T) p)) (λ p. place_at T p) (empty_place 0)
      (λ p h. ap place_by (encode-slot p h) ∙ place-back (place_at T p) (f.each p h).control (f.each p h).room)
      ∙ tab-all places_in_all T.places (empty_place 0) f.places in
      rw (field-at fields_of_table T table-sized 1, field-at fields_of_table T table-sized 2, c)

  pub encode-kept : (p : ℕ) → p < places_in_all → slot_at_kept (encode T) p ≡ true
  unfolding slot_at_kept
  encode-kept p h =
      ap (λ (s : List ℕ). slot_kept s (map_bit (encode T) p)) (encode-slot p h)
      ∙ ap (slot_kept (place_octets (place_at T p))) (encode-bit p h)
      ∙ fine-kept (place_at T p) (f.each p h)

-- ---- FROM OCTETS
pub take-octets : (n : ℕ) (l : List ℕ) → Octets l → Octets (take n l)
take-octets zero l w j = omega arith
take-octets (suc n) [] w j = w j
take-octets (suc n) (x ∷ l) w zero = w 0
take-octets (suc n) (x ∷ l) w (suc j) = take-octets n l (λ k. w (suc k)) j

pub drop-octets : (n : ℕ) (l : List ℕ) → Octets l → Octets (drop n l)
drop-octets n l w j = subst (λ (x : ℕ). x < 256) (sym (get_or-drop n l j 0)) (w (n + j))

-- a place of the view is read from its own octets
pub view-at : (t : List ℕ) (p : ℕ) → p < places_in_all → place_at (view t) p ≡ place_by (slot t p)
unfolding view
view-at t p h = at-tab places_in_all p (λ q. place_by (slot t q)) (empty_place 0) h

pub view-length : (t : List ℕ) → length (view t).places ≡ places_in_all
unfolding view
view-length t = length-tab places_in_all 0 (λ q. place_by (slot t q))

module _ (t : List ℕ) (e : length t ≡ table_size) where
  pub slot-length : (p : ℕ) → p < places_in_all → length (slot t p) ≡ place_size
  unfolding slot
  slot-length p h = length-take-le place_size (drop (place_start p) t) (simp length-drop (omega arith))

  part_length : (a : ℕ) → a ≤ limits_at → length (take services (drop a t)) ≡ services
  part_length a h = length-take-le services (drop a t) (simp length-drop (omega arith))

  pub view_shares : (length (view t).guarantees ≡ services) × (length (view t).limits ≡ services)
  unfolding view
  view_shares = (part_length guarantees_at (omega arith), part_length limits_at (omega arith))

  slot-octets : Octets t → (p : ℕ) → Octets (slot t p)
  unfolding slot
  slot-octets o p = take-octets place_size (drop (place_start p) t) (drop-octets (place_start p) t o)

  -- FROM RULES ON RECORDS: where the octets are the records', each place that passes is fine
  module _ (o : Octets t) (same : encode (view t) ≡ t) (p : ℕ) (h : p < places_in_all) where
    slot_same : place_octets (place_by (slot t p)) ≡ slot t p
    slot_same =
        ap place_octets (sym (view-at t p h))
        ∙ sym (lists-slot (view t) view_shares.0 view_shares.1 (view-length t)
        (λ q g. ap (λ (x : Place). length (place_octets x)) (view-at t q (omega (arith, view-length t))) ∙ read_length (slot t q)) p h)
        ∙ ap (λ (u : List ℕ). slot u p) same

    pub view-fine : place_kept (place_at (view t) p) ≡ true → FinePlace (place_at (view t) p)
    view-fine k =
        let e : place_at (view t) p ≡ place_by (slot t p) = view-at t p h in
        subst FinePlace (sym e) (place_is (slot t p) (slot-length p h) (slot-octets o p) slot_same (ap place_kept (sym e) ∙ k))

  -- FROM THE WALK
  module _ (o : Octets t) (k : all (slot_at_kept t) places_in_all ≡ true) where
    kept-each : (p : ℕ) → p < places_in_all → KeptSlot (slot t p) (map_bit t p)
    unfolding slot_at_kept
    kept-each p h = slot_is (slot t p) (slot-length p h) (slot-octets o p) (map_bit t p) (all-at (slot_at_kept t) places_in_all p k h)

    pub view-each : (p : ℕ) → p < places_in_all → place_kept (place_at (view t) p) ≡ true
    view-each p h = ap place_kept (view-at t p h) ∙ (kept-each p h).kept

    -- the map's digits are the places' flags
    pub view-bits : octet_digits (take map_size t) ≡ map flag (view t).places
    unfolding map_bit
    view-bits =
        let a : length (octet_digits (take map_size t)) ≡ places_in_all = octet_digits-length (take map_size t) ∙ ap (λ (n : ℕ). 8 * n) (length-take-le map_size t (omega arith)) in
        ext_get_or 0 (octet_digits (take map_size t)) (map flag (view t).places) (a ∙ sym (length-map (view t).places flag ∙ view-length t))
        (λ p h. let g : p < places_in_all = omega (arith, a) in
        (kept-each p g).told ∙ ap flag (sym (view-at t p g)) ∙ sym (flag_at (view t).places p (omega (arith, view-length t))))

    map-view : map_octets (view t).places ≡ take map_size t
    map-view =
        let n : length (take map_size t) ≡ map_size = length-take-le map_size t (omega arith) in
        ap (packed_octets map_size) (sym view-bits) ∙ ap (λ (j : ℕ). packed_octets j (octet_digits (take map_size t))) (sym n)
        ∙ octets-of (take map_size t) (take-octets map_size t o)

    -- the octets are had back
    pub encode-view : encode (view t) ≡ t
    unfolding encode view slot
    encode-view =
        let n : length (drop (offset fields_of_table 3) t) ≤ places_in_all * place_size = simp length-drop (omega arith) in
        laid_from fields_of_table (view t) 0 t
        (also map-view (also refl (also refl
        (also (records-from place_octets place_size (empty_place 0) t (λ q. place_by (slot t q)) (offset fields_of_table 3) places_in_all 0 (omega arith) (λ p h. (kept-each p (omega arith)).same)
        ∙ sym (take_all (places_in_all * place_size) (drop (offset fields_of_table 3) t) n))
        (omega arith)))))
