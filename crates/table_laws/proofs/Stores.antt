-- ONE PLACE STORED: what its octets, and its bit of the map, do to the table. Assumes nothing.
use Rattle.std.specs.Prelude.{◌≡◌, refl, take, replicate}
use Rattle.std.proofs.Common.{sym, ◌∙◌, arith, add-zero, length-append, take-append-drop, take_at, length-take-le}
use Rattle.std.proofs.Math.Path.{ap}
use mathlib.Core.List.{List, [], ◌++◌, map, append_assoc, append-nil}
use Prim.Native.Nat.{ℕ, ◌+◌, ◌*◌, ◌-◌, ◌/◌, ◌%◌, ◌^◌, ◌<◌, ◌≤◌}
use Rattle.std.proofs.Math.ListN.{length, get_or, set, drop, get_or-append}
use Rattle.std.proofs.lemmas.List.Edits.{sets, sets-eq}
use Rattle.std.proofs.Math.Seq.{map-set_same, set-append_left, drop_at, drop-length, drop-append-add}
use Rattle.laws.specs.Lists.{pad}
use Rattle.laws.specs.Digits.{digits, octet_digits, packed_octets, packed_octets-small, small-set, map-digit, digits-add, digits-sub, digit_room}
use Rattle.laws.specs.Parts.{part, over, over-length, over-same, over-before, shift}
use Rattle.laws.proofs.Parts.{over-in}
use Rattle.laws.specs.Fields.{laid_out, offset, records, record-over}
use Rattle.laws.proofs.Fields.{field-over}
use Rattle.paper.specs.declared.Control.{Control}
use Rattle.paper.specs.Sizes.{places_in_all, most_waiting, next_turn}
use Rattle.paper.specs.Dialogues.{Place, empty_place, with_control, freed}
use Rattle.paper.specs.Calls.{Table, place_at, with_place}
use Rattle.paper.specs.Layout.{place_start, place_octets, place_size, waiting_start, flag, map_size, map_octets, fields_of_table, table_size, encode, slot, map_bit}
use Rattle.table_map.specs.Map.{with_bit, without_bit}
use Rattle.table_laws.proofs.Zeros.{pad-length, pad-none, pad-more}
use Rattle.table_laws.specs.Fine.{FineControl, Fine}
use Rattle.table_laws.specs.Octets.{control_octets}
use Rattle.table_laws.proofs.Octets.{control_octets-length, place-split, place_octets-length}
use Rattle.table_laws.proofs.Slots.{flag-free, flag-used, free-is, empty-fine}
use Rattle.table_laws.proofs.Whole.{fine-fit, table-sized, flags-two, flag_at, map-digits, map-length, map-store, encode-slot, encode-length, encode-bit}

-- ---- one part replaced, twice
pub sets_over : (l : List ℕ) (i : ℕ) (vs : List ℕ) → i + length vs ≤ length l → sets l i vs ≡ over l i vs
unfolding over
sets_over l i vs h = sets-eq vs l i h ∙ (simp append_assoc)

pub over_none : (l : List ℕ) (i : ℕ) → over l i [] ≡ l
unfolding over
over_none l i = ap (λ (k : ℕ). take i l ++ drop k l) (add-zero i) ∙ take-append-drop i l

pub over-twice : (t : List ℕ) (a : ℕ) (v w : List ℕ) → length w ≡ length v → a + length v ≤ length t → over (over t a v) a w ≡ over t a w
unfolding over
over-twice t a v w e h =
    let n : length (take a t) ≡ a = length-take-le a t (omega arith) in
    let z : a + length w ≡ length (take a t) + length v = omega arith in
    ap (λ (l : List ℕ). l ++ (w ++ drop (a + length w) (take a t ++ (v ++ drop (a + length v) t)))) (take_at (take a t) (v ++ drop (a + length v) t) a n)
    ∙ ap (λ (l : List ℕ). take a t ++ (w ++ l))
    (ap (λ (k : ℕ). drop k (take a t ++ (v ++ drop (a + length v) t))) z
    ∙ drop-append-add (take a t) (v ++ drop (a + length v) t) (length v)
    ∙ drop_at v (drop (a + length v) t) (length v) refl
    ∙ ap (λ (k : ℕ). drop (a + k) t) (sym e))

all-zero : (l : List ℕ) → length l ≡ most_waiting → over l 0 (replicate most_waiting 0) ≡ pad most_waiting []
unfolding over
all-zero l e = ap (λ (r : List ℕ). replicate most_waiting 0 ++ r) (ap (λ (k : ℕ). drop k l) (sym e) ∙ drop-length l) ∙ append-nil (replicate most_waiting 0) ∙ sym (pad-none most_waiting)

-- ---- THE PLACE AND ITS BIT
module _ (T : Table) (f : Fine T) (p : ℕ) (h : p < places_in_all) where
  digit_at : get_or (digits 8 (get_or (map_octets T.places) (p / 8) 0)) (p % 8) 0 ≡ flag (place_at T p)
  digit_at =
      let w : 8 * (p / 8) + p % 8 ≡ p = omega arith in
      sym (map-digit (map_octets T.places) (p / 8) (p % 8) (omega (arith, map-length T.places)) (omega arith))
      ∙ ap (λ (j : ℕ). get_or (octet_digits (map_octets T.places)) j 0) w
      ∙ ap (λ (l : List ℕ). get_or l p 0) (map-digits T.places f.places)
      ∙ flag_at T.places p (omega (arith, f.places))

  map-small : (i : ℕ) → get_or (map_octets T.places) i 0 < 256
  map-small i = packed_octets-small map_size (map flag T.places) (flags-two T.places) i

  module _ (x : Place) (e : length (place_octets x) ≡ place_size) where
    -- the place written, the map as it was
    place-over : over (encode T) (place_start p) (place_octets x) ≡ map_octets T.places ++ laid_out (drop 1 fields_of_table) (with_place T p x)
    unfolding encode
    place-over =
        let n : place_start p ≡ length (map_octets T.places) + (offset (drop 1 fields_of_table) 2 + p * place_size) = omega (arith, map-length T.places) in
        let r : p * place_size + length (place_octets x) ≤ length (records place_octets T.places) = omega (arith, (table-sized T f).1.1.1.0, e) in
        ap (λ (k : ℕ). over (encode T) k (place_octets x)) n
        ∙ shift (map_octets T.places) (laid_out (drop 1 fields_of_table) T) (offset (drop 1 fields_of_table) 2 + p * place_size) (place_octets x)
        ∙ ap (λ (l : List ℕ). map_octets T.places ++ l)
        (field-over (drop 1 fields_of_table) T (with_place T p x) (table-sized T f).1 2 (p * place_size) (place_octets x)
        (refl, (refl, (r, record-over place_octets place_size (empty_place 0) T.places (fine-fit T f) p x e (omega (arith, f.places)), refl))))

    -- the bit stays
    pub store_same : flag x ≡ flag (place_at T p) → over (encode T) (place_start p) (place_octets x) ≡ encode (with_place T p x)
    unfolding encode
    store_same q =
        place-over
        ∙ ap (λ (l : List ℕ). packed_octets map_size l ++ laid_out (drop 1 fields_of_table) (with_place T p x)) (sym (map-set_same flag T.places p x (empty_place 0) q))

    store-bit : (b : ℕ) → b < 256 → digits 8 b ≡ set (digits 8 (get_or (map_octets T.places) (p / 8) 0)) (p % 8) (flag x)
        → set (over (encode T) (place_start p) (place_octets x)) (p / 8) b ≡ encode (with_place T p x)
    unfolding encode
    store-bit b l q =
        ap (λ (u : List ℕ). set u (p / 8) b) place-over
        ∙ set-append_left (map_octets T.places) (laid_out (drop 1 fields_of_table) (with_place T p x)) (p / 8) b (omega (arith, map-length T.places))
        ∙ ap (λ (m : List ℕ). m ++ laid_out (drop 1 fields_of_table) (with_place T p x))
        (map-store T.places p b x f.places h (small-set (map_octets T.places) (p / 8) b map-small l) q)

    octet-stays : get_or (over (encode T) (place_start p) (place_octets x)) (p / 8) 0 ≡ get_or (map_octets T.places) (p / 8) 0
    octet-stays =
        ap (λ (u : List ℕ). get_or u (p / 8) 0) place-over
        ∙ get_or-append (map_octets T.places) (laid_out (drop 1 fields_of_table) (with_place T p x)) 0 (p / 8) (omega (arith, map-length T.places))

    -- a place is freed: its bit is set
    pub store_up : flag (place_at T p) ≡ 0 → flag x ≡ 1 → with_bit (over (encode T) (place_start p) (place_octets x)) p ≡ encode (with_place T p x)
    unfolding with_bit
    store_up q g =
        let n : ℕ = get_or (map_octets T.places) (p / 8) 0 in
        ap (λ (k : ℕ). set (over (encode T) (place_start p) (place_octets x)) (p / 8) (k + 2 ^ (p % 8))) octet-stays
        ∙ store-bit (n + 2 ^ (p % 8)) (digit_room 8 n (p % 8) (omega arith) (map-small (p / 8)) (digit_at ∙ q))
        (digits-add 8 n (p % 8) (omega arith) (digit_at ∙ q) ∙ ap (set (digits 8 n) (p % 8)) (sym g))

    -- a place is taken: its bit is cleared
    pub store-down : flag (place_at T p) ≡ 1 → flag x ≡ 0 → without_bit (over (encode T) (place_start p) (place_octets x)) p ≡ encode (with_place T p x)
    unfolding without_bit
    store-down q g =
        let n : ℕ = get_or (map_octets T.places) (p / 8) 0 in
        ap (λ (k : ℕ). set (over (encode T) (place_start p) (place_octets x)) (p / 8) (k - 2 ^ (p % 8))) octet-stays
        ∙ store-bit (n - 2 ^ (p % 8)) (omega (arith, map-small (p / 8)))
        (digits-sub 8 n (p % 8) (omega arith) (digit_at ∙ q) ∙ ap (set (digits 8 n) (p % 8)) (sym g))

  -- the map is as it was after a store in a place
  pub bit-stays : (v : List ℕ) → map_bit (over (encode T) (place_start p) v) p ≡ flag (place_at T p)
  unfolding map_bit part
  bit-stays v =
      ap (λ (l : List ℕ). get_or (octet_digits l) p 0) (over-before (encode T) (place_start p) v 0 map_size (omega (arith, encode-length T f)) (omega arith))
      ∙ encode-bit T f p h

  -- ---- THE CONTROL RECORD AND A RUN OF THE WAITING OCTETS: one law for a store of each shape
  slot-part : part (place_start p) place_size (encode T) ≡ place_octets (place_at T p)
  unfolding part slot
  slot-part = encode-slot T f p h

  module _ (c : Control) (g : FineControl c) (n k : ℕ) (l : List ℕ) (r : k + length l ≤ most_waiting) where
    was : FineControl (place_at T p).control
    was = (f.each p h).control

    -- the run in the place
    run-octets : over (place_octets (place_at T p)) (waiting_start + k) l ≡ control_octets (place_at T p).control (length (place_at T p).waiting) ++ over (pad most_waiting (place_at T p).waiting) k l
    run-octets =
        let x : Place = place_at T p in
        let q : length (control_octets x.control (length x.waiting)) ≡ waiting_start = control_octets-length x.control (length x.waiting) was in
        ap (λ (s : List ℕ). over s (waiting_start + k) l) (place-split x)
        ∙ ap (λ (j : ℕ). over (control_octets x.control (length x.waiting) ++ pad most_waiting x.waiting) (j + k) l) (sym q)
        ∙ shift (control_octets x.control (length x.waiting)) (pad most_waiting x.waiting) k l

    -- and the control record before it
    both-octets : over (control_octets (place_at T p).control (length (place_at T p).waiting) ++ over (pad most_waiting (place_at T p).waiting) k l) 0 (control_octets c n)
        ≡ control_octets c n ++ over (pad most_waiting (place_at T p).waiting) k l
    unfolding over
    both-octets =
        let x : Place = place_at T p in
        let o : List ℕ = control_octets x.control (length x.waiting) in
        let z : 0 + length (control_octets c n) ≡ length o = omega (arith, control_octets-length c n g, control_octets-length x.control (length x.waiting) was) in
        ap (λ (s : List ℕ). control_octets c n ++ s) (ap (λ (j : ℕ). drop j (o ++ over (pad most_waiting x.waiting) k l)) z ∙ drop_at o (over (pad most_waiting x.waiting) k l) (length o) refl)

    pub control-run : over (over (encode T) (place_start p + (waiting_start + k)) l) (place_start p) (control_octets c n)
        ≡ over (encode T) (place_start p) (control_octets c n ++ over (pad most_waiting (place_at T p).waiting) k l)
    control-run =
        let x : Place = place_at T p in
        let a : ℕ = place_start p in
        let w : List ℕ = over (pad most_waiting x.waiting) k l in
        let o : List ℕ = control_octets x.control (length x.waiting) in
        let s : List ℕ = o ++ w in
        let lw : length w ≡ most_waiting = over-length (pad most_waiting x.waiting) k l (omega (arith, pad-length most_waiting x.waiting)) ∙ pad-length most_waiting x.waiting in
        let ls : length s ≡ place_size = length-append o w ∙ (omega (arith, lw, control_octets-length x.control (length x.waiting) was)) in
        let lc : length (control_octets c n) ≡ waiting_start = control_octets-length c n g in
        let lv : length (control_octets c n ++ w) ≡ place_size = length-append (control_octets c n) w ∙ (omega (arith, lw, lc)) in
        let t : List ℕ = encode T in
        let lt : length t ≡ table_size = encode-length T f in
        let first : over t (a + (waiting_start + k)) l ≡ over t a s =
        over-in t a place_size (waiting_start + k) l (omega (arith, lt)) (omega arith) ∙ ap (λ (u : List ℕ). over t a (over u (waiting_start + k) l)) slot-part ∙ ap (over t a) run-octets in
        let held : part a place_size (over t a s) ≡ s = ap (λ (j : ℕ). part a j (over t a s)) (sym ls) ∙ over-same t a s (omega (arith, lt)) in
        let lo : length (over t a s) ≡ table_size = over-length t a s (omega (arith, lt, ls)) ∙ lt in
        ap (λ (u : List ℕ). over u a (control_octets c n)) first
        ∙ ap (λ (j : ℕ). over (over t a s) j (control_octets c n)) (sym (add-zero a))
        ∙ over-in (over t a s) a place_size 0 (control_octets c n) (omega (arith, lo)) (omega (arith, lc))
        ∙ ap (λ (u : List ℕ). over (over t a s) a (over u 0 (control_octets c n))) held
        ∙ ap (over (over t a s) a) both-octets
        ∙ over-twice t a s (control_octets c n ++ w) (lv ∙ sym ls) (omega (arith, lt, ls))

  -- ---- WHAT EACH CHANGE OF A PLACE LEAVES: the octets that the code writes, and the table that they are
  pub freed-octets : flag (place_at T p) ≡ 0 → with_bit (over (encode T) (place_start p) (place_octets (freed (place_at T p)))) p ≡ encode (with_place T p (freed (place_at T p)))
  freed-octets u =
      store_up (freed (place_at T p)) (place_octets-length (freed (place_at T p)) (empty-fine (next_turn (place_at T p).control.turn) (omega arith)).control) u (flag-free (freed (place_at T p)) refl)

  module _ (c : Control) (g : FineControl c) (s : c.state ≡ 0 → ⊥) where
    abbrev with-waiting : List ℕ → Place
    with-waiting w = record { control = c; waiting = w }

    -- the control record alone
    pub stored-octets : flag (place_at T p) ≡ 0
        → over (encode T) (place_start p) (control_octets c (length (place_at T p).waiting)) ≡ encode (with_place T p (with_control (place_at T p) c))
    stored-octets u =
        let x : Place = place_at T p in
        let n : ℕ = length x.waiting in
        ap (λ (t : List ℕ). over t (place_start p) (control_octets c n)) (sym (over_none (encode T) (place_start p + (waiting_start + 0))))
        ∙ control-run c g n 0 [] (omega arith)
        ∙ ap (λ (w : List ℕ). over (encode T) (place_start p) (control_octets c n ++ w)) (over_none (pad most_waiting x.waiting) 0)
        ∙ ap (over (encode T) (place_start p)) (sym (place-split (with_control x c)))
        ∙ store_same (with_control x c) (place_octets-length (with_control x c) g) (flag-used (with_control x c) s ∙ sym u)

    -- a free place taken
    pub begun-octets : flag (place_at T p) ≡ 1 → without_bit (over (encode T) (place_start p) (control_octets c 0)) p ≡ encode (with_place T p (with-waiting []))
    begun-octets u =
        let x : Place = place_at T p in
        let e : x.waiting ≡ [] = ap (λ (y : Place). y.waiting) ((f.each p h).free (free-is x u)) in
        ap (λ (t : List ℕ). without_bit t p)
        (ap (λ (t : List ℕ). over t (place_start p) (control_octets c 0)) (sym (over_none (encode T) (place_start p + (waiting_start + 0))))
        ∙ control-run c g 0 0 [] (omega arith)
        ∙ ap (λ (w : List ℕ). over (encode T) (place_start p) (control_octets c 0 ++ w)) (over_none (pad most_waiting x.waiting) 0 ∙ ap (pad most_waiting) e)
        ∙ ap (over (encode T) (place_start p)) (sym (place-split (with-waiting []))))
        ∙ store-down (with-waiting []) (place_octets-length (with-waiting []) g) u (flag-used (with-waiting []) s)

    -- octets written after those that wait, then the control record and the new length
    pub passed-octets : flag (place_at T p) ≡ 0 → (l : List ℕ) → length (place_at T p).waiting + length l ≤ most_waiting
        → over (sets (encode T) (place_start p + (waiting_start + length (place_at T p).waiting)) l) (place_start p) (control_octets c (length (place_at T p).waiting + length l))
        ≡ encode (with_place T p (with-waiting ((place_at T p).waiting ++ l)))
    passed-octets u l r =
        let x : Place = place_at T p in
        let n : ℕ = length x.waiting in
        let y : Place = with-waiting (x.waiting ++ l) in
        ap (λ (t : List ℕ). over t (place_start p) (control_octets c (n + length l))) (sets_over (encode T) (place_start p + (waiting_start + n)) l (omega (arith, encode-length T f)))
        ∙ control-run c g (n + length l) n l r
        ∙ ap (λ (w : List ℕ). over (encode T) (place_start p) (control_octets c (n + length l) ++ w))
        (sym (sets_over (pad most_waiting x.waiting) n l (omega (arith, pad-length most_waiting x.waiting))) ∙ pad-more most_waiting x.waiting l r)
        ∙ ap (λ (k : ℕ). over (encode T) (place_start p) (control_octets c k ++ pad most_waiting (x.waiting ++ l))) (sym (length-append x.waiting l))
        ∙ ap (over (encode T) (place_start p)) (sym (place-split y))
        ∙ store_same y (place_octets-length y g) (flag-used y s ∙ sym u)

    -- the waiting octets zeroed, then the control record
    pub sent-octets : flag (place_at T p) ≡ 0
        → over (over (encode T) (place_start p + waiting_start) (replicate most_waiting 0)) (place_start p) (control_octets c 0) ≡ encode (with_place T p (with-waiting []))
    sent-octets u =
        let x : Place = place_at T p in
        control-run c g 0 0 (replicate most_waiting 0) (omega arith)
        ∙ ap (λ (w : List ℕ). over (encode T) (place_start p) (control_octets c 0 ++ w)) (all-zero (pad most_waiting x.waiting) (pad-length most_waiting x.waiting))
        ∙ ap (over (encode T) (place_start p)) (sym (place-split (with-waiting [])))
        ∙ store_same (with-waiting []) (place_octets-length (with-waiting []) g) (flag-used (with-waiting []) s ∙ sym u)
