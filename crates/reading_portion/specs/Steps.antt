-- The definitions' steps, as the code takes them: with what it has at hand in the place of what the definition names. Assumes nothing.
use Rattle.std.specs.Prelude.{◌≡◌, Bool, true, false, List, [], ◌∷◌, ℕ, ◌+◌, ◌-◌, ◌<◌, ◌≤◌, length, get_or, take, drop}
use Rattle.std.proofs.Math.Path.{refl, sym, ap}
use Rattle.std.proofs.Common.{◌∙◌, arith, add-one, drop_of_length-le, drop-cons, eq-eqb, ne_eqb}
use Rattle.std.specs.Prelude.{nat_eq, zero, suc, ◌&&◌}
use Rattle.std.specs.List.{starts_with}
use Rattle.std.specs.Prelude.{min}
use Rattle.std.proofs.Math.Nat.{min-eq_left}
use Rattle.laws.specs.If.{if_lt, if_eq, if_b, lt, ge, eq, ne, yes, no, by-lt, by-eq}
use Rattle.paper.specs.Elements.{Reading}
use Rattle.std.specs.Prelude.{Ok, Err}
use Rattle.paper.specs.declared.Frame.{Frame}
use Rattle.paper.specs.declared.Run.{Run}
use Rattle.paper.specs.declared.Pdu.{Pdu}
use Rattle.paper.specs.declared.Portion.{Portion}
use Rattle.paper.specs.declared.Portion.TheVariants.{Absent, Opaque, Aarq, Aare, Abrt, Audt}
use Rattle.paper.specs.Sizes.{depths}
use Rattle.paper.specs.Elements.{element, ends_at, is_element, frame_at, no_frame}
use Rattle.paper.specs.Components.{no_id, tag_at}
use Rattle.paper.specs.Portions.{Piece, Form, structured, unstructured, forms, tagged, only, stands_at, value_in, goes_to, with_diagnostic, name_in, result_in, diagnostic_in, piece, unread, all_pieces}
use Rattle.paper.specs.Portions.{external, pdu_of, ending, in_form, read_by, portion_of, run_from, from_start, portion_at}
use Rattle.paper.specs.Writing.{length_octets, tlv}
use Rattle.reading_portion.specs.Bounds.{PortionIn, portion-in, wider, from_in, portion-part-in}

-- the PDU of a form, by the octets of its object identifier and by its tag
unfoldable pub pdu_by : List ℕ → ℕ → List ℕ → Frame → Frame
pdu_by identifier tag l x =
    if_b (stands_at l x.to x.from identifier)
    (only l 13 tag (only l 14 0xA0 x.to (x.from + length identifier)).to (only l 14 0xA0 x.to (x.from + length identifier)).from)
    no_frame

pub pdu-by : (f : Form) (l : List ℕ) (x : Frame) → pdu_by (tlv 6 f.identifier) f.tag l x ≡ pdu_of f l x
unfolding pdu_by pdu_of
pdu-by f l x = refl

-- the octet at i, then those after it
pub stands_on : (l : List ℕ) (e q i : ℕ) (v : List ℕ) {r : Bool} → i < length v
    → r ≡ if_lt q e (if_eq (get_or l q 0) (get_or v i 0) (stands_at l e (q + 1) (drop (i + 1) v)) false) false → r ≡ stands_at l e q (drop i v)
unfolding stands_at
stands_on l e q i v {r} h p = p ∙ rw (add-one i, drop-cons v i 0 h)

pub stands-over : (l : List ℕ) (e q i : ℕ) (v : List ℕ) → length v ≤ i → true ≡ stands_at l e q (drop i v)
unfolding stands_at
stands-over l e q i v h = ap (stands_at l e q) (sym (drop_of_length-le v h))

same-octet : (a b : ℕ) (t : Bool) → (nat_eq a b && t) ≡ if_eq b a t false
same-octet a b t =
    by-eq {r = if_eq b a t false} _ _ _ _ refl
    (λ q e. ap (λ (s : Bool). s && t) (eq-eqb a b (sym q)) ∙ sym e)
    (λ n e. ap (λ (s : Bool). s && t) (ne_eqb a b (λ q. n (sym q))) ∙ sym e)

-- octets at a place up to the end, as a prefix of what stands there
module _ (l : List ℕ) (e : ℕ) (inside : e ≤ length l) where
  prefix-from : (p : ℕ) (v : List ℕ) → p ≤ e → starts_with nat_eq (take (e - p) (drop p l)) v ≡ stands_at l e p v
  unfolding stands_at
  prefix-from p [] h = refl
  prefix-from p (x ∷ v) h = go (e - p) refl (prefix-from (p + 1) v)
    where
      go : (n : ℕ) → n ≡ e - p → (p + 1 ≤ e → starts_with nat_eq (take (e - (p + 1)) (drop (p + 1) l)) v ≡ stands_at l e (p + 1) v)
          → starts_with nat_eq (take n (drop p l)) (x ∷ v) ≡ stands_at l e p (x ∷ v)
      go zero q more = ge _ _ _ _ (omega arith) refl
      go (suc n) q more =
          let m : e - (p + 1) ≡ n = omega arith in
          let i : starts_with nat_eq (take n (drop (p + 1) l)) v ≡ stands_at l e (p + 1) v = rw m at (more (omega arith)) in
          rw (drop-cons l p 0 (omega arith), ← add-one p)
          (lt _ _ _ _ (omega arith) (same-octet x (get_or l p 0) _ ∙ ap (λ (t : Bool). if_eq (get_or l p 0) x t false) i))

  clamped : (p : ℕ) (v : List ℕ) → stands_at l e (min p e) v ≡ stands_at l e p v
  unfolding stands_at
  clamped p [] = refl
  clamped p (x ∷ v) =
      by-lt {r = if_lt p e true false} _ _ _ _ refl
      (λ h q. ap (λ (n : ℕ). stands_at l e n (x ∷ v)) (min-eq_left (omega arith)))
      (λ h q. let m : e ≤ min p e = omega arith in sym (ge _ _ _ _ m refl) ∙ ge _ _ _ _ h refl)

  pub prefix-stands : (p m : ℕ) (v : List ℕ) → m ≡ min p e → starts_with nat_eq (take (e - m) (drop m l)) v ≡ stands_at l e p v
  prefix-stands p m v q = prefix-from m v (omega arith) ∙ ap (λ (n : ℕ). stands_at l e n v) q ∙ clamped p v

-- an element and nothing after it
pub only-by : (l : List ℕ) (d tag e p : ℕ) (f : Frame) → f ≡ tagged l d tag e p → f.stop ≡ e → f ≡ only l d tag e p
unfolding only
only-by l d tag e p f q h = eq _ _ _ _ (ap (λ (f : Frame). f.stop) (sym q) ∙ h) q

pub only_none : (l : List ℕ) (d tag e p : ℕ) (f : Frame) → f ≡ tagged l d tag e p → (f.stop ≡ e → ⊥) → no_frame ≡ only l d tag e p
unfolding only
only_none l d tag e p f q h = ne _ _ _ _ (λ z. h (ap (λ (f : Frame). f.stop) q ∙ z)) refl

-- from a to b
pub no_run : (a b : ℕ) → b < a → ◌≡◌ {A = Run} (record { start = a; length = 0 }) (record { start = a; length = b - a })
no_run a b h = let z : 0 ≡ b - a = omega arith in ap (λ (n : ℕ). record { start = a; length = n }) z

-- the pieces, by the frame of each
module _ (l : List ℕ) (e : ℕ) (w : Pdu) (f : Frame) (r : Pdu) where
  pub name_by : f ≡ tagged l 12 0xA1 e w.at → r ≡ name_in l w f → r ≡ piece l e w Piece.Name
  unfolding piece
  name_by p q = q ∙ ap (name_in l w) p

  pub result_by : f ≡ tagged l 12 0xA2 e w.at → r ≡ result_in l w f → r ≡ piece l e w Piece.Result
  unfolding piece
  result_by p q = q ∙ ap (result_in l w) p

  pub diagnostic-by : f ≡ tagged l 12 0xA3 e w.at → r ≡ diagnostic_in l w f → r ≡ piece l e w Piece.Diagnostic
  unfolding piece
  diagnostic-by p q = q ∙ ap (diagnostic_in l w) p

-- a diagnostic: a holds the user's, b the provider's
module _ (l : List ℕ) (w : Pdu) (f a : Frame) (u : ℕ) (r : Pdu) (is : a ≡ only l 11 0xA1 f.to f.from) (value : u ≡ value_in l 2 a) where
  by-user : u ≡ value_in l 2 (only l 11 0xA1 f.to f.from)
  by-user = value ∙ ap (value_in l 2) is

  pub user-by : (u ≡ no_id → ⊥) → r ≡ with_diagnostic w (256 + u) f.stop → r ≡ diagnostic_in l w f
  unfolding diagnostic_in
  user-by some q = ne _ _ _ _ (λ z. some (by-user ∙ z)) (q ∙ ap (λ (v : ℕ). with_diagnostic w (256 + v) f.stop) by-user)

  module _ (none : u ≡ no_id) (b : Frame) (v : ℕ) (also : b ≡ only l 11 0xA2 f.to f.from) (other : v ≡ value_in l 2 b) where
    by-provider : v ≡ value_in l 2 (only l 11 0xA2 f.to f.from)
    by-provider = other ∙ ap (value_in l 2) also

    pub provider-by : (v ≡ no_id → ⊥) → r ≡ with_diagnostic w (512 + v) f.stop → r ≡ diagnostic_in l w f
    unfolding diagnostic_in
    provider-by some q =
        eq _ _ _ _ (sym by-user ∙ none)
        (ne _ _ _ _ (λ z. some (by-provider ∙ z)) (q ∙ ap (λ (v : ℕ). with_diagnostic w (512 + v) f.stop) by-provider))

    pub neither-by : v ≡ no_id → r ≡ goes_to w 0 → r ≡ diagnostic_in l w f
    unfolding diagnostic_in
    neither-by z q = eq _ _ _ _ (sym by-user ∙ none) (eq _ _ _ _ (sym by-provider ∙ z) q)

-- a PDU whose pieces are read
module _ (f : Form) (l : List ℕ) (pdu : Frame) (w : Pdu) (r : Portion) where
  pub in-form : w ≡ all_pieces l pdu.to (unread pdu.from) f.pieces → r ≡ ending f pdu.to w → r ≡ in_form f l pdu
  in-form p q = q ∙ ap (ending f pdu.to) p

  pub in-form-from : (u : Pdu) → u ≡ unread pdu.from → w ≡ all_pieces l pdu.to u f.pieces → r ≡ ending f pdu.to w → r ≡ in_form f l pdu
  in-form-from u o p q = in-form (p ∙ ap (λ (u : Pdu). all_pieces l pdu.to u f.pieces) o) q

-- one piece more is read
pub one_piece : (l : List ℕ) (e : ℕ) (k : Piece) (ks : List Piece) (w a r : Pdu) → a ≡ piece l e w k → r ≡ all_pieces l e a ks → r ≡ all_pieces l e w (k ∷ ks)
unfolding all_pieces
one_piece l e k ks w a r p q = q ∙ ap (λ (a : Pdu). all_pieces l e a ks) p

pub last-piece : (l : List ℕ) (e : ℕ) (k : Piece) (w r : Pdu) → r ≡ piece l e w k → r ≡ all_pieces l e w (k ∷ [])
unfolding all_pieces
last-piece l e k w r p = p

pub external-by : (l : List ℕ) (f r : Frame) → f ≡ frame_at l depths (length l) 0 → r ≡ only l 15 0x28 f.to f.from → r ≡ external l
unfolding external
external-by l f r p q = q ∙ ap (λ (f : Frame). only l 15 0x28 f.to f.from) p

-- the A0 holds the PDU
pub held_by : (l : List ℕ) (tag e p : ℕ) (a r : Frame) → a ≡ only l 14 0xA0 e p → r ≡ only l 13 tag a.to a.from
    → r ≡ only l 13 tag (only l 14 0xA0 e p).to (only l 14 0xA0 e p).from
held_by l tag e p a r q h = h ∙ ap (λ (a : Frame). only l 13 tag a.to a.from) q

-- the two object identifiers as they are coded
pub structured-octets : ◌≡◌ {A = List ℕ} (6 ∷ 7 ∷ 0 ∷ 0x11 ∷ 0x86 ∷ 5 ∷ 1 ∷ 1 ∷ 1 ∷ []) (tlv 6 structured)
unfolding tlv length_octets if_lt
structured-octets = refl

pub unstructured-octets : ◌≡◌ {A = List ℕ} (6 ∷ 7 ∷ 0 ∷ 0x11 ∷ 0x86 ∷ 5 ∷ 1 ∷ 2 ∷ 1 ∷ []) (tlv 6 unstructured)
unfolding tlv length_octets if_lt
unstructured-octets = refl

-- by form: this one, or one of the next
module _ (f : Form) (fs : List Form) (l : List ℕ) (x pdu : Frame) (r : Portion) (holds : x ≡ external l) (is : pdu ≡ pdu_by (tlv 6 f.identifier) f.tag l x) where
  its : pdu ≡ pdu_of f l (external l)
  its = is ∙ pdu-by f l x ∙ ap (pdu_of f l) holds

  pub form-found : (pdu.stop ≡ 0 → ⊥) → r ≡ in_form f l pdu → r ≡ read_by (f ∷ fs) l
  unfolding read_by
  form-found some q = ne _ _ _ _ (λ z. some (ap (λ (f : Frame). f.stop) its ∙ z)) (q ∙ ap (in_form f l) its)

  pub form-next : pdu.stop ≡ 0 → r ≡ read_by fs l → r ≡ read_by (f ∷ fs) l
  unfolding read_by
  form-next z q = eq _ _ _ _ (ap (λ (f : Frame). f.stop) (sym its) ∙ z) q

pub no-form : (l : List ℕ) → Opaque ≡ read_by [] l
unfolding read_by
no-form l = refl

-- THE PORTION, by its first octet and by its reading
first-tag : (l : List ℕ) → tag_at l (length l) 0 ≡ get_or l 0 0
unfolding tag_at
first-tag [] = sym (ge _ _ _ _ (omega arith) refl)
first-tag (x ∷ l) = sym (lt _ _ _ _ (omega arith) refl)

module _ (l : List ℕ) (t : ℕ) (tag : t ≡ tag_at l (length l) 0) where
  pub absent_by : (t ≡ 0x6B → ⊥) → Absent ≡ portion_of l
  unfolding portion_of
  absent_by h = ne _ _ _ _ (λ z. h (tag ∙ first-tag l ∙ z)) refl

  module _ (is : t ≡ 0x6B) where
    portion-by : (x : Reading) (r : Portion) → x ≡ element l depths (length l) 0 → r ≡ if_b (ends_at (length l) x) (read_by forms l) Absent
        → (r ≡ portion_of l) × PortionIn (length l) r
    unfolding portion_of is_element
    portion-by x r q p =
        let e : r ≡ portion_of l =
        eq _ _ _ _ (sym (first-tag l) ∙ sym tag ∙ is) (p ∙ ap (λ (x : Reading). if_b (ends_at (length l) x) (read_by forms l) Absent) q) in
        (e, portion-in l r e)

    pub fault-by : (f : ℕ) → Err f ≡ element l depths (length l) 0 → (Absent ≡ portion_of l) × PortionIn (length l) Absent
    fault-by f q = portion-by (Err f) Absent q (no _ _ _ refl refl)

    pub short-by : (e : ℕ) → Ok e ≡ element l depths (length l) 0 → (e ≡ length l → ⊥) → (Absent ≡ portion_of l) × PortionIn (length l) Absent
    short-by e q h = portion-by (Ok e) Absent q (no _ _ _ (ne_eqb e (length l) h) refl)

    pub whole_by : (e : ℕ) (r : Portion) → Ok e ≡ element l depths (length l) 0 → e ≡ length l → r ≡ read_by forms l → (r ≡ portion_of l) × PortionIn (length l) r
    whole_by e r q h p = portion-by (Ok e) r q (yes _ _ _ (eq-eqb e (length l) h) p)

-- IN A MESSAGE: each kind, its runs counted from k
module _ (k : ℕ) (p : Portion) (n i a b : Run) (first : a ≡ run_from k n) (second : b ≡ run_from k i) where
  pub request-from : p ≡ Aarq n i → Aarq a b ≡ from_start k p
  request-from q = ap (λ (a : Run). Aarq a b) first ∙ ap (Aarq (run_from k n)) second ∙ ap (from_start k) (sym q)

  pub response-from : (r d : ℕ) → p ≡ Aare n i r d → Aare a b r d ≡ from_start k p
  response-from r d q = ap (λ (a : Run). Aare a b r d) first ∙ ap (λ (b : Run). Aare (run_from k n) b r d) second ∙ ap (from_start k) (sym q)

  pub unidirectional-from : p ≡ Audt n i → Audt a b ≡ from_start k p
  unidirectional-from q = ap (λ (a : Run). Audt a b) first ∙ ap (Audt (run_from k n)) second ∙ ap (from_start k) (sym q)

pub abort-from : (k : ℕ) (p : Portion) (s : ℕ) (i b : Run) → b ≡ run_from k i → p ≡ Abrt s i → Abrt s b ≡ from_start k p
abort-from k p s i b h q = ap (Abrt s) h ∙ ap (from_start k) (sym q)

pub portion-at-by : (s : List ℕ) (start len : ℕ) (p r : Portion) → start + len ≤ length s → start + len ≤ 0xFFFFFFFF
    → p ≡ portion_of (take (start + len - start) (drop start s)) → r ≡ from_start start p
    → (r ≡ portion_at s start len) × (PortionIn (length s) r × PortionIn 0xFFFFFFFF r)
unfolding portion_at
portion-at-by s start len p r h g q z =
    let n : start + len - start ≡ len = omega arith in
    let is : p ≡ portion_of (take len (drop start s)) = q ∙ ap (λ (n : ℕ). portion_of (take n (drop start s))) n in
    let w = from_in start len p r (portion-part-in s start len p (omega arith) is) z in
    (ge _ _ _ _ h (ge _ _ _ _ g (z ∙ ap (from_start start) is)), (wider (start + len) (length s) r h w, wider (start + len) 0xFFFFFFFF r g w))
