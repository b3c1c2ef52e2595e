-- WHERE THE RUNS OF A PORTION THAT IS READ LIE, and how large its kind is. Assumes nothing.
use Rattle.std.specs.Prelude.{◌≡◌, List, [], ◌∷◌, ℕ, ◌+◌, ◌-◌, ◌<◌, ◌≤◌, length, take, drop}
use Rattle.std.proofs.Math.Path.{refl, subst}
use Rattle.std.proofs.Common.{sym, ap, arith, length-take, length-drop, length-take-le}
use Rattle.std.proofs.Math.Nat.{min-le_left}
use Rattle.laws.specs.If.{by-lt, by-eq, by-b}
use Rattle.paper.specs.declared.Frame.{Frame}
use Rattle.paper.specs.declared.Run.{Run}
use Rattle.paper.specs.declared.Pdu.{Pdu}
use Rattle.paper.specs.declared.Portion.{Portion}
use Rattle.paper.specs.declared.Portion.TheVariants.{Absent, Opaque, Aarq, Aare, Abrt, Audt}
use Rattle.paper.specs.Sizes.{depths}
use Rattle.paper.specs.Elements.{frame_at, no_frame}
use Rattle.paper.specs.Components.{tag_at}
use Rattle.paper.specs.Portions.{Piece, Form, aarq, aare, abrt, audt, forms, tagged, only, goes_to, name_in, result_in, diagnostic_in, piece, unread, all_pieces, external, pdu_of, in_form, read_by, portion_of, portion_row, run_from, from_start}
use Rattle.paper.specs.Writing.{tlv}
use Rattle.reading_elements.specs.Bounds.{FrameIn, frame-in}

-- a run lies inside n octets
abbrev pub RunIn : ℕ → Run → Type 0
RunIn n r = r.start + r.length ≤ n

abbrev pub PortionIn : ℕ → Portion → Type 0
PortionIn n Absent = Unit
PortionIn n Opaque = Unit
PortionIn n (Aarq a i) = RunIn n a × RunIn n i
PortionIn n (Aare a i r d) = RunIn n a × RunIn n i
PortionIn n (Abrt s i) = RunIn n i
PortionIn n (Audt a i) = RunIn n a × RunIn n i

pub record PduIn (n : ℕ) (w : Pdu) : Type 0 where
  pub name : RunIn n w.name
  pub information : RunIn n w.information

-- frames
pub none_in : (p e : ℕ) (r : Frame) → r ≡ no_frame → FrameIn p e r
none_in p e r q = subst (FrameIn p e) (sym q) (record { ordered = omega arith; inside = omega arith; ends = omega arith; past = λ z. absurd (omega arith) })

pub tagged_in : (l : List ℕ) (d tag e p : ℕ) (r : Frame) → r ≡ tagged l d tag e p → FrameIn p e r
unfolding tagged
tagged_in l d tag e p r q = by-eq _ _ _ _ q (λ a q. frame-in l d e p r q) (λ a q. none_in p e r q)

pub only-in : (l : List ℕ) (d tag e p : ℕ) (r : Frame) → r ≡ only l d tag e p → FrameIn p e r
unfolding only
only-in l d tag e p r q = by-eq _ _ _ _ q (λ a q. tagged_in l d tag e p r q) (λ a q. none_in p e r q)

-- an octet that isn't 0 stands inside
tag_in : (l : List ℕ) (e p t : ℕ) → t ≡ tag_at l e p → 0 < t → p < e
unfolding tag_at
tag_in l e p t q h = by-lt _ _ _ _ q (λ a q. a) (λ a q. absurd (omega arith))

-- a piece leaves the runs inside
module _ (l : List ℕ) (e n : ℕ) (fits : e ≤ n) (w : Pdu) (i : PduIn n w) (r : Pdu) where
  -- one that changes no run
  kept : (at result diagnostic source : ℕ)
      → r ≡ record { at = at; name = w.name; information = w.information; result = result; diagnostic = diagnostic; source = source } → PduIn n r
  kept at result diagnostic source q = subst (PduIn n) (sym q) (record { name = i.name; information = i.information })

  same : r ≡ w → PduIn n r
  same q = subst (PduIn n) (sym q) i

  wrong : r ≡ goes_to w 0 → PduIn n r
  wrong q = kept _ _ _ _ q

  name-in : (f : Frame) → f.from ≤ f.to → f.to ≤ e → r ≡ name_in l w f → PduIn n r
  unfolding name_in
  name-in f h g q =
      by-eq _ _ _ _ q
      (λ a q. by-eq _ _ _ _ q (λ b q. subst (PduIn n) (sym q) (record { name = omega arith; information = i.information })) (λ b q. wrong q))
      (λ a q. wrong q)

  result-in : (f : Frame) → r ≡ result_in l w f → PduIn n r
  unfolding result_in
  result-in f q = by-eq _ _ _ _ q (λ a q. wrong q) (λ a q. kept _ _ _ _ q)

  diagnostic-in : (f : Frame) → r ≡ diagnostic_in l w f → PduIn n r
  unfolding diagnostic_in
  diagnostic-in f q = by-eq _ _ _ _ q (λ a q. by-eq _ _ _ _ q (λ b q. wrong q) (λ b q. kept _ _ _ _ q)) (λ a q. kept _ _ _ _ q)

  piece-in : (k : Piece) → r ≡ piece l e w k → PduIn n r
  unfolding piece
  piece-in Piece.Version q = by-eq _ _ _ _ q (λ a q. kept _ _ _ _ q) (λ a q. same q)
  piece-in Piece.Name q =
      let v = tagged_in l 12 0xA1 e w.at (tagged l 12 0xA1 e w.at) refl in
      name-in (tagged l 12 0xA1 e w.at) v.ordered (omega (arith, v.inside, v.ends)) q
  piece-in Piece.Result q = result-in (tagged l 12 0xA2 e w.at) q
  piece-in Piece.Diagnostic q = diagnostic-in (tagged l 12 0xA3 e w.at) q
  piece-in Piece.Source q = by-lt _ _ _ _ q (λ a q. wrong q) (λ a q. kept _ _ _ _ q)
  piece-in Piece.Information q =
      by-eq _ _ _ _ q
      (λ a q.
      let v = frame-in l 12 e w.at (frame_at l 12 e w.at) refl in
      let b = tag_in l e w.at 0xBE (sym a) (omega arith) in
      subst (PduIn n) (sym q) (record { name = i.name; information = omega (arith, v.ends) }))
      (λ a q. same q)

pieces-in : (l : List ℕ) (e n : ℕ) → e ≤ n → (ks : List Piece) (w : Pdu) → PduIn n w → PduIn n (all_pieces l e w ks)
unfolding all_pieces
pieces-in l e n fits [] w i = i
pieces-in l e n fits (k ∷ ks) w i = pieces-in l e n fits ks (piece l e w k) (piece-in l e n fits w i (piece l e w k) k refl)

-- what the 6B holds, and the PDU of a form in it
pub external-in : (l : List ℕ) (r : Frame) → r ≡ external l → (r.from ≤ r.to) × (r.to ≤ length l)
unfolding external
external-in l r q =
    let f : Frame = frame_at l depths (length l) 0 in
    let v = frame-in l depths (length l) 0 f refl in
    let w = only-in l 15 0x28 f.to f.from r q in
    (w.ordered, omega (arith, w.inside, w.ends, v.inside, v.ends))

pdu-in : (f : Form) (l : List ℕ) (x r : Frame) → r ≡ pdu_of f l x → x.to ≤ length l → r.to ≤ length l
unfolding pdu_of
pdu-in f l x r q h =
    by-b _ _ _ q
    (λ a q.
    let p : ℕ = x.from + length (tlv 6 f.identifier) in
    let y : Frame = only l 14 0xA0 x.to p in
    let v = only-in l 14 0xA0 x.to p y refl in
    let w = only-in l 13 f.tag y.to y.from r q in
    omega (arith, w.inside, w.ends, v.inside, v.ends))
    (λ a q. let z = ap (λ (f : Frame). f.to) q in omega arith)

-- a PDU's portion has its runs
abbrev Made : Form → Type 0
Made f = (n : ℕ) (w : Pdu) → PduIn n w → PortionIn n (f.made w)

form_in : (f : Form) → Made f → (l : List ℕ) (pdu : Frame) (r : Portion) → pdu.to ≤ length l → r ≡ in_form f l pdu → PortionIn (length l) r
form_in f made l pdu r h q =
    let w : Pdu = all_pieces l pdu.to (unread pdu.from) f.pieces in
    let i = pieces-in l pdu.to (length l) h f.pieces (unread pdu.from) (record { name = omega arith; information = omega arith }) in
    by-eq _ _ _ _ q (λ a q. subst (PortionIn (length l)) (sym q) (made (length l) w i)) (λ a q. subst (PortionIn (length l)) (sym q) tt)

-- by form
read-in : (l : List ℕ) (r : Portion) → r ≡ read_by forms l → PortionIn (length l) r
unfolding read_by
read-in l r q =
    by-eq _ _ _ _ q
    (λ a q. by-eq _ _ _ _ q
    (λ b q. by-eq _ _ _ _ q
    (λ c q. by-eq _ _ _ _ q (λ d q. subst (PortionIn (length l)) (sym q) tt)
    (λ d q. form_in audt (λ n w i. (i.name, i.information)) l (pdu_of audt l (external l)) r (held audt) q))
    (λ c q. form_in abrt (λ n w i. i.information) l (pdu_of abrt l (external l)) r (held abrt) q))
    (λ b q. form_in aare (λ n w i. (i.name, i.information)) l (pdu_of aare l (external l)) r (held aare) q))
    (λ a q. form_in aarq (λ n w i. (i.name, i.information)) l (pdu_of aarq l (external l)) r (held aarq) q)
  where
    held : (f : Form) → (pdu_of f l (external l)).to ≤ length l
    held f = pdu-in f l (external l) (pdu_of f l (external l)) refl (external-in l (external l) refl).1

pub portion-in : (l : List ℕ) (r : Portion) → r ≡ portion_of l → PortionIn (length l) r
unfolding portion_of
portion-in l r q =
    by-eq _ _ _ _ q (λ a q. by-b _ _ _ q (λ b q. read-in l r q) (λ b q. subst (PortionIn (length l)) (sym q) tt))
    (λ a q. subst (PortionIn (length l)) (sym q) tt)

-- inside more octets
pub wider : (m n : ℕ) (p : Portion) → m ≤ n → PortionIn m p → PortionIn n p
wider m n Absent h w = tt
wider m n Opaque h w = tt
wider m n (Aarq a i) h w = (omega arith, omega arith)
wider m n (Aare a i r d) h w = (omega arith, omega arith)
wider m n (Abrt s i) h w = omega arith
wider m n (Audt a i) h w = (omega arith, omega arith)

-- counted from the start of a message
run-from-in : (k n : ℕ) (r : Run) → RunIn n r → RunIn (k + n) (run_from k r)
run-from-in k n r h = go (run_from k r) refl
  where
    go : (q : Run) → q ≡ run_from k r → RunIn (k + n) q
    go q e =
        by-eq _ _ _ _ e (λ a e. subst (RunIn (k + n)) (sym e) (omega arith)) (λ a e. subst (RunIn (k + n)) (sym e) (omega arith))

up_in : (k n : ℕ) (p : Portion) → PortionIn n p → PortionIn (k + n) (from_start k p)
up_in k n Absent w = tt
up_in k n Opaque w = tt
up_in k n (Aarq a i) w = (run-from-in k n a w.0, run-from-in k n i w.1)
up_in k n (Aare a i r d) w = (run-from-in k n a w.0, run-from-in k n i w.1)
up_in k n (Abrt s i) w = run-from-in k n i w
up_in k n (Audt a i) w = (run-from-in k n a w.0, run-from-in k n i w.1)

pub from_in : (k n : ℕ) (p r : Portion) → PortionIn n p → r ≡ from_start k p → PortionIn (k + n) r
from_in k n p r w q = subst (PortionIn (k + n)) (sym q) (up_in k n p w)

-- of a part of a message
pub portion-part-in : (s : List ℕ) (start len : ℕ) (p : Portion) → len ≤ length s - start → p ≡ portion_of (take len (drop start s)) → PortionIn len p
portion-part-in s start len p h q =
    let d = length-drop start s in
    subst (λ (n : ℕ). PortionIn n p) (length-take-le len (drop start s) (omega arith)) (portion-in (take len (drop start s)) p q)

pub part-short : (s : List ℕ) (start end : ℕ) → start ≤ end → end ≤ 0xFFFFFFFF → length (take (end - start) (drop start s)) ≤ 0xFFFFFFFF - start
part-short s start end h g = let m = length-take (end - start) (drop start s) in let l = min-le_left (end - start) (length (drop start s)) in omega arith

-- THE KIND, whatever octets are read: one of none, opaque, AARQ, AARE, ABRT and AUDT
pub kind-small : (p : Portion) → (portion_row p).kind < 6
kind-small Absent = omega arith
kind-small Opaque = omega arith
kind-small (Aarq n i) = omega arith
kind-small (Aare n i r d) = omega arith
kind-small (Abrt s i) = omega arith
kind-small (Audt n i) = omega arith
