-- A DIALOGUE PDU'S PIECES (02 a), read where they were written. Assumes nothing.
use native.Mathlib.Omega.{arith}
use Rattle.std.proofs.Common.{add-zero, ◌∙◌, subst, ⊎_elim}
use Prim.Native.Nat.{ℕ, ◌+◌, ◌-◌, ◌/◌, ◌%◌, ◌≤◌}
use Rattle.std.specs.Prelude.{◌≡◌, true, drop}
use Rattle.std.proofs.Math.Path.{refl, sym, ap}
use mathlib.Core.List.{List, [], ◌∷◌, ◌++◌}
use Rattle.std.proofs.Math.ListN.{length, get_or, take, length-append, get_or-append}
use Rattle.laws.specs.Lists.{length_none}
use Rattle.laws.specs.If.{if_eq, lt, ge, eq, ne, by-eq, was-eq, true-false}
use Rattle.paper.specs.declared.Pdu.{Pdu}
use Rattle.paper.specs.Elements.{constructor, frame_at, no_frame, is_element}
use Rattle.paper.specs.Components.{no_id, single, tag_at}
use Rattle.paper.specs.Dialogues.{is_name, is_block, is_information}
use Rattle.paper.specs.Writing.{tlv}
use Rattle.paper.specs.Portions.{Parts, Piece, piece_octets, pieces_octets, tagged, only, value_in, with_name, with_information, with_result, with_diagnostic, with_source, name_in, result_in, diagnostic_in, piece, all_pieces}
use Rattle.writing_octets.specs.Lengths.{element-length}
use Rattle.demand_readback.specs.Standing.{Has, ShortTag, Parts as Elements, done, more, begins, ends, Stands}
use Rattle.demand_readback.proofs.Standing.{has_first, contents-back}
use Rattle.demand_readback.specs.Given.{Code}
use Rattle.demand_readback.proofs.GivenLaws.{code-told, code-copied, code-element, element-copied, ends-frame}
use Rattle.demand_readback.proofs.Pieces.{single-back, single-element}
use Rattle.demand_readback.proofs.Reading.{has-octets}
use Rattle.demand_readback.specs.Upto.{Upto, around}
use Rattle.demand_readback.proofs.Upto.{upto_rest, upto-tag, upto-stands, tagged-back, only-other, only-back, holds_more, inner-stands}
use Rattle.demand_readback.specs.Pdus.{seen, informed, taking, Formed, Told, Took, AllFormed, AllTold, taking_all}

-- no octets
-- WHAT IS GIVEN: a name and information that are some
pub name-told : (l : List ℕ) → is_name l ≡ true → (length l ≡ 0 → ⊥) → (get_or l 0 0 ≡ 6) × Code l
unfolding is_name
name-told l h some =
    by-eq _ _ _ _ (sym h) (λ z _. absurd (some z)) (λ z e. let w = was-eq _ _ _ _ e true-false in (w.0, code-told l (sym w.1)))

pub block-told : (l : List ℕ) → is_block l ≡ true → (get_or l 0 0 ≡ 0xBE) × (is_element 12 l ≡ true)
unfolding is_block
block-told l h = let w = was-eq _ _ _ _ (sym h) true-false in (w.0, sym w.1)

pub information-told : (l : List ℕ) → is_information l ≡ true → (length l ≡ 0 → ⊥) → (get_or l 0 0 ≡ 0xBE) × (is_element 12 l ≡ true)
unfolding is_information
information-told l h some = by-eq _ _ _ _ (sym h) (λ z _. absurd (some z)) (λ z e. block-told l (sym e))

-- `02 01` with a value, in a frame
module _ {l : List ℕ} {b v : ℕ} (has : Has l b (2 ∷ 1 ∷ v ∷ [])) (e : ℕ) (whole : b + 3 ≡ e) where
  pub value-back : (most : ℕ) → v ≤ most → v ≡ value_in l most (around b e)
  unfolding value_in
  value-back most h =
      let z = single-back has e (omega arith) in
      eq _ _ _ _ (sym whole) (ge _ _ _ _ (omega arith) z)

  pub value-parts : (d : ℕ) → (d ≡ 0 → ⊥) → Elements l d e b
  value-parts d deep = more (single-element has e (omega arith) d deep ((λ z. omega arith), (λ z. omega arith)) refl) (done whole)

pub no_value : (l : List ℕ) (most : ℕ) → no_id ≡ value_in l most no_frame
unfolding value_in
no_value l most = ne _ _ _ _ (λ z. omega arith) refl

-- it alone in an element
module _ {l : List ℕ} {e at u : ℕ} {c : List ℕ} (s : Stands l e at u c) (t v : ℕ) (is : c ≡ tlv t (2 ∷ 1 ∷ v ∷ [])) (short : ShortTag t) where
  value-stands : Stands l (ends at (length c)) (begins at (length c)) t (2 ∷ 1 ∷ v ∷ [])
  value-stands = inner-stands s t (2 ∷ 1 ∷ v ∷ []) is short

  value-ends : ends (begins at (length c)) 3 ≡ ends at (length c)
  value-ends = omega (arith, ap length is, element-length t (2 ∷ 1 ∷ v ∷ []))

  pub value-inside : constructor t ≡ 1 → Elements l 11 (ends at (length c)) (begins at (length c))
  value-inside cons = holds_more value-stands cons 11 (λ z. omega arith) (value-parts (contents-back value-stands) (ends (begins at (length c)) 3) refl 10 (λ z. omega arith))
      (done (omega (arith, value-ends, element-length t (2 ∷ 1 ∷ v ∷ []))))

  pub in-value : v ≤ 2 → constructor t ≡ 1 → v ≡ value_in l 2 (only l 11 t (ends at (length c)) (begins at (length c)))
  in-value small cons =
      value-back (contents-back value-stands) (ends at (length c)) value-ends 2 small ∙ ap (value_in l 2) (only-back value-stands cons 11 value-ends)

  pub not-value : (y : ℕ) → (t ≡ y → ⊥) → no_id ≡ value_in l 2 (only l 11 y (ends at (length c)) (begins at (length c)))
  not-value y other = no_value l 2 ∙ ap (value_in l 2) (only-other value-stands 11 y other)

took-as : {l : List ℕ} {e : ℕ} {w : Pdu} {k : Piece} {p : Parts} (v : Pdu) → v ≡ piece l e w k → w.at + length (piece_octets k p) ≡ v.at → taking k p (seen l w) ≡ seen l v
    → Took l e w k p
took-as {l} v is at said = record { at = at ∙ ap (λ (v : Pdu). v.at) is; said = said ∙ ap (seen l) is }

module _ {l : List ℕ} {e : ℕ} {w : Pdu} {p : Parts} (rest : List ℕ) where
  took-version : Upto l e w.at rest → Told Piece.Version p rest → Took l e w Piece.Version p
  unfolding piece piece_octets taking
  took-version u other =
      let t = upto-tag rest u in
      took-as w (ne _ _ _ _ (λ z. other (t ∙ z)) refl) (add-zero w.at) refl

  -- the A1 holds the name
  took-name : Upto l e w.at (tlv 0xA1 p.name ++ rest) → is_name p.name ≡ true → (length p.name ≡ 0 → ⊥) → Took l e w Piece.Name p
  unfolding piece piece_octets taking name_in tag_at
  took-name u is some =
      let name : List ℕ = p.name in
      let n : ℕ = length name in
      let s : Stands l e w.at 0xA1 name = upto-stands 0xA1 name rest u ((λ z. omega arith), (λ z. omega arith)) in
      let b : ℕ = begins w.at n in
      let x : ℕ = ends w.at n in
      let f : around b x ≡ tagged l 12 0xA1 e w.at = tagged-back s refl 12 in
      let c = name-told name is some in
      let has : Has l b name = contents-back s in
      let first : get_or l b 0 ≡ 6 = ap (λ (k : ℕ). get_or l k 0) (sym (add-zero b)) ∙ has.octet 0 (omega arith) ∙ c.0 in
      let long : n ≡ x - b = omega arith in
      let full : tlv 0xA1 name ≡ if_eq n 0 [] (tlv 0xA1 name) = ne n 0 [] (tlv 0xA1 name) some refl in
      took-as (with_name w (record { start = b; length = x - b }) x)
      (eq _ _ _ _ (sym (lt b x (get_or l b 0) 0 (omega arith) (sym first))) (eq _ _ _ _ (sym (code-copied has x (omega arith) c.1)) refl)
      ∙ ap (name_in l w) f)
      (omega (arith, ap length full, element-length 0xA1 name))
      (ap (λ (o : List ℕ). taking Piece.Name (record { name = o; information = []; result = 0; diagnostic = 0; source = 0 }) (seen l w))
      (sym (has-octets has (omega (arith, s.room, u.inside))) ∙ ap (λ (k : ℕ). take k (drop b l)) long))

  took-result : Upto l e w.at (piece_octets Piece.Result p ++ rest) → p.result ≤ 1 → Took l e w Piece.Result p
  unfolding piece piece_octets taking result_in
  took-result u small =
      let v : ℕ = p.result in
      let c : List ℕ = 2 ∷ 1 ∷ v ∷ [] in
      let s : Stands l e w.at 0xA2 c = upto-stands 0xA2 c rest u ((λ z. omega arith), (λ z. omega arith)) in
      let b : ℕ = begins w.at 3 in
      let x : ℕ = ends w.at 3 in
      let f : around b x ≡ tagged l 12 0xA2 e w.at = tagged-back s refl 12 in
      let is : v ≡ value_in l 1 (around b x) = value-back (contents-back s) x refl 1 small in
      took-as (with_result w v x)
      (ne _ _ _ _ (λ z. omega arith) (ap (λ (v : ℕ). with_result w v x) is) ∙ ap (result_in l w) f)
      (omega (arith, element-length 0xA2 c)) refl

  took-source : Upto l e w.at (piece_octets Piece.Source p ++ rest) → p.source ≤ 1 → Took l e w Piece.Source p
  unfolding piece piece_octets taking
  took-source u small =
      let is : p.source ≡ single l 0x80 e w.at = single-back u.has e (omega (arith, u.whole)) in
      took-as (with_source w p.source (w.at + 3)) (ge _ _ _ _ (omega arith) (ap (λ (v : ℕ). with_source w v (w.at + 3)) is)) refl refl

  -- the A3 holds A1 or A2
  took-diagnostic : Upto l e w.at (piece_octets Piece.Diagnostic p ++ rest) → Formed Piece.Diagnostic p → p.diagnostic % 256 ≤ 2 → Took l e w Piece.Diagnostic p
  unfolding piece piece_octets taking diagnostic_in
  took-diagnostic u is small =
      let v : ℕ = p.diagnostic % 256 in
      let c : List ℕ = tlv (0xA0 + p.diagnostic / 256) (2 ∷ 1 ∷ v ∷ []) in
      let s : Stands l e w.at 0xA3 c = upto-stands 0xA3 c rest u ((λ z. omega arith), (λ z. omega arith)) in
      let b : ℕ = begins w.at (length c) in
      let x : ℕ = ends w.at (length c) in
      let f : around b x ≡ tagged l 12 0xA3 e w.at = tagged-back s refl 12 in
      let named : (t : ℕ) → 0xA0 + p.diagnostic / 256 ≡ t → c ≡ tlv t (2 ∷ 1 ∷ v ∷ []) = λ t z. ap (λ (t : ℕ). tlv t (2 ∷ 1 ∷ v ∷ [])) z in
      took-as (with_diagnostic w p.diagnostic x)
      (⊎_elim
      (λ by.
      let i : v ≡ value_in l 2 (only l 11 0xA1 x b) = in-value s 0xA1 v (named 0xA1 (omega arith)) ((λ z. omega arith), (λ z. omega arith)) small refl in
      ne _ _ _ _ (λ z. omega arith) (ap (λ (d : ℕ). with_diagnostic w d x) (omega arith)))
      (λ by.
      let short : ShortTag 0xA2 = ((λ z. omega arith), (λ z. omega arith)) in
      let i : v ≡ value_in l 2 (only l 11 0xA2 x b) = in-value s 0xA2 v (named 0xA2 (omega arith)) short small refl in
      let n : no_id ≡ value_in l 2 (only l 11 0xA1 x b) = not-value s 0xA2 v (named 0xA2 (omega arith)) short 0xA1 (λ z. omega arith) in
      eq _ _ _ _ (sym n) (ne _ _ _ _ (λ z. omega arith) (ap (λ (d : ℕ). with_diagnostic w d x) (omega arith))))
      is
      ∙ ap (diagnostic_in l w) f)
      (omega (arith, element-length 0xA3 c)) refl

  -- information or none
  took-none : Upto l e w.at (p.information ++ rest) → length p.information ≡ 0 → (get_or rest 0 0 ≡ 0xBE → ⊥) → Took l e w Piece.Information p
  unfolding piece piece_octets taking
  took-none u none other =
      let t : get_or (p.information ++ rest) 0 0 ≡ tag_at l e w.at = upto-tag (p.information ++ rest) u in
      let r : get_or rest 0 0 ≡ get_or (p.information ++ rest) 0 0 = ap (λ (o : List ℕ). get_or (o ++ rest) 0 0) (length_none p.information none) in
      took-as w (ne _ _ _ _ (λ z. other (r ∙ t ∙ z)) refl) (omega arith) (sym (eq _ _ _ _ none refl))

  took-some : Upto l e w.at (p.information ++ rest) → is_information p.information ≡ true → (length p.information ≡ 0 → ⊥) → Took l e w Piece.Information p
  unfolding piece piece_octets taking
  took-some u is some =
      let info : List ℕ = p.information in
      let n : ℕ = length info in
      let at : ℕ = w.at in
      let told = information-told info is some in
      let has : Has l at info = has_first info rest u.has in
      let room : at + n ≤ e = omega (arith, u.whole, length-append info rest) in
      let stop : (frame_at l 12 e at).stop ≡ at + n = ends-frame l 12 e at (at + n) (element-copied has e room 12 told.1) in
      let tag : tag_at l e at ≡ 0xBE = sym (upto-tag (info ++ rest) u) ∙ get_or-append info rest 0 0 (omega arith) ∙ told.0 in
      let long : n ≡ at + n - at = omega arith in
      took-as (with_information w (record { start = at; length = at + n - at }) (at + n))
      (eq _ _ _ _ tag (ap (λ (k : ℕ). with_information w (record { start = at; length = k - at }) k) (sym stop)))
      refl
      (sym (ne n 0 (seen l w) (informed p (seen l w)) some refl)
      ∙ ap (λ (o : List ℕ). informed (record { name = []; information = o; result = 0; diagnostic = 0; source = 0 }) (seen l w))
      (sym (has-octets has (omega (arith, room, u.inside))) ∙ ap (λ (k : ℕ). take k (drop at l)) long))

-- ANY PIECE
pub piece-took : {l : List ℕ} {e : ℕ} {w : Pdu} {p : Parts} (k : Piece) (rest : List ℕ) → Upto l e w.at (piece_octets k p ++ rest) → Formed k p → Told k p rest → Took l e w k p
unfolding piece_octets
piece-took Piece.Version rest u is told = took-version rest u told
piece-took {l} {e} {w} {p} Piece.Name rest u is told =
    took-name rest (subst (λ (o : List ℕ). Upto l e w.at (o ++ rest)) (sym (ne (length p.name) 0 [] (tlv 0xA1 p.name) told refl)) u) is told
piece-took Piece.Result rest u is told = took-result rest u told
piece-took Piece.Diagnostic rest u is told = took-diagnostic rest u is told
piece-took Piece.Source rest u is told = took-source rest u told
piece-took {p = p} Piece.Information rest u is told =
    by-eq {A = ℕ} (length p.information) 0 0 0 refl (λ z _. took-none rest u z (told z)) (λ z _. took-some rest u is z)

-- AS ELEMENTS at depth 5
name-parts : {l : List ℕ} {e at : ℕ} (p : Parts) (rest : List ℕ) → Upto l e at (tlv 0xA1 p.name ++ rest) → is_name p.name ≡ true → (length p.name ≡ 0 → ⊥)
    → Elements l 12 e (at + length (tlv 0xA1 p.name)) → Elements l 12 e at
name-parts {l} {e} {at} p rest u is some after =
    let s : Stands l e at 0xA1 p.name = upto-stands 0xA1 p.name rest u ((λ z. omega arith), (λ z. omega arith)) in
    holds_more s refl 12 (λ z. omega arith)
    (more (code-element (contents-back s) (ends at (length p.name)) (omega arith) (name-told p.name is some).1 11 (λ z. omega arith)) (done refl))
    after

diagnostic-parts : {l : List ℕ} {e at : ℕ} (p : Parts) (rest : List ℕ) → Upto l e at (piece_octets Piece.Diagnostic p ++ rest) → Formed Piece.Diagnostic p
    → Elements l 12 e (at + length (piece_octets Piece.Diagnostic p)) → Elements l 12 e at
unfolding piece_octets
diagnostic-parts {l} {e} {at} p rest u is after =
    let v : ℕ = p.diagnostic % 256 in
    let c : List ℕ = tlv (0xA0 + p.diagnostic / 256) (2 ∷ 1 ∷ v ∷ []) in
    let s : Stands l e at 0xA3 c = upto-stands 0xA3 c rest u ((λ z. omega arith), (λ z. omega arith)) in
    let named : (t : ℕ) → 0xA0 + p.diagnostic / 256 ≡ t → c ≡ tlv t (2 ∷ 1 ∷ v ∷ []) = λ t z. ap (λ (t : ℕ). tlv t (2 ∷ 1 ∷ v ∷ [])) z in
    holds_more s refl 12 (λ z. omega arith)
    (⊎_elim (λ by. value-inside s 0xA1 v (named 0xA1 (omega arith)) ((λ z. omega arith), (λ z. omega arith)) refl)
    (λ by. value-inside s 0xA2 v (named 0xA2 (omega arith)) ((λ z. omega arith), (λ z. omega arith)) refl) is)
    after

pub piece-parts : {l : List ℕ} {e at : ℕ} (k : Piece) (p : Parts) (rest : List ℕ) → Upto l e at (piece_octets k p ++ rest) → Formed k p
    → Elements l 12 e (at + length (piece_octets k p)) → Elements l 12 e at
unfolding piece_octets
piece-parts {l} {e} {at} Piece.Version p rest u is after = subst (Elements l 12 e) (add-zero at) after
piece-parts {l} {e} {at} Piece.Name p rest u is after =
    by-eq {A = ℕ} (length p.name) 0 0 0 refl
    (λ z _. let none : [] ≡ piece_octets Piece.Name p = eq (length p.name) 0 [] (tlv 0xA1 p.name) z refl in
    subst (Elements l 12 e) (omega (arith, ap length none)) after)
    (λ z _. let full : piece_octets Piece.Name p ≡ tlv 0xA1 p.name = sym (ne (length p.name) 0 [] (tlv 0xA1 p.name) z refl) in
    name-parts p rest (subst (λ (o : List ℕ). Upto l e at (o ++ rest)) full u) is z (subst (λ (o : List ℕ). Elements l 12 e (at + length o)) full after))
piece-parts {l} {e} {at} Piece.Result p rest u is after =
    let c : List ℕ = 2 ∷ 1 ∷ p.result ∷ [] in
    let s : Stands l e at 0xA2 c = upto-stands 0xA2 c rest u ((λ z. omega arith), (λ z. omega arith)) in
    holds_more s refl 12 (λ z. omega arith) (value-parts (contents-back s) (ends at 3) refl 11 (λ z. omega arith)) after
piece-parts Piece.Diagnostic p rest u is after = diagnostic-parts p rest u is after
piece-parts Piece.Source p rest u is after =
    more (single-element u.has _ (omega (arith, u.whole)) 12 (λ z. omega arith) ((λ z. omega arith), (λ z. omega arith)) refl) after
piece-parts {l} {e} {at} Piece.Information p rest u is after =
    by-eq {A = ℕ} (length p.information) 0 0 0 refl
    (λ z _. subst (Elements l 12 e) (omega arith) after)
    (λ z _.
    let room : at + length p.information ≤ e = omega (arith, u.whole, length-append p.information rest) in
    more (element-copied (has_first p.information rest u.has) e room 12 (information-told p.information is z).1) after)

pub pieces-parts : {l : List ℕ} {e at : ℕ} (ks : List Piece) (p : Parts) → Upto l e at (pieces_octets ks p) → AllFormed ks p → Elements l 12 e at
unfolding pieces_octets
pieces-parts {l} {e} {at} [] p u is = let z : at ≡ e = omega (arith, u.whole) in done z
pieces-parts {l} {e} {at} (k ∷ ks) p u is =
    piece-parts k p (pieces_octets ks p) u is.0 (pieces-parts {at = at + length (piece_octets k p)} ks p (upto_rest (piece_octets k p) (pieces_octets ks p) u) is.1)

pub pieces-took : {l : List ℕ} {e : ℕ} (ks : List Piece) (p : Parts) (w : Pdu) → Upto l e w.at (pieces_octets ks p) → AllFormed ks p → AllTold ks p
    → ((all_pieces l e w ks).at ≡ e) × (taking_all ks p (seen l w) ≡ seen l (all_pieces l e w ks))
unfolding pieces_octets all_pieces taking_all
pieces-took [] p w u is told = (omega (arith, u.whole), refl)
pieces-took {l} {e} (k ∷ ks) p w u is told =
    let t : Took l e w k p = piece-took k (pieces_octets ks p) u is.0 told.0 in
    let v : Upto l e (piece l e w k).at (pieces_octets ks p) =
    subst (λ (at : ℕ). Upto l e at (pieces_octets ks p)) t.at (upto_rest (piece_octets k p) (pieces_octets ks p) u) in
    let r = pieces-took ks p (piece l e w k) v is.1 told.1 in
    (r.0, ap (taking_all ks p) t.said ∙ r.1)
