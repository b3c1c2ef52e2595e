-- THE ELEMENTS AROUND A DIALOGUE PDU (02 a), read where they were written. Assumes nothing.
use Rattle.std.proofs.Common.{arith, add-zero, zero-add, ◌∙◌, subst}
use Rattle.std.specs.Prelude.{ℕ, zero, suc, ◌+◌, ◌<◌, ◌≤◌, ◌≡◌, true, false, List, [], ◌∷◌, get_or}
use Rattle.std.proofs.Math.Path.{refl, sym, ap}
use Rattle.std.proofs.Math.ListN.{length, length-append}
use borrow.Author.Tests.{eq-eqb}
use Rattle.laws.specs.If.{lt, eq, ne, yes, no, either_lt, either-eq}
use Rattle.std.specs.Prelude.{Ok}
use Rattle.paper.specs.declared.Frame.{Frame}
use Rattle.paper.specs.Sizes.{depths}
use Rattle.paper.specs.Elements.{element, no_frame, ends_at, is_element}
use Rattle.paper.specs.Writing.{tlv}
use Rattle.paper.specs.Portions.{Form, only, stands_at, external, pdu_of}
use Rattle.demand_readback.specs.Standing.{Has, ShortTag, Parts as Elements, begins, ends, Stands}
use Rattle.demand_readback.proofs.Standing.{has_all, has-head, has-tail, has_first, octet-back, holds-back}
use Rattle.demand_readback.specs.Upto.{Upto, around}
use Rattle.demand_readback.proofs.Upto.{upto_rest, upto-stands, only-other, whole-more, one-ends, one-stands, one-inner, one-frame, one_only, one-parts}
use Rattle.demand_readback.specs.Shells.{core, Holding}

-- octets that stand somewhere, and others than stand there
pub stands-yes : {l : List ℕ} {p : ℕ} (e : ℕ) (vs : List ℕ) → Has l p vs → p + length vs ≤ e → true ≡ stands_at l e p vs
unfolding stands_at
stands-yes e [] has room = refl
stands-yes {l} {p} e (v ∷ vs) has room = lt _ _ _ _ (omega arith) (eq _ _ _ _ (has-head has) (stands-yes {p = p + 1} e vs (has-tail has) (omega arith)))

pub stands-no : (l : List ℕ) (e p : ℕ) (vs : List ℕ) (i : ℕ) → i < length vs → (get_or l (p + i) 0 ≡ get_or vs i 0 → ⊥) → false ≡ stands_at l e p vs
unfolding stands_at
stands-no l e p [] i h other = absurd (omega arith)
stands-no l e p (v ∷ vs) zero h other = either_lt _ _ _ _ (ne _ _ _ _ (λ z. other (ap (λ (k : ℕ). get_or l k 0) (add-zero p) ∙ z)) refl) refl
stands-no l e p (v ∷ vs) (suc i) h other =
    let k : p + 1 + i ≡ p + suc i = omega arith in
    either_lt _ _ _ _ (either-eq _ _ _ _ (stands-no l e (p + 1) vs i (omega arith) (λ z. other (ap (λ (k : ℕ). get_or l k 0) (sym k) ∙ z))) refl) refl

module _ {l : List ℕ} {e y : ℕ} (id : List ℕ) (tag : ℕ) (c : List ℕ) (u : Upto l e y (core id tag c)) where
  id-stands : Stands l e y 6 id
  id-stands = upto-stands 6 id (tlv 0xA0 (tlv tag c)) u ((λ z. omega arith), (λ z. omega arith))

  id-has : Has l y (tlv 6 id)
  id-has = has_first (tlv 6 id) (tlv 0xA0 (tlv tag c)) u.has

  held : Upto l e (y + length (tlv 6 id)) (tlv 0xA0 (tlv tag c))
  held = upto_rest (tlv 6 id) (tlv 0xA0 (tlv tag c)) u

  -- where the PDU is
  abbrev pub pdu_at : ℕ
  pdu_at = begins (y + length (tlv 6 id)) (length (tlv tag c))

  pub pdu : Upto l e pdu_at (tlv tag c)
  pdu = one-inner 0xA0 (tlv tag c) held ((λ z. omega arith), (λ z. omega arith))

  held-frame : around pdu_at e ≡ only l 14 0xA0 e (y + length (tlv 6 id))
  held-frame = one_only 0xA0 (tlv tag c) held ((λ z. omega arith), (λ z. omega arith)) refl 14

  -- it stands there as elements, where its contents do
  pub core-parts : Holding tag → Elements l 12 e (begins pdu_at (length c)) → Elements l 14 e y
  core-parts t parts =
      whole-more id-stands refl 14 (λ z. omega arith)
      (one-parts 0xA0 (tlv tag c) held ((λ z. omega arith), (λ z. omega arith)) refl 14 (λ z. omega arith)
      (one-parts tag c pdu t.0 t.1 13 (λ z. omega arith) parts))

  -- a form with another identifier doesn't fit
  pub form-other : (g : Form) (i : ℕ) → i < length (tlv 6 id) → i < length (tlv 6 g.identifier) → (get_or (tlv 6 id) i 0 ≡ get_or (tlv 6 g.identifier) i 0 → ⊥)
      → no_frame ≡ pdu_of g l (around y e)
  unfolding pdu_of
  form-other g i h k other = no _ _ _ (sym (stands-no l e y (tlv 6 g.identifier) i k (λ z. other (sym (id-has.octet i h) ∙ z)))) refl

-- nor one with the same identifier and another tag; its own does
module _ {l : List ℕ} {e y : ℕ} (g : Form) (tag : ℕ) (c : List ℕ) (u : Upto l e y (core g.identifier tag c)) (t : Holding tag) where
  by-tag : {f : Frame} → f ≡ only l 13 g.tag e (pdu_at g.identifier tag c u) → f ≡ pdu_of g l (around y e)
  unfolding pdu_of
  by-tag is =
      yes _ _ _
      (sym (stands-yes e (tlv 6 g.identifier) (id-has g.identifier tag c u)
      (omega (arith, u.whole, length-append (tlv 6 g.identifier) (tlv 0xA0 (tlv tag c))))))
      (is ∙ ap (λ (f : Frame). only l 13 g.tag f.to f.from) (held-frame g.identifier tag c u))

  pub form-tag : (tag ≡ g.tag → ⊥) → no_frame ≡ pdu_of g l (around y e)
  form-tag other = by-tag (only-other (one-stands tag c (pdu g.identifier tag c u) t.0) 13 g.tag other)

  pub form-own : tag ≡ g.tag → around (begins (pdu_at g.identifier tag c u) (length c)) e ≡ pdu_of g l (around y e)
  form-own own =
      by-tag (one_only tag c (pdu g.identifier tag c u) t.0 t.1 13 ∙ ap (λ (k : ℕ). only l 13 k e (pdu_at g.identifier tag c u)) own)

-- THE PORTION around them
module _ (c : List ℕ) (few : length (tlv 0x6B (tlv 0x28 c)) < 65536) where
  abbrev pub octets : List ℕ
  octets = tlv 0x6B (tlv 0x28 c)

  all : Upto octets (length octets) 0 octets
  all = record { has = has_all octets; whole = zero-add (length octets); inside = omega arith; few = few }

  middle : Upto octets (length octets) (begins 0 (length (tlv 0x28 c))) (tlv 0x28 c)
  middle = one-inner 0x6B (tlv 0x28 c) all ((λ z. omega arith), (λ z. omega arith))

  abbrev pub core_at : ℕ
  core_at = begins (begins 0 (length (tlv 0x28 c))) (length c)

  pub inmost : Upto octets (length octets) core_at c
  inmost = one-inner 0x28 c middle ((λ z. omega arith), (λ z. omega arith))

  pub external-back : around core_at (length octets) ≡ external octets
  unfolding external
  external-back =
      one_only 0x28 c middle ((λ z. omega arith), (λ z. omega arith)) refl 15
      ∙ ap (λ (f : Frame). only octets 15 0x28 f.to f.from) (one-frame 0x6B (tlv 0x28 c) all ((λ z. omega arith), (λ z. omega arith)) refl depths)

  pub octets-first : get_or octets 0 0 ≡ 0x6B
  octets-first = octet-back (one-stands 0x6B (tlv 0x28 c) all ((λ z. omega arith), (λ z. omega arith)))

  pub octets-formed : Elements octets 14 (length octets) core_at → is_element depths octets ≡ true
  unfolding is_element
  octets-formed parts =
      let short : ShortTag 0x6B = ((λ z. omega arith), (λ z. omega arith)) in
      let last : ends 0 (length (tlv 0x28 c)) ≡ length octets = one-ends 0x6B (tlv 0x28 c) all short in
      let in-it : Elements octets 15 (length octets) (begins 0 (length (tlv 0x28 c))) =
      one-parts 0x28 c middle ((λ z. omega arith), (λ z. omega arith)) refl 15 (λ z. omega arith) parts in
      let is : Ok (ends 0 (length (tlv 0x28 c))) ≡ element octets depths (length octets) 0 =
      holds-back (one-stands 0x6B (tlv 0x28 c) all short) refl depths (λ z. omega arith)
      (subst (λ (x : ℕ). Elements octets 15 x (begins 0 (length (tlv 0x28 c)))) (sym last) in-it) in
      sym (ap (ends_at (length octets)) is) ∙ eq-eqb (ends 0 (length (tlv 0x28 c))) (length octets) last
