-- Elements that were written one in another, up to one end. Assumes nothing.
use Rattle.std.proofs.Common.{arith, sym, ◌∙◌, ap, subst, length-append}
use Rattle.std.specs.Prelude.{ℕ, ◌+◌, ◌-◌, ◌≡◌, length, get_or}
use Rattle.std.proofs.Math.Path.{refl}
use mathlib.Core.List.{List, [], ◌∷◌, ◌++◌}
use Rattle.laws.specs.If.{lt, ge, eq, ne, either-eq}
use Rattle.std.specs.Prelude.{Ok}
use Rattle.paper.specs.declared.Head.TheVariants.{Whole}
use Rattle.paper.specs.declared.Frame.{Frame}
use Rattle.paper.specs.Elements.{constructor, element, frame_at, no_frame}
use Rattle.paper.specs.Components.{tag_at}
use Rattle.paper.specs.Writing.{tlv}
use Rattle.paper.specs.Portions.{tagged, only}
use Rattle.reading_elements.specs.Steps.{by-head}
use Rattle.writing_octets.specs.Lengths.{element-length}
use Rattle.demand_readback.specs.Standing.{ShortTag, Parts as Elements, done, more, begins, ends, Stands}
use Rattle.demand_readback.proofs.Standing.{has_first, has_rest, has-head, has-as, octet-back, given_back, contents-back, whole-head, holds-back, frame_back}
use Rattle.demand_readback.specs.Upto.{Upto, around}

module _ {l : List ℕ} {e at : ℕ} where
  pub upto_rest : (xs ys : List ℕ) → Upto l e at (xs ++ ys) → Upto l e (at + length xs) ys
  upto_rest xs ys u = record {
    has = has_rest xs ys u.has;
    whole = omega (arith, u.whole, length-append xs ys);
    inside = u.inside;
    few = u.few;
  }

  -- the tag there
  pub upto-tag : (vs : List ℕ) → Upto l e at vs → get_or vs 0 0 ≡ tag_at l e at
  unfolding tag_at
  upto-tag [] u = ge _ _ _ _ (omega (arith, u.whole)) refl
  upto-tag (v ∷ vs) u = lt _ _ _ _ (omega (arith, u.whole)) (sym (has-head u.has))

  -- a written element, with others after it
  pub upto-stands : (t : ℕ) (c rest : List ℕ) → Upto l e at (tlv t c ++ rest) → ShortTag t → Stands l e at t c
  upto-stands t c rest u short =
      let n = element-length t c in
      let m = length-append (tlv t c) rest in
      record { has = has_first (tlv t c) rest u.has; short = short; fits = omega (arith, u.whole, u.inside, u.few); room = omega (arith, u.whole) }

-- a written primitive
pub whole_back : {s : List ℕ} {lim at t : ℕ} {c : List ℕ} → Stands s lim at t c → constructor t ≡ 0 → (d : ℕ) → (d ≡ 0 → ⊥) → Ok (ends at (length c)) ≡ element s d lim at
whole_back {s} {lim} {at} {t} {c} w prim d deep =
    by-head s d lim at (Whole (ends at (length c))) deep
    (whole-head s lim at t (begins at (length c)) (length c) w.short (octet-back w) (omega (arith, w.room)) (given_back w) w.room prim)

module _ {s : List ℕ} {lim at t : ℕ} {c : List ℕ} (w : Stands s lim at t c) where
  tag_back : t ≡ tag_at s lim at
  unfolding tag_at
  tag_back = lt _ _ _ _ (omega (arith, w.room)) (sym (octet-back w))

  pub tagged-back : constructor t ≡ 1 → (d : ℕ) → around (begins at (length c)) (ends at (length c)) ≡ tagged s d t lim at
  unfolding tagged
  tagged-back cons d = eq _ _ _ _ (sym tag_back) (frame_back w cons d)

  -- none of another tag
  pub tagged-other : (d x : ℕ) → (t ≡ x → ⊥) → no_frame ≡ tagged s d x lim at
  unfolding tagged
  tagged-other d x h = ne _ _ _ _ (λ z. h (tag_back ∙ z)) refl

  pub only-other : (d x : ℕ) → (t ≡ x → ⊥) → no_frame ≡ only s d x lim at
  unfolding only
  only-other d x h = let z = tagged-other d x h in either-eq _ _ _ _ z refl

  pub only-back : constructor t ≡ 1 → (d : ℕ) → ends at (length c) ≡ lim → around (begins at (length c)) lim ≡ only s d t lim at
  unfolding only
  only-back cons d last =
      let z = tagged-back cons d in
      eq _ _ _ _ (sym (ap (λ (f : Frame). f.stop) z) ∙ last) (ap (around (begins at (length c))) (sym last) ∙ z)

  -- as an element, before others; where it holds elements, and where it is a primitive
  pub holds_more : constructor t ≡ 1 → (d : ℕ) → (d ≡ 0 → ⊥) → Elements s (d - 1) (ends at (length c)) (begins at (length c)) → Elements s d lim (at + length (tlv t c)) → Elements s d lim at
  holds_more cons d deep parts rest =
      let z : at + length (tlv t c) ≡ ends at (length c) = omega (arith, element-length t c) in
      more (holds-back w cons d deep parts) (subst (Elements s d lim) z rest)

  pub whole-more : constructor t ≡ 0 → (d : ℕ) → (d ≡ 0 → ⊥) → Elements s d lim (at + length (tlv t c)) → Elements s d lim at
  whole-more prim d deep rest =
      let z : at + length (tlv t c) ≡ ends at (length c) = omega (arith, element-length t c) in
      more (whole_back w prim d deep) (subst (Elements s d lim) z rest)

  -- the element in one
  pub inner-stands : (u : ℕ) (k : List ℕ) → c ≡ tlv u k → ShortTag u → Stands s (ends at (length c)) (begins at (length c)) u k
  inner-stands u k is short =
      let n = ap length is ∙ element-length u k in
      record { has = has-as (contents-back w) is; short = short; fits = omega (arith, w.fits); room = omega arith }

-- ONE ELEMENT UP TO e: its frame, and what it holds
module _ {l : List ℕ} {e at : ℕ} (t : ℕ) (c : List ℕ) (u : Upto l e at (tlv t c)) (short : ShortTag t) where
  pub one-ends : ends at (length c) ≡ e
  one-ends = omega (arith, u.whole, element-length t c)

  pub one-stands : Stands l e at t c
  one-stands = record { has = u.has; short = short; fits = omega (arith, one-ends, u.inside, u.few); room = omega (arith, one-ends) }

  pub one-inner : Upto l e (begins at (length c)) c
  one-inner = record { has = contents-back one-stands; whole = one-ends; inside = u.inside; few = u.few }

  module _ (cons : constructor t ≡ 1) where
    pub one-frame : (d : ℕ) → around (begins at (length c)) e ≡ frame_at l d e at
    one-frame d = ap (around (begins at (length c))) (sym one-ends) ∙ frame_back one-stands cons d

    pub one_only : (d : ℕ) → around (begins at (length c)) e ≡ only l d t e at
    one_only d = only-back one-stands cons d one-ends

    pub one-parts : (d : ℕ) → (d ≡ 0 → ⊥) → Elements l (d - 1) e (begins at (length c)) → Elements l d e at
    one-parts d deep parts =
        holds_more one-stands cons d deep (subst (λ (x : ℕ). Elements l (d - 1) x (begins at (length c))) (sym one-ends) parts) (done u.whole)
