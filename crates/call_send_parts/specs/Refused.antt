-- WHAT A SENDING IS REFUSED BY: a Unidirectional by a component not of class 4, an abort by its dialogue portion. Assumes nothing.
use Rattle.std.specs.Prelude.{◌≡◌, Bool, true, false, ℕ, ◌<◌, ◌≤◌, eqb, get_or}
use Rattle.std.proofs.Math.Path.{refl, sym, ap}
use Rattle.std.proofs.Common.{◌∙◌, arith}
use mathlib.Core.List.{List, []}
use Rattle.std.proofs.Math.ListN.{length, get_or-eq_default}
use borrow.Author.Tests.{ne_eqb, eqb-true, eqb-false}
use Rattle.laws.specs.If.{lt, ge, eq, ne, yes, no, by-lt, was-eq, was-ge, was-yes, true-false}
use Rattle.laws.specs.Lists.{every}
use Rattle.paper.specs.declared.Component.{Component}
use Rattle.paper.specs.declared.Control.{Control}
use Rattle.paper.specs.Components.{components, waiting_items}
use Rattle.paper.specs.Portions.{Form, abrt, portion_by}
use Rattle.paper.specs.Dialogues.{Place, dialogue_open, is_portion, is_block, is_abort, abort_portion, abort_refusal, of_class4, uni_refusal}
use Rattle.writing_portions.specs.Forms.{form_for, form-4}
use Rattle.writing_portions.specs.Spans.{information-over}

-- ---- class 4
abbrev pub class4 : Control → Component → Bool
class4 c k = of_class4 c (record { start = 0; part = k })

-- wherever it starts
pub class4-at : (c : Control) (k : Component) (at : ℕ) → of_class4 c (record { start = at; part = k }) ≡ class4 c k
unfolding of_class4
class4-at c k at = refl

pub class4-sound : (c : Control) (k : Component) → class4 c k ≡ true → k.fault ≡ 3
unfolding of_class4
class4-sound c k e = (was-eq _ _ _ _ (sym e) true-false).0

-- ---- the number
module _ (x : Place) (c : Control) (e : c ≡ x.control) where
  pub uni-state : (c.state ≡ dialogue_open → ⊥) → 6 ≡ uni_refusal x
  unfolding uni_refusal
  uni-state n = ne _ _ _ _ (λ z. n (ap (λ (k : Control). k.state) e ∙ z)) refl

  module _ (h : c.state ≡ dialogue_open) (w : List ℕ) (a : w ≡ x.waiting) where
    is_open : x.control.state ≡ dialogue_open
    is_open = sym (ap (λ (k : Control). k.state) e) ∙ h

    pub uni-none : length w ≡ 0 → 6 ≡ uni_refusal x
    unfolding uni_refusal
    uni-none z = eq _ _ _ _ is_open (eq _ _ _ _ (sym (ap length a) ∙ z) refl)

    module _ (some : length w ≡ 0 → ⊥) (b : Bool) (d : b ≡ every (of_class4 c) (components w (length w) 0)) where
      all_are : b ≡ every (of_class4 x.control) (waiting_items x.waiting)
      unfolding waiting_items
      all_are =
          d ∙ ap (λ (k : Control). every (of_class4 k) (components w (length w) 0)) e
          ∙ ap (every (of_class4 x.control)) (ne _ _ _ _ some refl)
          ∙ ap (λ (v : List ℕ). every (of_class4 x.control) (waiting_items v)) a

      pub uni-may : b ≡ true → 0 ≡ uni_refusal x
      unfolding uni_refusal
      uni-may y = eq _ _ _ _ is_open (ne _ _ _ _ (λ z. some (ap length a ∙ z)) (yes _ _ _ (sym all_are ∙ y) refl))

      pub uni-no : b ≡ false → 6 ≡ uni_refusal x
      unfolding uni_refusal
      uni-no y = eq _ _ _ _ is_open (ne _ _ _ _ (λ z. some (ap length a ∙ z)) (no _ _ _ (sym all_are ∙ y) refl))

-- ---- a user abort's dialogue portion: user information begins with BE
unfoldable pub is_told : List ℕ → Bool
is_told l = eqb (get_or l 0 0) 0xBE

module _ (l : List ℕ) where
  pub told_none : length l ≡ 0 → false ≡ is_told l
  unfolding is_told
  told_none h = sym (ne_eqb (get_or l 0 0) 0xBE (λ e. omega (arith, e, get_or-eq_default l 0 {n = 0} (omega arith))))

  module _ (e : is_told l ≡ true) where
    is-told : get_or l 0 0 ≡ 0xBE
    unfolding is_told
    is-told = eqb-true (get_or l 0 0) 0xBE e

    pub abort-block : is_block l ≡ is_abort l
    unfolding is_abort
    abort-block = eq _ _ _ _ is-told refl

    pub abort-formed : portion_by abrt [] l ≡ abort_portion l
    unfolding abort_portion
    abort-formed = eq _ _ _ _ is-told refl

    -- by the number of its PDU
    pub abort-by : portion_by (form_for 4) [] l ≡ abort_portion l
    abort-by = ap (λ (f : Form). portion_by f [] l) form-4 ∙ abort-formed

  module _ (e : is_told l ≡ false) where
    not-told : get_or l 0 0 ≡ 0xBE → ⊥
    unfolding is_told
    not-told = eqb-false (get_or l 0 0) 0xBE e

    pub abort-whole : is_portion l ≡ is_abort l
    unfolding is_abort
    abort-whole = ne _ _ _ _ not-told refl

    pub abort-given : l ≡ abort_portion l
    unfolding abort_portion
    abort-given = ne _ _ _ _ not-told refl

  -- octets over 240 make a portion that is
  pub abort-long : 240 < length l → 240 < length (abort_portion l)
  abort-long h = go (is_told l) refl
    where
      go : (b : Bool) → is_told l ≡ b → 240 < length (abort_portion l)
      go true e = omega (arith, information-over 4 [] l h, ap length (abort-by e))
      go false e = omega (arith, ap length (abort-given e))

  pub abort-wrong : is_abort l ≡ false → 11 ≡ abort_refusal l
  unfolding abort_refusal
  abort-wrong e = no _ _ _ e refl

  module _ (e : is_abort l ≡ true) where
    pub abort-over : 240 < length (abort_portion l) → 12 ≡ abort_refusal l
    unfolding abort_refusal
    abort-over h = yes _ _ _ e (lt _ _ _ _ h refl)

    pub abort-fits : length (abort_portion l) ≤ 240 → 0 ≡ abort_refusal l
    unfolding abort_refusal
    abort-fits h = yes _ _ _ e (ge _ _ _ _ h refl)

-- not refused: neither what is given nor its portion is over 240
pub abort-octets : (l : List ℕ) → 0 ≡ abort_refusal l → (length l ≤ 240) × (length (abort_portion l) ≤ 240)
unfolding abort_refusal
abort-octets l e =
    let a = was-yes _ _ _ e (λ z. omega (arith, z)) in
    let b : length (abort_portion l) ≤ 240 = (was-ge _ _ _ _ a.1 (λ z. omega (arith, z))).0 in
    (by-lt {A = ℕ} 240 (length l) 0 0 refl (λ h _. absurd (omega (arith, b, abort-long l h))) (λ h _. h), b)
