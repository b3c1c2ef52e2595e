-- NAME AND INFORMATION GIVEN with a sending (02 a; answers 11, 12 and 14), by the number of waiting octets. Assumes nothing.
use Rattle.std.specs.Prelude.{◌≡◌, Bool, true, false, Result, Ok, Err, IsErrAnd}
use Rattle.std.proofs.Math.Path.{refl, sym, ap}
use Rattle.std.proofs.Common.{◌∙◌, arith}
use mathlib.Core.List.{List, []}
use Prim.Native.Nat.{ℕ, ◌+◌, ◌<◌, ◌≤◌}
use Rattle.std.proofs.Math.ListN.{length}
use Rattle.laws.specs.If.{if_eq, if_b, ge, eq, ne, yes, by-eq, was-yes, was-ge}
use Rattle.paper.specs.declared.Refusal.{Refusal}
use Rattle.paper.specs.declared.Refusal.TheVariants.{WrongSize, BrokenTable, NoService, MessageSize, NoDialogue, WrongState, NoPlace, WrongCode, WrongInvocation, InvocationsFull, WrongOctets, TooLong, WrongShares, WrongPortion}
use Rattle.paper.specs.Refusals.{number, answer_of}
use Rattle.paper.specs.Sizes.{most_waiting}
use Rattle.paper.specs.Portions.{Form, portion_by}
use Rattle.paper.specs.Dialogues.{Place, is_name, is_information, overfull, first, unplaced, portion_refusal}
use Rattle.call_given.specs.Pieces.{over_by}
use Rattle.writing_portions.specs.Forms.{form_for}

unfoldable pub malformed : List ℕ → List ℕ → ℕ
malformed name info = if_b (is_name name) (if_b (is_information info) 0 11) 11

unfoldable pub refusal_of : ℕ → ℕ → ℕ → List ℕ → List ℕ → ℕ
refusal_of n state kind name info = first (malformed name info) (first (over_by n (length (portion_by (form_for kind) name info))) (unplaced state name info))

-- the first of two numbers that isn't 0
module _ (n m : ℕ) where
  pub first-none : (k : ℕ) → n ≡ 0 → k ≡ m → k ≡ first n m
  unfolding first
  first-none k h e = eq _ _ _ _ h e

  pub first_some : (n ≡ 0 → ⊥) → n ≡ first n m
  unfolding first
  first_some h = ne _ _ _ _ h refl

  pub first-zero : (k : ℕ) → k ≡ 0 → k ≡ first n m → (n ≡ 0) × (0 ≡ m)
  unfolding first
  first-zero k z e = by-eq n 0 m n e (λ y h. (y, sym z ∙ h)) (λ y h. absurd (y (sym h ∙ z)))

pub above-zero : (why : Refusal) → 0 < number why
above-zero WrongSize = omega arith
above-zero BrokenTable = omega arith
above-zero NoService = omega arith
above-zero MessageSize = omega arith
above-zero NoDialogue = omega arith
above-zero WrongState = omega arith
above-zero NoPlace = omega arith
above-zero WrongCode = omega arith
above-zero WrongInvocation = omega arith
above-zero InvocationsFull = omega arith
above-zero WrongOctets = omega arith
above-zero TooLong = omega arith
above-zero WrongShares = omega arith
above-zero WrongPortion = omega arith

-- a refusal that a `?` passes up is the first
pub first-refusal : {T : Type 0} (n m : ℕ) (r : Result T Refusal) (why : Refusal) → IsErrAnd r (λ e. e ≡ why) → number why ≡ n → answer_of r ≡ first n m
first-refusal n m (Ok x) why h g = absurd h
first-refusal n m (Err e) why h g =
    let k : number e ≡ n = ap number h ∙ g in
    k ∙ first_some n m (λ z. omega (arith, above-zero e, k, z))

first-malformed : (a b : Bool) (k : ℕ) → first (if_b a (if_b b 0 11) 11) k ≡ if_b a (if_b b k 11) 11
unfolding first if_b if_eq
first-malformed true true k = refl
first-malformed true false k = refl
first-malformed false b k = refl

-- AT A PLACE where n octets wait
pub refusal_is : (x : Place) (n state kind r : ℕ) (name info : List ℕ) → n ≡ length x.waiting → state ≡ x.control.state
    → r ≡ refusal_of n state kind name info → r ≡ portion_refusal x (form_for kind) name info
unfolding refusal_of malformed portion_refusal overfull
refusal_is x n state kind r name info a b e =
    e ∙ ap (λ (k : ℕ). refusal_of k state kind name info) a ∙ ap (λ (k : ℕ). refusal_of (length x.waiting) k kind name info) b
    ∙ first-malformed (is_name name) (is_information info) (first (overfull x (portion_by (form_for kind) name info)) (unplaced x.control.state name info))

-- NOT REFUSED: waiting octets and portion are at most 240 together
pub portion-fits : (x : Place) (f : Form) (name info : List ℕ) → 0 ≡ portion_refusal x f name info → length x.waiting + length (portion_by f name info) ≤ most_waiting
unfolding portion_refusal overfull
portion-fits x f name info e =
    let a = was-yes _ _ _ e (λ z. omega (arith, z)) in
    let b = was-yes _ _ _ a.1 (λ z. omega (arith, z)) in
    let c = first-zero _ _ 0 refl b.1 in
    (was-ge _ _ _ _ (sym c.0) (λ z. omega (arith, z))).0

-- BY ITS PARTS: neither given, no portion and no refusal
module _ (n state kind : ℕ) (name info : List ℕ) where
  pub refusal-none : length name ≡ 0 → length info ≡ 0 → n ≤ most_waiting → 0 ≡ refusal_of n state kind name info
  unfolding refusal_of malformed is_name is_information unplaced portion_by
  refusal-none a b h =
      let p : [] ≡ portion_by (form_for kind) name info = eq _ _ _ _ (omega arith) refl in
      first-none _ _ 0 (sym (yes _ _ _ (sym (eq _ _ _ _ a refl)) (yes _ _ _ (sym (eq _ _ _ _ b refl)) refl)))
      (first-none _ _ 0 (sym (ge _ _ _ _ (omega (arith, ap length p)) refl)) (eq _ _ _ _ a (eq _ _ _ _ b refl)))
