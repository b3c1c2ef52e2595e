-- Runs of zeros and padding; the first of a list that passes a test. Assumes nothing.
use Rattle.std.proofs.Math.Path.{◌≡◌, refl, sym}
use Rattle.std.proofs.Common.{ap, ◌∙◌, arith}
use Rattle.std.specs.Prelude.{Bool, get_or, set, take, drop, replicate}
use Rattle.std.proofs.Math.Bool.{true, false}
use mathlib.Core.List.{List, [], ◌∷◌, ◌++◌}
use Prim.Native.Nat.{ℕ, zero, suc, ◌+◌, ◌<◌, ◌≤◌}
use Rattle.std.proofs.Math.ListN.{length}
use Rattle.std.proofs.lemmas.List.Edits.{sets}
use Rattle.laws.specs.If.{eq, yes, no, was-eq, true-false}
use Rattle.laws.specs.Lists.{zeros, pad, first_at}
use Rattle.paper.specs.Rules.{alike}

-- ---- zeros
pub zero-cons : (x : ℕ) (l : List ℕ) → zeros (x ∷ l) ≡ true → (x ≡ 0) × (zeros l ≡ true)
unfolding zeros
zero-cons x l e =
    let w = was-eq x 0 (zeros l) false (sym e) true-false in
    (w.0, sym w.1)

pub zero-nil : zeros [] ≡ true
unfolding zeros
zero-nil = refl

pub zero-first : (l : List ℕ) → zeros l ≡ true → zeros (0 ∷ l) ≡ true
unfolding zeros
zero-first l e = sym (eq 0 0 (zeros l) false refl (sym e))

-- a run of zeros is nothing else
pub zeros-are : (l : List ℕ) → zeros l ≡ true → l ≡ replicate (length l) 0
zeros-are [] e = refl
zeros-are (x ∷ l) e =
    let w = zero-cons x l e in
    ap (λ (y : ℕ). y ∷ l) w.0 ∙ ap (λ (r : List ℕ). 0 ∷ r) (zeros-are l w.1)

pub zeros_of : (n : ℕ) → zeros (replicate n 0) ≡ true
zeros_of zero = zero-nil
zeros_of (suc n) = zero-first (replicate n 0) (zeros_of n)

-- ---- the same octets
pub alike_is : (l m : List ℕ) → alike l m ≡ true → l ≡ m
unfolding alike
alike_is [] [] e = refl
alike_is [] (y ∷ m) e = absurd (true-false (sym e))
alike_is (x ∷ l) [] e = absurd (true-false (sym e))
alike_is (x ∷ l) (y ∷ m) e =
    let w = was-eq x y (alike l m) false (sym e) true-false in
    ap (λ (n : ℕ). n ∷ l) w.0 ∙ ap (λ (r : List ℕ). y ∷ r) (alike_is l m (sym w.1))

alike_self : (l : List ℕ) → alike l l ≡ true
unfolding alike
alike_self [] = refl
alike_self (x ∷ l) = sym (eq x x (alike l l) false refl (sym (alike_self l)))

pub is-alike : (l m : List ℕ) → l ≡ m → alike l m ≡ true
is-alike l m e = ap (alike l) (sym e) ∙ alike_self l

-- ---- padding
pub pad-length : (n : ℕ) (l : List ℕ) → length (pad n l) ≡ n
unfolding pad
pad-length zero l = refl
pad-length (suc n) [] = ap suc (pad-length n [])
pad-length (suc n) (x ∷ l) = ap suc (pad-length n l)

pub pad-none : (n : ℕ) → pad n [] ≡ replicate n 0
unfolding pad
pad-none zero = refl
pad-none (suc n) = ap (λ (r : List ℕ). 0 ∷ r) (pad-none n)

pub pad-of : (n k : ℕ) (l : List ℕ) → length l ≡ n → zeros (drop k l) ≡ true → pad n (take k l) ≡ l
unfolding pad
pad-of n zero l e z = pad-none n ∙ ap (λ (m : ℕ). replicate m 0) (sym e) ∙ sym (zeros-are l z)
pad-of zero (suc k) [] e z = refl
pad-of zero (suc k) (x ∷ l) e z = absurd (omega arith)
pad-of (suc n) (suc k) [] e z = absurd (omega arith)
pad-of (suc n) (suc k) (x ∷ l) e z = ap (λ (r : List ℕ). x ∷ r) (pad-of n k l (omega arith) z)

pub pad-rest : (n : ℕ) (l : List ℕ) → length l ≤ n → (take (length l) (pad n l) ≡ l) × (zeros (drop (length l) (pad n l)) ≡ true)
unfolding pad
pad-rest n [] h = (refl, ap zeros (pad-none n) ∙ zeros_of n)
pad-rest zero (x ∷ l) h = absurd (omega arith)
pad-rest (suc n) (x ∷ l) h = let w = pad-rest n l (omega arith) in (ap (λ (r : List ℕ). x ∷ r) w.0, w.1)

past : (x : ℕ) (r : List ℕ) (i : ℕ) (vs : List ℕ) → sets (x ∷ r) (suc i) vs ≡ x ∷ sets r i vs
past x r i [] = refl
past x r i (v ∷ vs) = past x (set r i v) (suc i) vs

-- more octets after those that are there: they are written over the zeros
pub pad-more : (n : ℕ) (l m : List ℕ) → length l + length m ≤ n → sets (pad n l) (length l) m ≡ pad n (l ++ m)
unfolding pad
pad-more n [] [] h = refl
pad-more zero [] (x ∷ m) h = absurd (omega arith)
pad-more (suc n) [] (x ∷ m) h = past x (pad n []) 0 m ∙ ap (λ (r : List ℕ). x ∷ r) (pad-more n [] m (omega arith))
pad-more zero (x ∷ l) m h = absurd (omega arith)
pad-more (suc n) (x ∷ l) m h = past x (pad n l) (length l) m ∙ ap (λ (r : List ℕ). x ∷ r) (pad-more n l m (omega arith))

-- ---- the first that passes a test
module _ {A : Type 0} (f : A → Bool) where
  -- where there is none, each fails
  pub none_passes : (l : List A) (d : A) → first_at f l ≡ length l → (j : ℕ) → j < length l → f (get_or l j d) ≡ false
  unfolding first_at
  none_passes [] d e j h = absurd (omega arith)
  none_passes (x ∷ l) d e j h = go (f x) refl (none_passes l d) j h
    where
      go : (b : Bool) → f x ≡ b → (first_at f l ≡ length l → (j : ℕ) → j < length l → f (get_or l j d) ≡ false)
          → (j : ℕ) → j < suc (length l) → f (get_or (x ∷ l) j d) ≡ false
      go true q ih j h = let z : ◌≡◌ {A = ℕ} 0 (suc (length l)) = yes (f x) 0 (suc (first_at f l)) q refl ∙ e in absurd (omega arith)
      go false q ih zero h = q
      go false q ih (suc j) h =
          let z : suc (first_at f l) ≡ suc (length l) = no (f x) 0 (suc (first_at f l)) q refl ∙ e in
          ih (omega arith) j (omega arith)

  -- where each fails, there is none
  pub no-first : (l : List A) (d : A) → ((j : ℕ) → j < length l → f (get_or l j d) ≡ false) → first_at f l ≡ length l
  unfolding first_at
  no-first [] d h = refl
  no-first (x ∷ l) d h =
      sym (no (f x) 0 (suc (first_at f l)) (h 0 (omega arith)) (ap suc (sym (no-first l d (λ j g. h (suc j) (omega arith))))))
