-- Sums of a function over the numbers below n, and of a weight over a list. Assumes nothing.
use Rattle.std.specs.Prelude.{◌≡◌, refl, Bool, true, false, cond, List, [], ◌∷◌, ℕ, zero, suc, ◌+◌, ◌≤◌, ◌<◌, eqb, length, get_or, set}
use Rattle.std.proofs.Common.{ap, not-suc-le-zero, le_of_suc-le-suc, arith, eqb-true, eq-eqb, ne_eqb}
use Rattle.std.proofs.lemmas.Bool.{eqb-false}

-- f at 0 .. n - 1, together
abbrev pub sum : (ℕ → ℕ) → ℕ → ℕ
sum f zero = 0
sum f (suc n) = sum f n + f n

-- f, but v at s
abbrev pub but : (ℕ → ℕ) → ℕ → ℕ → ℕ → ℕ
but f s v k = cond (eqb k s) v (f k)

pub but_same : (f : ℕ → ℕ) (s v : ℕ) → but f s v s ≡ v
but_same f s v = rw (eq-eqb s s refl)

pub but-other : (f : ℕ → ℕ) (s v k : ℕ) → (k ≡ s → ⊥) → but f s v k ≡ f k
but-other f s v k h = rw (ne_eqb k s h)

pub sum-ext : (f h : ℕ → ℕ) (n : ℕ) → ((k : ℕ) → k < n → f k ≡ h k) → sum f n ≡ sum h n
sum-ext f h zero e = refl
sum-ext f h (suc n) e = omega (arith, sum-ext f h n (λ k lt. e k (omega arith)), e n (omega arith))

-- past s nothing changes
sum-but-out : (f : ℕ → ℕ) (s v n : ℕ) → n ≤ s → sum (but f s v) n ≡ sum f n
sum-but-out f s v n h = sum-ext (but f s v) f n (λ k lt. but-other f s v k (λ e. omega arith))

pub sum-but : (f : ℕ → ℕ) (s v n : ℕ) → s < n → sum (but f s v) n + f s ≡ sum f n + v
sum-but f s v zero h = absurd (not-suc-le-zero h)
sum-but f s v (suc n) h = go (eqb n s) refl (sum-but f s v n)
  where
    go : (b : Bool) → eqb n s ≡ b → (s < n → sum (but f s v) n + f s ≡ sum f n + v) → sum (but f s v) n + but f s v n + f s ≡ sum f n + f n + v
    go true e ih =
        let q : n ≡ s = eqb-true n s e in
        let a : but f s v n ≡ v = rw e in
        let b : f n ≡ f s = ap f q in
        omega (arith, sum-but-out f s v n (omega arith))
    go false e ih =
        let a : but f s v n ≡ f n = rw e in
        let ne : n ≡ s → ⊥ = eqb-false n s e in
        omega (arith, ih (omega arith))

pub sum-plus : (f h : ℕ → ℕ) (n : ℕ) → sum (λ k. f k + h k) n ≡ sum f n + sum h n
sum-plus f h zero = refl
sum-plus f h (suc n) = omega (arith, sum-plus f h n)

pub sum-zero : (n : ℕ) → sum (λ k. 0) n ≡ 0
sum-zero zero = refl
sum-zero (suc n) = omega (arith, sum-zero n)

module _ {A : Type 0} where
  -- a weight over the elements of a list, together
  abbrev pub sum_by : (A → ℕ) → List A → ℕ
  sum_by f [] = 0
  sum_by f (x ∷ xs) = f x + sum_by f xs

  pub sum_by-set : (f : A → ℕ) (xs : List A) (i : ℕ) (x d : A) → i < length xs → sum_by f (set xs i x) + f (get_or xs i d) ≡ sum_by f xs + f x
  sum_by-set f [] i x d h = absurd (not-suc-le-zero h)
  sum_by-set f (y ∷ ys) zero x d h = omega arith
  sum_by-set f (y ∷ ys) (suc i) x d h = omega (arith, sum_by-set f ys i x d (le_of_suc-le-suc h))

  pub sum_by-at : (f : A → ℕ) (xs : List A) (i : ℕ) (d : A) → i < length xs → f (get_or xs i d) ≤ sum_by f xs
  sum_by-at f [] i d h = absurd (not-suc-le-zero h)
  sum_by-at f (y ∷ ys) zero d h = omega arith
  sum_by-at f (y ∷ ys) (suc i) d h = omega (arith, sum_by-at f ys i d (le_of_suc-le-suc h))
