-- Lists made of a function, their sums; padding, runs of zeros, the first that passes a test. Assumes nothing.
use Rattle.std.specs.Prelude.{◌≡◌, Bool, cond, eqb, get_or, set, take, drop}
use Rattle.std.proofs.Math.Path.{refl, sym, ap}
use Rattle.std.proofs.Common.{◌∙◌, not-suc-le-zero, le_of_suc-le-suc, zero-add, suc-add, add-suc, add-zero, eqb-true, length-set, drop_of_length-le, ext_get_or, get_or-set_same, get_or-set_other, drop-cons, take-suc, take_all, length-take-le}
use mathlib.Core.List.{List, [], ◌∷◌, ◌++◌, map, append-nil}
use Rattle.std.proofs.Math.Bool.{true, false}
use Prim.Native.Nat.{ℕ, zero, suc, ◌+◌, ◌≤◌, ◌<◌}
use native.Mathlib.Omega.{arith}
use Rattle.std.proofs.lemmas.Bool.{eqb-false}
use Rattle.std.proofs.Math.ListN.{length, get_or-map}
use Rattle.std.proofs.lemmas.List.{length-map, set_at}
use Rattle.std.proofs.Math.Seq.{append_snoc}
use Rattle.laws.specs.If.{if_eq, if_b, yes, no}
use Rattle.laws.specs.Sums.{sum, sum-ext, sum_by}

-- n octets: those of l, then zeros
unfoldable pub pad : ℕ → List ℕ → List ℕ
pad zero l = []
pad (suc n) [] = 0 ∷ pad n []
pad (suc n) (x ∷ l) = x ∷ pad n l

-- a run of zeros
unfoldable pub zeros : List ℕ → Bool
zeros [] = true
zeros (x ∷ l) = if_eq x 0 (zeros l) false

-- the first of a list that passes a test, by its index; the length where none does
unfoldable pub first_at : {A : Type 0} → (A → Bool) → List A → ℕ
first_at f [] = 0
first_at f (x ∷ l) = if_b (f x) 0 (suc (first_at f l))

-- each of a list passes a test
unfoldable pub every : {A : Type 0} → (A → Bool) → List A → Bool
every f [] = true
every f (x ∷ l) = if_b (f x) (every f l) false

pub every-split : {A : Type 0} (f : A → Bool) (k : ℕ) (l : List A) → every f l ≡ if_b (every f (take k l)) (every f (drop k l)) false
unfolding every if_b
every-split f zero l = refl
every-split f (suc k) [] = refl
every-split f (suc k) (x ∷ l) = go (f x) _ _ _ (every-split f k l)
  where
    go : (b p q r : Bool) → p ≡ cond q r false → cond b p false ≡ cond (cond b q false) r false
    go true p q r e = e
    go false p q r e = refl

module _ {A : Type 0} where
  pub length_none : (l : List A) → length l ≡ 0 → [] ≡ l
  length_none [] h = refl
  length_none (x ∷ l) h = absurd (omega (arith, h))

  -- f at i, i + 1, .. : n of them
  abbrev pub tab : ℕ → ℕ → (ℕ → A) → List A
  tab zero i f = []
  tab (suc n) i f = f i ∷ tab n (suc i) f

  pub length-tab : (n i : ℕ) (f : ℕ → A) → length (tab n i f) ≡ n
  length-tab zero i f = refl
  length-tab (suc n) i f = ap suc (length-tab n (suc i) f)

  pub get_or-tab : (n i j : ℕ) (f : ℕ → A) (d : A) → j < n → get_or (tab n i f) j d ≡ f (i + j)
  get_or-tab zero i j f d h = absurd (not-suc-le-zero h)
  get_or-tab (suc n) i zero f d h = ap f (sym (add-zero i))
  get_or-tab (suc n) i (suc j) f d h = get_or-tab n (suc i) j f d (le_of_suc-le-suc h) ∙ ap f (suc-add i j ∙ sym (add-suc i j))

  pub at-tab : (n j : ℕ) (f : ℕ → A) (d : A) → j < n → get_or (tab n 0 f) j d ≡ f j
  at-tab n j f d h = get_or-tab n 0 j f d h ∙ ap f (zero-add j)

  -- where f changes at p alone, the list changes by one `set`
  pub tab-set : (n : ℕ) (f h : ℕ → A) (p : ℕ) → p < n → ((j : ℕ) → (j ≡ p → ⊥) → h j ≡ f j) → (d : A) → tab n 0 h ≡ set (tab n 0 f) p (h p)
  tab-set n f h p lt same d =
      ext_get_or d (tab n 0 h) (set (tab n 0 f) p (h p)) (length-tab n 0 h ∙ sym (length-set (tab n 0 f) p (h p) ∙ length-tab n 0 f))
      (λ j jl. go j (omega (arith, length-tab n 0 h)) (eqb j p) refl)
    where
      go : (j : ℕ) → j < n → (b : Bool) → eqb j p ≡ b → get_or (tab n 0 h) j d ≡ get_or (set (tab n 0 f) p (h p)) j d
      go j jl true e =
          at-tab n j h d jl ∙ ap h (eqb-true j p e)
          ∙ sym (ap (λ (i : ℕ). get_or (set (tab n 0 f) p (h p)) i d) (eqb-true j p e) ∙ get_or-set_same (tab n 0 f) p (h p) d (omega (arith, length-tab n 0 f)))
      go j jl false e =
          at-tab n j h d jl ∙ same j (eqb-false j p e) ∙ sym (at-tab n j f d jl)
          ∙ sym (get_or-set_other (tab n 0 f) p j (h p) d (eqb-false j p e))

  -- a list is had back from its elements
  pub tab-all : (n : ℕ) (l : List A) (d : A) → length l ≡ n → tab n 0 (λ i. get_or l i d) ≡ l
  tab-all n l d e = ext_get_or d (tab n 0 (λ i. get_or l i d)) l (length-tab n 0 (λ i. get_or l i d) ∙ sym e) (λ j h. at-tab n j (λ i. get_or l i d) d (omega (arith, length-tab n 0 (λ i. get_or l i d))))

  pub tab-ext : (n : ℕ) (f h : ℕ → A) (d : A) → ((j : ℕ) → j < n → f j ≡ h j) → tab n 0 f ≡ tab n 0 h
  tab-ext n f h d e =
      ext_get_or d (tab n 0 f) (tab n 0 h) (length-tab n 0 f ∙ sym (length-tab n 0 h))
      (λ j l. let g : j < n = omega (arith, length-tab n 0 f) in at-tab n j f d g ∙ e j g ∙ sym (at-tab n j h d g))

sum-front : (f : ℕ → ℕ) (n : ℕ) → sum f (suc n) ≡ f 0 + sum (λ j. f (suc j)) n
sum-front f zero = omega arith
sum-front f (suc n) = omega (arith, sum-front f n)

pub sum_by-tab : {A : Type 0} (g : A → ℕ) (n i : ℕ) (f : ℕ → A) → sum_by g (tab n i f) ≡ sum (λ j. g (f (i + j))) n
sum_by-tab g zero i f = refl
sum_by-tab g (suc n) i f =
    ap (λ (m : ℕ). g (f i) + m) (sum_by-tab g n (suc i) f ∙ same n)
    ∙ ap (λ (m : ℕ). g (f m) + sum (λ j. g (f (i + suc j))) n) (sym (add-zero i))
    ∙ sym (sum-front (λ j. g (f (i + j))) n)
  where
    same : (m : ℕ) → sum (λ j. g (f (suc i + j))) m ≡ sum (λ j. g (f (i + suc j))) m
    same zero = refl
    same (suc m) = omega (arith, same m, ap (λ (x : ℕ). g (f x)) (suc-add i m ∙ sym (add-suc i m)))

-- a count over the list of records is the code's count over the places
pub sum-tab : {A : Type 0} (g : A → ℕ) (n : ℕ) (f : ℕ → A) → sum_by g (tab n 0 f) ≡ sum (λ j. g (f j)) n
sum-tab g n f = sum_by-tab g n 0 f ∙ sum-ext (λ j. g (f (0 + j))) (λ j. g (f j)) n (λ k h. ap (λ (x : ℕ). g (f x)) (zero-add k))

-- THE FIRST THAT PASSES, found by a loop: what is found from i on
module _ {A : Type 0} (f : A → Bool) (d : A) where
  pub first-le : (l : List A) → first_at f l ≤ length l
  unfolding first_at
  first-le [] = omega arith
  first-le (x ∷ l) = go (f x) refl (first-le l)
    where
      go : (b : Bool) → f x ≡ b → first_at f l ≤ length l → if_b (f x) 0 (suc (first_at f l)) ≤ suc (length l)
      go true e h = omega (arith, sym (yes (f x) 0 (suc (first_at f l)) e refl))
      go false e h = omega (arith, sym (no (f x) 0 (suc (first_at f l)) e refl))

  pub first-hit : (l : List A) (i : ℕ) → i < length l → f (get_or l i d) ≡ true → first_at f (drop i l) ≡ 0
  unfolding first_at
  first-hit l i h e = ap (first_at f) (drop-cons l i d h) ∙ sym (yes (f (get_or l i d)) 0 (suc (first_at f (drop (suc i) l))) e refl)

  pub first-miss : (l : List A) (i : ℕ) → i < length l → f (get_or l i d) ≡ false → first_at f (drop i l) ≡ suc (first_at f (drop (suc i) l))
  unfolding first_at
  first-miss l i h e = ap (first_at f) (drop-cons l i d h) ∙ sym (no (f (get_or l i d)) 0 (suc (first_at f (drop (suc i) l))) e refl)

  pub first-none : (l : List A) (i : ℕ) → length l ≤ i → first_at f (drop i l) ≡ 0
  unfolding first_at
  first-none l i h = ap (first_at f) (drop_of_length-le l {i = i} h)

  -- what is found passes, and nothing before it
  pub first-at : (l : List A) → first_at f l < length l → f (get_or l (first_at f l) d) ≡ true
  unfolding first_at
  first-at [] h = absurd (omega arith)
  first-at (x ∷ l) h = go (f x) refl (first-at l) h
    where
      go : (b : Bool) → f x ≡ b → (first_at f l < length l → f (get_or l (first_at f l) d) ≡ true) → if_b (f x) 0 (suc (first_at f l)) < suc (length l)
          → f (get_or (x ∷ l) (if_b (f x) 0 (suc (first_at f l))) d) ≡ true
      go true e ih h = ap (λ (k : ℕ). f (get_or (x ∷ l) k d)) (sym (yes (f x) 0 (suc (first_at f l)) e refl)) ∙ e
      go false e ih h =
          let z : if_b (f x) 0 (suc (first_at f l)) ≡ suc (first_at f l) = sym (no (f x) 0 (suc (first_at f l)) e refl) in
          ap (λ (k : ℕ). f (get_or (x ∷ l) k d)) z ∙ ih (omega (arith, z))

  pub first-before : (l : List A) (j : ℕ) → j < first_at f l → f (get_or l j d) ≡ false
  unfolding first_at
  first-before [] j h = absurd (omega arith)
  first-before (x ∷ l) zero h = go (f x) refl h
    where
      go : (b : Bool) → f x ≡ b → 0 < if_b (f x) 0 (suc (first_at f l)) → f x ≡ false
      go true e h = absurd (omega (arith, yes {r = 0} (f x) 0 (suc (first_at f l)) e refl))
      go false e h = e
  first-before (x ∷ l) (suc j) h = go (f x) refl (first-before l j) h
    where
      go : (b : Bool) → f x ≡ b → (j < first_at f l → f (get_or l j d) ≡ false) → suc j < if_b (f x) 0 (suc (first_at f l)) → f (get_or l j d) ≡ false
      go true e ih h = absurd (omega (arith, yes {r = 0} (f x) 0 (suc (first_at f l)) e refl))
      go false e ih h = ih (omega (arith, no {r = suc (first_at f l)} (f x) 0 (suc (first_at f l)) e refl))

-- A LIST CHANGED element by element, in its place: the first i are done
module _ {A : Type 0} (f : A → A) (d : A) where
  pub mapped-more : (l m : List A) (i : ℕ) → m ≡ take i (map f l) ++ drop i l → i < length l
      → set m i (f (get_or l i d)) ≡ take (suc i) (map f l) ++ drop (suc i) l
  mapped-more l m i e h =
      let n : i < length (map f l) = omega (arith, length-map l f) in
      ap (λ (k : List A). set k i (f (get_or l i d))) (e ∙ ap (λ (k : List A). take i (map f l) ++ k) (drop-cons l i d h))
      ∙ set_at (take i (map f l)) (get_or l i d) (drop (suc i) l) (f (get_or l i d)) i (length-take-le i (map f l) (omega arith))
      ∙ ap (λ (x : A). take i (map f l) ++ (x ∷ drop (suc i) l)) (sym (get_or-map f l i d))
      ∙ sym (append_snoc (take i (map f l)) (get_or (map f l) i (f d)) (drop (suc i) l))
      ∙ ap (λ (k : List A). k ++ drop (suc i) l) (sym (take-suc (map f l) i (f d) n))

  pub mapped-all : (l m : List A) (i : ℕ) → m ≡ take i (map f l) ++ drop i l → length l ≡ i → m ≡ map f l
  mapped-all l m i e h =
      e ∙ ap (λ (k : List A). take i (map f l) ++ k) (drop_of_length-le l {i = i} (omega arith))
      ∙ append-nil (take i (map f l)) ∙ take_all i (map f l) (omega (arith, length-map l f))

-- n octets from a on, one by one
abbrev pub span : ℕ → ℕ → List ℕ → List ℕ
span zero a l = []
span (suc n) a l = get_or l a 0 ∷ span n (suc a) l

pub span-part : (n a : ℕ) (l : List ℕ) → a + n ≤ length l → span n a l ≡ take n (drop a l)
span-part zero a l h = refl
span-part (suc n) a l h =
    ap (λ (r : List ℕ). get_or l a 0 ∷ r) (span-part n (suc a) l (omega arith)) ∙ sym (ap (take (suc n)) (drop-cons l a 0 (omega arith)))

-- and what comes after them
pub span-drop : (n a : ℕ) (l : List ℕ) → a + n ≤ length l → span n a l ++ drop (a + n) l ≡ drop a l
span-drop zero a l h = ap (λ (k : ℕ). drop k l) (add-zero a)
span-drop (suc n) a l h =
    ap (λ (k : ℕ). get_or l a 0 ∷ (span n (suc a) l ++ drop k l)) (add-suc a n ∙ sym (suc-add a n))
    ∙ ap (λ (r : List ℕ). get_or l a 0 ∷ r) (span-drop n (suc a) l (omega arith)) ∙ sym (drop-cons l a 0 (omega arith))
