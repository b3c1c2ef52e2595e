-- FIELDS ONE AFTER ANOTHER, each of its width: a layout is a list of them; and records of one size one after another. Assumes nothing.
--     laid-length, laid-split   how long a layout is; its first fields and the others
--     laid-drop, field-at       what stands from field i on, and at it
--     laid_from                 octets whose parts are a record's fields are its layout
--     record-at, record-over    one of an array of records read, and replaced
--     pairs-at, pairs-from      two octets for each of a list
use Rattle.std.specs.Prelude.{◌≡◌, refl, get_or, set}
use Rattle.std.proofs.Math.Path.{sym, ap}
use Rattle.std.proofs.Common.{◌∙◌, add-zero, drop_of_length-le, drop_at, drop-cons, drop-drop}
use mathlib.Core.List.{List, [], ◌∷◌, ◌++◌, map, append-nil, append_assoc}
use Prim.Native.Nat.{ℕ, zero, suc, ◌+◌, ◌*◌, ◌<◌, ◌≤◌}
use Rattle.std.proofs.Math.Nat.{suc-mul}
use native.Mathlib.Omega.{arith}
use Rattle.std.proofs.Math.ListN.{length, take, drop, length-append, take-append-drop}
use Rattle.std.proofs.Math.Seq.{take_at, drop-append-add}
use Rattle.laws.specs.Lists.{tab}
use Rattle.laws.specs.Parts.{over, shift}

-- a field of a record of type A: its width, and the octets that it holds
pub record Field (A : Type 0) : Type 0 where
  pub width : ℕ
  pub octets : A → List ℕ

abbrev pub field : {A : Type 0} → ℕ → (A → List ℕ) → Field A
field n f = record { width = n; octets = f }

abbrev pub joined : List (List ℕ) → List ℕ
joined [] = []
joined (x ∷ []) = x
joined (x ∷ y ∷ l) = x ++ joined (y ∷ l)

-- the octets of a record by its layout
abbrev pub laid_out : {A : Type 0} → List (Field A) → A → List ℕ
laid_out fs x = joined (map (λ f. f.octets x) fs)

-- how wide they are together, and where field i begins
abbrev pub total : {A : Type 0} → List (Field A) → ℕ
total [] = 0
total (f ∷ fs) = f.width + total fs

abbrev pub offset : {A : Type 0} → List (Field A) → ℕ → ℕ
offset [] i = 0
offset (f ∷ fs) zero = 0
offset (f ∷ fs) (suc i) = f.width + offset fs i

module _ {A : Type 0} where
  -- each field's octets have its width
  abbrev pub Sized : List (Field A) → A → Type 0
  Sized [] x = Unit {0}
  Sized (f ∷ fs) x = (length (f.octets x) ≡ f.width) × Sized fs x

  pub sized-take : (fs : List (Field A)) (x : A) → Sized fs x → (i : ℕ) → Sized (take i fs) x
  sized-take [] x s zero = s
  sized-take [] x s (suc i) = s
  sized-take (f ∷ fs) x s zero = tt
  sized-take (f ∷ fs) x s (suc i) = (s.0, sized-take fs x s.1 i)

  pub laid_cons : (f : Field A) (fs : List (Field A)) (x : A) → laid_out (f ∷ fs) x ≡ f.octets x ++ laid_out fs x
  laid_cons f [] x = sym (append-nil (f.octets x))
  laid_cons f (g ∷ fs) x = refl

  pub laid-length : (fs : List (Field A)) (x : A) → Sized fs x → length (laid_out fs x) ≡ total fs
  laid-length [] x s = refl
  laid-length (f ∷ fs) x s =
      ap length (laid_cons f fs x) ∙ length-append (f.octets x) (laid_out fs x) ∙ (omega (arith, s.0, laid-length fs x s.1))

  pub laid-split : (fs : List (Field A)) (x : A) (i : ℕ) → laid_out fs x ≡ laid_out (take i fs) x ++ laid_out (drop i fs) x
  laid-split [] x zero = refl
  laid-split [] x (suc i) = refl
  laid-split (f ∷ fs) x zero = refl
  laid-split (f ∷ fs) x (suc i) =
      laid_cons f fs x ∙ ap (λ (r : List ℕ). f.octets x ++ r) (laid-split fs x i)
      ∙ sym (append_assoc (f.octets x) (laid_out (take i fs) x) (laid_out (drop i fs) x))
      ∙ ap (λ (r : List ℕ). r ++ laid_out (drop i fs) x) (sym (laid_cons f (take i fs) x))

  pub laid-drop : (fs : List (Field A)) (x : A) → Sized fs x → (i : ℕ) → drop (offset fs i) (laid_out fs x) ≡ laid_out (drop i fs) x
  laid-drop [] x s zero = refl
  laid-drop [] x s (suc i) = refl
  laid-drop (f ∷ fs) x s zero = refl
  laid-drop (f ∷ fs) x s (suc i) =
      ap (λ (k : ℕ). drop (k + offset fs i) (laid_out (f ∷ fs) x)) (sym s.0)
      ∙ ap (drop (length (f.octets x) + offset fs i)) (laid_cons f fs x)
      ∙ drop-append-add (f.octets x) (laid_out fs x) (offset fs i)
      ∙ laid-drop fs x s.1 i

  -- field i: no octets where there is none
  abbrev pub field_at : List (Field A) → ℕ → Field A
  field_at fs i = get_or fs i (field 0 (λ x. []))

  first-at : (fs : List (Field A)) (x : A) → Sized fs x → take (field_at fs 0).width (laid_out fs x) ≡ (field_at fs 0).octets x
  first-at [] x s = refl
  first-at (f ∷ fs) x s = ap (take f.width) (laid_cons f fs x) ∙ take_at (f.octets x) (laid_out fs x) f.width s.0

  pub field-at : (fs : List (Field A)) (x : A) → Sized fs x → (i : ℕ) → take (field_at fs i).width (drop (offset fs i) (laid_out fs x)) ≡ (field_at fs i).octets x
  field-at [] x s zero = refl
  field-at [] x s (suc i) = refl
  field-at (f ∷ fs) x s zero = first-at (f ∷ fs) x s
  field-at (f ∷ fs) x s (suc i) =
      ap (take (field_at fs i).width)
      (ap (λ (k : ℕ). drop (k + offset fs i) (laid_out (f ∷ fs) x)) (sym s.0)
      ∙ ap (drop (length (f.octets x) + offset fs i)) (laid_cons f fs x)
      ∙ drop-append-add (f.octets x) (laid_out fs x) (offset fs i))
      ∙ field-at fs x s.1 i

  -- v put at k of field i makes y of x: the fields before and after it are the same
  abbrev pub Becomes : List (Field A) → ℕ → ℕ → List ℕ → A → A → Type 0
  Becomes [] i k v x y = ⊥
  Becomes (f ∷ fs) zero k v x y = (k + length v ≤ length (f.octets x)) × (over (f.octets x) k v ≡ f.octets y) × (laid_out fs x ≡ laid_out fs y)
  Becomes (f ∷ fs) (suc i) k v x y = (f.octets x ≡ f.octets y) × Becomes fs i k v x y

  -- each field of x is the next part of s, from a on
  abbrev pub Reads : List (Field A) → A → ℕ → List ℕ → Type 0
  Reads [] x a s = length s ≤ a
  Reads (f ∷ fs) x a s = (f.octets x ≡ take f.width (drop a s)) × Reads fs x (a + f.width) s

  pub laid_from : (fs : List (Field A)) (x : A) (a : ℕ) (s : List ℕ) → Reads fs x a s → laid_out fs x ≡ drop a s
  laid_from [] x a s r = sym (drop_of_length-le s r)
  laid_from (f ∷ fs) x a s r =
      laid_cons f fs x
      ∙ ap (λ (l : List ℕ). l ++ laid_out fs x) r.0
      ∙ ap (λ (l : List ℕ). take f.width (drop a s) ++ l) (laid_from fs x (a + f.width) s r.1 ∙ sym (drop-drop f.width a s))
      ∙ take-append-drop f.width (drop a s)

-- ---- RECORDS ONE AFTER ANOTHER, each n octets
unfoldable pub records : {A : Type 0} → (A → List ℕ) → List A → List ℕ
records f [] = []
records f (x ∷ l) = f x ++ records f l

module _ {A : Type 0} (f : A → List ℕ) (n : ℕ) (d : A) where
  abbrev pub Alike : List A → Type 0
  Alike l = (i : ℕ) → i < length l → length (f (get_or l i d)) ≡ n

  rest-alike : (x : A) (l : List A) → Alike (x ∷ l) → Alike l
  rest-alike x l s i h = s (suc i) (omega arith)

  pub records-length : (l : List A) → Alike l → length (records f l) ≡ length l * n
  unfolding records
  records-length [] s = omega arith
  records-length (x ∷ l) s =
      length-append (f x) (records f l) ∙ (omega (arith, s 0 (omega arith), records-length l (rest-alike x l s), suc-mul (length l) n))

  next : (x : A) (l : List A) → Alike (x ∷ l) → (i : ℕ) → suc i * n ≡ length (f x) + i * n
  next x l s i = omega (arith, s 0 (omega arith), suc-mul i n)

  pub record-at : (l : List A) → Alike l → (i : ℕ) → i < length l → take n (drop (i * n) (records f l)) ≡ f (get_or l i d)
  unfolding records
  record-at [] s i h = absurd (omega arith)
  record-at (x ∷ l) s zero h =
      let z : zero * n ≡ 0 = omega arith in
      ap (λ (k : ℕ). take n (drop k (f x ++ records f l))) z ∙ take_at (f x) (records f l) n (s 0 (omega arith))
  record-at (x ∷ l) s (suc i) h =
      ap (λ (k : ℕ). take n (drop k (f x ++ records f l))) (next x l s i)
      ∙ ap (take n) (drop-append-add (f x) (records f l) (i * n)) ∙ record-at l (rest-alike x l s) i (omega arith)

  pub record-over : (l : List A) → Alike l → (i : ℕ) (x : A) → length (f x) ≡ n → i < length l → over (records f l) (i * n) (f x) ≡ records f (set l i x)
  unfolding records over
  record-over [] s i x e h = absurd (omega arith)
  record-over (y ∷ l) s zero x e h =
      let z : zero * n ≡ 0 = omega arith in
      ap (λ (k : ℕ). over (f y ++ records f l) k (f x)) z
      ∙ ap (λ (r : List ℕ). f x ++ r) (drop_at (f y) (records f l) (0 + length (f x)) (omega (arith, e, s 0 (omega arith))))
  record-over (y ∷ l) s (suc i) x e h =
      ap (λ (k : ℕ). over (f y ++ records f l) k (f x)) (next y l s i)
      ∙ shift (f y) (records f l) (i * n) (f x)
      ∙ ap (λ (r : List ℕ). f y ++ r) (record-over l (rest-alike y l s) i x e (omega arith))

  -- m records from i on, each the next part of t
  pub records-from : (t : List ℕ) (g : ℕ → A) (a m i : ℕ) → length t ≤ a + (i + m) * n → ((j : ℕ) → j < i + m → f (g j) ≡ take n (drop (a + j * n) t))
      → records f (tab m i g) ≡ drop (a + i * n) t
  unfolding records
  records-from t g a zero i h e = let z : length t ≤ a + i * n = omega (arith, ap (λ (k : ℕ). k * n) (add-zero i)) in sym (drop_of_length-le t z)
  records-from t g a (suc m) i h e =
      let z : a + i * n + n ≡ a + suc i * n = omega (arith, suc-mul i n) in
      let y : i + suc m ≡ suc i + m = omega arith in
      ap (λ (l : List ℕ). l ++ records f (tab m (suc i) g)) (e i (omega arith))
      ∙ ap (λ (l : List ℕ). take n (drop (a + i * n) t) ++ l)
      (records-from t g a m (suc i) (omega (arith, ap (λ (k : ℕ). a + k * n) y)) (λ j l. e j (omega arith))
      ∙ ap (λ (k : ℕ). drop k t) (sym z) ∙ sym (drop-drop n (a + i * n) t))
      ∙ take-append-drop n (drop (a + i * n) t)

-- ---- TWO OCTETS FOR EACH OF A LIST, and n of them read back from a on
abbrev pub pairs : {A : Type 0} → (A → ℕ) → (A → ℕ) → List A → List ℕ
pairs f g [] = []
pairs f g (x ∷ l) = f x ∷ g x ∷ pairs f g l

abbrev pub pairs_at : {A : Type 0} → (ℕ → ℕ → A) → ℕ → ℕ → List ℕ → List A
pairs_at by zero a s = []
pairs_at by (suc n) a s = by (get_or s a 0) (get_or s (suc a) 0) ∷ pairs_at by n (suc (suc a)) s

module _ {A : Type 0} (f g : A → ℕ) (by : ℕ → ℕ → A) where
  pub pairs-length : (l : List A) → length (pairs f g l) ≡ 2 * length l
  pairs-length [] = refl
  pairs-length (x ∷ l) = omega (arith, pairs-length l)

  pairs-past : (n a x : ℕ) (s : List ℕ) → pairs_at by n (suc a) (x ∷ s) ≡ pairs_at by n a s
  pairs-past zero a x s = refl
  pairs-past (suc n) a x s = ap (λ (l : List A). by (get_or s a 0) (get_or s (suc a) 0) ∷ l) (pairs-past n (suc (suc a)) x s)

  pairs-back : (l : List A) (d : A) (r : List ℕ) → ((i : ℕ) → i < length l → by (f (get_or l i d)) (g (get_or l i d)) ≡ get_or l i d) → pairs_at by (length l) 0 (pairs f g l ++ r) ≡ l
  pairs-back [] d r e = refl
  pairs-back (x ∷ l) d r e =
      let s : List ℕ = pairs f g l ++ r in
      ap (λ (y : A). y ∷ pairs_at by (length l) 2 (f x ∷ g x ∷ s)) (e 0 (omega arith))
      ∙ ap (λ (m : List A). x ∷ m) (pairs-past (length l) 1 (f x) (g x ∷ s) ∙ pairs-past (length l) 0 (g x) s ∙ pairs-back l d r (λ i h. e (suc i) (omega arith)))

  drop-pairs : (n a : ℕ) (s : List ℕ) → a ≤ length s → pairs_at by n a s ≡ pairs_at by n 0 (drop a s)
  drop-pairs n zero s h = refl
  drop-pairs n (suc a) [] h = absurd (omega arith)
  drop-pairs n (suc a) (x ∷ s) h = pairs-past n a x s ∙ drop-pairs n a s (omega arith)

  -- a list is had back from where its pairs stand
  pub pairs-at : (l : List A) (d : A) (n a : ℕ) (s r : List ℕ) → ((i : ℕ) → i < length l → by (f (get_or l i d)) (g (get_or l i d)) ≡ get_or l i d)
      → length l ≡ n → a ≤ length s → drop a s ≡ pairs f g l ++ r → pairs_at by n a s ≡ l
  pairs-at l d n a s r e m h q =
      drop-pairs n a s h ∙ ap (pairs_at by n 0) q ∙ ap (λ (k : ℕ). pairs_at by k 0 (pairs f g l ++ r)) (sym m) ∙ pairs-back l d r e

  -- and the pairs from what they are read as
  pub pairs-from : (n a : ℕ) (s : List ℕ) → ((i : ℕ) → (f (by (get_or s i 0) (get_or s (suc i) 0)) ≡ get_or s i 0) × (g (by (get_or s i 0) (get_or s (suc i) 0)) ≡ get_or s (suc i) 0))
      → a + 2 * n ≤ length s → pairs f g (pairs_at by n a s) ≡ take (2 * n) (drop a s)
  pairs-from zero a s e h = refl
  pairs-from (suc n) a s e h =
      let x : ℕ = get_or s a 0 in
      let y : ℕ = get_or s (suc a) 0 in
      let l : List ℕ = pairs f g (pairs_at by n (suc (suc a)) s) in
      let z : 2 * suc n ≡ suc (suc (2 * n)) = omega arith in
      ap (λ (k : ℕ). k ∷ g (by x y) ∷ l) (e a).0
      ∙ ap (λ (k : ℕ). x ∷ k ∷ l) (e a).1
      ∙ ap (λ (r : List ℕ). x ∷ y ∷ r) (pairs-from n (suc (suc a)) s e (omega arith))
      ∙ sym (ap (λ (k : ℕ). take k (drop a s)) z ∙ ap (take (suc (suc (2 * n)))) (drop-cons s a 0 (omega arith) ∙ ap (λ (r : List ℕ). x ∷ r) (drop-cons s (suc a) 0 (omega arith))))
