-- A written run, and its laws: runs join, and are read back. Assumes nothing.
use Rattle.std.specs.Prelude.{◌≡◌, refl, List, [], ◌∷◌, ◌++◌, ℕ, zero, suc, ◌+◌, ◌<◌, ◌≤◌, length, set, get_or, take}
use Rattle.std.proofs.Common.{sym, ◌∙◌, ap, subst, add-zero, add-suc, suc-add, add-one, arith, length-append, length-set, take-suc, get_or-set_same, get_or-set_other}
use Rattle.std.proofs.lemmas.List.Edits.{sets}
use Rattle.std.proofs.lemmas.List.{set_comm}

-- vs was written at `at`, and r is past it: nothing before and nothing after changed
pub record Wrote (old : List ℕ) (at : ℕ) (vs : List ℕ) (r : ℕ) (new : List ℕ) : Type 0 where
  pub past : r ≡ at + length vs
  pub holds : new ≡ sets old at vs
  pub long : length new ≡ length old

-- a run, and a run after it, are one run
pub join : (l : List ℕ) (at : ℕ) (xs ys : List ℕ) → sets (sets l at xs) (at + length xs) ys ≡ sets l at (xs ++ ys)
join l at [] ys = ap (λ (k : ℕ). sets l k ys) (add-zero at)
join l at (x ∷ xs) ys =
    ap (λ (k : ℕ). sets (sets (set l at x) (suc at) xs) k ys) (add-suc at (length xs) ∙ sym (suc-add at (length xs)))
    ∙ join (set l at x) (suc at) xs ys

-- a run, and one written after it that ends where it begins, are one run too
set-sets : (l : List ℕ) (i v at : ℕ) (ys : List ℕ) → i < at → set (sets l at ys) i v ≡ sets (set l i v) at ys
set-sets l i v at [] h = refl
set-sets l i v at (y ∷ ys) h =
    set-sets (set l at y) i v (suc at) ys (omega arith) ∙ ap (λ (m : List ℕ). sets m (suc at) ys) (set_comm l at i y v (λ e. omega arith))

pub join-before : (l : List ℕ) (at : ℕ) (xs ys : List ℕ) → sets (sets l (at + length xs) ys) at xs ≡ sets l at (xs ++ ys)
join-before l at xs ys = apart l at xs (at + length xs) ys (omega arith) ∙ join l at xs ys
  where
    apart : (l : List ℕ) (at : ℕ) (xs : List ℕ) (to : ℕ) (ys : List ℕ) → at + length xs ≤ to → sets (sets l to ys) at xs ≡ sets (sets l at xs) to ys
    apart l at [] to ys h = refl
    apart l at (x ∷ xs) to ys h =
        ap (λ (m : List ℕ). sets m (suc at) xs) (set-sets l at x to ys (omega arith)) ∙ apart (set l at x) (suc at) xs to ys (omega arith)

pub wrote_none : (l : List ℕ) (at : ℕ) → Wrote l at [] at l
wrote_none l at = record { past = sym (add-zero at); holds = refl; long = refl }

-- one run and the next, which starts where the first is past
pub wrote-more : {l m n : List ℕ} {at p j q : ℕ} {xs ys : List ℕ} → Wrote l at xs p m → j ≡ p → Wrote m j ys q n → Wrote l at (xs ++ ys) q n
wrote-more {l} {m} {n} {at} {p} {j} {q} {xs} {ys} a e b = record {
  past = omega (arith, a.past, b.past, length-append xs ys);
  holds = b.holds ∙ ap (λ (k : List ℕ). sets k j ys) a.holds ∙ ap (λ (k : ℕ). sets (sets l at xs) k ys) (e ∙ a.past) ∙ join l at xs ys;
  long = b.long ∙ a.long;
}

-- the same octets by another name
pub wrote_as : {l m : List ℕ} {at p : ℕ} {xs ys : List ℕ} → Wrote l at xs p m → xs ≡ ys → Wrote l at ys p m
wrote_as {l} {m} {at} {p} a e = subst (λ (k : List ℕ). Wrote l at k p m) e a

-- what is read before a run is as it was
pub before : (l : List ℕ) (at : ℕ) (xs : List ℕ) (i : ℕ) → i < at → get_or (sets l at xs) i 0 ≡ get_or l i 0
before l at [] i h = refl
before l at (x ∷ xs) i h = before (set l at x) (suc at) xs i (omega arith) ∙ get_or-set_other l at i x 0 (λ e. omega arith)

-- what is read in a run is what was written
pub inside : (l : List ℕ) (at : ℕ) (xs : List ℕ) (i : ℕ) → i < length xs → at + length xs ≤ length l → get_or (sets l at xs) (at + i) 0 ≡ get_or xs i 0
inside l at [] i h r = absurd (omega arith)
inside l at (x ∷ xs) zero h r =
    ap (λ (k : ℕ). get_or (sets (set l at x) (suc at) xs) k 0) (add-zero at)
    ∙ before (set l at x) (suc at) xs at (omega arith) ∙ get_or-set_same l at x 0 (omega arith)
inside l at (x ∷ xs) (suc i) h r =
    ap (λ (k : ℕ). get_or (sets (set l at x) (suc at) xs) k 0) (add-suc at i ∙ sym (suc-add at i))
    ∙ inside (set l at x) (suc at) xs i (omega arith) (omega (arith, length-set l at x))

-- and past it, as it was
pub after : (l : List ℕ) (at : ℕ) (xs : List ℕ) (i : ℕ) → at + length xs ≤ i → get_or (sets l at xs) i 0 ≡ get_or l i 0
after l at [] i h = refl
after l at (x ∷ xs) i h = after (set l at x) (suc at) xs i (omega arith) ∙ get_or-set_other l at i x 0 (λ e. omega arith)

-- a copy, one octet more
pub copied_more : (l m : List ℕ) (at : ℕ) (src : List ℕ) (i : ℕ) → m ≡ sets l at (take i src) → i < length src → set m (at + i) (get_or src i 0) ≡ sets l at (take (i + 1) src)
copied_more l m at src i e h =
    ap (λ (m : List ℕ). set m (at + i) (get_or src i 0)) e ∙
    ap (λ (k : ℕ). set (sets l at (take i src)) (at + k) (get_or src i 0)) (sym (long i src (omega arith)))
    ∙ join l at (take i src) (get_or src i 0 ∷ [])
    ∙ ap (sets l at) (sym (take-suc src i 0 h) ∙ ap (λ (k : ℕ). take k src) (sym (add-one i)))
  where
    long : (i : ℕ) (s : List ℕ) → i ≤ length s → length (take i s) ≡ i
    long zero s q = refl
    long (suc i) [] q = absurd (omega arith)
    long (suc i) (x ∷ s) q = ap suc (long i s (omega arith))
