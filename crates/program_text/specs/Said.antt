-- TEXT IN A LENT SPACE, cut where the space ends: what a printing function did, and that one text after another is one. Assumes nothing.
use Rattle.std.specs.Prelude.{ℕ, suc, ◌+◌, ◌<◌, ◌≤◌, min, ◌≡◌, refl, List, [], ◌∷◌, ◌++◌, length, set, get_or, take}
use Rattle.std.proofs.Common.{sym, ap, ◌∙◌, subst, arith, add-one, length-append, length-set, take-suc, take_all}
use Rattle.std.proofs.lemmas.List.Edits.{sets}
use Rattle.std.proofs.Math.Seq.{set_out}
use Rattle.laws.specs.If.{if_lt, by-lt}
use Rattle.laws.specs.Runs.{join}

-- vs stands at `at`, as far as there is room; r is past it, or the space's end; the rest is as it was
pub record Said (old : List ℕ) (at : ℕ) (vs : List ℕ) (r : ℕ) (new : List ℕ) : Type 0 where
  pub fits : r ≤ length new
  pub past : r ≡ min (at + length vs) (length old)
  pub holds : new ≡ sets old at vs
  pub long : length new ≡ length old

-- past the end nothing is written
sets-out : (l : List ℕ) (i : ℕ) (vs : List ℕ) → length l ≤ i → sets l i vs ≡ l
sets-out l i [] h = refl
sets-out l i (v ∷ vs) h = sets-out (set l i v) (suc i) vs (omega (arith, length-set l i v)) ∙ set_out l i v h

-- no text yet; an octet
pub said-none : (l : List ℕ) (at : ℕ) → at ≤ length l → Said l at [] at l
said-none l at h = record { fits = h; past = omega arith; holds = refl; long = refl }

pub said-one : (l : List ℕ) (at v : ℕ) → at < length l → Said l at (v ∷ []) (at + 1) (set l at v)
said-one l at v h = record { fits = omega (arith, length-set l at v); past = omega arith; holds = refl; long = length-set l at v }

pub said-cut : (l : List ℕ) (at v : ℕ) → length l ≤ at → Said l at (v ∷ []) (length l) l
said-cut l at v h = record { fits = omega arith; past = omega arith; holds = sym (set_out l at v h); long = refl }

-- one text, and another where it is past, are one text
pub said_more : {l m n : List ℕ} {at p q : ℕ} {xs ys : List ℕ} → Said l at xs p m → Said m p ys q n → Said l at (xs ++ ys) q n
said_more {l} {m} {n} {at} {p} {q} {xs} {ys} a b = record {
  fits = b.fits;
  past = omega (arith, a.past, b.past, a.long, length-append xs ys);
  holds = b.holds ∙ cut ∙ ap (λ (k : List ℕ). sets k (at + length xs) ys) a.holds ∙ join l at xs ys;
  long = b.long ∙ a.long;
}
  where
    cut : sets m p ys ≡ sets m (at + length xs) ys
    cut = by-lt {A = ℕ} {r = if_lt (length l) (at + length xs) 0 0} (length l) (at + length xs) 0 0 refl
        (λ f _. sets-out m p ys (omega (arith, a.past, a.long)) ∙ sym (sets-out m (at + length xs) ys (omega (arith, a.long))))
        (λ f _. ap (λ (k : ℕ). sets m k ys) (omega (arith, a.past)))

-- the same text by another name
pub said-as : {l m : List ℕ} {at p : ℕ} {xs ys : List ℕ} → Said l at xs p m → xs ≡ ys → Said l at ys p m
said-as {l} {m} {at} {p} a e = subst (λ (k : List ℕ). Said l at k p m) e a

-- a text of which i octets stand, one more; and all
pub said-next : {l m n : List ℕ} {at p q : ℕ} (s : List ℕ) (i : ℕ) → i < length s → Said l at (take i s) p m → Said m p (get_or s i 0 ∷ []) q n → Said l at (take (i + 1) s) q n
said-next s i h a b = said-as (said_more a b) (sym (take-suc s i 0 h) ∙ ap (λ (k : ℕ). take k s) (sym (add-one i)))

pub said_all : {l m : List ℕ} {at p : ℕ} (s : List ℕ) (i : ℕ) → length s ≤ i → Said l at (take i s) p m → Said l at s p m
said_all s i h a = said-as a (take_all i s h)
