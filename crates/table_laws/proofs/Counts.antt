-- FREE PLACES: the lowest, and how many; every place is free or one service's. Assumes nothing.
use Rattle.std.specs.Prelude.{◌≡◌, refl, Bool, true, false, cond, List, [], ◌∷◌, map, ℕ, zero, suc, ◌+◌, ◌-◌, ◌<◌, eqb, ltb, leb, length, get_or, take}
use Rattle.std.proofs.Common.{sym, ap, subst, ◌∙◌, arith, eqb-true, ltb-true, ltb-false, le-leb}
use Rattle.std.proofs.lemmas.Bool.{eqb-false, lt-leb}
use Rattle.laws.specs.If.{if_eq, if_b, yes, no, all}
use Rattle.laws.specs.Sums.{sum, sum-ext, sum-plus, sum-zero, sum_by}
use Rattle.laws.specs.Lists.{first_at}
use Rattle.laws.specs.Digits.{octet_digits, lowest, count}
use Rattle.paper.specs.Dialogues.{Place, empty_place}
use Rattle.paper.specs.Sizes.{places_in_all, services}
use Rattle.paper.specs.Shares.{free}
use Rattle.paper.specs.Calls.{Table, place_at, is_free, is_of, held, dialogues, lowest_free}
use Rattle.paper.specs.Layout.{flag, map_size, table_size, view}
use Rattle.table_laws.specs.Fine.{Octets, FinePlace, Fine}
use Rattle.table_laws.proofs.Slots.{flag-free, flag-used}
use Rattle.table_laws.specs.Whole.{slot_at_kept}
use Rattle.table_laws.proofs.Whole.{view-length, view-fine, view-each, view-bits, encode-view}
use Rattle.table_laws.specs.Ready.{Ready}
use Rattle.table_laws.proofs.Ready.{ready-bits}

-- ---- the lowest bit that is set is the first free place
pub lowest-first : (ps : List Place) → lowest (map flag ps) ≡ first_at is_free ps
unfolding lowest first_at flag
lowest-first [] = refl
lowest-first (x ∷ ps) = go (lowest-first ps) (is_free x) refl
  where
    go : lowest (map flag ps) ≡ first_at is_free ps → (b : Bool) → is_free x ≡ b → lowest (if_b (is_free x) 1 0 ∷ map flag ps) ≡ if_b (is_free x) 0 (suc (first_at is_free ps))
    go ih true q = ap (λ (n : ℕ). lowest (n ∷ map flag ps)) (sym (yes (is_free x) 1 0 q refl)) ∙ yes (is_free x) 0 (suc (first_at is_free ps)) q refl
    go ih false q = ap (λ (n : ℕ). lowest (n ∷ map flag ps)) (sym (no (is_free x) 1 0 q refl)) ∙ no (is_free x) 0 (suc (first_at is_free ps)) q (ap suc ih)

pub ready-lowest : (t : List ℕ) → Ready t → lowest (octet_digits (take map_size t)) ≡ lowest_free (view t)
unfolding lowest_free
ready-lowest t r = ap lowest (ready-bits t r) ∙ lowest-first (view t).places

-- ---- every place is one service's, or free
-- a number below n is one of those
one_of : (v n : ℕ) → sum (λ s. cond (eqb v s) 1 0) n + cond (leb n v) 1 0 ≡ 1
one_of v zero = rw (le-leb 0 v (omega arith))
one_of v (suc n) = go (eqb v n) refl (ltb n v) refl (one_of v n)
  where
    go : (a : Bool) → eqb v n ≡ a → (b : Bool) → ltb n v ≡ b → sum (λ s. cond (eqb v s) 1 0) n + cond (leb n v) 1 0 ≡ 1
        → sum (λ s. cond (eqb v s) 1 0) n + cond a 1 0 + cond b 1 0 ≡ 1
    go true e true f ih = absurd (omega (arith, eqb-true v n e, ltb-true n v f))
    go true e false f ih = let q = rw (le-leb n v (omega (arith, eqb-true v n e))) at ih in omega (arith, q)
    go false e true f ih = let q = rw (le-leb n v (omega (arith, ltb-true n v f))) at ih in omega (arith, q)
    go false e false f ih = let ne : v ≡ n → ⊥ = eqb-false v n e in let q = rw (lt-leb n v (omega (arith, ltb-false n v f))) at ih in omega (arith, q)

-- a place is one service's, or free
each-one : (x : Place) (n : ℕ) → x.control.service < n → sum (λ s. is_of s x) n + flag x ≡ 1
unfolding is_of if_eq is_free
each-one x n h = go (eqb x.control.state 0) refl
  where
    go : (b : Bool) → eqb x.control.state 0 ≡ b → sum (λ s. is_of s x) n + flag x ≡ 1
    go true q =
        let z : sum (λ s. is_of s x) n ≡ 0 = sum-ext (λ s. is_of s x) (λ s. 0) n (λ s l. sym (yes (eqb x.control.state 0) 0 (if_eq x.control.service s 1 0) q refl)) ∙ sum-zero n in
        omega (arith, z, flag-free x (eqb-true x.control.state 0 q))
    go false q =
        let z : sum (λ s. is_of s x) n ≡ sum (λ s. cond (eqb x.control.service s) 1 0) n =
        sum-ext (λ s. is_of s x) (λ s. cond (eqb x.control.service s) 1 0) n (λ s l. sym (no (eqb x.control.state 0) 0 (if_eq x.control.service s 1 0) q refl)) in
        let w = rw (lt-leb n x.control.service h) at (one_of x.control.service n) in
        omega (arith, z, w, flag-used x (eqb-false x.control.state 0 q))

-- over any number of services, so that no sum is written out
pub held-free : (ps : List Place) (n : ℕ) → ((i : ℕ) → i < length ps → (get_or ps i (empty_place 0)).control.service < n) → sum (held ps) n + sum_by flag ps ≡ length ps
unfolding held
held-free [] n h = ap (λ (m : ℕ). m + 0) (sum-zero n)
held-free (x ∷ ps) n h =
    omega (
      arith,
      sum-plus (λ s. is_of s x) (held ps) n,
      each-one x n (h 0 (omega arith)),
      held-free ps n (λ i l. h (suc i) (omega arith)),
    )

-- ---- the bits that are set are the free places
count-free : (ps : List Place) → count (map flag ps) ≡ sum_by flag ps
unfolding count
count-free [] = refl
count-free (x ∷ ps) = ap (λ (n : ℕ). flag x + n) (count-free ps)

-- where each place is fine: every place is a service's or free, and the map's bits that are set are those that no service holds
module _ (t : List ℕ) (each : (p : ℕ) → p < places_in_all → FinePlace (place_at (view t) p)) where
  pub places-all : sum (held (view t).places) services + sum_by flag (view t).places ≡ places_in_all
  places-all = held-free (view t).places services (λ i l. (each i (omega (arith, view-length t))).control.service) ∙ view-length t

  pub map-count : octet_digits (take map_size t) ≡ map flag (view t).places → count (octet_digits (take map_size t)) ≡ free (dialogues (view t))
  map-count e = ap count e ∙ count-free (view t).places ∙ less (sum (held (view t).places) services) (sum_by flag (view t).places) places-all
    where
      less : (n m : ℕ) → n + m ≡ places_in_all → m ≡ places_in_all - n
      less n m h = omega arith

pub all-places : (T : Table) → Fine T → sum (held T.places) services + sum_by flag T.places ≡ places_in_all
all-places T f = held-free T.places services (λ i l. (f.each i (omega (arith, f.places))).control.service) ∙ f.places

-- where each place passes, before the shares are judged
pub walk-count : (t : List ℕ) → Octets t → length t ≡ table_size → all (slot_at_kept t) places_in_all ≡ true → count (octet_digits (take map_size t)) ≡ free (dialogues (view t))
walk-count t o e k = map-count t (λ p h. view-fine t e o (encode-view t e o k) p h (view-each t e o k p h)) (view-bits t e o k)

-- ---- where a place is free, the lowest is there, and free
pub first-there : (ps : List Place) → 0 < sum_by flag ps → first_at is_free ps < length ps
unfolding first_at flag
first-there [] h = h
first-there (x ∷ ps) h = go (is_free x) refl (first-there ps)
  where
    go : (b : Bool) → is_free x ≡ b → (0 < sum_by flag ps → first_at is_free ps < length ps) → if_b (is_free x) 0 (suc (first_at is_free ps)) < suc (length ps)
    go true q ih = omega (arith, yes {r = 0} (is_free x) 0 (suc (first_at is_free ps)) q refl)
    go false q ih =
        let z : ◌≡◌ {A = ℕ} 0 (if_b (is_free x) 1 0) = no (is_free x) 1 0 q refl in
        omega (arith, no {r = suc (first_at is_free ps)} (is_free x) 0 (suc (first_at is_free ps)) q refl, ih (omega (arith, z, h)))

pub first-free : (ps : List Place) → first_at is_free ps < length ps → is_free (get_or ps (first_at is_free ps) (empty_place 0)) ≡ true
unfolding first_at
first-free [] h = absurd (omega arith)
first-free (x ∷ ps) h = go (is_free x) refl (first-free ps)
  where
    go : (b : Bool) → is_free x ≡ b → (first_at is_free ps < length ps → is_free (get_or ps (first_at is_free ps) (empty_place 0)) ≡ true)
        → is_free (get_or (x ∷ ps) (if_b (is_free x) 0 (suc (first_at is_free ps))) (empty_place 0)) ≡ true
    go true q ih = ap (λ (n : ℕ). is_free (get_or (x ∷ ps) n (empty_place 0))) (sym (yes (is_free x) 0 (suc (first_at is_free ps)) q refl)) ∙ q
    go false q ih =
        let z : suc (first_at is_free ps) ≡ if_b (is_free x) 0 (suc (first_at is_free ps)) = no (is_free x) 0 (suc (first_at is_free ps)) q refl in
        ap (λ (n : ℕ). is_free (get_or (x ∷ ps) n (empty_place 0))) (sym z) ∙ ih (omega (arith, z, h))

pub lowest-is-free : (T : Table) → Fine T → lowest_free T < places_in_all → flag (place_at T (lowest_free T)) ≡ 1
unfolding lowest_free flag
lowest-is-free T f h =
    sym (yes (is_free (place_at T (lowest_free T))) 1 0 (first-free T.places (subst (λ (n : ℕ). first_at is_free T.places < n) (sym f.places) h)) refl)
