-- How many places are of each kind: the services' dialogues, and the free places. Assumes nothing.
use Rattle.std.specs.Prelude.{◌≡◌, Bool, cond, List, ℕ, zero, suc, ◌+◌, ◌-◌, ◌<◌, ◌≤◌, get_or, set, replicate}
use Rattle.std.proofs.Math.Path.{refl, sym, ap}
use Rattle.std.proofs.Common.{subst, ◌∙◌, add-zero, add-one, arith, eq-eqb, ne_eqb, eqb-true, lt-ltb}
use Rattle.std.proofs.Math.Bool.{true, false}
use Rattle.std.proofs.Math.Dec.{eqb}
use Rattle.std.proofs.lemmas.Bool.{eqb-false}
use Rattle.laws.specs.If.{if_eq, if_b, all, all-at, all-step, yes, no}
use Rattle.laws.specs.Sums.{sum, sum-ext}
use Rattle.laws.specs.Lists.{tab, at-tab, tab-set, tab-ext, sum-tab}
use Rattle.paper.specs.Calls.{is_free, is_of, held}
use Rattle.paper.specs.Sizes.{places_in_all, services}
use Rattle.paper.specs.Layout.{state_at, service_at, place_by, slot, view}
use Rattle.table_rules.specs.Kinds.{free_kind, broken_kind, slot_seen, kind_at, kept_at, place_kept}

abbrev pub is_kind : ℕ → ℕ → ℕ
is_kind a k = cond (eqb a k) 1 0

-- how many of the first p places are of kind k
abbrev pub tally : List ℕ → ℕ → ℕ → ℕ
tally t p k = sum (λ q. is_kind (kind_at t q) k) p

abbrev pub tallies : List ℕ → ℕ → List ℕ
tallies t p = tab services 0 (tally t p)

kind-one : (a k : ℕ) → is_kind a k ≤ 1
kind-one a k = go (eqb a k)
  where
    go : (b : Bool) → cond {A = ℕ} b 1 0 ≤ 1
    go true = omega arith
    go false = omega arith

kind-hit : (a b : ℕ) → a ≡ b → is_kind a b ≡ 1
kind-hit a b q = rw (eq-eqb a b q)

kind-miss : (a b : ℕ) → (a ≡ b → ⊥) → is_kind a b ≡ 0
kind-miss a b q = rw (ne_eqb a b q)

tally-le : (t : List ℕ) (p k : ℕ) → tally t p k ≤ p
tally-le t zero k = omega arith
tally-le t (suc p) k = omega (arith, tally-le t p k, kind-one (kind_at t p) k)

tallies-le : (t : List ℕ) (p k : ℕ) → k < services → get_or (tallies t p) k 0 ≤ p
tallies-le t p k h = subst (λ (n : ℕ). n ≤ p) (sym (at-tab services k (tally t p) 0 h)) (tally-le t p k)

-- one place more, of kind k
tallies-step : (t : List ℕ) (p k : ℕ) → k ≡ kind_at t p → k < services → set (tallies t p) k (get_or (tallies t p) k 0 + 1) ≡ tallies t (p + 1)
tallies-step t p k e h =
    let here : tally t (suc p) k ≡ get_or (tallies t p) k 0 + 1 =
    ap (λ (n : ℕ). tally t p k + n) (kind-hit (kind_at t p) k (sym e)) ∙ ap (λ (n : ℕ). n + 1) (sym (at-tab services k (tally t p) 0 h)) in
    ap (set (tallies t p) k) (sym here)
    ∙ sym (tab-set services (tally t p) (tally t (suc p)) k h (λ j n. other j n) 0)
    ∙ ap (tallies t) (sym (add-one p))
  where
    other : (j : ℕ) → (j ≡ k → ⊥) → tally t (suc p) j ≡ tally t p j
    other j n = let z : is_kind (kind_at t p) j ≡ 0 = kind-miss (kind_at t p) j (λ q. n (sym q ∙ sym e)) in omega (arith, z)

-- a free one more
tallies-free : (t : List ℕ) (p : ℕ) → kind_at t p ≡ free_kind → tallies t p ≡ tallies t (p + 1)
tallies-free t p e = tab-ext services (tally t p) (tally t (p + 1)) 0 (λ k h. same k h)
  where
    same : (k : ℕ) → k < services → tally t p k ≡ tally t (p + 1) k
    same k h =
        let z : is_kind (kind_at t p) k ≡ 0 = kind-miss (kind_at t p) k (λ q. omega (arith, e, q)) in
        let w : tally t p k ≡ tally t (suc p) k = omega (arith, z) in
        w ∙ ap (λ (i : ℕ). tally t i k) (sym (add-one p))

-- ---- a run of free places, up to one that is not or that breaks a rule
pub record FreeRun (t : List ℕ) (p r : ℕ) : Type 0 where
  pub start : p ≤ r
  pub most : r ≤ places_in_all
  pub free : (q : ℕ) → p ≤ q → q < r → kind_at t q ≡ free_kind
  pub end : r < places_in_all → kind_at t r ≡ free_kind → ⊥

-- every place below p keeps the rules and was counted; p is not free
pub record Upto (t : List ℕ) (p : ℕ) (counts : List ℕ) : Type 0 where
  pub most : p ≤ places_in_all
  pub keeps : all (slot_seen t) p ≡ true
  pub counted : counts ≡ tallies t p
  pub end : p < places_in_all → kind_at t p ≡ free_kind → ⊥

run-keeps : (t : List ℕ) (n p : ℕ) → ((q : ℕ) → p ≤ q → q < p + n → kind_at t q ≡ free_kind) → all (slot_seen t) p ≡ true
    → (all (slot_seen t) (p + n) ≡ true) × (tallies t p ≡ tallies t (p + n))
run-keeps t zero p h k = (ap (all (slot_seen t)) (add-zero p) ∙ k, ap (tallies t) (sym (add-zero p)))
run-keeps t (suc n) p h k =
    let e : p + 1 + n ≡ p + suc n = omega arith in
    let f : kind_at t p ≡ free_kind = h p (omega arith) (omega arith) in
    let r = run-keeps t n (p + 1) (λ q a b. h q (omega arith) (omega arith)) (all-step (slot_seen t) p k (place_kept t p ∙ lt-ltb (kind_at t p) broken_kind (omega (arith, f)))) in
    (ap (all (slot_seen t)) (sym e) ∙ r.0, tallies-free t p f ∙ r.1 ∙ ap (tallies t) e)

run-upto : (t : List ℕ) (p r : ℕ) (counts : List ℕ) → all (slot_seen t) p ≡ true → counts ≡ tallies t p → FreeRun t p r → Upto t r counts
run-upto t p r counts k c f =
    let e : p + (r - p) ≡ r = omega (arith, f.start) in
    let w = run-keeps t (r - p) p (λ q a b. f.free q a (omega arith)) k in
    record {
      most = f.most;
      keeps = ap (all (slot_seen t)) (sym e) ∙ w.0;
      counted = c ∙ w.1 ∙ ap (tallies t) e;
      end = f.end;
    }

pub upto-start : (t : List ℕ) (r : ℕ) → FreeRun t 0 r → Upto t r (replicate services 0)
upto-start t r f = run-upto t 0 r (replicate services 0) refl refl f

pub upto-more : (t : List ℕ) (p r k : ℕ) (counts : List ℕ) → Upto t p counts → k ≡ kind_at t p → k < services → FreeRun t (p + 1) r
    → Upto t r (set counts k (get_or counts k 0 + 1))
upto-more t p r k counts u e h f =
    run-upto t (p + 1) r (set counts k (get_or counts k 0 + 1))
    (all-step (slot_seen t) p u.keeps (place_kept t p ∙ lt-ltb (kind_at t p) broken_kind (omega (arith, e))))
    (ap (λ (l : List ℕ). set l k (get_or l k 0 + 1)) u.counted ∙ tallies-step t p k e h) f

pub upto-small : (t : List ℕ) (p k : ℕ) (counts : List ℕ) → Upto t p counts → k < services → get_or counts k 0 ≤ places_in_all
upto-small t p k counts u h =
    let e : get_or counts k 0 ≡ get_or (tallies t p) k 0 = ap (λ (l : List ℕ). get_or l k 0) u.counted in
    omega (arith, e, tallies-le t p k h, u.most)

-- ---- what a kind says of its place
module _ (t : List ℕ) (keeps : all (slot_seen t) places_in_all ≡ true) where
  each : (q : ℕ) → q < places_in_all → slot_seen t q ≡ true
  each q h = all-at (slot_seen t) places_in_all q keeps h

  kind-of-service : (s q : ℕ) → s < services → q < places_in_all → is_kind (kind_at t q) s ≡ is_of s (place_by (slot t q))
  unfolding is_of is_free place_by if_eq
  kind-of-service s q h l = go (eqb (get_or (slot t q) state_at 0) 0) refl
    where
      go : (b : Bool) → eqb (get_or (slot t q) state_at 0) 0 ≡ b
          → is_kind (kind_at t q) s ≡ if_b (eqb (get_or (slot t q) state_at 0) 0) 0 (if_eq (get_or (slot t q) service_at 0) s 1 0)
      go true e =
          let k = (kept_at t q (each q l)).free (eqb-true (get_or (slot t q) state_at 0) 0 e) in
          kind-miss (kind_at t q) s (λ w. omega (arith, k.0, w)) ∙ yes _ _ _ e refl
      go false e =
          let k = (kept_at t q (each q l)).used (eqb-false (get_or (slot t q) state_at 0) 0 e) in
          ap (λ (a : ℕ). is_kind a s) k.0 ∙ is (get_or (slot t q) service_at 0) ∙ no _ _ _ e refl
        where
          is : (a : ℕ) → is_kind a s ≡ if_eq a s 1 0
          is a = refl

  -- the code's count is the model's
  pub tally-held : (s : ℕ) → s < services → get_or (tallies t places_in_all) s 0 ≡ held (view t).places s
  unfolding view held
  tally-held s h =
      at-tab services s (tally t places_in_all) 0 h
      ∙ sum-ext (λ q. is_kind (kind_at t q) s) (λ q. is_of s (place_by (slot t q))) places_in_all (λ q g. kind-of-service s q h g)
      ∙ sym (sum-tab (is_of s) places_in_all (λ q. place_by (slot t q)))
