-- A PLACE BY ITS OCTETS, in the steps that the code takes: its eight invocations, its eight rejects, its kind. Assumes nothing.
use Rattle.std.specs.Prelude.{◌≡◌, Bool, true, false, cond, ℕ, ◌+◌, ◌*◌, ◌-◌, ◌≤◌, ◌<◌, eqb, ltb, leb, length, take, drop}
use Rattle.std.proofs.Math.Path.{refl}
use Rattle.std.proofs.Common.{sym, ap, subst, ◌∙◌, arith, lt-ltb, ne_eqb, eqb-true, ltb-true, ltb-false, le-leb, length-take}
use mathlib.Core.List.{List}
use Rattle.std.proofs.lemmas.Bool.{eqb-false}
use Rattle.std.proofs.Math.ListN.{get_or}
use Rattle.laws.specs.If.{if_lt, if_eq, if_b, eq, ne, yes, no, was-ge, was-eq, was-yes, by-eq, true-false}
use Rattle.laws.specs.Lists.{zeros, every, every-split}
use Rattle.paper.specs.declared.Invocation.{Invocation}
use Rattle.paper.specs.declared.Reject.{Reject}
use Rattle.paper.specs.Sizes.{services, most_invocations, most_rejects, most_waiting}
use Rattle.paper.specs.Invocations.{slot_of}
use Rattle.paper.specs.Layout.{state_at, service_at, waiting_length_at, count_at, first_invocation, first_reject, waiting_start, invocation_by, invocations_at, reject_by, rejects_at, place_by, slot, map_bit}
use Rattle.table_laws.specs.Slots.{free_kept, used_kept, slot_kept}
use Rattle.table_laws.specs.Whole.{slot_at_kept}
use Rattle.paper.specs.Rules.{dialogue_rules, dialogue_kept, invocation_kept, differs, reject_kept, reject_zero, rejects_kept, waiting_kept}

-- the invocation at index i, and those from it on
abbrev pub invocation_no : List ℕ → ℕ → Invocation
invocation_no s i = invocation_by (get_or s (first_invocation + 2 * i) 0) (get_or s (first_invocation + 2 * i + 1) 0)

abbrev pub invocations_from : ℕ → List ℕ → List Invocation
invocations_from i s = invocations_at (most_invocations - i) (first_invocation + 2 * i) s

unfoldable pub none_open : ℕ → List Invocation → Bool
none_open id l = eqb (slot_of l id) (length l)

unfoldable pub invocation_at_kept : List ℕ → ℕ → Bool
invocation_at_kept s i = if_b (invocation_kept (invocation_no s i)) (differs (invocation_no s i) (invocations_from (i + 1) s)) false

-- those from index n on are not in use
pub record IdleFrom (n : ℕ) (s : List ℕ) : Type 0 where
  pub few : n ≤ most_invocations
  pub zero : (i : ℕ) → i < 2 * (most_invocations - n) → get_or s (first_invocation + 2 * n + i) 0 ≡ 0

-- likewise the rejects, of which n wait
abbrev pub reject_no : List ℕ → ℕ → Reject
reject_no s i = reject_by (get_or s (first_reject + 2 * i) 0) (get_or s (first_reject + 2 * i + 1) 0)

abbrev pub rejects_from : ℕ → List ℕ → List Reject
rejects_from i s = rejects_at (most_rejects - i) (first_reject + 2 * i) s

unfoldable pub reject_at_kept : ℕ → ℕ → List ℕ → Bool
reject_at_kept n i s = if_lt i n (reject_kept (reject_no s i)) (reject_zero (reject_no s i))

-- n waiting octets, and zeros after them
unfoldable pub octets_kept : ℕ → List ℕ → Bool
octets_kept n s = if_b (zeros (drop (waiting_start + n) s)) (waiting_kept (take n (drop waiting_start s))) false

-- a dialogue's tests in two parts: so many of the list, of the control record but its rejects; those of the rejects and the waiting octets
abbrev pub head_rules : ℕ
head_rules = 5

unfoldable pub head_kept : List ℕ → Bool
head_kept s = every (λ r. r (place_by s)) (take head_rules dialogue_rules)

unfoldable pub tail_kept : List ℕ → Bool
tail_kept s =
    if_b (rejects_kept (get_or s count_at 0) (rejects_from 0 s)) (if_lt most_waiting (get_or s waiting_length_at 0) false (octets_kept (get_or s waiting_length_at 0) s)) false

short-take : (n : ℕ) (l : List ℕ) → n ≤ most_waiting → leb (length (take n l)) most_waiting ≡ true
short-take n l h = le-leb (length (take n l)) most_waiting (simp length-take (omega arith))

-- the tests of a dialogue in the code's order
pub used-parts : (s : List ℕ) (bit : ℕ) → used_kept s bit ≡ if_eq bit 0 (if_b (head_kept s) (tail_kept s) false) false
unfolding used_kept dialogue_kept head_kept every place_by tail_kept octets_kept if_lt if_b
used-parts s bit =
    let n : ℕ = get_or s waiting_length_at 0 in
    let l : List ℕ = drop waiting_start s in
    let k : dialogue_kept (place_by s) ≡ _ = every-split (λ r. r (place_by s)) head_rules dialogue_rules in
    ap (λ (b : Bool). if_eq bit 0 (cond (ltb most_waiting n) false (cond (zeros (drop (waiting_start + n) s)) b false)) false) k
    ∙ ap (λ (b : Bool). if_eq bit 0 b false)
    (go (head_kept s) (rejects_kept (get_or s count_at 0) (rejects_from 0 s)) (ltb most_waiting n) (zeros (drop (waiting_start + n) s)) (leb (length (take n l)) most_waiting)
    (waiting_kept (take n l)) (λ q. short-take n l (ltb-false most_waiting n q)))
  where
    nothing : (n z : Bool) → cond n false (cond z false false) ≡ false
    nothing true z = refl
    nothing false true = refl
    nothing false false = refl

    go : (h f n z l w : Bool) → (n ≡ false → l ≡ true)
        → cond n false (cond z (cond h (cond f (cond l (cond w true false) false) false) false) false) ≡ cond h (cond f (cond n false (cond z w false)) false) false
    go false f n z l w e = nothing n z
    go true false n z l w e = nothing n z
    go true true true z l w e = refl
    go true true false false l w e = refl
    go true true false true l true e = ap (λ (x : Bool). cond x true false) (e refl)
    go true true false true l false e = ap (λ (x : Bool). cond x false false) (e refl)

-- A PLACE'S KIND: its service, or one of two numbers past the services, free and broken
abbrev pub free_kind : ℕ
free_kind = services

abbrev pub broken_kind : ℕ
broken_kind = services + 1

unfoldable pub kind_of : List ℕ → ℕ → ℕ
kind_of s bit = if_eq (get_or s state_at 0) 0 (if_b (free_kept s bit) free_kind broken_kind) (if_b (used_kept s bit) (get_or s service_at 0) broken_kind)

-- THE BIT THAT THE WALK TAKES: a free place's for set. Whether it is, the number of bits that are set tells in the end
unfoldable pub seen_bit : List ℕ → ℕ → ℕ
seen_bit t p = if_eq (get_or (slot t p) state_at 0) 0 1 (map_bit t p)

unfoldable pub kind_at : List ℕ → ℕ → ℕ
kind_at t p = kind_of (slot t p) (seen_bit t p)

unfoldable pub slot_seen : List ℕ → ℕ → Bool
slot_seen t p = slot_kept (slot t p) (seen_bit t p)

module _ (t s : List ℕ) (p : ℕ) (e : s ≡ slot t p) where
  pub seen-free : get_or s state_at 0 ≡ 0 → 1 ≡ seen_bit t p
  unfolding seen_bit
  seen-free z = eq _ _ _ _ (ap (λ (l : List ℕ). get_or l state_at 0) (sym e) ∙ z) refl

  pub seen-used : (get_or s state_at 0 ≡ 0 → ⊥) → map_bit t p ≡ seen_bit t p
  unfolding seen_bit
  seen-used n = ne _ _ _ _ (λ z. n (ap (λ (l : List ℕ). get_or l state_at 0) e ∙ z)) refl

pub seen-set : (t : List ℕ) (p : ℕ) → (map_bit t p ≡ 0 → ⊥) → seen_bit t p ≡ 0 → ⊥
unfolding seen_bit
seen-set t p m z = by-eq _ _ _ _ (sym z) (λ _ w. omega (arith, w)) (λ _ w. m (sym w))

-- what a used place's rules say of its octets
pub used-service : (s : List ℕ) (bit : ℕ) → used_kept s bit ≡ true → get_or s service_at 0 < services
unfolding used_kept place_by dialogue_kept every
used-service s bit e =
    let a = was-ge _ _ _ _ (was-eq _ _ _ _ (sym e) true-false).1 true-false in
    let b = was-yes _ _ _ (was-yes _ _ _ a.1 true-false).1 true-false in
    ltb-true (get_or s service_at 0) services (was-yes _ _ _ b.1 true-false).0

pub used-bit : (s : List ℕ) (bit : ℕ) → used_kept s bit ≡ true → bit ≡ 0
unfolding used_kept
used-bit s bit e = (was-eq _ _ _ _ (sym e) true-false).0

pub free-bit : (s : List ℕ) (bit : ℕ) → free_kept s bit ≡ true → bit ≡ 1
unfolding free_kept
free-bit s bit e = (was-eq _ _ _ _ (sym e) true-false).0

-- what a kind below that of a broken place tells: free, or a service's
pub record Kept (s : List ℕ) (bit kind : ℕ) : Type 0 where
  pub free : get_or s state_at 0 ≡ 0 → (kind ≡ free_kind) × (bit ≡ 1)
  pub used : (get_or s state_at 0 ≡ 0 → ⊥) → (kind ≡ get_or s service_at 0) × (bit ≡ 0) × (kind < services)

kind-kept : (s : List ℕ) (bit : ℕ) → slot_kept s bit ≡ ltb (kind_of s bit) broken_kind
unfolding kind_of if_eq if_b
kind-kept s bit = go (eqb (get_or s state_at 0) 0) (free_kept s bit) (used_kept s bit) (used-service s bit)
  where
    go : (z f u : Bool) → (u ≡ true → get_or s service_at 0 < services) → cond z f u ≡ ltb (cond z (cond f free_kind broken_kind) (cond u (get_or s service_at 0) broken_kind)) broken_kind
    go true true u h = refl
    go true false u h = refl
    go false f true h = sym (lt-ltb (get_or s service_at 0) broken_kind (omega (arith, h refl)))
    go false f false h = refl

-- free by its kind
pub kind-used : (s : List ℕ) (bit : ℕ) → (get_or s state_at 0 ≡ 0 → ⊥) → false ≡ eqb (kind_of s bit) free_kind
unfolding kind_of if_b
kind-used s bit n =
    sym (ap (λ (k : ℕ). eqb k free_kind) (sym (ne _ _ _ _ n refl)) ∙ go (used_kept s bit) (used-service s bit))
  where
    go : (u : Bool) → (u ≡ true → get_or s service_at 0 < services) → eqb (cond u (get_or s service_at 0) broken_kind) free_kind ≡ false
    go true h = ne_eqb (get_or s service_at 0) free_kind (λ q. omega (arith, h refl, q))
    go false h = refl

pub kind-free : (s : List ℕ) (bit : ℕ) → get_or s state_at 0 ≡ 0 → free_kept s bit ≡ eqb (kind_of s bit) free_kind
unfolding kind_of if_b
kind-free s bit z = sym (ap (λ (k : ℕ). eqb k free_kind) (sym (eq _ _ _ _ z refl)) ∙ go (free_kept s bit))
  where
    go : (f : Bool) → eqb (cond f free_kind broken_kind) free_kind ≡ f
    go true = refl
    go false = refl

pub kind-broken : (s : List ℕ) (bit : ℕ) → get_or s state_at 0 ≡ 0 → (kind_of s bit ≡ free_kind → ⊥) → broken_kind ≡ kind_of s bit
unfolding kind_of
kind-broken s bit z n = eq _ _ _ _ z (go (free_kept s bit) refl)
  where
    go : (f : Bool) → free_kept s bit ≡ f → ◌≡◌ {A = ℕ} broken_kind (if_b (free_kept s bit) free_kind broken_kind)
    go true q = absurd (n (sym (eq _ _ _ _ z (yes _ _ _ q refl))))
    go false q = no _ _ _ q refl

-- one whose bit says free, and is not
pub kind-marked : (s : List ℕ) (bit : ℕ) → (bit ≡ 0 → ⊥) → (kind_of s bit ≡ free_kind → ⊥) → broken_kind ≡ kind_of s bit
unfolding kind_of used_kept
kind-marked s bit m n = go (eqb (get_or s state_at 0) 0) refl
  where
    go : (b : Bool) → eqb (get_or s state_at 0) 0 ≡ b → broken_kind ≡ kind_of s bit
    go true e = kind-broken s bit (eqb-true (get_or s state_at 0) 0 e) n
    go false e = ne _ _ _ _ (eqb-false (get_or s state_at 0) 0 e) (no _ _ _ (sym (ne _ _ _ _ m refl)) refl)

pub place_kept : (t : List ℕ) (p : ℕ) → slot_seen t p ≡ ltb (kind_at t p) broken_kind
unfolding slot_seen kind_at
place_kept t p = kind-kept (slot t p) (seen_bit t p)

pub kept-told : (s : List ℕ) (bit : ℕ) → slot_kept s bit ≡ true → Kept s bit (kind_of s bit)
unfolding kind_of
kept-told s bit e = record {
  free = λ z.
      let f : free_kept s bit ≡ true = eq _ _ _ _ z refl ∙ e in
      (sym (eq _ _ _ _ z (yes _ _ _ f refl)), free-bit s bit f);
  used = λ n.
      let u : used_kept s bit ≡ true = ne _ _ _ _ n refl ∙ e in
      let k : if_eq (get_or s state_at 0) 0 (if_b (free_kept s bit) free_kind broken_kind) (if_b (used_kept s bit) (get_or s service_at 0) broken_kind) ≡ get_or s service_at 0 = sym (ne _ _ _ _ n (yes _ _ _ u refl)) in
      (k, used-bit s bit u, subst (λ (x : ℕ). x < services) (sym k) (used-service s bit u));
}

pub kept_at : (t : List ℕ) (p : ℕ) → slot_seen t p ≡ true → Kept (slot t p) (seen_bit t p) (kind_at t p)
unfolding slot_seen kind_at
kept_at t p e = kept-told (slot t p) (seen_bit t p) e

-- a place that passes by its own bit passes by the one seen, and the other way round where they are the same
pub seen-kept : (t : List ℕ) (p : ℕ) → slot_at_kept t p ≡ true → slot_seen t p ≡ true
unfolding slot_at_kept slot_seen
seen-kept t p k =
    let same : seen_bit t p ≡ map_bit t p =
    by-eq _ _ _ _ (sym k) (λ z w. sym (seen-free t (slot t p) p refl z) ∙ sym (free-bit (slot t p) (map_bit t p) (sym w))) (λ n w. sym (seen-used t (slot t p) p refl n)) in
    ap (slot_kept (slot t p)) same ∙ k

pub kept_seen : (t : List ℕ) (p : ℕ) → seen_bit t p ≡ map_bit t p → slot_seen t p ≡ true → slot_at_kept t p ≡ true
unfolding slot_at_kept slot_seen
kept_seen t p same k = ap (slot_kept (slot t p)) (sym same) ∙ k
