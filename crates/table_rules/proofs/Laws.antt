-- Runs of zeros by an OR and by words; the invocations and rejects one after another. Assumes nothing.
use Prim.Native.Nat.{ℕ, zero, suc, ◌+◌, ◌*◌, ◌-◌, ◌/◌, ◌%◌, ◌^◌, ◌≤◌, ◌<◌}
use mathlib.Core.Path.{◌≡◌, refl, sym, ap, ◌∙◌}
use mathlib.Core.Bool.{Bool, true, false, ◌&&◌, cond}
use mathlib.Core.List.{List, [], ◌∷◌}
use native.Mathlib.Nat.{add-zero}
use native.Mathlib.Numerals.{add-one}
use native.Mathlib.Omega.{arith}
use lib.Bits.{bit_or, or_zero_l, or_add_and, and_le_r}
use lib.Dec.{eqb, ltb, eqb-suc-zero, eqb-suc-suc, eqb-zero-suc}
use borrow.Author.Tests.{ne_eqb, eq-eqb, eqb-true, eqb-false, ltb-true, ltb-false}
use lib.ListN.{length, get_or, take, drop, drop_of_length-le}
use lib.Seq.{drop-cons}
use Rattle.std.specs.List.{fold}
use Rattle.laws.specs.If.{if_lt, if_eq, if_b, lt, ge, eq, ne, yes, no, was-eq, true-false}
use Rattle.laws.specs.Lists.{zeros, first_at, every}
use Rattle.laws.specs.Digits.{word_at}
use Rattle.paper.specs.Sizes.{services, most_invocations, most_rejects, most_waiting}
use Rattle.paper.specs.declared.Component.{Component}
use Rattle.paper.specs.Components.{no_fault, components, waiting_items}
use Rattle.paper.specs.Problems.{problem, code_of, sender_of, sender_of_problem, by_layer}
use Rattle.paper.specs.Invocations.{is_open, slot_of}
use Rattle.paper.specs.Layout.{invocation_by, invocations_at, reject_by, rejects_at, place_size, state_at, service_at, waiting_length_at, count_at, first_invocation, first_reject, waiting_start, slot}
use Rattle.paper.specs.Rules.{invocation_kept, differs, invocations_kept, reject_kept, reject_zero, rejects_kept, is_sound_item, waiting_kept}
use Rattle.table_rules.specs.Kinds.{invocation_no, invocations_from, IdleFrom, none_open, invocation_at_kept, reject_no, rejects_from, reject_at_kept, octets_kept, tail_kept, free_kind, broken_kind, kind_of, seen_bit, kind_at}

-- ---- an OR over a run
or-zero : (a b : ℕ) → eqb (bit_or a b) 0 ≡ (eqb a 0 && eqb b 0)
or-zero zero b = ap (λ (n : ℕ). eqb n 0) (or_zero_l b)
or-zero (suc a) b =
    ne_eqb (bit_or (suc a) b) 0 (λ e. omega (arith, e, or_add_and (suc a) b, and_le_r (suc a) b)) ∙ sym (ap (λ (t : Bool). t && eqb b 0) (eqb-suc-zero a))

pub or-if : (a b : ℕ) (r : Bool) → if_eq a 0 (if_eq b 0 r false) false ≡ if_eq (bit_or a b) 0 r false
unfolding if_eq
or-if a b r = go (eqb a 0) (eqb b 0) ∙ ap (λ (t : Bool). cond t r false) (sym (or-zero a b))
  where
    go : (x y : Bool) → cond x (cond y r false) false ≡ cond (x && y) r false
    go true y = refl
    go false y = refl

pub run_step : (s : List ℕ) (i : ℕ) → i < length s → zeros (drop i s) ≡ if_eq (get_or s i 0) 0 (zeros (drop (i + 1) s)) false
unfolding zeros
run_step s i h = ap zeros (drop-cons s i 0 h) ∙ ap (λ (j : ℕ). if_eq (get_or s i 0) 0 (zeros (drop j s)) false) (sym (add-one i))

pub run_none : (s : List ℕ) (i : ℕ) → length s ≤ i → zeros (drop i s) ≡ true
unfolding zeros
run_none s i h = ap zeros (drop_of_length-le s h)

pub if-first : (r : Bool) → r ≡ if_eq 0 0 r false
unfolding if_eq
if-first r = refl

pub if-last : (a : ℕ) (r : Bool) → r ≡ true → if_eq a 0 r false ≡ eqb a 0
unfolding if_eq
if-last a r e = ap (λ (x : Bool). cond (eqb a 0) x false) e ∙ go (eqb a 0)
  where
    go : (b : Bool) → cond b true false ≡ b
    go true = refl
    go false = refl

pub or-run : (a : ℕ) (l : List ℕ) → eqb (fold bit_or a l) 0 ≡ if_eq a 0 (zeros l) false
unfolding zeros
or-run a [] = sym (if-last a true refl)
or-run a (x ∷ l) = or-run (bit_or a x) l ∙ sym (or-if a x (zeros l))

pub zeros-or : (l : List ℕ) → eqb (fold bit_or 0 l) 0 ≡ zeros l
zeros-or l = or-run 0 l ∙ sym (if-first (zeros l))

-- ---- eight octets of a run by their word
word-zero : (s : List ℕ) (a : ℕ) → word_at s a ≡ 0 → (i : ℕ) → i < 8 → get_or s (a + i) 0 ≡ 0
word-zero s a e zero h = ap (λ (k : ℕ). get_or s k 0) (add-zero a) ∙ omega arith
word-zero s a e (suc zero) h = omega arith
word-zero s a e (suc (suc zero)) h = omega arith
word-zero s a e (suc (suc (suc zero))) h = omega arith
word-zero s a e (suc (suc (suc (suc zero)))) h = omega arith
word-zero s a e (suc (suc (suc (suc (suc zero))))) h = omega arith
word-zero s a e (suc (suc (suc (suc (suc (suc zero)))))) h = omega arith
word-zero s a e (suc (suc (suc (suc (suc (suc (suc zero))))))) h = omega arith
word-zero s a e (suc (suc (suc (suc (suc (suc (suc (suc i)))))))) h = absurd (omega arith)

-- octets that are 0 may be passed over
run-pass : (s : List ℕ) (n a : ℕ) → a + n ≤ length s → ((i : ℕ) → i < n → get_or s (a + i) 0 ≡ 0) → zeros (drop a s) ≡ zeros (drop (a + n) s)
run-pass s zero a h z = ap (λ (k : ℕ). zeros (drop k s)) (sym (add-zero a))
run-pass s (suc n) a h z =
    let e : get_or s a 0 ≡ 0 = ap (λ (k : ℕ). get_or s k 0) (sym (add-zero a)) ∙ z 0 (omega arith) in
    let q : a + 1 + n ≡ a + suc n = omega arith in
    run_step s a (omega arith)
    ∙ sym (eq _ _ _ _ e refl)
    ∙ run-pass s n (a + 1) (omega arith) (λ i l. let w : a + 1 + i ≡ a + suc i = omega arith in ap (λ (k : ℕ). get_or s k 0) w ∙ z (suc i) (omega arith))
    ∙ ap (λ (k : ℕ). zeros (drop k s)) q

-- every octet of a run that passes is 0
run_at : (s : List ℕ) (i a : ℕ) → a + i < length s → zeros (drop a s) ≡ true → get_or s (a + i) 0 ≡ 0
run_at s zero a h e = ap (λ (k : ℕ). get_or s k 0) (add-zero a) ∙ (was-eq _ _ _ _ (sym e ∙ run_step s a (omega arith)) true-false).0
run_at s (suc i) a h e =
    let q : a + suc i ≡ a + 1 + i = omega arith in
    ap (λ (k : ℕ). get_or s k 0) q ∙ run_at s i (a + 1) (omega arith) (sym (was-eq _ _ _ _ (sym e ∙ run_step s a (omega arith)) true-false).1)

word-step : (s : List ℕ) (a : ℕ) → a + 8 ≤ length s → zeros (drop a s) ≡ if_eq (word_at s a) 0 (zeros (drop (a + 8) s)) false
word-step s a h = go (eqb (word_at s a) 0) refl
  where
    go : (b : Bool) → eqb (word_at s a) 0 ≡ b → zeros (drop a s) ≡ if_eq (word_at s a) 0 (zeros (drop (a + 8) s)) false
    go true e =
        let z : word_at s a ≡ 0 = eqb-true (word_at s a) 0 e in
        run-pass s 8 a h (λ i l. word-zero s a z i l) ∙ eq _ _ _ _ z refl
    go false e = spoilt (zeros (drop a s)) refl ∙ ne _ _ _ _ (eqb-false (word_at s a) 0 e) refl
      where
        spoilt : (r : Bool) → zeros (drop a s) ≡ r → r ≡ false
        spoilt false q = refl
        spoilt true q =
            absurd (eqb-false (word_at s a) 0 e
            (omega (
              arith,
              ap (λ (k : ℕ). get_or s k 0) (sym (add-zero a)) ∙ run_at s 0 a (omega arith) q,
              run_at s 1 a (omega arith) q,
              run_at s 2 a (omega arith) q,
              run_at s 3 a (omega arith) q,
              run_at s 4 a (omega arith) q,
              run_at s 5 a (omega arith) q,
              run_at s 6 a (omega arith) q,
              run_at s 7 a (omega arith) q,
            )))

-- ---- a peer's ID as one number: shifted by its octets, what is left is 0 where those past them are
low_step : (x y : ℕ) → eqb (x + y * 256) 0 ≡ if_eq x 0 (eqb y 0) false
low_step x y = go (eqb x 0) refl (eqb y 0) refl
  where
    go : (b : Bool) → eqb x 0 ≡ b → (c : Bool) → eqb y 0 ≡ c → eqb (x + y * 256) 0 ≡ if_eq x 0 (eqb y 0) false
    go false e c f = ne_eqb (x + y * 256) 0 (λ q. eqb-false x 0 e (omega (arith, q))) ∙ ne _ _ _ _ (eqb-false x 0 e) refl
    go true e true f = eq-eqb (x + y * 256) 0 (omega (arith, eqb-true x 0 e, eqb-true y 0 f)) ∙ eq _ _ _ _ (eqb-true x 0 e) (sym f)
    go true e false f = ne_eqb (x + y * 256) 0 (λ q. eqb-false y 0 f (omega (arith, q))) ∙ eq _ _ _ _ (eqb-true x 0 e) (sym f)

module _ (l : List ℕ) (e : length l ≡ 4) (o : (get_or l 0 0 < 256) × (get_or l 1 0 < 256) × (get_or l 2 0 < 256) × (get_or l 3 0 < 256)) where
  abbrev four : ℕ
  four = get_or l 0 0 + get_or l 1 0 * 256 + get_or l 2 0 * 65536 + get_or l 3 0 * 16777216

  -- w is the number of the octets after the i-th
  step : (i w v : ℕ) → i < 4 → v ≡ get_or l i 0 + w * 256 → eqb w 0 ≡ zeros (drop (i + 1) l) → eqb v 0 ≡ zeros (drop i l)
  step i w v h q r = ap (λ (k : ℕ). eqb k 0) q ∙ low_step (get_or l i 0) w ∙ ap (λ (b : Bool). if_eq (get_or l i 0) 0 b false) r ∙ sym (run_step l i (omega arith))

  past-3 : eqb (four / 16777216) 0 ≡ zeros (drop 3 l)
  past-3 = step 3 0 (four / 16777216) (omega arith) (omega (arith, o)) (sym (run_none l 4 (omega arith)))

  past-2 : eqb (four / 65536) 0 ≡ zeros (drop 2 l)
  past-2 = step 2 (four / 16777216) (four / 65536) (omega arith) (omega (arith, o)) past-3

  past-1 : eqb (four / 256) 0 ≡ zeros (drop 1 l)
  past-1 = step 1 (four / 65536) (four / 256) (omega arith) (omega (arith, o)) past-2

  pub past-zero : (n : ℕ) → n ≤ 4 → eqb (four / 2 ^ (n * 8)) 0 ≡ zeros (drop n l)
  past-zero zero h = step 0 (four / 256) (four / 1) (omega arith) (omega (arith, o)) past-1
  past-zero (suc zero) h = past-1
  past-zero (suc (suc zero)) h = past-2
  past-zero (suc (suc (suc zero))) h = past-3
  past-zero (suc (suc (suc (suc zero)))) h = eq-eqb (four / 4294967296) 0 (omega (arith, o)) ∙ sym (run_none l 4 (omega arith))
  past-zero (suc (suc (suc (suc (suc n))))) h = absurd (omega arith)

-- ---- a waiting reject by its two octets
module _ (id o : ℕ) (small : o < 256) where
  kind-is : problem (o / 8 % 16) (o % 8) / 256 ≡ o / 8 % 16
  kind-is = omega arith

  code_is : code_of (problem (o / 8 % 16) (o % 8)) ≡ o % 8
  code_is = omega arith

  sender-is : sender_of_problem (problem (o / 8 % 16) (o % 8)) ≡ sender_of (o / 8 % 16) (o % 8)
  sender-is = ap (λ (k : ℕ). sender_of k (code_of (problem (o / 8 % 16) (o % 8)))) kind-is ∙ ap (sender_of (o / 8 % 16)) code_is

  pub reject-not : (sender_of (o / 8 % 16) (o % 8) ≡ by_layer → ⊥) → false ≡ reject_kept (reject_by id o)
  unfolding reject_kept
  reject-not n = ne _ _ _ _ (λ q. n (sym sender-is ∙ q)) refl

  module _ (e : sender_of (o / 8 % 16) (o % 8) ≡ by_layer) (few : id < 256) where
    sends : sender_of_problem (problem (o / 8 % 16) (o % 8)) ≡ by_layer
    sends = sender-is ∙ e

    pub reject-named : o < 128 → true ≡ reject_kept (reject_by id o)
    unfolding reject_kept
    reject-named h = eq _ _ _ _ sends (lt _ _ _ _ (omega arith) refl)

    pub reject-odd : 128 ≤ o → (id ≡ 0 → ⊥) → false ≡ reject_kept (reject_by id o)
    unfolding reject_kept
    reject-odd h n = eq _ _ _ _ sends (ge _ _ _ _ (omega arith) (ne _ _ _ _ (λ q. n (omega arith)) refl))

    pub reject-nameless : 128 ≤ o → id ≡ 0 → eqb (o / 8 % 16) 0 ≡ reject_kept (reject_by id o)
    unfolding reject_kept
    reject-nameless h z = eq _ _ _ _ sends (ge _ _ _ _ (omega arith) (eq _ _ _ _ (omega arith) (ap (λ (k : ℕ). eqb k 0) (sym kind-is))))

  pub zero-not : (id ≡ 0 → ⊥) → false ≡ reject_zero (reject_by id o)
  unfolding reject_zero
  zero-not n = ne _ _ _ _ (λ q. n (omega arith)) refl

  least : o < 128 → o / 8 % 16 ≡ 0 → o % 8 ≡ 0 → o ≡ 0
  least l x y = let k : o / 8 < 16 = omega arith in omega arith

  pub zero_is : id ≡ 0 → eqb o 0 ≡ reject_zero (reject_by id o)
  unfolding reject_zero
  zero_is z = go (eqb o 0) refl
    where
      go : (b : Bool) → eqb o 0 ≡ b → b ≡ if_eq (o / 128 * 256 + id) 0 (eqb (problem (o / 8 % 16) (o % 8)) 0) false
      go true e = let q : o ≡ 0 = eqb-true o 0 e in eq _ _ _ _ (omega arith) (sym (eq-eqb (problem (o / 8 % 16) (o % 8)) 0 (omega arith)))
      go false e = past (eqb (o / 128 * 256 + id) 0) refl (eqb-false o 0 e)
        where
          past : (b : Bool) → eqb (o / 128 * 256 + id) 0 ≡ b → (o ≡ 0 → ⊥) → false ≡ if_eq (o / 128 * 256 + id) 0 (eqb (problem (o / 8 % 16) (o % 8)) 0) false
          past true w n =
              let q : o / 128 * 256 + id ≡ 0 = eqb-true (o / 128 * 256 + id) 0 w in
              eq _ _ _ _ q (sym (ne_eqb (problem (o / 8 % 16) (o % 8)) 0 (λ r. n (least (omega arith) (omega arith) (omega arith)))))
          past false w n = ne _ _ _ _ (eqb-false (o / 128 * 256 + id) 0 w) refl

-- ---- two tests as one, and a search by its first step
both : (a b r : Bool) → if_b a (if_b b r false) false ≡ if_b (if_b a b false) r false
unfolding if_b
both true b r = refl
both false b r = refl

first : (b : Bool) (k n : ℕ) → eqb (if_b b 0 (suc k)) (suc n) ≡ if_b b false (eqb k n)
unfolding if_b
first true k n = eqb-zero-suc n
first false k n = eqb-suc-suc k n

as-test : (o : ℕ) (r : Bool) → if_b (eqb o 0) r false ≡ if_eq o 0 r false
unfolding if_b if_eq
as-test o r = refl

-- ---- the invocations one after another
module _ (s : List ℕ) (i : ℕ) (h : i < most_invocations) where
  pub invocations-step : invocations_from i s ≡ invocation_no s i ∷ invocations_from (i + 1) s
  invocations-step =
      let n : most_invocations - i ≡ suc (most_invocations - (i + 1)) = omega arith in
      let a : suc (first_invocation + 2 * i) ≡ first_invocation + 2 * i + 1 = omega arith in
      let b : suc (suc (first_invocation + 2 * i)) ≡ first_invocation + 2 * (i + 1) = omega arith in
      ap (λ (k : ℕ). invocations_at k (first_invocation + 2 * i) s) n
      ∙ ap (λ (k : ℕ). invocation_by (get_or s (first_invocation + 2 * i) 0) (get_or s k 0) ∷ invocations_at (most_invocations - (i + 1)) (suc (suc (first_invocation + 2 * i))) s) a
      ∙ ap (λ (k : ℕ). invocation_no s i ∷ invocations_at (most_invocations - (i + 1)) k s) b

  pub kept_step : invocations_kept (invocations_from i s) ≡ if_b (invocation_at_kept s i) (invocations_kept (invocations_from (i + 1) s)) false
  unfolding invocations_kept invocation_at_kept
  kept_step = ap invocations_kept invocations-step ∙ both (invocation_kept (invocation_no s i)) (differs (invocation_no s i) (invocations_from (i + 1) s)) (invocations_kept (invocations_from (i + 1) s))

  pub open_step : (id : ℕ) → none_open id (invocations_from i s) ≡ if_b (is_open id (invocation_no s i)) false (none_open id (invocations_from (i + 1) s))
  unfolding none_open slot_of first_at
  open_step id = ap (none_open id) invocations-step ∙ first (is_open id (invocation_no s i)) (slot_of (invocations_from (i + 1) s) id) (length (invocations_from (i + 1) s))

-- ---- and the rejects
module _ (s : List ℕ) (n i : ℕ) (h : i < most_rejects) where
  rejects-step : rejects_from i s ≡ reject_no s i ∷ rejects_from (i + 1) s
  rejects-step =
      let n : most_rejects - i ≡ suc (most_rejects - (i + 1)) = omega arith in
      let a : suc (first_reject + 2 * i) ≡ first_reject + 2 * i + 1 = omega arith in
      let b : suc (suc (first_reject + 2 * i)) ≡ first_reject + 2 * (i + 1) = omega arith in
      ap (λ (k : ℕ). rejects_at k (first_reject + 2 * i) s) n
      ∙ ap (λ (k : ℕ). reject_by (get_or s (first_reject + 2 * i) 0) (get_or s k 0) ∷ rejects_at (most_rejects - (i + 1)) (suc (suc (first_reject + 2 * i))) s) a
      ∙ ap (λ (k : ℕ). reject_no s i ∷ rejects_at (most_rejects - (i + 1)) k s) b

  pub waits-step : rejects_kept (n - i) (rejects_from i s) ≡ if_b (reject_at_kept n i s) (rejects_kept (n - (i + 1)) (rejects_from (i + 1) s)) false
  unfolding rejects_kept reject_at_kept
  waits-step = ap (rejects_kept (n - i)) rejects-step ∙ go (ltb i n) refl
    where
      go : (b : Bool) → ltb i n ≡ b → rejects_kept (n - i) (reject_no s i ∷ rejects_from (i + 1) s)
          ≡ if_b (if_lt i n (reject_kept (reject_no s i)) (reject_zero (reject_no s i))) (rejects_kept (n - (i + 1)) (rejects_from (i + 1) s)) false
      go true e =
          let l : i < n = ltb-true i n e in
          let q : n - i ≡ suc (n - (i + 1)) = omega arith in
          ap (λ (k : ℕ). rejects_kept k (reject_no s i ∷ rejects_from (i + 1) s)) q
          ∙ ap (λ (b : Bool). if_b b (rejects_kept (n - (i + 1)) (rejects_from (i + 1) s)) false) (lt _ _ _ _ l refl)
      go false e =
          let l : n ≤ i = ltb-false i n e in
          let q : n - i ≡ 0 = omega arith in
          let r : n - (i + 1) ≡ 0 = omega arith in
          ap (λ (k : ℕ). rejects_kept k (reject_no s i ∷ rejects_from (i + 1) s)) q
          ∙ ap (λ (k : ℕ). if_b (reject_zero (reject_no s i)) (rejects_kept k (rejects_from (i + 1) s)) false) (sym r)
          ∙ ap (λ (b : Bool). if_b b (rejects_kept (n - (i + 1)) (rejects_from (i + 1) s)) false) (ge _ _ _ _ l refl)

-- ---- none open, none waiting: all zero
module _ (s : List ℕ) where
  later : (n a i : ℕ) → ((i : ℕ) → i < 2 * suc n → get_or s (a + i) 0 ≡ 0) → i < 2 * n → get_or s (suc (suc a) + i) 0 ≡ 0
  later n a i z l = let w : suc (suc a) + i ≡ a + (2 + i) = omega arith in ap (λ (k : ℕ). get_or s k 0) w ∙ z (2 + i) (omega arith)

  pub none-open : (n a : ℕ) → ((i : ℕ) → i < 2 * n → get_or s (a + i) 0 ≡ 0) → true ≡ invocations_kept (invocations_at n a s)
  unfolding invocations_kept invocation_kept differs
  none-open zero a z = refl
  none-open (suc n) a z =
      let p : get_or s a 0 ≡ 0 = ap (λ (k : ℕ). get_or s k 0) (sym (add-zero a)) ∙ z 0 (omega arith) in
      let q : get_or s (suc a) 0 ≡ 0 = ap (λ (k : ℕ). get_or s k 0) (sym (add-one a)) ∙ z 1 (omega arith) in
      yes _ _ _ (sym (eq _ _ _ _ (omega (arith, q)) (eq _ _ _ _ p (eq _ _ _ _ (omega (arith, q)) (sym (eq-eqb (get_or s (suc a) 0 / 64) 0 (omega (arith, q))))))))
      (yes _ _ _ (sym (eq _ _ _ _ (omega (arith, q)) refl)) (none-open n (suc (suc a)) (λ i l. later n a i z l)))

  pub none_found : (id n a : ℕ) → ((i : ℕ) → i < 2 * n → get_or s (a + i) 0 ≡ 0) → none_open id (invocations_at n a s) ≡ true
  unfolding none_open slot_of first_at is_open
  none_found id zero a z = refl
  none_found id (suc n) a z =
      let q : get_or s (suc a) 0 ≡ 0 = ap (λ (k : ℕ). get_or s k 0) (sym (add-one a)) ∙ z 1 (omega arith) in
      first (is_open id (invocation_by (get_or s a 0) (get_or s (suc a) 0))) (slot_of (invocations_at n (suc (suc a)) s) id) (length (invocations_at n (suc (suc a)) s))
      ∙ sym (no _ _ _ (sym (eq _ _ _ _ (omega (arith, q)) refl)) refl)
      ∙ none_found id n (suc (suc a)) (λ i l. later n a i z l)

  pub none-waiting : (n a : ℕ) → ((i : ℕ) → i < 2 * n → get_or s (a + i) 0 ≡ 0) → true ≡ rejects_kept 0 (rejects_at n a s)
  unfolding rejects_kept reject_zero
  none-waiting zero a z = refl
  none-waiting (suc n) a z =
      let p : get_or s a 0 ≡ 0 = ap (λ (k : ℕ). get_or s k 0) (sym (add-zero a)) ∙ z 0 (omega arith) in
      let q : get_or s (suc a) 0 ≡ 0 = ap (λ (k : ℕ). get_or s k 0) (sym (add-one a)) ∙ z 1 (omega arith) in
      yes _ _ _ (sym (eq _ _ _ _ (omega (arith, p, q)) (sym (eq-eqb (problem (get_or s (suc a) 0 / 8 % 16) (get_or s (suc a) 0 % 8)) 0 (omega (arith, q)))))) (none-waiting n (suc (suc a)) (λ i l. later n a i z l))

-- two words that are 0
pub words-zero : (s : List ℕ) (a : ℕ) → word_at s a ≡ 0 → word_at s (a + 8) ≡ 0 → (i : ℕ) → i < 16 → get_or s (a + i) 0 ≡ 0
words-zero s a x y i h = go (ltb i 8) refl
  where
    go : (b : Bool) → ltb i 8 ≡ b → get_or s (a + i) 0 ≡ 0
    go true e = word-zero s a x i (ltb-true i 8 e)
    go false e =
        let l : 8 ≤ i = ltb-false i 8 e in
        let q : a + i ≡ a + 8 + (i - 8) = omega arith in
        ap (λ (k : ℕ). get_or s k 0) q ∙ word-zero s (a + 8) y (i - 8) (omega arith)

-- ---- past the last of them that may be open
module _ (s : List ℕ) (n k : ℕ) (h : IdleFrom n s) (e : k ≡ n) where
  rest : (i : ℕ) → i < 2 * (most_invocations - k) → get_or s (first_invocation + 2 * k + i) 0 ≡ 0
  rest i l = ap (λ (m : ℕ). get_or s (first_invocation + 2 * m + i) 0) e ∙ h.zero i (omega arith)

  pub kept-end : invocations_kept (invocations_from k s) ≡ true
  kept-end = sym (none-open s (most_invocations - k) (first_invocation + 2 * k) rest)

  pub open-end : (id : ℕ) → none_open id (invocations_from k s) ≡ true
  open-end id = none_found s id (most_invocations - k) (first_invocation + 2 * k) rest

pub idle-four : (s : List ℕ) → word_at s (first_invocation + 8) ≡ 0 → IdleFrom 4 s
idle-four s e = record { few = omega arith; zero = λ i l. word-zero s (first_invocation + 8) e i (omega arith) }

pub idle-one : (s : List ℕ) → word_at s (first_invocation + 2) ≡ 0 → word_at s (first_invocation + 8) ≡ 0 → IdleFrom 1 s
idle-one s x y = record { few = omega arith; zero = λ i l. go i (omega arith) (ltb i 8) refl }
  where
    go : (i : ℕ) → i < 14 → (b : Bool) → ltb i 8 ≡ b → get_or s (first_invocation + 2 + i) 0 ≡ 0
    go i l true q = word-zero s (first_invocation + 2) x i (ltb-true i 8 q)
    go i l false q =
        let m : 8 ≤ i = ltb-false i 8 q in
        let w : first_invocation + 2 + i ≡ first_invocation + 8 + (i - 6) = omega arith in
        ap (λ (k : ℕ). get_or s k 0) w ∙ word-zero s (first_invocation + 8) y (i - 6) (omega arith)

pub waits_end : (s : List ℕ) (n k : ℕ) → k ≡ most_rejects → rejects_kept (n - k) (rejects_from k s) ≡ true
unfolding rejects_kept
waits_end s n k e = ap (λ (i : ℕ). rejects_kept (n - i) (rejects_from i s)) e

-- ---- a free place by its words
pub free-words : (s : List ℕ) → length s ≡ place_size → get_or s state_at 0 ≡ 0
    → zeros (drop state_at s) ≡ if_eq (word_at s service_at) 0 (if_eq (word_at s (service_at + 8)) 0 (if_eq (word_at s (service_at + 16)) 0 (zeros (drop (service_at + 24) s)) false) false) false
free-words s e z =
    run_step s state_at (omega arith)
    ∙ sym (eq _ _ _ _ z refl)
    ∙ word-step s service_at (omega arith)
    ∙ ap (λ (r : Bool). if_eq (word_at s service_at) 0 r false)
    (word-step s (service_at + 8) (omega arith) ∙ ap (λ (r : Bool). if_eq (word_at s (service_at + 8)) 0 r false) (word-step s (service_at + 16) (omega arith)))

-- ---- the waiting octets
pub octets-none : (s : List ℕ) (n : ℕ) → n ≡ 0 → zeros (drop waiting_start s) ≡ octets_kept n s
unfolding octets_kept waiting_kept waiting_items every
octets-none s n e = go (zeros (drop waiting_start s)) refl ∙ ap (λ (k : ℕ). octets_kept k s) (sym e)
  where
    go : (b : Bool) → zeros (drop waiting_start s) ≡ b → b ≡ if_b (zeros (drop waiting_start s)) (every is_sound_item (waiting_items [])) false
    go true q = yes _ _ _ q (ap (every is_sound_item) (eq _ _ _ _ refl refl))
    go false q = no _ _ _ q refl

pub octets-some : (s : List ℕ) (n : ℕ) (r : Bool) → zeros (drop (waiting_start + n) s) ≡ true → r ≡ waiting_kept (take (waiting_start + n - waiting_start) (drop waiting_start s)) → r ≡ octets_kept n s
unfolding octets_kept
octets-some s n r z e =
    let q : waiting_start + n - waiting_start ≡ n = omega arith in
    yes _ _ _ z (e ∙ ap (λ (k : ℕ). waiting_kept (take k (drop waiting_start s))) q)

-- ---- the waiting octets one component after another
pub sound-item : (at : ℕ) (c : Component) (b : Bool) → eqb c.fault no_fault ≡ b → is_sound_item (record { start = at; part = c }) ≡ b
unfolding is_sound_item
sound-item at c b e = e

pub some-wait : (w : List ℕ) → (length w ≡ 0 → ⊥) → every is_sound_item (components w (length w) 0) ≡ waiting_kept w
unfolding waiting_kept waiting_items
some-wait w n = ap (every is_sound_item) (ne _ _ _ _ n refl)

-- ---- the rejects and the waiting octets where there are none: one run of zeros
reject-run : (id o : ℕ) (r : Bool) → o < 256 → if_b (reject_zero (reject_by id o)) r false ≡ if_eq id 0 (if_eq o 0 r false) false
reject-run id o r h = go (eqb id 0) refl
  where
    go : (b : Bool) → eqb id 0 ≡ b → if_b (reject_zero (reject_by id o)) r false ≡ if_eq id 0 (if_eq o 0 r false) false
    go true e =
        let z : id ≡ 0 = eqb-true id 0 e in
        ap (λ (t : Bool). if_b t r false) (sym (zero_is id o h z)) ∙ as-test o r ∙ eq _ _ _ _ z refl
    go false e =
        let n : id ≡ 0 → ⊥ = eqb-false id 0 e in
        ap (λ (t : Bool). if_b t r false) (sym (zero-not id o h n)) ∙ sym (no false r false refl refl) ∙ ne _ _ _ _ n refl

rejects-run : (s : List ℕ) → ((i : ℕ) → get_or s i 0 < 256) → (n a : ℕ) → a + 2 * n ≤ length s
    → if_b (rejects_kept 0 (rejects_at n a s)) (zeros (drop (a + 2 * n) s)) false ≡ zeros (drop a s)
unfolding rejects_kept
rejects-run s o zero a h =
    let e : a + 2 * 0 ≡ a = omega arith in
    sym (yes true (zeros (drop (a + 2 * 0) s)) false refl refl) ∙ ap (λ (k : ℕ). zeros (drop k s)) e
rejects-run s o (suc n) a h =
    let e : a + 2 * suc n ≡ suc (suc a) + 2 * n = omega arith in
    let p : a + 1 ≡ suc a = omega arith in
    let q : suc a + 1 ≡ suc (suc a) = omega arith in
    let z : Bool = reject_zero (reject_by (get_or s a 0) (get_or s (suc a) 0)) in
    let r : Bool = rejects_kept 0 (rejects_at n (suc (suc a)) s) in
    ap (λ (k : ℕ). if_b (if_b z r false) (zeros (drop k s)) false) e
    ∙ sym (both z r (zeros (drop (suc (suc a) + 2 * n) s)))
    ∙ ap (λ (b : Bool). if_b z b false) (rejects-run s o n (suc (suc a)) (omega arith))
    ∙ reject-run (get_or s a 0) (get_or s (suc a) 0) (zeros (drop (suc (suc a)) s)) (o (suc a))
    ∙ ap (λ (b : Bool). if_eq (get_or s a 0) 0 b false) (sym (run_step s (suc a) (omega arith) ∙ ap (λ (k : ℕ). if_eq (get_or s (suc a) 0) 0 (zeros (drop k s)) false) q))
    ∙ sym (run_step s a (omega arith) ∙ ap (λ (k : ℕ). if_eq (get_or s a 0) 0 (zeros (drop k s)) false) p)

pub tail_none : (s : List ℕ) → ((i : ℕ) → get_or s i 0 < 256) → length s ≡ place_size → get_or s waiting_length_at 0 ≡ 0 → get_or s count_at 0 ≡ 0 → zeros (drop first_reject s) ≡ tail_kept s
unfolding tail_kept
tail_none s o e n k =
    sym (rejects-run s o most_rejects first_reject (omega arith))
    ∙ ap (λ (b : Bool). if_b (rejects_kept 0 (rejects_from 0 s)) b false) (octets-none s (get_or s waiting_length_at 0) n ∙ ge _ _ _ _ (omega arith) refl)
    ∙ ap (λ (m : ℕ). if_b (rejects_kept m (rejects_from 0 s)) (if_lt most_waiting (get_or s waiting_length_at 0) false (octets_kept (get_or s waiting_length_at 0) s)) false) (sym k)

-- ---- the kind of place p, by its octets and its bit
pub kind-here : (t s : List ℕ) (p b : ℕ) → s ≡ slot t p → b ≡ seen_bit t p → kind_of s b ≡ kind_at t p
unfolding kind_at
kind-here t s p b e q = ap (λ (l : List ℕ). kind_of l b) e ∙ ap (kind_of (slot t p)) q

-- ---- a free place more in a run
pub free_more : (t : List ℕ) (p q : ℕ) → ((i : ℕ) → p ≤ i → i < q → kind_at t i ≡ free_kind) → kind_at t q ≡ free_kind → (i : ℕ) → p ≤ i → i < q + 1 → kind_at t i ≡ free_kind
free_more t p q f e i h l = go (eqb i q) refl
  where
    go : (b : Bool) → eqb i q ≡ b → kind_at t i ≡ free_kind
    go true w = ap (kind_at t) (eqb-true i q w) ∙ e
    go false w = let n : i ≡ q → ⊥ = eqb-false i q w in f i h (omega arith)

-- ---- a kind that is neither a service nor free
pub above : (r k : ℕ) → r ≡ k → services ≤ r → (k ≡ free_kind → ⊥) → broken_kind ≤ k
above r k e h n = omega arith
