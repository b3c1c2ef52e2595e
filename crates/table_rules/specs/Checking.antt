-- WHAT THE CHECK TELLS: the answers 1 and 2, and what one pass counted. Assumes nothing.
use Rattle.std.specs.Prelude.{◌≡◌, Bool, List, [], ◌∷◌, ℕ, zero, suc, ◌+◌, ◌*◌, ◌-◌, ◌/◌, ◌%◌, ◌<◌, ◌≤◌, eqb, length, take, drop, Result, Ok, Err, IfOk, Option, Some}
use Rattle.std.specs.Option.{is_some, IfSome}
use Rattle.std.proofs.Math.Path.{refl, sym, ap}
use Rattle.std.proofs.Common.{subst, ◌∙◌, arith, eqb-true, length-take-le}
use Rattle.std.proofs.Math.Bool.{true, false}
use Rattle.std.proofs.lemmas.Bool.{eqb-false}
use Rattle.std.proofs.Math.ListN.{get_or}
use Rattle.laws.specs.If.{if_eq, if_b, all, all-at, all_of, lt, ge, eq, ne, yes, no, by-eq, true-false}
use Rattle.laws.specs.Digits.{digits, octet_digits, count, octet_digits-length, map-digit}
use Rattle.laws.specs.Sums.{sum, sum-ext, sum_by}
use Rattle.paper.specs.declared.Refusal.{Refusal}
use Rattle.paper.specs.Refusals.{number, answer_of}
use Rattle.paper.specs.Sizes.{places_in_all, services}
use Rattle.paper.specs.Shares.{all_unused, free, shares_kept}
use Rattle.paper.specs.Dialogues.{Place, empty_place}
use Rattle.paper.specs.Calls.{place_at, held, dialogues}
use Rattle.paper.specs.Layout.{place_size, place_start, table_size, map_size, state_at, flag, slot, view, map_bit}
use Rattle.paper.specs.Rules.{shares_of_table, rules}
use Rattle.paper.specs.Outcome.{Lent, Spaces, standing}
use Rattle.table_laws.specs.Fine.{Octets, FinePlace}
use Rattle.table_laws.specs.Slots.{KeptSlot}
use Rattle.table_laws.proofs.Slots.{slot_is, place_is}
use Rattle.table_laws.specs.Whole.{slot_at_kept}
use Rattle.table_laws.proofs.Whole.{view-at, view-length, slot-length, take-octets, drop-octets}
use Rattle.table_laws.specs.Ready.{Ready}
use Rattle.table_laws.proofs.Ready.{ready, rules-walk}
use Rattle.table_laws.proofs.Counts.{places-all, walk-count}
use Rattle.table_shares.specs.Share.{Sound, kept-sound}
use Rattle.table_shares.specs.Telling.{Parted}
use Rattle.table_rules.specs.declared.Checked.{Checked}
use Rattle.table_rules.specs.Kinds.{seen_bit, slot_seen, seen-free, seen-used, seen-kept, kept_seen}
use Rattle.table_rules.specs.Tally.{tallies, tally-held}

-- every place, and how many are of each kind
pub record Scanned (t : List ℕ) (r : Option (List ℕ)) : Type 0 where
  pub is : is_some r ≡ all (slot_seen t) places_in_all
  pub told : IfSome r (λ counts. counts ≡ tallies t places_in_all)

-- ---- the check
unfoldable pub table_answer : List ℕ → ℕ
table_answer t = if_eq (length t) table_size (if_b (rules t) 0 2) 1

-- what stands where the answer is 0
pub record Passed (t counts : List ℕ) (rest left : ℕ) : Type 0 where
  pub ready : Ready t
  pub keeps : rules t ≡ true
  pub counted : (s : ℕ) → s < services → get_or counts s 0 ≡ held (view t).places s
  pub kept : rest ≡ all_unused (dialogues (view t))
  pub remain : left ≡ free (dialogues (view t))
  pub sound : Sound (dialogues (view t))

pub record CheckTold (t : List ℕ) (r : Result Checked Refusal) : Type 0 where
  pub is : answer_of r ≡ table_answer t
  pub fine : IfOk r (λ c. Passed t c.counts c.unused c.free)

-- ---- THE MAP by its number of bits: where no used place's bit is set, as many are set as places are free only where they are the free ones'
few-set : (a : List ℕ) (ps : List Place) → length a ≡ length ps → ((i : ℕ) → i < length ps → get_or a i 0 ≤ flag (get_or ps i (empty_place 0))) → count a ≤ sum_by flag ps
unfolding count
few-set [] [] e h = omega arith
few-set [] (x ∷ ps) e h = absurd (omega arith)
few-set (d ∷ a) [] e h = absurd (omega arith)
few-set (d ∷ a) (x ∷ ps) e h = omega (arith, h 0 (omega arith), few-set a ps (omega arith) (λ i l. h (suc i) (omega arith)))

same_set : (a : List ℕ) (ps : List Place) → length a ≡ length ps → ((i : ℕ) → i < length ps → get_or a i 0 ≤ flag (get_or ps i (empty_place 0))) → count a ≡ sum_by flag ps
    → (i : ℕ) → i < length ps → get_or a i 0 ≡ flag (get_or ps i (empty_place 0))
unfolding count
same_set [] [] e h q i l = absurd (omega arith)
same_set [] (x ∷ ps) e h q i l = absurd (omega arith)
same_set (d ∷ a) [] e h q i l = absurd (omega arith)
same_set (d ∷ a) (x ∷ ps) e h q zero l = omega (arith, q, h 0 (omega arith), few-set a ps (omega arith) (λ i l. h (suc i) (omega arith)))
same_set (d ∷ a) (x ∷ ps) e h q (suc i) l =
    same_set a ps (omega arith) (λ i l. h (suc i) (omega arith)) (omega (arith, q, h 0 (omega arith), few-set a ps (omega arith) (λ i l. h (suc i) (omega arith)))) i (omega arith)

digits-two : (k n i : ℕ) → get_or (digits k n) i 0 < 2
unfolding digits
digits-two zero n i = omega arith
digits-two (suc k) n zero = omega arith
digits-two (suc k) n (suc i) = digits-two k (n / 2) i

bit-two : (t : List ℕ) (p : ℕ) → p < places_in_all → length t ≡ table_size → map_bit t p < 2
unfolding map_bit
bit-two t p h e =
    let w : 8 * (p / 8) + p % 8 ≡ p = omega arith in
    let n : length (take map_size t) ≡ map_size = length-take-le map_size t (omega arith) in
    subst (λ (x : ℕ). x < 2) (sym (map-digit (take map_size t) (p / 8) (p % 8) (omega (arith, n)) (omega arith)) ∙ ap (λ (i : ℕ). get_or (octet_digits (take map_size t)) i 0) w)
    (digits-two 8 (get_or (take map_size t) (p / 8) 0) (p % 8))

-- ---- the check's answer, by what was found
module _ (t : List ℕ) where
  pub check-size : (length t ≡ table_size → ⊥) → 1 ≡ table_answer t
  unfolding table_answer
  check-size n = ne _ _ _ _ n refl

  pub check-refused : (why : Refusal) → number why ≡ table_answer t → CheckTold t (Err why)
  check-refused why e = record { is = e; fine = tt }

  module _ (o : Octets t) (e : length t ≡ table_size) where
    -- by its own bit or by the one seen, a place that breaks a rule is found
    broken : ((all (slot_at_kept t) places_in_all ≡ true) → ⊥) → 2 ≡ table_answer t
    unfolding table_answer
    broken n = go (all (slot_at_kept t) places_in_all) refl
      where
        go : (b : Bool) → all (slot_at_kept t) places_in_all ≡ b → 2 ≡ table_answer t
        go true k = absurd (n k)
        go false k = eq _ _ _ _ e (no _ _ _ (rules-walk t o e ∙ sym (no _ _ _ k refl)) refl)

    pub check-places : all (slot_seen t) places_in_all ≡ false → 2 ≡ table_answer t
    check-places f = broken (λ k. true-false (sym (all_of (slot_seen t) places_in_all (λ p h. seen-kept t p (all-at (slot_at_kept t) places_in_all p k h))) ∙ f))

    -- the numbers counted are the table's
    module _ (s : all (slot_seen t) places_in_all ≡ true) where
      pub check-counted : (counts : List ℕ) → counts ≡ tallies t places_in_all → (k : ℕ) → k < services → get_or counts k 0 ≡ held (view t).places k
      check-counted counts c k h = ap (λ (l : List ℕ). get_or l k 0) c ∙ tally-held t s k h

      octets-at : (p : ℕ) → Octets (slot t p)
      unfolding slot
      octets-at p = take-octets place_size (drop (place_start p) t) (drop-octets (place_start p) t o)

      seen-each : (p : ℕ) → p < places_in_all → KeptSlot (slot t p) (seen_bit t p)
      unfolding slot_seen
      seen-each p h = slot_is (slot t p) (slot-length t e p h) (octets-at p) (seen_bit t p) (all-at (slot_seen t) places_in_all p s h)

      -- every place is a service's or free
      held_all : sum (held (view t).places) services + sum_by flag (view t).places ≡ places_in_all
      held_all =
          places-all t
          (λ p h. subst FinePlace (sym (view-at t p h)) (place_is (slot t p) (slot-length t e p h) (octets-at p) (seen-each p h).same (seen-each p h).kept))

      few : (a b : ℕ) → a + b ≡ places_in_all → (places_in_all - a + a ≡ places_in_all) × (a ≤ places_in_all)
      few a b q = (omega arith, omega arith)

      bits-length : length (octet_digits (take map_size t)) ≡ length (view t).places
      bits-length = octet_digits-length (take map_size t) ∙ ap (λ (n : ℕ). 8 * n) (length-take-le map_size t (omega arith)) ∙ sym (view-length t)

      fewer : (p : ℕ) → p < length (view t).places → get_or (octet_digits (take map_size t)) p 0 ≤ flag (place_at (view t) p)
      unfolding map_bit
      fewer p l =
          let h : p < places_in_all = omega (arith, view-length t) in
          let g : seen_bit t p ≡ flag (place_at (view t) p) = (seen-each p h).told ∙ ap flag (sym (view-at t p h)) in
          by-eq {r = if_eq {A = ℕ} (get_or (slot t p) state_at 0) 0 0 0} _ _ _ _ refl
          (λ z _. omega (arith, bit-two t p h e, seen-free t (slot t p) p refl z, g))
          (λ n _. omega (arith, seen-used t (slot t p) p refl n, g))

      module _ (counts : List ℕ) (c : counts ≡ tallies t places_in_all) (left : ℕ) (f : left ≡ count (octet_digits (take map_size t))) where
        held-sum : sum (λ i. get_or counts i 0) services ≡ sum (held (view t).places) services
        held-sum = sum-ext (λ i. get_or counts i 0) (held (view t).places) services (check-counted counts c)

        alike : (l n m k : ℕ) → l + n ≡ places_in_all → n ≡ m → m + k ≡ places_in_all → l ≡ k
        alike l n m k x y z = omega arith

        -- as many bits as free places: each place passes by its own bit
        check-map : left + sum (λ i. get_or counts i 0) services ≡ places_in_all → all (slot_at_kept t) places_in_all ≡ true
        unfolding map_bit
        check-map q =
            let same = same_set (octet_digits (take map_size t)) (view t).places bits-length fewer
            (sym f ∙ alike left (sum (λ i. get_or counts i 0) services) (sum (held (view t).places) services) (sum_by flag (view t).places) q held-sum held_all) in
            all_of (slot_at_kept t) places_in_all
            (λ p h. kept_seen t p ((seen-each p h).told ∙ ap flag (sym (view-at t p h)) ∙ sym (same p (omega (arith, view-length t)))) (all-at (slot_seen t) places_in_all p s h))

        pub check-spoilt : (left + sum (λ i. get_or counts i 0) services ≡ places_in_all → ⊥) → 2 ≡ table_answer t
        check-spoilt n =
            broken (λ k. n (ap (λ (m : ℕ). m + sum (λ i. get_or counts i 0) services) (f ∙ walk-count t o e k)
            ∙ ap (λ (m : ℕ). free (dialogues (view t)) + m) held-sum
            ∙ (few (sum (held (view t).places) services) (sum_by flag (view t).places) held_all).0))

        module _ (q : left + sum (λ i. get_or counts i 0) services ≡ places_in_all) where
          kept : {b : Bool} → b ≡ shares_of_table (view t) → rules t ≡ b
          kept w = rules-walk t o e ∙ sym (yes _ _ _ (check-map q) w)

          pub check-shares : false ≡ shares_kept (dialogues (view t)) → 2 ≡ table_answer t
          unfolding table_answer shares_of_table
          check-shares w = eq _ _ _ _ e (no _ _ _ (kept w) refl)

          pub check-fine : (rest : ℕ) → Parted (dialogues (view t)) (Some rest) → CheckTold t (Ok (record { counts = counts; unused = rest; free = left }))
          unfolding table_answer shares_of_table
          check-fine rest p = record {
            is = eq _ _ _ _ e (yes _ _ _ (kept p.is) refl);
            fine = record {
              ready = ready t o e (kept p.is);
              keeps = kept p.is;
              counted = check-counted counts c;
              kept = p.told;
              remain = f ∙ walk-count t o e (check-map q);
              sound = kept-sound (dialogues (view t)) (few (sum (held (view t).places) services) (sum_by flag (view t).places) held_all).1 (sym p.is);
            };
          }

-- with spaces that are long enough the check's answer is the call's standing; with a short one that is 1
module _ (l : Lent) (n : Spaces) where
  pub standing-check : n.rows ≤ length l.rows → n.space ≤ length l.space → table_answer l.table ≡ standing l n
  unfolding standing table_answer
  standing-check a b = ap (λ (x : ℕ). if_eq (length l.table) table_size x 1) (ge _ _ _ _ a (ge _ _ _ _ b refl))

  either : (x : ℕ) → x ≡ 1 → 1 ≡ if_eq (length l.table) table_size x 1
  either x e = go (eqb (length l.table) table_size) refl
    where
      go : (b : Bool) → eqb (length l.table) table_size ≡ b → 1 ≡ if_eq (length l.table) table_size x 1
      go true q = eq _ _ _ _ (eqb-true (length l.table) table_size q) (sym e)
      go false q = ne _ _ _ _ (eqb-false (length l.table) table_size q) refl

  pub standing-rows : length l.rows < n.rows → 1 ≡ standing l n
  unfolding standing
  standing-rows a = either _ (sym (lt _ _ _ _ a refl))

  pub standing-space : n.rows ≤ length l.rows → length l.space < n.space → 1 ≡ standing l n
  unfolding standing
  standing-space a b = either _ (sym (ge _ _ _ _ a (lt _ _ _ _ b refl)))
