-- A FRESH TABLE: its octets, and the number that is answered (01, "Answer numbers": 1, 13 or 0). Assumes nothing.
use Rattle.std.specs.Prelude.{◌≡◌, true, false, ℕ, zero, suc, ◌+◌, ◌*◌, ◌<◌, length, drop, replicate}
use Rattle.std.proofs.Math.Path.{refl, ap}
use Rattle.std.proofs.Common.{sym, ◌∙◌, arith, length-append, drop_at}
use mathlib.Core.List.{List, [], ◌++◌, append_assoc}
use Rattle.std.proofs.lemmas.List.{length-replicate, replicate-append-replicate}
use Rattle.std.proofs.lemmas.List.Edits.{sets, sets-eq}
use Rattle.laws.specs.If.{if_b, eq, ne, yes, no, was-eq}
use Rattle.laws.specs.Lists.{pad}
use Rattle.laws.specs.Digits.{packed_octets, packed}
use Rattle.laws.specs.Runs.{Wrote, wrote-more}
use Rattle.laws.specs.Fields.{records}
use Rattle.paper.specs.Sizes.{places_in_all, services}
use Rattle.paper.specs.Shares.{shared, shares_fit}
use Rattle.paper.specs.Dialogues.{empty_place}
use Rattle.paper.specs.Calls.{is_free, fresh_table}
use Rattle.paper.specs.Layout.{place_octets, place_size, place_start, guarantees_at, limits_at, table_size, flag, map_size, map_octets, encode}
use Rattle.paper.specs.Outcome.{fresh_answer, fresh_outcome}
use Rattle.call_entry.specs.declared.Reply.{Reply}
use Rattle.call_entry.specs.Replies.{reply, Told, told}

-- the map of free places alone
full : map_octets (replicate places_in_all (empty_place 0)) ≡ replicate map_size 255
unfolding packed_octets flag is_free if_b packed
full = refl

-- a free place of turn 0 has no octet but 0
empty-octets : place_octets (empty_place 0) ≡ replicate place_size 0
unfolding pad
empty-octets = refl

all-empty : (n : ℕ) → records place_octets (replicate n (empty_place 0)) ≡ replicate (n * place_size) 0
unfolding records
all-empty zero = refl
all-empty (suc n) =
    let e : place_size + n * place_size ≡ suc n * place_size = omega arith in
    ap (λ (l : List ℕ). l ++ records place_octets (replicate n (empty_place 0))) empty-octets
    ∙ ap (λ (l : List ℕ). replicate place_size 0 ++ l) (all-empty n)
    ∙ replicate-append-replicate place_size (n * place_size) 0
    ∙ ap (λ (k : ℕ). replicate k 0) e

-- zeros with the map and the shares written over them
pub fresh-octets : (t u v w g l : List ℕ) (i j k : ℕ) → length t ≡ table_size → length g ≡ services → length l ≡ services → u ≡ replicate table_size 0
    → Wrote u 0 (replicate map_size 255) i v → Wrote v guarantees_at g j w → (x : List ℕ) → Wrote w limits_at l k x → x ≡ encode (fresh_table g l)
unfolding encode fresh_table
fresh-octets t u v w g l i j k a b c d e f x h =
    let m : List ℕ = replicate map_size 255 ++ (g ++ l) in
    let n : length m ≡ (place_start 0) = simp length-append (omega (arith, b, c)) in
    let r = wrote-more e (omega (arith, e.past)) (wrote-more f (omega (arith, f.past, b)) h) in
    r.holds ∙ ap (λ (y : List ℕ). sets y 0 m) d ∙ sets-eq m (replicate table_size 0) 0 (omega (arith, n, length-replicate {A = ℕ} table_size 0))
    ∙ ap (λ (y : List ℕ). m ++ y) (rest (0 + length m) (omega (arith, n)))
    ∙ append_assoc (replicate map_size 255) (g ++ l) (replicate (places_in_all * place_size) 0) ∙ ap (λ (y : List ℕ). replicate map_size 255 ++ y) (append_assoc g l (replicate (places_in_all * place_size) 0))
    ∙ sym (ap (λ (y : List ℕ). map_octets (replicate places_in_all (empty_place 0)) ++ (g ++ (l ++ y))) (all-empty places_in_all) ∙ ap (λ (y : List ℕ). y ++ (g ++ (l ++ replicate (places_in_all * place_size) 0))) full)
  where
    rest : (k : ℕ) → k ≡ (place_start 0) → drop {A = ℕ} k (replicate table_size 0) ≡ replicate (places_in_all * place_size) 0
    rest k e =
        ap (λ (i : ℕ). drop {A = ℕ} i (replicate table_size 0)) e ∙ ap (drop (place_start 0)) (sym (replicate-append-replicate (place_start 0) (places_in_all * place_size) 0))
        ∙ drop_at (replicate (place_start 0) 0) (replicate (places_in_all * place_size) 0) (place_start 0) (length-replicate {A = ℕ} (place_start 0) 0)

-- ---- the number
module _ (t g l : List ℕ) where
  pub fresh-size : (length t ≡ table_size → ⊥) → 1 ≡ fresh_answer t g l
  unfolding fresh_answer
  fresh-size n = ne _ _ _ _ n refl

  module _ (a : length t ≡ table_size) where
    pub fresh-guarantees : (length g ≡ services → ⊥) → 1 ≡ fresh_answer t g l
    unfolding fresh_answer
    fresh-guarantees n = eq _ _ _ _ a (ne _ _ _ _ n refl)

    module _ (b : length g ≡ services) where
      pub fresh-limits : (length l ≡ services → ⊥) → 1 ≡ fresh_answer t g l
      unfolding fresh_answer
      fresh-limits n = eq _ _ _ _ a (eq _ _ _ _ b (ne _ _ _ _ n refl))

      module _ (c : length l ≡ services) where
        pub fresh-unfit : shares_fit (shared places_in_all services g l (λ k. 0)) ≡ false → 13 ≡ fresh_answer t g l
        unfolding fresh_answer
        fresh-unfit f = eq _ _ _ _ a (eq _ _ _ _ b (eq _ _ _ _ c (no _ _ _ f refl)))

        pub fresh-fit : shares_fit (shared places_in_all services g l (λ k. 0)) ≡ true → 0 ≡ fresh_answer t g l
        unfolding fresh_answer
        fresh-fit f = eq _ _ _ _ a (eq _ _ _ _ b (eq _ _ _ _ c (yes _ _ _ f refl)))

  pub fresh-refused : (n : ℕ) → n ≡ fresh_answer t g l → 0 < n → {r : Reply} → r ≡ reply n 0 0 0 → Told (fresh_outcome t g l) r (record { table = t; rows = []; space = [] })
  unfolding fresh_outcome
  fresh-refused n e h d = told (sym (ne _ _ _ _ (λ q. omega (arith, e, q)) refl)) (d ∙ ap (λ (k : ℕ). reply k 0 0 0) e) refl

  pub fresh-done : 0 ≡ fresh_answer t g l → {r : Reply} {u : List ℕ} → r ≡ reply 0 0 0 0 → u ≡ encode (fresh_table g l) → Told (fresh_outcome t g l) r (record { table = u; rows = []; space = [] })
  unfolding fresh_outcome
  fresh-done e d f = told (sym (eq _ _ _ _ (sym e) refl)) d (ap (λ (y : List ℕ). record { table = y; rows = []; space = [] }) f)

-- where it is 0, all sizes are right
pub fresh-sizes : (t g l : List ℕ) → 0 ≡ fresh_answer t g l → (length t ≡ table_size) × (length g ≡ services) × (length l ≡ services)
unfolding fresh_answer
fresh-sizes t g l e =
    let a = was-eq _ _ _ _ e (λ q. omega arith) in
    let b = was-eq _ _ _ _ a.1 (λ q. omega arith) in
    let c = was-eq _ _ _ _ b.1 (λ q. omega arith) in
    (a.0, b.0, c.0)
