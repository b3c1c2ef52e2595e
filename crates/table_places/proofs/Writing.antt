-- The octets that the code makes are those of the control record. Assumes nothing.
use Prim.Native.Nat.{ℕ, zero, suc, ◌+◌, ◌*◌, ◌/◌, ◌%◌, ◌<◌, ◌≤◌}
use mathlib.Core.Path.{◌≡◌, refl, sym, ap, ◌∙◌}
use mathlib.Core.List.{List, [], ◌∷◌, ◌++◌}
use native.Mathlib.Omega.{arith}
use lib.ListN.{length, get_or, set, take, replicate, length-replicate}
use lib.Seq.{sets}
use Rattle.laws.specs.If.{if_lt, lt, ge, by-lt}
use Rattle.laws.specs.Lists.{tab, tab-all, tab-set, tab-ext}
use Rattle.laws.specs.Runs.{Wrote, wrote-more}
use Rattle.laws.specs.Parts.{over}
use Rattle.laws.specs.Fields.{laid_out, laid-split, pairs}
use Rattle.paper.specs.declared.Invocation.{Invocation}
use Rattle.paper.specs.declared.Reject.{Reject}
use Rattle.paper.specs.declared.Control.{Control}
use Rattle.paper.specs.Sizes.{places_in_all, most_invocations, most_rejects}
use Rattle.paper.specs.Problems.{kind_of, code_of}
use Rattle.paper.specs.Invocations.{no_invocation}
use Rattle.paper.specs.Dialogues.{Place, no_reject}
use Rattle.paper.specs.Layout.{invocation_mark, invocation_octets, reject_mark, waiting_reject_octets, place_fields, invocations_field, waiting_field, place_start, first_invocation, first_reject, table_size}
use Rattle.table_laws.specs.Fine.{FineInvocation, FineControl}
use Rattle.table_laws.specs.Octets.{SmallReject, control_octets}
use Rattle.table_laws.proofs.Octets.{rejects-small, control_octets-length, four-octets}
use Rattle.table_laws.proofs.Stores.{sets_over}
use Rattle.table_places.specs.Made.{head_with, head_octets, made_invocation, invocation_pairs, made_reject, reject_pairs}

-- ---- PAIRS MADE ONE BY ONE: those of the first i of a list are made, n in all, the others are of d
unfoldable pub made : {A : Type 0} → (A → ℕ) → (A → ℕ) → A → ℕ → List A → ℕ → List ℕ
made f g d n l i = pairs f g (tab n 0 (λ j. if_lt j i (get_or l j d) d))

module _ {A : Type 0} (f g : A → ℕ) (d : A) (n : ℕ) (l : List A) where
  pairs_set : (m : List A) (i : ℕ) (x : A) → set (set (pairs f g m) (2 * i) (f x)) (2 * i + 1) (g x) ≡ pairs f g (set m i x)
  pairs_set [] i x = refl
  pairs_set (y ∷ m) zero x = refl
  pairs_set (y ∷ m) (suc i) x =
      let z : 2 * suc i ≡ suc (suc (2 * i)) = omega arith in
      let w : 2 * suc i + 1 ≡ suc (suc (2 * i + 1)) = omega arith in
      rw (w, z) (ap (λ (r : List ℕ). f y ∷ g y ∷ r) (pairs_set m i x))

  pub made_none : pairs f g (tab n 0 (λ j. d)) ≡ made f g d n l 0
  unfolding made
  made_none = ap (pairs f g) (tab-ext n _ _ d (λ j h. ge _ _ _ _ (omega arith) refl))

  pub made_more : {o : List ℕ} {i a b : ℕ} → o ≡ made f g d n l i → i < n → a ≡ f (get_or l i d) → b ≡ g (get_or l i d)
      → set (set o (2 * i) a) (2 * i + 1) b ≡ made f g d n l (i + 1)
  unfolding made
  made_more {o} {i} {a} {b} e h p q =
      let k : i < i + 1 = omega arith in
      rw (p, q) (ap (λ (r : List ℕ). set (set r (2 * i) (f (get_or l i d))) (2 * i + 1) (g (get_or l i d))) e)
      ∙ pairs_set (tab n 0 (λ j. if_lt j i (get_or l j d) d)) i (get_or l i d)
      ∙ ap (λ (x : A). pairs f g (set (tab n 0 (λ j. if_lt j i (get_or l j d) d)) i x)) (lt i (i + 1) (get_or l i d) d k refl)
      ∙ ap (pairs f g) (sym (tab-set n (λ j. if_lt j i (get_or l j d) d) (λ j. if_lt j (i + 1) (get_or l j d) d) i h other d))
    where
      other : (j : ℕ) → (j ≡ i → ⊥) → if_lt j (i + 1) (get_or l j d) d ≡ if_lt j i (get_or l j d) d
      other j ne = by-lt {r = if_lt j i (get_or l j d) d} _ _ _ _ refl (λ q z. sym (lt _ _ _ _ (omega arith) z)) (λ q z. sym (ge _ _ _ _ (omega arith) z))

  pub made_all : {o : List ℕ} {i : ℕ} → o ≡ made f g d n l i → ((j : ℕ) → i ≤ j → j < n → get_or l j d ≡ d) → o ≡ pairs f g (tab n 0 (λ j. get_or l j d))
  unfolding made
  made_all {o} {i} e r = e ∙ ap (pairs f g) (tab-ext n _ _ d (λ j h. by-lt {r = if_lt j i (get_or l j d) d} _ _ _ _ refl (λ q z. z) (λ q z. z ∙ sym (r j q h))))

-- ---- what goes into its bits is not changed by the remainder
pairs-same : {A : Type 0} (f g h : A → ℕ) (d : A) (l : List A) → ((j : ℕ) → j < length l → g (get_or l j d) ≡ h (get_or l j d)) → pairs f g l ≡ pairs f h l
pairs-same f g h d [] e = refl
pairs-same f g h d (x ∷ l) e =
    ap (λ (k : ℕ). f x ∷ k ∷ pairs f g l) (e 0 (omega arith)) ∙ ap (λ (r : List ℕ). f x ∷ h x ∷ r) (pairs-same f g h d l (λ j q. e (suc j) (omega arith)))

mark_made : (v : Invocation) → FineInvocation v → made_invocation v ≡ invocation_mark v
mark_made v f = omega (arith, f.state, f.class, f.shown)

reject-made : (r : Reject) → SmallReject r → made_reject r ≡ reject_mark r
reject-made r b =
    let x : r.problem % 256 % 8 ≡ code_of r.problem = omega (arith, b.2) in
    let y : r.problem / 256 % 16 ≡ kind_of r.problem = omega (arith, b.1) in
    let z : r.id / 256 % 2 ≡ r.id / 256 = omega (arith, b.0) in
    rw (x, y, z)

module _ (c : Control) (n : ℕ) (g : FineControl c) where
  invocations-made : invocation_pairs c.invocations ≡ invocation_octets c.invocations
  invocations-made =
      ap (pairs (λ v. v.id) made_invocation) (tab-all most_invocations c.invocations no_invocation g.eight)
      ∙ pairs-same (λ v. v.id) made_invocation invocation_mark no_invocation c.invocations (λ j h. mark_made (get_or c.invocations j no_invocation) (g.invocations.each j h))

  rejects-made : reject_pairs c.rejects ≡ waiting_reject_octets c.rejects
  rejects-made =
      ap (pairs (λ r. r.id % 256) made_reject) (tab-all most_rejects c.rejects no_reject g.eights)
      ∙ pairs-same (λ r. r.id % 256) made_reject reject_mark no_reject c.rejects
      (λ j h. reject-made (get_or c.rejects j no_reject) (rejects-small c.count c.rejects g.rejects j h))

  made-octets : head_octets c n ++ (invocation_pairs c.invocations ++ reject_pairs c.rejects) ≡ control_octets c n
  made-octets =
      let x : Place = record { control = c; waiting = replicate n 0 } in
      ap (λ (l : List ℕ). head_with c l n ++ (invocation_pairs c.invocations ++ reject_pairs c.rejects)) (four-octets c.peer g.four)
      ∙ ap (λ (k : ℕ). head_with c c.peer k ++ (invocation_pairs c.invocations ++ reject_pairs c.rejects)) (sym (length-replicate n 0))
      ∙ ap (λ (l : List ℕ). laid_out (take invocations_field place_fields) x ++ (l ++ reject_pairs c.rejects)) invocations-made
      ∙ ap (λ (l : List ℕ). laid_out (take invocations_field place_fields) x ++ (invocation_octets c.invocations ++ l)) rejects-made
      ∙ sym (laid-split (take waiting_field place_fields) x invocations_field)

  -- three runs, one after another
  pub control-put : (t u v w H I R : List ℕ) (p i j k : ℕ) → p < places_in_all → length t ≡ table_size
      → H ≡ head_octets c n → I ≡ invocation_pairs c.invocations → R ≡ reject_pairs c.rejects
      → Wrote t (place_start p) H i u → Wrote u (place_start p + first_invocation) I j v → Wrote v (place_start p + first_reject) R k w
      → w ≡ over t (place_start p) (control_octets c n)
  control-put t u v w H I R p i j k h e hH hI hR a b d =
      let lH : length H ≡ first_invocation = ap length hH in
      let lI : length I ≡ 2 * most_invocations = ap length hI in
      let m : H ++ (I ++ R) ≡ control_octets c n = rw (hH, hI, hR) made-octets in
      (wrote-more a (omega (arith, a.past, lH)) (wrote-more b (omega (arith, b.past, lI)) d)).holds
      ∙ ap (λ (l : List ℕ). sets t (place_start p) l) m
      ∙ sets_over t (place_start p) (control_octets c n) (omega (arith, control_octets-length c n g))
