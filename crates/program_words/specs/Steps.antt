-- WHAT THE FUNCTIONS DO, STEP BY STEP, against the definitions. Assumes nothing.
use Rattle.std.specs.Prelude.{Option, Some, None, unwrap_or, filter, cond, ◌&&◌, ℕ, zero, suc, ◌+◌, ◌-◌, ◌≤◌, min, Bool, true, false, ◌≡◌, refl, take, eqb}
use Rattle.std.proofs.Math.Path.{sym, ap}
use Rattle.std.proofs.Common.{◌∙◌, add-one, arith, length-drop, drop_of_length-le, drop-drop}
use mathlib.Core.List.{List, [], ◌∷◌}
use Rattle.std.proofs.Math.ListN.{length, drop}
use Rattle.std.proofs.Math.Dec.{ltb}
use Rattle.std.proofs.Common.{ltb-false}
use Rattle.std.proofs.lemmas.List.Recursion.{is_position_or_len}
use Rattle.std.specs.List.{position_or_len}
use Rattle.std.specs.Slice.{IsGetRangeResult}
use Rattle.std.specs.Cmp.Lexicographic.{pointwise}
use denote.Ref.{Bor}
use borrow.Rule.Slice.PartMut.{put_mid}
use Rattle.program_digits.specs.Digits.{read_here}
use Rattle.program_digits.specs.Steps.{part-decoded}
use Rattle.laws.specs.If.{if_lt, if_eq, if_b, lt, ge, by-lt, by-eq, true-false}
use Rattle.program_words.specs.declared.Field.{Field}
use Rattle.program_words.specs.declared.Pair.{Pair}
use Rattle.program_words.specs.Words.{up_to, past, after, word_of, field_of, count, same, cut_of, with_octets, or_none, with_or_none, pair_of, Two}

module _ (x : ℕ) (s : List ℕ) where
  -- past it
  past-at : (from e r : ℕ) → e ≡ from + length (up_to x (drop from s)) → r ≡ e + 1 → drop r s ≡ past x (drop from s)
  past-at from e r p q =
      let f : r ≡ from + suc (length (up_to x (drop from s))) = omega arith in
      ap (λ (k : ℕ). drop k s) f ∙ sym (drop-drop (suc (length (up_to x (drop from s)))) from s)

  past-none : (from r : ℕ) → length s ≤ from + length (up_to x (drop from s)) → length s ≤ r → drop r s ≡ past x (drop from s)
  past-none from r p h =
      drop_of_length-le s h ∙ sym (drop_of_length-le (drop from s) {i = suc (length (up_to x (drop from s)))} (omega (arith, length-drop from s)))

  pub past_is : (from e r : ℕ) → e ≡ from + length (up_to x (drop from s)) → r ≡ min (e + 1) (length s) → drop r s ≡ past x (drop from s)
  past_is from e r p q = by-lt {A = ℕ} {r = if_lt e (length s) 0 0} e (length s) 0 0 refl
      (λ l _. past-at from e r p (omega arith)) (λ l _. past-none from r (omega arith) (omega arith))

  pub after_next : (i a b : ℕ) → drop a s ≡ after x i s → drop b s ≡ past x (drop a s) → drop b s ≡ after x (i + 1) s
  unfolding after
  after_next i a b e f = f ∙ ap (past x) e ∙ ap (λ (k : ℕ). after x k s) (sym (add-one i))

  pub field_is : (i k a b : ℕ) → i ≡ k → a ≤ length s → drop a s ≡ after x i s → b ≡ a + length (up_to x (drop a s)) → record { start = a; stop = b } ≡ field_of x k s
  field_is i k a b j h g f =
      let e : drop a s ≡ after x k s = g ∙ ap (λ (n : ℕ). after x n s) j in
      let p : a ≡ length s - length (after x k s) = omega (arith, ap length e, length-drop a s) in
      let q : b ≡ length s - length (after x k s) + length (word_of x k s) = omega (arith, ap (λ (t : List ℕ). length (up_to x t)) e) in
      let r : ◌≡◌ {A = Field} (record { start = a; stop = b }) (record { start = length s - length (after x k s); stop = b }) = ap (λ (n : ℕ). record { start = n; stop = b }) p in
      r ∙ ap (λ (n : ℕ). record { start = length s - length (after x k s); stop = n }) q

-- a word is what lies in its field
pub up-to-short : (x : ℕ) (s : List ℕ) → (length (up_to x s) ≤ length s) × (take (length (up_to x s)) s ≡ up_to x s)
unfolding up_to
up-to-short x [] = (omega arith, refl)
up-to-short x (y ∷ s) = by-eq {r = up_to x (y ∷ s)} y x _ _ refl
    (λ q e. (omega (arith, ap length e), ap (λ (t : List ℕ). take (length t) (y ∷ s)) e ∙ sym e))
    (λ q e. (omega (arith, ap length e, (up-to-short x s).0), ap (λ (t : List ℕ). take (length t) (y ∷ s)) e ∙ ap (λ (t : List ℕ). y ∷ t) (up-to-short x s).1 ∙ sym e))

after-short : (x k : ℕ) (s : List ℕ) → (length (after x k s) ≤ length s) × (drop (length s - length (after x k s)) s ≡ after x k s)
unfolding after
after-short x zero s = let e : length s - length s ≡ 0 = omega arith in (omega arith, ap (λ (n : ℕ). drop n s) e)
after-short x (suc k) s =
    let r = after-short x k s in
    go (after x k s) (suc (length (up_to x (after x k s)))) r.0 r.1
  where
    go : (t : List ℕ) (n : ℕ) → length t ≤ length s → drop (length s - length t) s ≡ t → (length (drop n t) ≤ length s) × (drop (length s - length (drop n t)) s ≡ drop n t)
    go t n h e = (
      omega (arith, length-drop n t),
      by-lt {A = ℕ} {r = if_lt (length t) n 0 0} (length t) n 0 0 refl
          (λ l _. drop_of_length-le s {i = length s - length (drop n t)} (omega (arith, length-drop n t)) ∙ sym (drop_of_length-le t {i = n} (omega arith)))
          (λ l _. let f : length s - length (drop n t) ≡ length s - length t + n = omega (arith, length-drop n t) in
          ap (λ (k : ℕ). drop k s) f ∙ sym (drop-drop n (length s - length t) s) ∙ ap (drop n) e),
    )

pub word_cut : (x k : ℕ) (s : List ℕ) → cut_of (field_of x k s) s ≡ word_of x k s
unfolding cut_of
word_cut x k s =
    let a = after-short x k s in
    let u = up-to-short x (after x k s) in
    let d = length s - length (after x k s) in
    let w = length (word_of x k s) in
    let m : d + w - d ≡ w = omega arith in
    sym (ge (length s) (d + w) _ _ (omega (arith, a.0, u.0)) (ge (d + w) d _ _ (omega arith) (sym (ap (λ (n : ℕ). take n (drop d s)) m ∙ ap (take w) a.1 ∙ u.1))))

-- the first separator of a part
to_first : (x : ℕ) (s : List ℕ) → length (up_to x s) ≡ position_or_len (λ y. eqb y x) s
unfolding up_to if_eq
to_first x s = is_position_or_len (λ t. length (up_to x t)) (λ y. eqb y x) refl step s
  where
    step : (y : ℕ) (t : List ℕ) → length (up_to x (y ∷ t)) ≡ cond (eqb y x) 0 (1 + length (up_to x t))
    step y t = go (eqb y x)
      where
        go : (b : Bool) → length (cond b [] (y ∷ up_to x t)) ≡ cond b 0 (1 + length (up_to x t))
        go true = refl
        go false = omega arith

pub sought : (x : ℕ) (s : List ℕ) {o : Option ℕ} {r : ℕ} → o ≡ cond (ltb (position_or_len (λ y. eqb y x) s) (length s)) (Some (position_or_len (λ y. eqb y x) s)) None
    → r ≡ unwrap_or o (length s) → r ≡ length (up_to x s)
sought x s {o} {r} e f = go (ltb (position_or_len (λ y. eqb y x) s) (length s)) refl e
  where
    go : (b : Bool) → ltb (position_or_len (λ y. eqb y x) s) (length s) ≡ b → o ≡ cond b (Some (position_or_len (λ y. eqb y x) s)) None → r ≡ length (up_to x s)
    go true t e = f ∙ ap (λ (o : Option ℕ). unwrap_or o (length s)) e ∙ sym (to_first x s)
    go false t e = f ∙ ap (λ (o : Option ℕ). unwrap_or o (length s)) e ∙ omega (arith, ltb-false _ _ t, to_first x s, (up-to-short x s).0)

-- how many separators
pub counted : (x : ℕ) (s : List ℕ) → length (filter (λ y. eqb y x) s) ≡ count x s
unfolding count if_b
counted x [] = refl
counted x (y ∷ s) = go (eqb y x) (counted x s)
  where
    go : (b : Bool) → length (filter (λ y. eqb y x) s) ≡ count x s → length (cond b (y ∷ filter (λ y. eqb y x) s) (filter (λ y. eqb y x) s)) ≡ cond b 1 0 + count x s
    go true e = omega arith
    go false e = omega arith

-- what lies in a field
pub cut_is : (f : Field) (s : List ℕ) (o : Option (Bor (List ℕ))) (d : Bor (List ℕ)) → IsGetRangeResult s f.start f.stop o → d.now ≡ [] → (unwrap_or o d).now ≡ cut_of f s
unfolding cut_of
cut_is f s None d p e = by-lt {A = ℕ} {r = if_lt (length s) f.stop 0 0} (length s) f.stop 0 0 refl
    (λ l _. lt _ _ _ _ l e)
    (λ l _. by-lt {A = ℕ} {r = if_lt f.stop f.start 0 0} f.stop f.start 0 0 refl
    (λ m _. ge _ _ _ _ l (lt _ _ _ _ m e))
    (λ m _. let h : ◌≡◌ {A = Bool} false true = p.1 (m, l) in absurd (true-false (sym h))))
cut_is f s (Some x) d p e = ge _ _ _ _ p.0.1 (ge _ _ _ _ p.0.0 p.0.2)

-- the octets of a part of a line, in its place
pub put_octets : (f : Field) (s : List ℕ) {t : List ℕ} → f.start ≤ f.stop → f.stop ≤ length s → t ≡ read_here (take (f.stop - f.start) (drop f.start s))
    → put_mid f.start (f.stop - f.start) s t ≡ with_octets f s
unfolding with_octets
put_octets f s p q e = ap (put_mid f.start (f.stop - f.start) s) e ∙ ge _ _ _ _ q (ge _ _ _ _ p (part-decoded s f.start f.stop p q))

-- ---- the same octets?
pub same_is : (s t : List ℕ) → pointwise eqb s t ≡ same s t
unfolding same if_eq
same_is [] [] = refl
same_is [] (y ∷ t) = refl
same_is (x ∷ s) [] = refl
same_is (x ∷ s) (y ∷ t) = go (eqb x y) (same_is s t)
  where
    go : (b : Bool) → pointwise eqb s t ≡ same s t → (b && pointwise eqb s t) ≡ cond b (same s t) false
    go true e = e
    go false e = refl

-- ---- two words, one after the other
pub no_first : (b : Option Field) {a : Option Field} {r : Option Pair} → a ≡ None → r ≡ None → r ≡ pair_of a b
unfolding pair_of
no_first b e p = p ∙ ap (λ (a : Option Field). pair_of a b) (sym e)

pub no_second : {a b : Option Field} {r : Option Pair} {f : Field} → a ≡ Some f → b ≡ None → r ≡ None → r ≡ pair_of a b
unfolding pair_of
no_second {a} {b} {r} {f} e d p = p ∙ ap (pair_of (Some f)) (sym d) ∙ ap (λ (a : Option Field). pair_of a b) (sym e)

pub has_both : {a b : Option Field} {r : Option Pair} {f g : Field} → a ≡ Some f → b ≡ Some g → r ≡ Some (record { first = f; second = g }) → r ≡ pair_of a b
unfolding pair_of
has_both {a} {b} {r} {f} e d p = p ∙ ap (pair_of (Some f)) (sym d) ∙ ap (λ (a : Option Field). pair_of a b) (sym e)

pub two : (x k : ℕ) (s : List ℕ) {f g : Field} {a b : Option Field} {r : Option Pair} {m n : List ℕ} → f ≡ field_of x k s → g ≡ field_of x (k + 1) s → a ≡ or_none f s → m ≡ with_or_none f s
    → b ≡ or_none g m → n ≡ with_or_none g m → r ≡ pair_of a b → Two x k s r n
two x k s {f} {g} {a} {b} {r} {m} {n} p q c d e h t =
    let l : m ≡ with_or_none (field_of x k s) s = d ∙ ap (λ (f : Field). with_or_none f s) p in
    let first : a ≡ or_none (field_of x k s) s = c ∙ ap (λ (f : Field). or_none f s) p in
    let second : b ≡ or_none (field_of x (k + 1) s) (with_or_none (field_of x k s) s) = e ∙ ap (λ (g : Field). or_none g m) q ∙ ap (or_none (field_of x (k + 1) s)) l in
    record {
      both = t ∙ ap (λ (a : Option Field). pair_of a b) first ∙ ap (pair_of (or_none (field_of x k s) s)) second;
      line = h ∙ ap (λ (g : Field). with_or_none g m) q ∙ ap (with_or_none (field_of x (k + 1) s)) l;
    }
