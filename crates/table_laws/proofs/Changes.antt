-- A TABLE WITH ONE PLACE CHANGED: what it holds, and that it stays fine. Assumes nothing.
use Rattle.std.specs.Prelude.{◌≡◌, refl, Bool, true, false, List, eqb, length, get_or, set}
use Rattle.std.proofs.Common.{sym, subst, ◌∙◌, arith, eqb-true, ne_eqb, length-set, get_or-set_same, get_or-set_other}
use Rattle.std.proofs.Math.Path.{ap, fun_ext}
use Prim.Native.Nat.{ℕ, ◌+◌, ◌<◌}
use Rattle.std.proofs.lemmas.Bool.{eqb-false}
use Rattle.laws.specs.If.{if_eq, no}
use Rattle.laws.specs.Sums.{sum_by-set}
use Rattle.paper.specs.Sizes.{places_in_all, services, next_turn}
use Rattle.paper.specs.Shares.{shared, shares_kept}
use Rattle.paper.specs.Dialogues.{Place, empty_place, freed}
use Rattle.paper.specs.Calls.{Table, place_at, with_place, is_free, is_of, held}
use Rattle.paper.specs.Rules.{shares_of_table}
use Rattle.table_laws.specs.Fine.{FinePlace, Fine}
use Rattle.table_laws.proofs.Slots.{empty-fine}

pub freed-fine : (x : Place) → FinePlace (freed x)
freed-fine x = empty-fine (next_turn x.control.turn) (omega arith)

-- ---- what a service holds
pub held-set : (ps : List Place) (p : ℕ) (x : Place) (s : ℕ) → p < length ps → held (set ps p x) s + is_of s (get_or ps p (empty_place 0)) ≡ held ps s + is_of s x
unfolding held
held-set ps p x s h = sum_by-set (is_of s) ps p x (empty_place 0) h

-- a used place counts for its service alone
pub of-used : (x : Place) (s : ℕ) → (x.control.state ≡ 0 → ⊥) → is_of s x ≡ if_eq x.control.service s 1 0
unfolding is_of is_free
of-used x s n = sym (no (eqb x.control.state 0) 0 (if_eq x.control.service s 1 0) (ne_eqb x.control.state 0 n) refl)

pub of-same : (x y : Place) → (x.control.state ≡ 0 → ⊥) → (y.control.state ≡ 0 → ⊥) → x.control.service ≡ y.control.service → (s : ℕ) → is_of s x ≡ is_of s y
of-same x y n m e s = of-used x s n ∙ ap (λ (k : ℕ). if_eq k s 1 0) e ∙ sym (of-used y s m)

pub held_same : (ps : List Place) (p : ℕ) (x : Place) → p < length ps → ((s : ℕ) → is_of s x ≡ is_of s (get_or ps p (empty_place 0))) → held (set ps p x) ≡ held ps
held_same ps p x h e = fun_ext (λ s. omega (arith, held-set ps p x s h, e s))

-- ---- the places
module _ (T : Table) (f : Fine T) (p : ℕ) (h : p < places_in_all) (x : Place) where
  pub place_same : place_at (with_place T p x) p ≡ x
  place_same = get_or-set_same T.places p x (empty_place 0) (omega (arith, f.places))

  pub place_other : (q : ℕ) → (q ≡ p → ⊥) → place_at (with_place T p x) q ≡ place_at T q
  place_other q n = get_or-set_other T.places p q x (empty_place 0) n

  -- it stays fine where the place is, and the shares are kept
  pub fine-with : FinePlace x → shares_of_table (with_place T p x) ≡ true → Fine (with_place T p x)
  fine-with g s = record {
    guarantees = f.guarantees;
    limits = f.limits;
    places = length-set T.places p x ∙ f.places;
    each = λ q l. go q l (eqb q p) refl;
    shares = s;
  }
    where
      go : (q : ℕ) → q < places_in_all → (b : Bool) → eqb q p ≡ b → FinePlace (place_at (with_place T p x) q)
      go q l true e = subst (λ (k : ℕ). FinePlace (place_at (with_place T p x) k)) (sym (eqb-true q p e)) (subst FinePlace (sym place_same) g)
      go q l false e = subst FinePlace (sym (place_other q (eqb-false q p e))) (f.each q l)

  -- and the shares are, where a dialogue stays its service's
  pub shares-same : ((place_at T p).control.state ≡ 0 → ⊥) → (x.control.state ≡ 0 → ⊥) → x.control.service ≡ (place_at T p).control.service
      → shares_of_table (with_place T p x) ≡ shares_of_table T
  unfolding shares_of_table
  shares-same n m e =
      ap (λ (c : ℕ → ℕ). shares_kept (shared places_in_all services T.guarantees T.limits c))
      (held_same T.places p x (omega (arith, f.places)) (of-same x (place_at T p) m n e))

  pub fine_stays : FinePlace x → ((place_at T p).control.state ≡ 0 → ⊥) → (x.control.state ≡ 0 → ⊥) → x.control.service ≡ (place_at T p).control.service
      → Fine (with_place T p x)
  fine_stays g n m e = fine-with g (shares-same n m e ∙ f.shares)
