-- WHAT A WALK OVER A LIST OF INVOCATIONS FINDS, in the library's words. Assumes nothing.
use Rattle.std.proofs.Common.{◌≡◌, refl, sym, ap, ◌∙◌, Bool, true, false, cond, not, List, [], ◌∷◌, ℕ, suc, ◌+◌, length, Some, None, unwrap_or, eqb-true, ◌&&◌, eqb, ltb, arith}
use Rattle.std.proofs.lemmas.Bool.{eqb-false}
use borrow.Author.Tests.{ltb-false}
use Rattle.std.proofs.lemmas.List.Sums.{prefix_len-le-length}
use Rattle.std.proofs.lemmas.List.Recursion.{is_position_or_len}
use Rattle.std.specs.List.{position, position_or_len, list_all}
use Rattle.laws.specs.If.{if_b, eq, ne, no, true-false}
use Rattle.laws.specs.Lists.{first_at}
use Rattle.paper.specs.declared.Invocation.{Invocation}
use Rattle.paper.specs.Invocations.{is_open, is_idle, slot_of, rejecting, rejecting_ids}

idle-shut : (id : ℕ) (v : Invocation) → is_idle v ≡ true → is_open id v ≡ false
unfolding is_idle is_open
idle-shut id v h = sym (eq _ _ _ _ (eqb-true _ _ h) refl)

-- the first that passes, or the length
first-empty : {A : Type 0} (f : A → Bool) → first_at f [] ≡ 0
unfolding first_at
first-empty f = refl

first-more : {A : Type 0} (f : A → Bool) (x : A) (l : List A) → first_at f (x ∷ l) ≡ cond (f x) 0 (1 + first_at f l)
unfolding first_at if_b
first-more f x l = ap (λ (n : ℕ). cond (f x) 0 n) (omega arith)

pub first-position : {A : Type 0} (f : A → Bool) (l : List A) → unwrap_or (position f l) (length l) ≡ first_at f l
first-position f l =
    let e : first_at f l ≡ position_or_len f l = is_position_or_len (first_at f) f (first-empty f) (first-more f) l in
    go (ltb (position_or_len f l) (length l)) refl ∙ sym e
  where
    go : (b : Bool) → ltb (position_or_len f l) (length l) ≡ b → unwrap_or (position f l) (length l) ≡ position_or_len f l
    go true q = ap (λ (b : Bool). unwrap_or (cond b (Some (position_or_len f l)) None) (length l)) q
    go false q =
        let n : length l ≡ position_or_len f l = omega (arith, ltb-false _ _ q, prefix_len-le-length (λ x. not (f x)) l) in
        ap (λ (b : Bool). unwrap_or (cond b (Some (position_or_len f l)) None) (length l)) q ∙ n

-- where all are Idle, no ID is found
pub none-open : (l : List Invocation) → list_all is_idle l ≡ true → (id : ℕ) → slot_of l id ≡ length l
unfolding slot_of first_at
none-open [] h id = refl
none-open (v ∷ l) h id = go (is_idle v) refl h (λ k. none-open l k id)
  where
    go : (b : Bool) → is_idle v ≡ b → (b && list_all is_idle l) ≡ true → (list_all is_idle l ≡ true → slot_of l id ≡ length l) → slot_of (v ∷ l) id ≡ suc (length l)
    go true e h more = sym (no _ _ _ (idle-shut id v e) (sym (ap suc (more h))))
    go false e h more = absurd (true-false (sym h))

-- where none is Rejecting, there is none to settle
pub none-rejecting : (l : List Invocation) → list_all (λ v. not (eqb v.state rejecting)) l ≡ true → rejecting_ids l ≡ []
unfolding rejecting_ids
none-rejecting [] h = refl
none-rejecting (v ∷ l) h = go (eqb v.state rejecting) refl h (none-rejecting l)
  where
    go : (b : Bool) → eqb v.state rejecting ≡ b → (not b && list_all (λ v. not (eqb v.state rejecting)) l) ≡ true
        → (list_all (λ v. not (eqb v.state rejecting)) l ≡ true → rejecting_ids l ≡ []) → rejecting_ids (v ∷ l) ≡ []
    go true e h more = absurd (true-false (sym h))
    go false e h more = sym (ne _ _ _ _ (eqb-false _ _ e) (sym (more h)))
