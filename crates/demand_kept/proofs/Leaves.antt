-- EVERY WAY THE READING OF A COMPONENT'S PIECES ENDS: sound or at fault, with the ID and the end that were read before. Assumes nothing.
use Rattle.std.specs.Prelude.{◌≡◌, refl, Bool, true, false, cond, List, ℕ, ◌+◌, eqb, ltb}
use Rattle.laws.specs.If.{if_lt, if_eq, if_b}
use Rattle.paper.specs.declared.Component.{Component}
use Rattle.paper.specs.Components.{reject_tag, no_id, sound, faulty, single, last_piece, invoke_pieces, result_both, result_pieces, reject_pieces, null_pieces, pieces_after, pieces}

-- what holds either way of a test holds
module _ {A : Type 0} (P : A → Type 0) where
  by_bool : (b : Bool) {x y : A} → P x → P y → P (cond b x y)
  by_bool true p q = p
  by_bool false p q = q

  pub whether-eq : (a b : ℕ) (x y : A) → P x → P y → P (if_eq a b x y)
  unfolding if_eq
  whether-eq a b x y p q = by_bool (eqb a b) p q

  pub whether-lt : (a b : ℕ) (x y : A) → P x → P y → P (if_lt a b x y)
  unfolding if_lt
  whether-lt a b x y p q = by_bool (ltb a b) p q

  pub whether-b : (b : Bool) (x y : A) → P x → P y → P (if_b b x y)
  unfolding if_b
  whether-b b x y p q = by_bool b p q

module _ (id x : ℕ) (P : Component → Type 0) (good : (t l p a b : ℕ) → P (sound t id l p x a b)) (bad : (t p code : ℕ) → P (faulty t id p code x)) where
  last_leaf : (s : List ℕ) (t l e q : ℕ) → P (last_piece s t id l x e q)
  unfolding last_piece
  last_leaf s t l e q =
      whether-eq P _ _ _ _ (bad _ _ _) (whether-eq P _ _ _ _ (good _ _ _ _ _) (whether-b P _ _ _ (good _ _ _ _ _) (bad _ _ _)))

  result-leaf : (s : List ℕ) (t e p : ℕ) → P (result_pieces s t id x e p)
  unfolding result_pieces result_both
  result-leaf s t e p =
      whether-eq P _ _ _ _ (good _ _ _ _ _)
      (whether-eq P _ _ _ _
      (whether-b P _ _ _ (whether-eq P _ _ _ _ (bad _ _ _) (whether-b P _ _ _ (good _ _ _ _ _) (bad _ _ _))) (bad _ _ _))
      (bad _ _ _))

  -- after the ID
  pub after-leaf : (s : List ℕ) (t e p : ℕ) → P (pieces_after s t id x e p)
  unfolding pieces_after invoke_pieces reject_pieces
  after-leaf s t e p =
      whether-eq P _ _ _ _ (whether-eq P _ _ _ _ (last_leaf s _ _ _ _) (last_leaf s _ _ _ _))
      (whether-eq P _ _ _ _ (last_leaf s _ _ _ _)
      (whether-eq P _ _ _ _ (whether-eq P _ _ _ _ (bad _ _ _) (good _ _ _ _ _)) (result-leaf s t e p)))

-- a reject without an ID
pub null-leaf : (x : ℕ) (P : Component → Type 0) → ((p : ℕ) → P (sound reject_tag no_id no_id p x 0 0)) → ((p code : ℕ) → P (faulty reject_tag no_id p code x))
    → (s : List ℕ) (e b : ℕ) → P (null_pieces s x e b)
unfolding null_pieces reject_pieces
null-leaf x P good bad s e b =
    whether-lt P _ _ _ _ (bad _ _)
    (whether-eq P _ _ _ _ (whether-eq P _ _ _ _ (whether-eq P _ _ _ _ (bad _ _) (good _)) (bad _ _)) (bad _ _))

-- all end where the frame does
pub pieces-stop : (s : List ℕ) (t x e b : ℕ) → (pieces s t x e b).stop ≡ x
unfolding pieces
pieces-stop s t x e b =
    whether-eq (λ (c : Component). c.stop ≡ x) _ _ _ _
    (whether-eq (λ (c : Component). c.stop ≡ x) _ _ _ _ (null-leaf x (λ (c : Component). c.stop ≡ x) (λ p. refl) (λ p code. refl) s e b) refl)
    (after-leaf (single s 2 e b) x (λ (c : Component). c.stop ≡ x) (λ t l p a b. refl) (λ t p code. refl) s t e (b + 3))
