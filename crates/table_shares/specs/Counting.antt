-- DEMAND 3 OVER HISTORIES, of any resource: what was begun less what was ended is what is held, and by it the rule decides. Assumes nothing.
use Rattle.std.specs.Prelude.{◌≡◌, refl, Bool, true, false, List, [], ◌∷◌, ◌⊎◌, ℕ, ◌+◌, ◌-◌, ◌≤◌, ◌<◌}
use Rattle.std.proofs.Common.{sym, ap, subst, ◌∙◌, inl, inr, arith}
use Rattle.std.proofs.Math.Path.{fun_ext}
use Rattle.laws.specs.If.{if_eq, if_b, eq, ne, yes, no, by-eq}
use Rattle.laws.specs.Sums.{but, but_same, but-other}
use Rattle.paper.specs.Shares.{Resource, others, free, gives}
use Rattle.table_shares.specs.Share.{holding, Sound, below-given, refused-at-limit, refused_full, refused_why}

-- a number of one service, and none of the others
abbrev pub only : ℕ → ℕ → ℕ → ℕ
only s n k = if_eq s k n 0

-- nobody holds any
abbrev pub idle : Resource → Resource
idle R = holding R (λ k. 0)

-- FROM ONE TO ANOTHER: the same shares, and each service holds more by what it began, less by what it ended
pub record Moves (R : Resource) (begun ended : ℕ → ℕ) (Q : Resource) : Type 0 where
  pub same : idle Q ≡ idle R
  pub counts : (s : ℕ) → begun s + R.held s ≡ ended s + Q.held s

pub moves_not : (R : Resource) (n : ℕ → ℕ) → Moves R n n R
moves_not R n = record { same = refl; counts = λ s. refl }

-- one service's holding alone
pub moves-but : (R : Resource) (s b e v : ℕ) → b + R.held s ≡ e + v → Moves R (only s b) (only s e) (holding R (but R.held s v))
moves-but R s b e v h = record {
  same = refl;
  counts = λ k. by-eq {A = ℕ} s k 0 0 refl
      (λ q _. subst (λ (j : ℕ). only s b j + R.held j ≡ only s e j + but R.held s v j) q
      (omega (arith, h, eq {r = b} s s b 0 refl refl, eq {r = e} s s e 0 refl refl, but_same R.held s v)))
      (λ n _. omega (arith, ne {r = 0} s k b 0 n refl, ne {r = 0} s k e 0 n refl, but-other R.held s v k (λ q. n (sym q))));
}

pub moves_more : {R P Q : Resource} {b e c d : ℕ → ℕ} → Moves R b e P → Moves P c d Q → Moves R (λ s. b s + c s) (λ s. e s + d s) Q
moves_more m n = record { same = n.same ∙ m.same; counts = λ s. omega (arith, m.counts s, n.counts s) }

-- each of a list's elements
abbrev pub Each : {X : Type 0} → (X → Type 0) → List X → Type 0
Each F [] = Unit
Each F (m ∷ ms) = F m × Each F ms

-- ANY LIST OF STEPS: where it leads, and what its steps count together
module _ {S X : Type 0} where
  abbrev pub led : (S → X → S) → S → List X → S
  led go t [] = t
  led go t (m ∷ ms) = led go (go t m) ms

  abbrev pub over : (S → X → S) → (S → X → ℕ → ℕ) → S → List X → ℕ → ℕ
  over go f t [] s = 0
  over go f t (m ∷ ms) s = f t m s + over go f (go t m) ms s

  module _ (go : S → X → S) (of : S → Resource) (begun ended : S → X → ℕ → ℕ) (Stands : S → Type 0) (Formed : X → Type 0)
      (each : (t : S) → Stands t → (m : X) → Formed m → Stands (go t m) × Moves (of t) (begun t m) (ended t m) (of (go t m))) where
    pub over-moves : (t : S) → Stands t → (ms : List X) → Each Formed ms
        → Stands (led go t ms) × Moves (of t) (over go begun t ms) (over go ended t ms) (of (led go t ms))
    over-moves t h [] o = (h, moves_not (of t) (λ s. 0))
    over-moves t h (m ∷ ms) o =
        let a = each t h m o.0 in
        let b = over-moves (go t m) a.0 ms o.1 in
        (b.0, moves_more a.1 b.1)

-- DEMAND 3, where the steps began with none held
module _ (R Q : Resource) (begun ended : ℕ → ℕ) (none : (s : ℕ) → R.held s ≡ 0) (m : Moves R begun ended Q) where
  -- "those begun less those ended, counted from the calls"
  abbrev pub counted : Resource
  counted = holding R (λ s. begun s - ended s)

  pub counted-held : (s : ℕ) → (begun s ≡ ended s + counted.held s) × (counted.held s ≡ Q.held s)
  counted-held s = (omega (arith, m.counts s, none s), omega (arith, m.counts s, none s))

  pub counted_is : counted ≡ Q
  counted_is = ap (λ (P : Resource). holding P (λ s. begun s - ended s)) (sym m.same) ∙ ap (holding Q) (fun_ext (λ s. (counted-held s).1))

  -- "no service has more dialogues than its limit"
  pub within-limit : Sound Q → (s : ℕ) → s < R.services → counted.held s ≤ R.limit s
  within-limit sound = (subst Sound (sym counted_is) sound).limits

  -- an answer by the rule
  module _ {A : Type 0} (s : ℕ) (given refused : A) {answer : A} (is : answer ≡ if_b (gives Q s) given refused) where
    by-counted : answer ≡ if_b (gives counted s) given refused
    by-counted = is ∙ ap (λ (P : Resource). if_b (gives P s) given refused) (sym counted_is)

    -- "a service below its guarantee is never refused a place"
    pub never-refused : counted.held s < R.guarantee s → answer ≡ given
    never-refused h = by-counted ∙ sym (yes _ _ _ (below-given counted s h) refl)

    -- "one at or above it is refused exactly when it is at its limit, or when the free places equal the other services' unused guarantees"
    pub refused-then : R.guarantee s ≤ counted.held s → (counted.held s ≡ R.limit s) ⊎ (free counted ≡ others counted s) → answer ≡ refused
    refused-then h (inl e) = by-counted ∙ sym (no _ _ _ (refused-at-limit counted s h e) refl)
    refused-then h (inr e) = by-counted ∙ sym (no _ _ _ (refused_full counted s h e) refl)

    pub refused-only : (given ≡ refused → ⊥) → R.guarantee s ≤ counted.held s → answer ≡ refused → (counted.held s ≡ R.limit s) ⊎ (free counted ≡ others counted s)
    refused-only differ h e = go (gives counted s) refl
      where
        go : (b : Bool) → gives counted s ≡ b → (counted.held s ≡ R.limit s) ⊎ (free counted ≡ others counted s)
        go true z = absurd (differ (yes _ _ _ z refl ∙ sym by-counted ∙ e))
        go false z = refused_why counted s h z
