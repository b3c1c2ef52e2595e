-- THE SHARE RULE (demand 3) of any resource: what shares and holdings are sound, and what keeps them so. Assumes nothing.
use Rattle.std.specs.Prelude.{◌≡◌, Bool, ◌⊎◌, ltb}
use Rattle.std.proofs.Math.Path.{refl, sym, ap}
use Rattle.std.proofs.Common.{◌∙◌, arith}
use Rattle.std.proofs.Math.Bool.{true, false}
use Rattle.std.proofs.Math.Logic.{inl, inr}
use Prim.Native.Nat.{ℕ, zero, suc, ◌+◌, ◌-◌, ◌≤◌, ◌<◌}
use Rattle.std.proofs.Math.Dec.{leb, eqb}
use borrow.Author.Tests.{eqb-true, eqb-false, ltb-true, ltb-false, leb-true, le-leb}
use Rattle.laws.specs.If.{if_eq, if_b, lt, ge, eq, ne, yes, no, was-ge, was-yes, by-eq, all, all-at, all_of, true-false}
use Rattle.laws.specs.Sums.{sum, but, sum-but, sum-ext, sum-zero}
use Rattle.paper.specs.Shares.{Resource, unused, all_unused, others, free, gives, limit_fits, shares_fit, within_limit, shares_kept}

-- the same resource with other holdings
abbrev pub holding : Resource → (ℕ → ℕ) → Resource
holding R c = record { size = R.size; services = R.services; guarantee = R.guarantee; limit = R.limit; held = c }

-- shares that a fresh table takes (answer 13 is given to others)
pub record Shares (R : Resource) : Type 0 where
  pub below : (k : ℕ) → k < R.services → R.guarantee k ≤ R.limit k
  pub within : (k : ℕ) → k < R.services → R.limit k ≤ R.size
  pub fits : sum R.guarantee R.services ≤ R.size

-- what the table rules allow
pub record Sound (R : Resource) : Type 0 where
  pub shares : Shares R
  pub limits : (k : ℕ) → k < R.services → R.held k ≤ R.limit k
  pub room : sum R.held R.services + all_unused R ≤ R.size

-- ---- the computed tests say the same
module _ (R : Resource) where
  pub fits-shares : shares_fit R ≡ true → Shares R
  unfolding shares_fit
  fits-shares t =
      let a : (all (limit_fits R) R.services ≡ true) × (true ≡ leb (sum R.guarantee R.services) R.size) = was-yes _ _ _ (sym t) true-false in
      record {
        below = λ k h. (each a k h).0;
        within = λ k h. leb-true (R.limit k) R.size (sym (each a k h).1);
        fits = leb-true (sum R.guarantee R.services) R.size (sym a.1);
      }
    where
      each : (all (limit_fits R) R.services ≡ true) × (true ≡ leb (sum R.guarantee R.services) R.size) → (k : ℕ) → k < R.services
          → (R.guarantee k ≤ R.limit k) × (true ≡ leb (R.limit k) R.size)
      each a k h = was-ge _ _ _ _ (sym (all-at (limit_fits R) R.services k a.0 h)) true-false

  pub shares-fit : Shares R → shares_fit R ≡ true
  unfolding shares_fit
  shares-fit s =
      sym (yes _ _ _
      (all_of (limit_fits R) R.services (λ k h. sym (ge _ _ _ _ (s.below k h) (sym (le-leb (R.limit k) R.size (s.within k h))))))
      (sym (le-leb (sum R.guarantee R.services) R.size s.fits)))

  -- no more is held than there is: else free would not be what is left
  pub kept-sound : sum R.held R.services ≤ R.size → shares_kept R ≡ true → Sound R
  unfolding shares_kept
  kept-sound few t =
      let a : (shares_fit R ≡ true) × (true ≡ if_b (all (within_limit R) R.services) (leb (all_unused R) (free R)) false) = was-yes _ _ _ (sym t) true-false in
      let b : (all (within_limit R) R.services ≡ true) × (true ≡ leb (all_unused R) (free R)) = was-yes _ _ _ a.1 true-false in
      record {
        shares = fits-shares a.0;
        limits = λ k h. leb-true (R.held k) (R.limit k) (all-at (within_limit R) R.services k b.0 h);
        room = omega (arith, leb-true (all_unused R) (free R) (sym b.1));
      }

  pub sound-kept : Sound R → shares_kept R ≡ true
  unfolding shares_kept
  sound-kept s =
      sym (yes _ _ _ (shares-fit s.shares)
      (yes _ _ _
      (all_of (within_limit R) R.services (λ k h. le-leb (R.held k) (R.limit k) (s.limits k h)))
      (sym (le-leb (all_unused R) (free R) (omega (arith, s.room))))))

  -- where nobody holds any, shares that fit are all that is asked
  pub fresh-sound : Shares R → ((k : ℕ) → k < R.services → R.held k ≡ 0) → Sound R
  fresh-sound s none = record {
    shares = s;
    limits = λ k h. omega (arith, none k h);
    room = omega (
      arith,
      s.fits,
      sum-ext R.held (λ k. 0) R.services none,
      sum-zero R.services,
      sum-ext (unused R) R.guarantee R.services (λ k h. omega (arith, none k h)),
    );
  }

  pub fresh_kept : ((k : ℕ) → k < R.services → R.held k ≡ 0) → shares_kept R ≡ shares_fit R
  unfolding shares_kept
  fresh_kept none = go (shares_fit R) refl
    where
      go : (b : Bool) → shares_fit R ≡ b → shares_kept R ≡ shares_fit R
      go true e = sound-kept (fresh-sound (fits-shares e) none) ∙ sym e
      go false e = sym (no _ _ _ e e)

  -- other holdings, the same for each of its services
  module _ (c : ℕ → ℕ) (e : (k : ℕ) → k < R.services → c k ≡ R.held k) where
    pub same-unused : all_unused (holding R c) ≡ all_unused R
    same-unused = sum-ext (unused (holding R c)) (unused R) R.services (λ k h. ap (λ (n : ℕ). R.guarantee k - n) (e k h))

    pub same_kept : shares_kept (holding R c) ≡ shares_kept R
    unfolding shares_kept shares_fit
    same_kept =
        ap (λ (b : Bool). if_b (shares_fit R) b false)
        (ap (λ (b : Bool). if_b b (leb (all_unused (holding R c)) (free (holding R c))) false) (within R.services (omega arith))
        ∙ ap (λ (b : Bool). if_b (all (within_limit R) R.services) b false)
        (ap (λ (n : ℕ). leb n (free (holding R c))) same-unused ∙ ap (λ (n : ℕ). leb (all_unused R) (R.size - n)) (sum-ext c R.held R.services e)))
      where
        within : (n : ℕ) → n ≤ R.services → all (within_limit (holding R c)) n ≡ all (within_limit R) n
        within zero h = refl
        within (suc n) h =
            ap (λ (b : Bool). if_b b (leb (c n) (R.limit n)) false) (within n (omega arith)) ∙ ap (λ (k : ℕ). if_b (all (within_limit R) n) (leb k (R.limit n)) false) (e n h)

-- ---- the rule, and what keeps holdings sound
module _ (R : Resource) (s : ℕ) (s< : s < R.services) where
  others-eq : others R s + unused R s ≡ all_unused R
  others-eq = omega (arith, sum-but (unused R) s 0 R.services s<)

  -- at or above its guarantee, the unused ones are the others'
  pub others-all : R.guarantee s ≤ R.held s → others R s ≡ all_unused R
  others-all h = omega (arith, others-eq)

  -- what changes where the holding of s does
  unused-but : (v : ℕ) → all_unused (holding R (but R.held s v)) + unused R s ≡ all_unused R + (R.guarantee s - v)
  unused-but v =
      omega (
        arith,
        sum-but (unused R) s (R.guarantee s - v) R.services s<,
        sum-ext (unused (holding R (but R.held s v))) (but (unused R) s (R.guarantee s - v)) R.services (λ k h. go k (eqb k s) refl),
      )
    where
      go : (k : ℕ) (b : Bool) → eqb k s ≡ b → unused (holding R (but R.held s v)) k ≡ but (unused R) s (R.guarantee s - v) k
      go k true e = rw e (ap (λ x. R.guarantee x - v) (eqb-true k s e))
      go k false e = rw e

module _ (R : Resource) (s : ℕ) where
  -- "a service below its guarantee is never refused a place"
  pub below-given : R.held s < R.guarantee s → gives R s ≡ true
  unfolding gives
  below-given h = sym (lt _ _ _ _ h refl)

  -- "one at or above it is refused exactly when it is at its limit, or when the free places equal the other services' unused guarantees"
  pub refused-at-limit : R.guarantee s ≤ R.held s → R.held s ≡ R.limit s → gives R s ≡ false
  unfolding gives
  refused-at-limit h e = sym (ge _ _ _ _ h (eq _ _ _ _ e refl))

  pub refused_full : R.guarantee s ≤ R.held s → free R ≡ others R s → gives R s ≡ false
  unfolding gives
  refused_full h e = sym (ge _ _ _ _ h (full (eqb (R.held s) (R.limit s)) refl))
    where
      full : (b : Bool) → eqb (R.held s) (R.limit s) ≡ b → false ≡ if_eq (R.held s) (R.limit s) false (if_eq (free R) (others R s) false true)
      full true q = eq _ _ _ _ (eqb-true (R.held s) (R.limit s) q) refl
      full false q = ne _ _ _ _ (eqb-false (R.held s) (R.limit s) q) (eq _ _ _ _ e refl)

  pub refused_why : R.guarantee s ≤ R.held s → gives R s ≡ false → (R.held s ≡ R.limit s) ⊎ (free R ≡ others R s)
  unfolding gives
  refused_why h r =
      let a : (R.guarantee s ≤ R.held s) × (false ≡ if_eq (R.held s) (R.limit s) false (if_eq (free R) (others R s) false true)) =
      was-ge _ _ _ _ (sym r) (λ e. true-false (sym e)) in
      by-eq _ _ _ _ a.1 (λ e q. inl e) (λ d q. by-eq _ _ _ _ q (λ e p. inr e) (λ f p. absurd (true-false (sym p))))

module _ (R : Resource) (sound : Sound R) (s : ℕ) (s< : s < R.services) where
  -- another holding of s, within its limit and the room that is left
  but-sound : (v : ℕ) → v ≤ R.limit s → sum R.held R.services + all_unused R + (v + (R.guarantee s - v)) ≤ R.size + (R.held s + unused R s)
      → Sound (holding R (but R.held s v))
  but-sound v h b = record {
    shares = record { below = sound.shares.below; within = sound.shares.within; fits = sound.shares.fits };
    limits = λ k k<. go k k< (eqb k s) refl;
    room = omega (arith, b, sum-but R.held s v R.services s<, unused-but R s s< v);
  }
    where
      go : (k : ℕ) → k < R.services → (b : Bool) → eqb k s ≡ b → but R.held s v k ≤ R.limit k
      go k k< true e = rw (e, eqb-true k s e) h
      go k k< false e = rw e (sound.limits k k<)

  -- taking one
  pub take-sound : gives R s ≡ true → Sound (holding R (but R.held s (suc (R.held s))))
  take-sound t = go (ltb (R.held s) (R.guarantee s)) refl
    where
      go : (b : Bool) → ltb (R.held s) (R.guarantee s) ≡ b → Sound (holding R (but R.held s (suc (R.held s))))
      go true e =
          let h : R.held s < R.guarantee s = ltb-true (R.held s) (R.guarantee s) e in
          but-sound (suc (R.held s)) (omega (arith, sound.shares.below s s<)) (omega (arith, sound.room))
      go false e =
          let h : R.guarantee s ≤ R.held s = ltb-false (R.held s) (R.guarantee s) e in
          let a : R.held s ≡ R.limit s → ⊥ = λ q. true-false (sym t ∙ refused-at-limit R s h q) in
          let b : free R ≡ others R s → ⊥ = λ q. true-false (sym t ∙ refused_full R s h q) in
          but-sound (suc (R.held s)) (omega (arith, sound.limits s s<)) (omega (arith, others-eq R s s<, sound.room))

  -- releasing one
  pub release-sound : 0 < R.held s → Sound (holding R (but R.held s (R.held s - 1)))
  release-sound h = but-sound (R.held s - 1) (omega (arith, sound.limits s s<)) (omega (arith, sound.room))

  -- where it gives, one is left
  pub gives-room : gives R s ≡ true → sum R.held R.services < R.size
  gives-room t = omega (arith, (take-sound t).room, sum-but R.held s (suc (R.held s)) R.services s<)
