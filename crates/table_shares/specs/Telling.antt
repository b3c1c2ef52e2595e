-- THE CODE'S NUMBERS, of any resource: the decision by five of them, and a walk over the services. Assumes nothing.
use Rattle.std.specs.Prelude.{◌≡◌, Bool, true, false, ℕ, ◌+◌, ◌-◌, ◌≤◌, ◌<◌, leb, eqb, Option, Some, None}
use Rattle.std.specs.Option.{is_some, IfSome}
use Rattle.std.proofs.Math.Path.{refl, sym}
use Rattle.std.proofs.Common.{ap, ◌∙◌, add-one, arith, leb-true, le-leb, eqb-true}
use Rattle.std.proofs.lemmas.Bool.{eqb-false}
use Rattle.laws.specs.If.{if_lt, lt, ge, ne, was-ge, true-false}
use Rattle.laws.specs.Sums.{sum}
use Rattle.paper.specs.Shares.{Resource, unused, all_unused, others, free, gives, shares_kept}
use Rattle.table_shares.specs.Share.{holding, same-unused, same_kept, Sound, kept-sound, sound-kept, others-all, refused-at-limit, refused_full}

-- the numbers told are those of service s: what it holds, its guarantee and limit, all services' unused guarantees, what is free
pub record Told (R : Resource) (s count guarantee limit rest left : ℕ) : Type 0 where
  pub service : s < R.services
  pub counted : count ≡ R.held s
  pub guaranteed : guarantee ≡ R.guarantee s
  pub limited : limit ≡ R.limit s
  pub kept : rest ≡ all_unused R
  pub remain : left ≡ free R

module _ (R : Resource) (s count guarantee limit rest left : ℕ) (t : Told R s count guarantee limit rest left) where
  pub told_below : count < guarantee → true ≡ gives R s
  unfolding gives
  told_below h = lt _ _ _ _ (omega (arith, t.counted, t.guaranteed)) refl

  module _ (h : guarantee ≤ count) where
    over : R.guarantee s ≤ R.held s
    over = omega (arith, t.counted, t.guaranteed)

    whole : rest ≡ others R s
    whole = t.kept ∙ sym (others-all R s t.service over)

    pub told-limit : count ≡ limit → false ≡ gives R s
    told-limit e = sym (refused-at-limit R s over (sym t.counted ∙ e ∙ t.limited))

    pub told-full : left ≡ rest → false ≡ gives R s
    told-full e = sym (refused_full R s over (sym t.remain ∙ e ∙ whole))

    pub told-room : (count ≡ limit → ⊥) → (left ≡ rest → ⊥) → true ≡ gives R s
    unfolding gives
    told-room n m = ge _ _ _ _ over (ne _ _ _ _ (λ q. n (t.counted ∙ q ∙ sym t.limited)) (ne _ _ _ _ (λ q. m (t.remain ∙ q ∙ sym whole)) refl))

-- ---- a walk over the services, and what it adds up
pub record Parted (R : Resource) (rest : Option ℕ) : Type 0 where
  pub is : is_some rest ≡ shares_kept R
  pub told : IfSome rest (λ n. n ≡ all_unused R)

-- other holdings, the same for each of its services
module _ (R : Resource) (c : ℕ → ℕ) (e : (k : ℕ) → k < R.services → c k ≡ R.held k) where
  pub parted-same : (rest : Option ℕ) → Parted (holding R c) rest → Parted R rest
  parted-same None p = record { is = p.is ∙ same_kept R c e; told = tt }
  parted-same (Some n) p = record { is = p.is ∙ same_kept R c e; told = p.told ∙ same-unused R c e }

-- so much is left
pub record Remains (R : Resource) (left : ℕ) : Type 0 where
  pub is : left + sum R.held R.services ≡ R.size

-- what the rule asks of service i, passed by no more than over
abbrev Within : Resource → ℕ → ℕ → Type 0
Within R over i = (R.guarantee i ≤ R.limit i + over) × (R.held i ≤ R.limit i + over) × (R.limit i ≤ R.size + over)

-- the first k services, with guarantees of that total, of which that rest is unused; over is 0 where none passes
pub record Walked (R : Resource) (k total rest over : ℕ) : Type 0 where
  pub guaranteed : total ≡ sum R.guarantee k
  pub kept : rest ≡ sum (unused R) k
  pub within : (i : ℕ) → i < k → Within R over i
  pub none : ((i : ℕ) → i < k → Within R 0 i) → over ≡ 0

module _ (R : Resource) where
  pub walk_start : Walked R 0 0 0 0
  walk_start = record { guaranteed = refl; kept = refl; within = λ i h. absurd (omega arith); none = λ w. refl }

  pub walk_more : {k total rest over g u e f : ℕ} → Walked R k total rest over
      → g ≡ R.guarantee k → u ≡ unused R k → e ≡ R.guarantee k + (R.held k - R.guarantee k) - R.limit k → f ≡ R.limit k - R.size
      → Walked R (k + 1) (total + g) (rest + u) (over + (e + f))
  walk_more {k} {total} {rest} {over} {g} {u} {e} {f} w a b he hf = record {
    guaranteed = omega (arith, w.guaranteed, a) ∙ ap (sum R.guarantee) (sym (add-one k));
    kept = omega (arith, w.kept, b) ∙ ap (sum (unused R)) (sym (add-one k));
    within = λ i h. go i h (eqb i k) refl;
    none = λ v.
        let z : Within R 0 k = v k (omega arith) in
        omega (arith, w.none (λ i h. v i (omega arith)), he, hf, z.0, z.1, z.2);
  }
    where
      go : (i : ℕ) → i < k + 1 → (t : Bool) → eqb i k ≡ t → Within R (over + (e + f)) i
      go i h true q = rw (eqb-true i k q) (omega (arith, he), omega (arith, he), omega (arith, hf))
      go i h false q =
          let j : i ≡ k → ⊥ = eqb-false i k q in
          let y : Within R over i = w.within i (omega arith) in
          (omega (arith, y.0), omega (arith, y.1), omega (arith, y.2))

  -- the test at its end
  abbrev fair : ℕ → ℕ → ℕ → ℕ → Bool
  fair total rest over left = if_lt 0 over false (if_lt R.size total false (leb rest left))

  module _ {left k total rest over : ℕ} (m : Remains R left) (w : Walked R k total rest over) (end : k ≡ R.services) where
    all-guaranteed : total ≡ sum R.guarantee R.services
    all-guaranteed = w.guaranteed ∙ ap (sum R.guarantee) end

    all_rest : rest ≡ all_unused R
    all_rest = w.kept ∙ ap (sum (unused R)) end

    fair-sound : true ≡ fair total rest over left → Sound R
    fair-sound e =
        let a : (over ≤ 0) × (true ≡ if_lt R.size total false (leb rest left)) = was-ge _ _ _ _ e true-false in
        let b : (total ≤ R.size) × (true ≡ leb rest left) = was-ge _ _ _ _ a.1 true-false in
        record {
          shares = record {
            below = λ i h. omega (arith, a.0, (w.within i (omega arith)).0);
            within = λ i h. omega (arith, a.0, (w.within i (omega arith)).2);
            fits = omega (arith, b.0, all-guaranteed);
          };
          limits = λ i h. omega (arith, a.0, (w.within i (omega arith)).1);
          room = omega (arith, m.is, all_rest, leb-true rest left (sym b.1));
        }

    sound-fair : Sound R → true ≡ fair total rest over left
    sound-fair s =
        let z : over ≡ 0 =
        w.none
        (λ i h.
        let j : i < R.services = omega arith in
        (omega (arith, s.shares.below i j), omega (arith, s.limits i j), omega (arith, s.shares.within i j))) in
        ge _ _ _ _ (omega arith)
        (ge _ _ _ _ (omega (arith, s.shares.fits, all-guaranteed)) (sym (le-leb rest left (omega (arith, s.room, m.is, all_rest)))))

    walk-kept : (b : Bool) → b ≡ fair total rest over left → b ≡ shares_kept R
    walk-kept b e = go b e (shares_kept R) refl
      where
        go : (b : Bool) → b ≡ fair total rest over left → (d : Bool) → shares_kept R ≡ d → b ≡ shares_kept R
        go true f d q = sym (sound-kept R (fair-sound f))
        go false f true q = absurd (true-false (sound-fair (kept-sound R (omega (arith, m.is)) q) ∙ sym f))
        go false f false q = sym q

    pub walk-told : true ≡ fair total rest over left → Parted R (Some rest)
    walk-told e = record { is = walk-kept true e; told = all_rest }

    pub walk-broken : false ≡ fair total rest over left → Parted R None
    walk-broken e = record { is = walk-kept false e; told = tt }
