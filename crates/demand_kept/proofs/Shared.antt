-- THE SHARES ARE KEPT where a place is taken, freed, or stays its service's (demand 3). Assumes nothing.
use Rattle.std.specs.Prelude.{◌≡◌, refl, Bool, true, false, ℕ, suc, ◌+◌, ◌-◌, ◌≤◌, ◌<◌, eqb}
use Rattle.std.proofs.Common.{sym, ◌∙◌, eqb-true, eq-eqb}
use Rattle.std.proofs.Math.Path.{ap, subst, fun_ext}
use native.Mathlib.Omega.{arith}
use Rattle.std.proofs.lemmas.Bool.{eqb-false}
use Rattle.laws.specs.If.{eq, ne, yes}
use Rattle.laws.specs.Sums.{sum, but, but_same, but-other, sum_by, sum_by-at}
use Rattle.paper.specs.Sizes.{services, places_in_all}
use Rattle.paper.specs.Shares.{gives, shares_kept}
use Rattle.paper.specs.Dialogues.{Place, empty_place, freed}
use Rattle.paper.specs.Calls.{Table, place_at, with_place, is_free, is_of, held, dialogues, may_begin, lowest_free}
use Rattle.paper.specs.Layout.{flag}
use Rattle.paper.specs.Rules.{shares_of_table}
use Rattle.table_shares.specs.Share.{holding, Sound, kept-sound, sound-kept, take-sound, release-sound, gives-room}
use Rattle.table_shares.specs.Counting.{only, Moves, moves_not, moves-but}
use Rattle.table_laws.specs.Fine.{FinePlace, Fine}
use Rattle.table_laws.proofs.Slots.{free-is}
use Rattle.table_laws.proofs.Counts.{all-places, lowest-is-free}
use Rattle.table_laws.proofs.Lowest.{free-there}
use Rattle.table_laws.proofs.Changes.{freed-fine, held-set, of-used, held_same, of-same, fine-with, fine_stays}
use Rattle.demand_kept.specs.Requests.{GoesOn}
use Rattle.demand_kept.specs.Shared.{Moved}

-- what a place counts
pub of-free : (x : Place) (s : ℕ) → x.control.state ≡ 0 → is_of s x ≡ 0
unfolding is_of is_free
of-free x s e = sym (yes _ _ _ (eq-eqb x.control.state 0 e) refl)

of-own : (x : Place) (s : ℕ) → (x.control.state ≡ 0 → ⊥) → x.control.service ≡ s → is_of s x ≡ 1
of-own x s n e = of-used x s n ∙ sym (eq _ _ _ _ e refl)

of_other : (x : Place) (s : ℕ) → (x.control.state ≡ 0 → ⊥) → (x.control.service ≡ s → ⊥) → is_of s x ≡ 0
of_other x s n e = of-used x s n ∙ sym (ne _ _ _ _ e refl)

-- WHAT IS HELD where a place is taken, and where one is freed: one more, one less of its service
module _ (T : Table) (f : Fine T) (p : ℕ) (h : p < places_in_all) (x : Place) (s : ℕ) where
  abbrev now : ℕ → ℕ
  now = held T.places

  abbrev then : ℕ → ℕ
  then = held (with_place T p x).places

  set_there : (k : ℕ) → then k + is_of k (place_at T p) ≡ now k + is_of k x
  set_there k = held-set T.places p x k (omega (arith, f.places))

  held-but : (v : ℕ) → then s ≡ v → ((k : ℕ) → (k ≡ s → ⊥) → is_of k x ≡ is_of k (place_at T p)) → then ≡ but now s v
  held-but v e same = fun_ext (λ k. go k (eqb k s) refl)
    where
      go : (k : ℕ) (t : Bool) → eqb k s ≡ t → then k ≡ but now s v k
      go k true q = subst (λ (j : ℕ). then j ≡ but now s v j) (sym (eqb-true k s q)) (e ∙ sym (but_same now s v))
      go k false q =
          let n : k ≡ s → ⊥ = eqb-false k s q in
          omega (arith, set_there k, same k n) ∙ sym (but-other now s v k n)

  pub held-taken : (place_at T p).control.state ≡ 0 → (x.control.state ≡ 0 → ⊥) → x.control.service ≡ s → then ≡ but now s (suc (now s))
  held-taken a b e =
      held-but (suc (now s)) (omega (arith, set_there s, of-free (place_at T p) s a, of-own x s b e))
      (λ k n. of_other x k b (λ w. n (sym w ∙ e)) ∙ sym (of-free (place_at T p) k a))

  pub held-freed : ((place_at T p).control.state ≡ 0 → ⊥) → (place_at T p).control.service ≡ s → x.control.state ≡ 0 → then ≡ but now s (now s - 1)
  held-freed a e b =
      held-but (now s - 1) (omega (arith, set_there s, of-free x s b, of-own (place_at T p) s a e))
      (λ k n. of-free x k b ∙ sym (of_other (place_at T p) k a (λ w. n (sym w ∙ e))))

pub moved_as : {T U : Table} {s b e c d : ℕ} → Moved T s b e U → c ≡ b → d ≡ e → Moved T s c d U
moved_as {T} {U} {s} {b} {e} {c} {d} m p q = subst (λ (n : ℕ). Moved T s n d U) (sym p) (subst (λ (n : ℕ). Moved T s b n U) (sym q) m)

-- THE COUNTS of a fine table are sound, and a table with sound ones keeps the shares
module _ (T : Table) (f : Fine T) where
  pub sound : Sound (dialogues T)
  unfolding shares_of_table
  sound = kept-sound (dialogues T) (few (sum (held T.places) services) (sum_by flag T.places) (all-places T f)) f.shares
    where
      few : (n m : ℕ) → n + m ≡ places_in_all → n ≤ places_in_all
      few n m e = omega arith

  -- one place changed, and with it what one service holds
  moved_by : (p : ℕ) → p < places_in_all → (x : Place) → FinePlace x → (s b e v : ℕ) → held (with_place T p x).places ≡ but (held T.places) s v
      → Sound (holding (dialogues T) (but (held T.places) s v)) → b + held T.places s ≡ e + v → Moved T s b e (with_place T p x)
  unfolding shares_of_table
  moved_by p h x g s b e v after kept count =
      let is : dialogues (with_place T p x) ≡ holding (dialogues T) (but (held T.places) s v) = ap (holding (dialogues T)) after in
      record {
        fine = fine-with T f p h x g (ap shares_kept is ∙ sound-kept _ kept);
        moves = subst (Moves (dialogues T) (only s b) (only s e)) (sym is) (moves-but (dialogues T) s b e v count);
      }

  one-held : (p : ℕ) → p < places_in_all → ((place_at T p).control.state ≡ 0 → ⊥) → 0 < held T.places (place_at T p).control.service
  unfolding held
  one-held p h n =
      let x : Place = place_at T p in
      omega (arith, sum_by-at (is_of x.control.service) T.places p (empty_place 0) (omega (arith, f.places)), of-own x x.control.service n refl)

  -- NOTHING CHANGED
  pub not-moved : (s : ℕ) → Moved T s 0 0 T
  not-moved s = record { fine = f; moves = moves_not (dialogues T) (only s 0) }

  -- FREED, by the service that has it
  pub moved-freed : (p s : ℕ) → p < places_in_all → ((place_at T p).control.state ≡ 0 → ⊥) → (place_at T p).control.service ≡ s
      → Moved T s 0 1 (with_place T p (freed (place_at T p)))
  moved-freed p s h n e =
      let x : Place = place_at T p in
      let c : ℕ → ℕ = held T.places in
      let some : 0 < c s = subst (λ (k : ℕ). 0 < c k) e (one-held p h n) in
      moved_by p h (freed x) (freed-fine x) s 0 1 (c s - 1) (held-freed T f p h (freed x) s n e refl)
      (release-sound (dialogues T) sound s (subst (λ (k : ℕ). k < services) e (f.each p h).control.service) some) (omega arith)

  -- A DIALOGUE THAT GOES ON
  pub moved_on : (p s : ℕ) → p < places_in_all → ((place_at T p).control.state ≡ 0 → ⊥) → (y : Place) → GoesOn (place_at T p) y → Moved T s 0 0 (with_place T p y)
  moved_on p s h n y g =
      let same : held (with_place T p y).places ≡ held T.places =
      held_same T.places p y (omega (arith, f.places)) (of-same y (place_at T p) g.state n g.service) in
      record {
        fine = fine_stays T f p h y g.fine n g.state g.service;
        moves = subst (λ (c : ℕ → ℕ). Moves (dialogues T) (only s 0) (only s 0) (holding (dialogues T) c)) (sym same) (moves_not (dialogues T) (only s 0));
      }

  -- TAKEN: the lowest free place, by a service that may begin
  module _ (s : ℕ) (s< : s < services) (may : may_begin T s ≡ true) where
    given : gives (dialogues T) s ≡ true
    unfolding may_begin
    given = may

    pub lowest-there : lowest_free T < places_in_all
    lowest-there = free-there T f (gives-room (dialogues T) sound s s< given)

    pub moved-taken : (x : Place) → FinePlace x → (x.control.state ≡ 0 → ⊥) → x.control.service ≡ s → Moved T s 1 0 (with_place T (lowest_free T) x)
    moved-taken x g n e =
        let p : ℕ = lowest_free T in
        let h : p < places_in_all = lowest-there in
        let c : ℕ → ℕ = held T.places in
        moved_by p h x g s 1 0 (suc (c s)) (held-taken T f p h x s (free-is (place_at T p) (lowest-is-free T f h)) n e)
        (take-sound (dialogues T) sound s s< given) (omega arith)
