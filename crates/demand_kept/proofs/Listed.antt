-- THE COMPONENTS IN WAITING OCTETS are listed alike wherever the octets are copied to, and those put after them are listed after
-- them (01, "Sending writes waiting components in order"). Assumes nothing.
use Rattle.std.specs.Prelude.{◌≡◌, Bool, length, get_or}
use Rattle.std.proofs.Math.Path.{refl, sym, ap}
use Rattle.std.proofs.Common.{subst, ◌∙◌, arith, zero-add, add-zero, length-append, get_or-append-add}
use Rattle.std.proofs.Math.Bool.{true, false}
use mathlib.Core.List.{List, [], ◌∷◌, ◌++◌, append-nil}
use Prim.Native.Nat.{ℕ, zero, suc, ◌+◌, ◌-◌, ◌≤◌, ◌<◌}
use Rattle.std.proofs.Math.Dec.{ltb}
use Rattle.std.proofs.Math.ListN.{get_or-append}
use borrow.Author.Tests.{eqb-true, eq-eqb, ltb-true, ltb-false}
use Rattle.laws.specs.If.{eq, ne, yes, by-eq, was-yes, true-false}
use Rattle.laws.specs.Lists.{every}
use Rattle.paper.specs.declared.Component.{Component}
use Rattle.paper.specs.Components.{component_at, Item, item, next_start, go_on, items, components, waiting_items}
use Rattle.paper.specs.Elements.{frame_at}
use Rattle.paper.specs.Rules.{is_sound_item, waiting_kept}
use Rattle.reading_elements.specs.Bounds.{frame-in}
use Rattle.reading_elements.specs.Carry.{Same}
use Rattle.demand_readback.specs.Standing.{Has}
use Rattle.demand_readback.proofs.Standing.{has_all, has_same}
use Rattle.demand_kept.specs.Carried.{further}
use Rattle.demand_kept.proofs.Carried.{component-stop, component-framed, component-carry}
use Rattle.demand_kept.specs.Listed.{item_further, all_further, Sound}

pub listing_none : (w : List ℕ) → length w ≡ 0 → waiting_items w ≡ []
unfolding waiting_items
listing_none w h = sym (eq _ _ _ _ h refl)

pub listing-some : (w : List ℕ) → (length w ≡ 0 → ⊥) → waiting_items w ≡ components w (length w) 0
unfolding waiting_items
listing-some w h = sym (ne _ _ _ _ h refl)

pub none-sound : Sound []
unfolding every
none-sound = refl

pub sound-join : (i : Item) (l : List Item) → i.part.fault ≡ 3 → Sound l → Sound (i ∷ l)
unfolding every is_sound_item
sound-join i l e h = sym (yes _ _ _ (eq-eqb i.part.fault 3 e) (sym h))

pub sound-split : (i : Item) (l : List Item) → Sound (i ∷ l) → (i.part.fault ≡ 3) × Sound l
unfolding every is_sound_item
sound-split i l h = let w = was-yes _ _ _ (sym h) true-false in (eqb-true i.part.fault 3 w.0, sym w.1)

pub kept-sound : (w : List ℕ) → waiting_kept w ≡ true → (length w ≡ 0 → ⊥) → Sound (components w (length w) 0)
unfolding waiting_kept
kept-sound w h a = subst Sound (listing-some w a) h

next-is : (lim : ℕ) (c : Component) → c.fault ≡ 3 → next_start lim c ≡ c.stop
unfolding next_start
next-is lim c e = sym (eq _ _ _ _ e refl)

-- SOUND COMPONENTS of s up to lim are listed k further in t, then those that follow them there
module _ (s t : List ℕ) (k lim lim' : ℕ) (fits : k + lim ≤ lim') (same : Same s t k 0 lim) (rest : List Item) (none : k + lim ≡ lim' → rest ≡ [])
    (some : (m : ℕ) → k + lim < lim' → lim' - (k + lim) < m → items t lim' m (k + lim) ≡ rest) where
  More : ℕ → Type 0
  More n = (m at q : ℕ) → q ≡ k + at → lim - at < n → lim' - q < m → Sound (items s lim n at) → items t lim' m q ≡ all_further k (items s lim n at) ++ rest

  -- the components after one that ends at x
  after : (n m x y : ℕ) → More n → y ≡ k + x → x ≤ lim → lim - x < n → lim' - y < m → Sound (go_on (ltb x lim) (λ _. items s lim n x))
      → go_on (ltb y lim') (λ _. items t lim' m y) ≡ all_further k (go_on (ltb x lim) (λ _. items s lim n x)) ++ rest
  unfolding More
  after n m x y more e h a b w = go (ltb x lim) refl w (ltb y lim') refl
    where
      go : (c : Bool) → ltb x lim ≡ c → Sound (go_on c (λ _. items s lim n x)) → (d : Bool) → ltb y lim' ≡ d
          → go_on d (λ _. items t lim' m y) ≡ all_further k (go_on c (λ _. items s lim n x)) ++ rest
      go true p w true r = more m x y e a b w
      go true p w false r = absurd (omega (arith, ltb-true x lim p, ltb-false y lim' r))
      go false p w true r =
          let z : y ≡ k + lim = omega (arith, ltb-false x lim p) in
          let l : y < lim' = ltb-true y lim' r in
          ap (λ (j : ℕ). items t lim' m j) z ∙ some m (omega arith) (omega arith)
      go false p w false r = sym (none (omega (arith, ltb-false x lim p, ltb-false y lim' r)))

  items-further : (n : ℕ) → More n
  unfolding More items
  items-further zero m at q e a b w = absurd (omega arith)
  items-further (suc n) zero at q e a b w = absurd (omega arith)
  items-further (suc n) (suc m) at q e a b w =
      let c : Component = component_at s lim at in
      let d : Component = component_at t lim' q in
      let g = sound-split (item s lim at) (go_on (ltb (next_start lim c) lim) (λ _. items s lim n (next_start lim c))) w in
      let stop : c.stop ≡ (frame_at s 16 lim at).stop = component-stop s lim at c refl in
      let f = frame-in s 16 lim at (frame_at s 16 lim at) refl in
      let past = f.past (omega (arith, component-framed s lim at c refl g.0)) in
      let next : next_start lim c ≡ c.stop = next-is lim c g.0 in
      let moved : further k c ≡ d = component-carry s t k lim lim' at q e c refl g.0 (omega arith) (λ i l u. same i (omega arith) (omega arith)) in
      let next' : next_start lim' d ≡ k + c.stop =
      next-is lim' d (ap (λ (c : Component). c.fault) (sym moved) ∙ g.0) ∙ ap (λ (c : Component). c.stop) (sym moved) in
      ap (λ (p : Component). record { start = q; part = p } ∷ go_on (ltb (next_start lim' d) lim') (λ _. items t lim' m (next_start lim' d))) (sym moved)
      ∙ ap (λ (j : ℕ). record { start = j; part = further k c } ∷ go_on (ltb (next_start lim' d) lim') (λ _. items t lim' m (next_start lim' d))) e
      ∙ ap (λ (l : List Item). item_further k (item s lim at) ∷ l)
      (after n m (next_start lim c) (next_start lim' d) (items-further n) (omega arith) (omega arith) (omega arith) (omega arith) g.1)

-- WAITING OCTETS COPIED to at, and nothing after them
pub listing-copied : (s w : List ℕ) (lim at : ℕ) → Has s at w → at + length w ≡ lim → waiting_kept w ≡ true → (length w ≡ 0 → ⊥)
    → components s lim at ≡ all_further at (waiting_items w)
unfolding components More
listing-copied s w lim at has whole kept some =
    items-further w s at (length w) lim (omega arith) (has_same has) [] (λ _. refl) (λ m h g. absurd (omega arith))
    (length w - 0 + 1) (lim - at + 1) 0 at (sym (add-zero at)) (omega arith) (omega arith) (kept-sound w kept some)
    ∙ append-nil (all_further at (components w (length w) 0)) ∙ ap (all_further at) (sym (listing-some w some))

-- nowhere else
listing-same : (w : List ℕ) → waiting_kept w ≡ true → all_further 0 (waiting_items w) ≡ waiting_items w
listing-same w kept =
    by-eq {A = ℕ} (length w) 0 0 0 refl
    (λ z _. ap (all_further 0) (listing_none w z) ∙ sym (listing_none w z))
    (λ z _. sym (listing-copied w w (length w) 0 (has_all w) (zero-add (length w)) kept z) ∙ sym (listing-some w z))

-- ONE AFTER ANOTHER
pub empty-first : (w l : List ℕ) → length w ≡ 0 → w ++ l ≡ l
empty-first [] l h = refl
empty-first (x ∷ w) l h = absurd (omega arith)

pub listing-append : (w l : List ℕ) → waiting_kept w ≡ true → waiting_kept l ≡ true → waiting_items (w ++ l) ≡ waiting_items w ++ all_further (length w) (waiting_items l)
unfolding components More
listing-append w l a b = by-eq {A = ℕ} (length w) 0 0 0 refl (λ z _. first z) (λ z _. by-eq {A = ℕ} (length l) 0 0 0 refl (λ y _. last y) (λ y _. both z y))
  where
    n : length (w ++ l) ≡ length w + length l
    n = length-append w l

    first : length w ≡ 0 → waiting_items (w ++ l) ≡ waiting_items w ++ all_further (length w) (waiting_items l)
    first z =
        ap waiting_items (empty-first w l z) ∙ sym (listing-same l b)
        ∙ ap (λ (i : List Item). i ++ all_further 0 (waiting_items l)) (sym (listing_none w z))
        ∙ ap (λ (k : ℕ). waiting_items w ++ all_further k (waiting_items l)) (sym z)

    last : length l ≡ 0 → waiting_items (w ++ l) ≡ waiting_items w ++ all_further (length w) (waiting_items l)
    last y =
        ap waiting_items (empty-last w l y) ∙ sym (append-nil (waiting_items w))
        ∙ ap (λ (i : List Item). waiting_items w ++ all_further (length w) i) (sym (listing_none l y))
      where
        empty-last : (w l : List ℕ) → length l ≡ 0 → w ++ l ≡ w
        empty-last w [] h = append-nil w
        empty-last w (x ∷ l) h = absurd (omega arith)

    both : (length w ≡ 0 → ⊥) → (length l ≡ 0 → ⊥) → waiting_items (w ++ l) ≡ waiting_items w ++ all_further (length w) (waiting_items l)
    both z y =
        let sum : length (w ++ l) ≡ length w + length l = n in
        let rest : List Item = all_further (length w) (waiting_items l) in
        let read : (m : ℕ) → length l < m → items (w ++ l) (length (w ++ l)) m (length w) ≡ rest =
        λ m h. items-further l (w ++ l) (length w) (length l) (length (w ++ l)) (omega arith) (λ i u h. get_or-append-add w l i 0) [] (λ _. refl)
        (λ m h g. absurd (omega arith)) (length l - 0 + 1) m 0 (length w) (sym (add-zero (length w))) (omega arith) (omega arith) (kept-sound l b y)
        ∙ append-nil (all_further (length w) (components l (length l) 0)) ∙ ap (all_further (length w)) (sym (listing-some l y)) in
        listing-some (w ++ l) (λ q. omega arith)
        ∙ items-further w (w ++ l) 0 (length w) (length (w ++ l)) (omega arith)
        (λ i u h. ap (λ (j : ℕ). get_or (w ++ l) j 0) (zero-add i) ∙ get_or-append w l 0 i h) rest (λ q. absurd (omega arith))
        (λ m h g. ap (items (w ++ l) (length (w ++ l)) m) (zero-add (length w)) ∙ read m (omega arith))
        (length w - 0 + 1) (length (w ++ l) - 0 + 1) 0 0 (omega arith) (omega arith) (omega arith) (kept-sound w a z)
        ∙ ap (λ (i : List Item). all_further 0 i ++ rest) (sym (listing-some w z))
        ∙ ap (λ (i : List Item). i ++ rest) (listing-same w a)
