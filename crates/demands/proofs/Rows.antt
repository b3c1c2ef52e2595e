-- ROWS AS THE HOST READS THEM: they fit into the row space, and are had back from its octets. Assumes nothing.
use Rattle.std.specs.Prelude.{◌≡◌, Bool, List, [], ◌∷◌, ◌++◌, get_or}
use Rattle.std.proofs.Math.Path.{refl}
use Rattle.std.proofs.Common.{sym, ap, ◌∙◌, div-add-mod', length-append}
use Rattle.std.proofs.Math.Bool.{true, false}
use Prim.Native.Nat.{ℕ, zero, suc, ◌+◌, ◌*◌, ◌-◌, ◌/◌, ◌%◌, ◌≤◌, ◌<◌}
use native.Mathlib.Omega.{arith}
use Rattle.std.proofs.Math.ListN.{length}
use Rattle.std.proofs.lemmas.List.Edits.{sets}
use Rattle.std.proofs.Math.Seq.{length-sets}
use Rattle.std.proofs.Math.Dec.{ltb}
use borrow.Author.Tests.{ltb-true}
use Rattle.laws.specs.If.{by-eq}
use Rattle.laws.specs.Runs.{join, inside}
use Rattle.paper.specs.declared.Control.{Control}
use Rattle.paper.specs.declared.Row.{Row}
use Rattle.paper.specs.Components.{Item, items, components, component_at, next_start, go_on}
use Rattle.paper.specs.Invocations.{act}
use Rattle.paper.specs.Rows.{row_octets, rows_octets, component_rows, four_at, row_at, rows_at}
use Rattle.reading_components.specs.Bounds.{component-in}
use Rattle.table_laws.specs.Fine.{Octets}
use Rattle.demands.specs.Rows.{SmallRow, AllSmall}

-- A SOUND COMPONENT HAS FIVE OCTETS, and a fault ends the reading: so 512 octets hold at most 103
module _ (s : List ℕ) (octets : Octets s) (lim : ℕ) where
  next-far : (at : ℕ) → next_start lim (component_at s lim at) < lim → at + 5 ≤ next_start lim (component_at s lim at)
  unfolding next_start
  next-far at h =
      by-eq {r = next_start lim (component_at s lim at)} (component_at s lim at).fault 3 (component_at s lim at).stop lim refl
      (λ e q. omega (arith, q, (component-in s octets lim at (component_at s lim at) refl).long e)) (λ e q. absurd (omega (arith, q, h)))

  items-few : (n at : ℕ) → at ≤ lim → 5 * length (items s lim n at) ≤ lim - at + 5
  unfolding items
  items-few zero at h = omega arith
  items-few (suc n) at h = go (ltb (next_start lim (component_at s lim at)) lim) refl (items-few n (next_start lim (component_at s lim at)))
    where
      go : (b : Bool) → ltb (next_start lim (component_at s lim at)) lim ≡ b
          → (next_start lim (component_at s lim at) ≤ lim → 5 * length (items s lim n (next_start lim (component_at s lim at))) ≤ lim - next_start lim (component_at s lim at) + 5)
          → 5 * suc (length (go_on b (λ _. items s lim n (next_start lim (component_at s lim at))))) ≤ lim - at + 5
      go true e ih =
          let g : next_start lim (component_at s lim at) < lim = ltb-true (next_start lim (component_at s lim at)) lim e in
          omega (arith, ih (omega arith), next-far at g)
      go false e ih = omega arith

  pub components-few : (from : ℕ) → from ≤ lim → lim ≤ 512 → length (components s lim from) ≤ 103
  unfolding components
  components-few from h g = omega (arith, items-few (lim - from + 1) from h)

pub rows_long : (me room : ℕ) (c : Control) (is : List Item) → length (component_rows me room c is) ≡ length is
unfolding component_rows
rows_long me room c [] = refl
rows_long me room c (i ∷ is) = ap suc (rows_long me room (act room c i.part).control is)

pub octets-long : (rs : List Row) → length (rows_octets rs) ≡ 32 * length rs
unfolding rows_octets
octets-long [] = refl
octets-long (r ∷ rs) = omega (arith, length-append (row_octets r) (rows_octets rs), octets-long rs)

-- the number that four octets were made of
four-digits : (n : ℕ) → n < 4294967296 → n % 256 + n / 256 % 256 * 256 + n / 65536 % 256 * 65536 + n / 16777216 % 256 * 16777216 ≡ n
four-digits n h =
    let a : n / 65536 ≡ n / 256 / 256 = omega arith in
    let b : n / 16777216 ≡ n / 65536 / 256 = omega arith in
    let c : n / 16777216 % 256 ≡ n / 16777216 = omega arith in
    omega (arith, div-add-mod' n 256, div-add-mod' (n / 256) 256, div-add-mod' (n / 65536) 256)

-- four octets of a run that was written are read where it stands
module _ (l : List ℕ) (a : ℕ) (xs : List ℕ) (room : a + length xs ≤ length l) where
  octet-back : (b i : ℕ) → b ≡ a + i → i < length xs → get_or (sets l a xs) b 0 ≡ get_or xs i 0
  octet-back b i e h = ap (λ (k : ℕ). get_or (sets l a xs) k 0) e ∙ inside l a xs i h room

  four-back : (b i : ℕ) → b ≡ a + i → i + 4 ≤ length xs → four_at (sets l a xs) b ≡ four_at xs i
  four-back b i e h =
      omega (arith, octet-back b i e (omega arith), octet-back (b + 1) (i + 1) (omega arith) (omega arith), octet-back (b + 2) (i + 2) (omega arith) (omega arith), octet-back (b + 3) (i + 3) (omega arith) (omega arith))

-- a row is the record of its fields
same_row : {kind dialogue invoke linked problem start long follow : ℕ} (r : Row) → kind ≡ r.kind → dialogue ≡ r.dialogue → invoke ≡ r.invoke
    → linked ≡ r.linked → problem ≡ r.problem → start ≡ r.start → long ≡ r.length → follow ≡ r.follow
    → record { kind = kind; dialogue = dialogue; invoke = invoke; linked = linked; problem = problem; start = start; length = long; follow = follow } ≡ r
same_row r a b c d e f g h = rw (a, b, c, d, e, f, g, h)

-- so is the row that begins a run
row_back : (l : List ℕ) (a : ℕ) (r : Row) (xs : List ℕ) → SmallRow r → a + length (row_octets r ++ xs) ≤ length l → row_at (sets l a (row_octets r ++ xs)) a ≡ r
unfolding row_at
row_back l a r xs k h =
    same_row r
    (four a 0 (omega arith) (omega arith) ∙ four-digits r.kind k.kind)
    (four (a + 4) 4 refl (omega arith) ∙ four-digits r.dialogue k.dialogue)
    (four (a + 8) 8 refl (omega arith) ∙ four-digits r.invoke k.invoke)
    (four (a + 12) 12 refl (omega arith) ∙ four-digits r.linked k.linked)
    (four (a + 16) 16 refl (omega arith) ∙ four-digits r.problem k.problem)
    (four (a + 20) 20 refl (omega arith) ∙ four-digits r.start k.start)
    (four (a + 24) 24 refl (omega arith) ∙ four-digits r.length k.length)
    (four (a + 28) 28 refl (omega arith) ∙ four-digits r.follow k.follow)
  where
    four : (b i : ℕ) → b ≡ a + i → i + 4 ≤ 32 → four_at (sets l a (row_octets r ++ xs)) b ≡ four_at (row_octets r ++ xs) i
    four b i e w = four-back l a (row_octets r ++ xs) h b i e (omega arith)

-- ROWS ARE READ BACK
pub rows_back : (rs : List Row) (a : ℕ) (l : List ℕ) → AllSmall rs → a + 32 * length rs ≤ length l
    → rows_at (length rs) a (sets l a (rows_octets rs)) ≡ rs
unfolding rows_at rows_octets
rows_back [] a l k h = refl
rows_back (r ∷ rs) a l k h =
    let m : List ℕ = sets l a (row_octets r) in
    let g : length m ≡ length l = length-sets l a (row_octets r) in
    let one : row_at (sets l a (row_octets r ++ rows_octets rs)) a ≡ r = row_back l a r (rows_octets rs) (k 0 (omega arith)) (omega (arith, octets-long rs)) in
    let rest : rows_at (length rs) (a + 32) (sets l a (row_octets r ++ rows_octets rs)) ≡ rs =
    ap (rows_at (length rs) (a + 32)) (sym (join l a (row_octets r) (rows_octets rs))) ∙ rows_back rs (a + 32) m (λ i w. k (suc i) (omega arith)) (omega arith) in
    cc
