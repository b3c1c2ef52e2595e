-- The loop over the components: the answer of the whole is the answer of the rest. Assumes nothing.
use mathlib.Core.Path.{◌≡◌, refl, sym, ap, subst, ◌∙◌}
use mathlib.Core.Bool.{Bool}
use mathlib.Core.List.{List, [], ◌∷◌}
use Prim.Native.Nat.{ℕ, suc, ◌+◌, ◌*◌, ◌-◌, ◌<◌, ◌≤◌}
use native.Mathlib.Omega.{arith}
use borrow.Author.Tests.{lt-ltb, le-ltb}
use lib.ListN.{length}
use lib.Seq.{sets}
use Rattle.laws.specs.If.{by-eq}
use Rattle.laws.specs.Runs.{join}
use Rattle.reading_components.specs.Bounds.{ComponentIn}
use Rattle.paper.specs.declared.Component.{Component}
use Rattle.paper.specs.declared.Control.{Control}
use Rattle.paper.specs.declared.Row.{Row}
use Rattle.paper.specs.declared.Acted.{Acted}
use Rattle.paper.specs.Components.{Item, item, component_at, next_start, items, components, go_on}
use Rattle.paper.specs.Invocations.{act}
use Rattle.paper.specs.Rows.{component_row, row_by, row_octets, all_acted, component_rows, rows_octets}
use Rattle.dialogue_acts.specs.declared.Told.{Told}
use Rattle.dialogue_acts.specs.Told.{changed, does}
use Rattle.call_receive_rows.specs.declared.Stepped.{Stepped}
use Rattle.call_receive_rows.specs.Shows.{Steps, Next, Shows}

-- where the component after the one at a position starts
abbrev after : List ℕ → ℕ → ℕ → ℕ
after s lim at = next_start lim (component_at s lim at)

-- where the next component starts
pub next-in : (at lim : ℕ) (p : Component) (next : ℕ) → at ≤ lim → ComponentIn (at + 5) lim p → next ≡ next_start lim p → Next at lim next
unfolding next_start
next-in at lim p next h s e = by-eq _ _ _ _ e
    (λ q d. record { within = omega (arith, s.ends); five = λ g. omega (arith, s.long q) })
    (λ q d. record { within = omega arith; five = λ g. absurd (omega arith) })

-- one step, of what was read and told
pub step-told : (me room : ℕ) (s : List ℕ) (lim at : ℕ) (c : Control) (p : Component) (t : Told) (w : Row) (x : ℕ)
    → p ≡ component_at s lim at → does c p.id t ≡ act room c p → w ≡ component_row me at t.kind t.problem p → x ≡ next_start lim p
    → Steps me room s lim at c (record { told = t; id = p.id; row = w; next = x })
step-told me room s lim at c p t w x e d f g = record {
  control = ap (λ (a : Acted). a.control) d ∙ ap (λ (p : Component). (act room c p).control) e;
  row =
      f ∙ ap (λ (a : Acted). component_row me at a.kind a.problem p) d
      ∙ ap (λ (p : Component). component_row me at (act room c p).kind (act room c p).problem p) e;
  next = g ∙ ap (next_start lim) e;
}

module _ (s : List ℕ) (lim at n : ℕ) where
  pub items-on : (m : ℕ) → m ≡ suc n → after s lim at < lim → items s lim m at ≡ item s lim at ∷ items s lim n (after s lim at)
  unfolding items
  items-on m e h =
      ap (λ (m : ℕ). items s lim m at) e
      ∙ ap (λ (b : Bool). item s lim at ∷ go_on b (λ _. items s lim n (after s lim at))) (lt-ltb (after s lim at) lim h)

  pub items-last : (m : ℕ) → m ≡ suc n → lim ≤ after s lim at → items s lim m at ≡ item s lim at ∷ []
  unfolding items
  items-last m e h =
      ap (λ (m : ℕ). items s lim m at) e
      ∙ ap (λ (b : Bool). item s lim at ∷ go_on b (λ _. items s lim n (after s lim at))) (le-ltb (after s lim at) lim h)

-- all that the loop makes, of what it has and what is left
pub record Answer : Type 0 where
  pub control : Control
  pub count : ℕ
  pub space : List ℕ

module _ (me room : ℕ) where
  abbrev pub answer : Control → ℕ → List ℕ → List Item → Answer
  answer c k l [] = record { control = c; count = k; space = l }
  answer c k l (i ∷ is) =
      answer (act room c i.part).control (k + 1) (sets l (k * 32) (row_octets (row_by me room c i))) is

  pub answer-control : (c : Control) (k : ℕ) (l : List ℕ) (is : List Item) → (answer c k l is).control ≡ all_acted room c is
  unfolding all_acted
  answer-control c k l [] = refl
  answer-control c k l (i ∷ is) = answer-control (act room c i.part).control _ _ is

  pub answer-count : (c : Control) (k : ℕ) (l : List ℕ) (is : List Item) → (answer c k l is).count ≡ k + length (component_rows me room c is)
  unfolding component_rows
  answer-count c k l [] = omega arith
  answer-count c k l (i ∷ is) =
      let e : (answer c k l (i ∷ is)).count ≡ (k + 1) + length (component_rows me room (act room c i.part).control is) =
      answer-count (act room c i.part).control _ _ is in
      omega arith

  pub answer-space : (c : Control) (k : ℕ) (l : List ℕ) (is : List Item) → (answer c k l is).space ≡ sets l (k * 32) (rows_octets (component_rows me room c is))
  unfolding component_rows rows_octets
  answer-space c k l [] = refl
  answer-space c k l (i ∷ is) =
      let e : (k + 1) * 32 ≡ k * 32 + length (row_octets (row_by me room c i)) = omega arith in
      answer-space (act room c i.part).control _ _ is
      ∙ ap (λ (p : ℕ). sets (sets l (k * 32) (row_octets (row_by me room c i))) p (rows_octets (component_rows me room (act room c i.part).control is))) e
      ∙ join l (k * 32) (row_octets (row_by me room c i)) (rows_octets (component_rows me room (act room c i.part).control is))

-- the loop's invariant: at `at` stands a component (or lim, in an empty 6C), and its row will be k
module _ (me room : ℕ) (s : List ℕ) (lim from : ℕ) (c₀ : Control) (l₀ : List ℕ) where
  pub record Rest (l : List ℕ) (c : Control) (at k : ℕ) : Type 0 where
    pub one : 1 ≤ k
    pub begun : from ≤ at
    pub within : at ≤ lim
    pub five : 5 * k ≤ at - from + 5
    pub long : length l ≡ length l₀
    pub same : answer me room c₀ 1 l₀ (components s lim from) ≡ answer me room c k l (items s lim (lim - from + 2 - k) at)

  pub rest-start : from ≤ lim → Rest l₀ c₀ from 1
  unfolding components
  rest-start h = record {
    one = omega arith;
    begun = omega arith;
    within = h;
    five = omega arith;
    long = refl;
    same = let e : lim - from + 1 ≡ lim - from + 2 - 1 = omega arith in ap (λ (n : ℕ). answer me room c₀ 1 l₀ (items s lim n from)) e;
  }

  module _ {l : List ℕ} {c : Control} {at k : ℕ} (i : Rest l c at k) (r : Stepped) (e : Steps me room s lim at c r) (c' : Control) (a : c' ≡ changed c r.id r.told) (l' : List ℕ) (d : l' ≡ sets l (k * 32) (row_octets r.row)) (g : length l' ≡ length l) where
    -- what is left after one step, whatever is left
    stepped : (is : List Item) → answer me room c k l (item s lim at ∷ is) ≡ answer me room c' (k + 1) l' is
    stepped is =
        ap (λ (x : Control). answer me room x (k + 1) (sets l (k * 32) (row_octets (row_by me room c (item s lim at)))) is) (sym (a ∙ e.control))
        ∙ ap (λ (x : Row). answer me room c' (k + 1) (sets l (k * 32) (row_octets x)) is) (sym e.row)
        ∙ ap (λ (x : List ℕ). answer me room c' (k + 1) x is) (sym d)

    next-is : r.next ≡ after s lim at
    next-is = e.next

    fuel : lim - from + 2 - k ≡ suc (lim - from + 2 - (k + 1))
    fuel = omega (arith, i.five, i.begun, i.within)

    -- one component more
    pub rest_more : Next at lim r.next → r.next < lim → Rest l' c' r.next (k + 1)
    rest_more n h = record {
      one = omega arith;
      begun = omega (arith, n.five h, i.begun);
      within = n.within;
      five = omega (arith, i.five, n.five h, i.begun);
      long = g ∙ i.long;
      same =
          i.same
          ∙ ap (answer me room c k l) (items-on s lim at _ _ fuel (subst (λ (x : ℕ). x < lim) next-is h))
          ∙ stepped (items s lim (lim - from + 2 - (k + 1)) (after s lim at))
          ∙ ap (λ (x : ℕ). answer me room c' (k + 1) l' (items s lim (lim - from + 2 - (k + 1)) x)) (sym next-is);
    }

    -- the last one
    pub rest_end : lim ≤ 512 → lim ≤ r.next → Shows me room c₀ l₀ (components s lim from) (record { control = c'; count = k }) l'
    rest_end small h = record {
      control = ap (λ (x : Answer). x.control) (sym all) ∙ answer-control me room c₀ 1 l₀ (components s lim from);
      count = omega (arith, ap (λ (x : Answer). x.count) all, answer-count me room c₀ 1 l₀ (components s lim from));
      few = omega (arith, i.five, i.begun, i.within);
      holds = ap (λ (x : Answer). x.space) (sym all) ∙ answer-space me room c₀ 1 l₀ (components s lim from);
      long = g ∙ i.long;
    }
      where
        all : answer me room c₀ 1 l₀ (components s lim from) ≡ record { control = c'; count = k + 1; space = l' }
        all =
            i.same
            ∙ ap (answer me room c k l) (items-last s lim at _ _ fuel (subst (λ (x : ℕ). lim ≤ x) next-is h))
            ∙ stepped []
