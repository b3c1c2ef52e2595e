-- HOW LARGE THE NUMBERS OF A ROW ARE: each goes into its four octets. Assumes nothing.
use Rattle.std.specs.Prelude.{◌≡◌, Bool}
use Rattle.std.proofs.Math.Path.{refl}
use Rattle.std.proofs.Math.Bool.{true, false}
use mathlib.Core.List.{List, [], ◌∷◌}
use Prim.Native.Nat.{ℕ, zero, suc, ◌+◌, ◌-◌, ◌≤◌, ◌<◌}
use Rattle.std.proofs.Common.{arith}
use Rattle.std.proofs.Math.Dec.{ltb}
use borrow.Author.Tests.{ltb-true}
use Rattle.laws.specs.If.{by-lt}
use Rattle.paper.specs.declared.Component.{Component}
use Rattle.paper.specs.declared.Control.{Control}
use Rattle.paper.specs.declared.Acted.{Acted}
use Rattle.paper.specs.declared.Run.{Run}
use Rattle.paper.specs.declared.Row.{Row}
use Rattle.paper.specs.Components.{Item, items, components, component_at, next_start, go_on}
use Rattle.paper.specs.Invocations.{rejected, answer_problem, answers_sent, answers, invokes, rejects, faulty_reject, faults, act}
use Rattle.paper.specs.Rows.{signed, start_of, extent_of, dialogue_row, cancel_row, component_row, component_rows, row_by}
use Rattle.reading_components.specs.Bounds.{component-in}
use Rattle.reading_messages.specs.Bounds.{RunIn}
use Rattle.table_laws.specs.Fine.{Octets}
use Rattle.demand_kept.proofs.Leaves.{whether-eq, whether-lt, whether-b}
use Rattle.demand_kept.proofs.Counted.{act-kind}
use Rattle.demands.specs.Rows.{SmallRow, AllSmall}
use Rattle.demands.specs.Small.{Lies, AllLie}

pub none-small : AllSmall []
none-small i h = absurd (omega arith)

pub more-small : (r : Row) (rs : List Row) → SmallRow r → AllSmall rs → AllSmall (r ∷ rs)
more-small r rs a b zero h = a
more-small r rs a b (suc i) h = b i (omega arith)

-- THE ROW OF A DIALOGUE, and L-CANCEL
signed-small : (x : ℕ) → signed x ≤ 256
unfolding signed
signed-small x = by-lt {r = signed x} _ _ _ _ refl (λ a z. omega arith) (λ a z. by-lt _ _ _ _ z (λ b z. omega arith) (λ b z. omega arith))

pub dialogue-small : (kind me cause : ℕ) (portion : Run) (follow : ℕ) → kind ≤ 15 → me < 4294967296 → cause ≤ 65535 → RunIn 512 portion → follow ≤ 103
    → SmallRow (dialogue_row kind me cause portion follow)
dialogue-small kind me cause portion follow a b c d e = record {
  kind = omega arith;
  dialogue = b;
  invoke = omega arith;
  linked = omega arith;
  problem = omega arith;
  start = omega arith;
  length = omega arith;
  follow = omega arith;
}

pub cancel-small : (me id : ℕ) → me < 4294967296 → SmallRow (cancel_row me id)
cancel-small me id h = record {
  kind = omega arith;
  dialogue = h;
  invoke = omega (arith, signed-small id);
  linked = omega arith;
  problem = omega arith;
  start = omega arith;
  length = omega arith;
  follow = omega arith;
}

-- THE PROBLEM that a component's acting gives: none, its own, its fault's code, or one of ours
abbrev Told : Acted → Type 0
Told a = a.problem ≤ 65535

rejected-told : (room : ℕ) (c : Control) (id p : ℕ) → p ≤ 65535 → Told (rejected room c id p)
unfolding rejected
rejected-told room c id p h = whether-lt Told _ _ _ _ h h

answer-told : (tag code : ℕ) → code ≤ 1 → answer_problem tag code ≤ 65535
unfolding answer_problem
answer-told tag code h = whether-eq (λ (n : ℕ). n ≤ 65535) _ _ _ _ (omega arith) (omega arith)

act-told : (room : ℕ) (c : Control) (p : Component) → p.fault ≤ 3 → p.problem ≤ 65535 → Told (act room c p)
unfolding act invokes rejects answers answers_sent faults faulty_reject
act-told room c p code told =
    whether-eq Told _ _ _ _
    (whether-eq Told _ _ _ _
    (whether-eq Told _ _ _ _ (omega arith) (whether-eq Told _ _ _ _ (omega arith) (rejected-told room _ _ _ (omega arith))))
    (whether-eq Told _ _ _ _ (whether-lt Told _ _ _ _ told told)
    (whether-eq Told _ _ _ _
    (whether-eq Told _ _ _ _ (rejected-told room _ _ _ (answer-told p.tag 1 (omega arith))) (whether-eq Told _ _ _ _ (omega arith) (omega arith)))
    (rejected-told room _ _ _ (answer-told p.tag 0 (omega arith))))))
    (whether-eq Told _ _ _ _ (whether-eq Told _ _ _ _ (omega arith) (omega arith))
    (whether-b Told _ _ _ (rejected-told room _ _ _ (omega arith)) (rejected-told room _ _ _ (omega arith))))

module _ (s : List ℕ) (octets : Octets s) (lim : ℕ) where
  items_lie : (n at : ℕ) → at ≤ lim → AllLie lim (items s lim n at)
  unfolding items
  items_lie zero at h = tt
  items_lie (suc n) at h =
      (record { starts = h; part = component-in s octets lim at (component_at s lim at) refl }, go (ltb (next_start lim (component_at s lim at)) lim) refl (items_lie n (next_start lim (component_at s lim at))))
    where
      go : (b : Bool) → ltb (next_start lim (component_at s lim at)) lim ≡ b → (next_start lim (component_at s lim at) ≤ lim → AllLie lim (items s lim n (next_start lim (component_at s lim at))))
          → AllLie lim (go_on b (λ _. items s lim n (next_start lim (component_at s lim at))))
      go true e ih = let g : next_start lim (component_at s lim at) < lim = ltb-true (next_start lim (component_at s lim at)) lim e in ih (omega arith)
      go false e ih = tt

  pub components-lie : (from : ℕ) → from ≤ lim → AllLie lim (components s lim from)
  unfolding components
  components-lie from h = items_lie (lim - from + 1) from h

-- their rows
module _ (lim : ℕ) (short : lim ≤ 512) (me : ℕ) (small : me < 4294967296) (room : ℕ) where
  component-small : (c : Control) (i : Item) → Lies lim i → SmallRow (row_by me room c i)
  unfolding component_row start_of extent_of
  component-small c i h = record {
    kind = act-kind (λ (n : ℕ). n < 4294967296) (λ n a b. omega arith) room c i.part;
    dialogue = small;
    invoke = omega (arith, signed-small i.part.id);
    linked = omega (arith, signed-small i.part.linked);
    problem = omega (arith, act-told room c i.part h.part.code h.part.told);
    start = whether-lt (λ (n : ℕ). n < 4294967296) _ _ _ _ (omega (arith, h.starts)) (omega arith);
    length = whether-lt (λ (n : ℕ). n < 4294967296) _ _ _ _ (omega (arith, h.part.ends)) (omega arith);
    follow = omega arith;
  }

  pub components-small : (c : Control) (is : List Item) → AllLie lim is → AllSmall (component_rows me room c is)
  unfolding component_rows
  components-small c [] h = none-small
  components-small c (i ∷ is) h =
      let d : Control = (act room c i.part).control in
      more-small (row_by me room c i) (component_rows me room d is) (component-small c i h.0) (components-small d is h.1)
