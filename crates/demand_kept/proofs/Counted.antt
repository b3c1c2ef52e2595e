-- WHICH ROWS ARE COUNTED for demand 3: those of a dialogue, by their kind; none of a component. Assumes nothing.
use Rattle.std.specs.Prelude.{◌≡◌, Bool, List, [], ◌∷◌, ℕ, ◌≤◌}
use Rattle.std.proofs.Math.Path.{refl, sym}
use Rattle.std.proofs.Math.Bool.{true, false}
use Rattle.std.proofs.Common.{arith}
use Rattle.std.proofs.Math.Dec.{eqb}
use borrow.Author.Tests.{eqb-true, eqb-false}
use Rattle.laws.specs.If.{eq, ne}
use Rattle.paper.specs.declared.Component.{Component}
use Rattle.paper.specs.declared.Control.{Control}
use Rattle.paper.specs.declared.Acted.{Acted}
use Rattle.paper.specs.declared.Row.{Row}
use Rattle.paper.specs.Components.{Item}
use Rattle.paper.specs.Invocations.{rejected, answer_kind, answers_sent, answers, invokes, reject_kind, rejects, faulty_reject, faults, act}
use Rattle.paper.specs.Rows.{row_by, component_row, component_rows}
use Rattle.paper.specs.Counting.{is_begun, is_ended, begun_rows, ended_rows}
use Rattle.demand_kept.proofs.Leaves.{whether-eq, whether-lt, whether-b}

-- A ROW OF A KIND
module _ (r : Row) where
  pub row-begun : r.kind ≡ 2 → (is_begun r ≡ 1) × (is_ended r ≡ 0)
  unfolding is_begun is_ended
  row-begun e =
      (sym (eq _ _ _ _ e refl), sym (ne _ _ _ _ (λ z. omega arith) (ne _ _ _ _ (λ z. omega arith) (ne _ _ _ _ (λ z. omega arith) refl))))

  pub row-ended : 4 ≤ r.kind → r.kind ≤ 6 → (is_begun r ≡ 0) × (is_ended r ≡ 1)
  unfolding is_begun is_ended
  row-ended a b =
      (sym (ne _ _ _ _ (λ z. omega arith) refl), sym (ended (eqb r.kind 4) refl (eqb r.kind 5) refl))
    where
      ended : (c : Bool) → eqb r.kind 4 ≡ c → (d : Bool) → eqb r.kind 5 ≡ d → 1 ≡ is_ended r
      ended true p d q = eq _ _ _ _ (eqb-true r.kind 4 p) refl
      ended false p true q = ne _ _ _ _ (eqb-false r.kind 4 p) (eq _ _ _ _ (eqb-true r.kind 5 q) refl)
      ended false p false q =
          let n : r.kind ≡ 4 → ⊥ = eqb-false r.kind 4 p in
          let m : r.kind ≡ 5 → ⊥ = eqb-false r.kind 5 q in
          ne _ _ _ _ n (ne _ _ _ _ m (eq _ _ _ _ (omega arith) refl))

  pub row_other : (r.kind ≡ 2 → ⊥) → (r.kind ≡ 4 → ⊥) → (r.kind ≡ 5 → ⊥) → (r.kind ≡ 6 → ⊥) → (is_begun r ≡ 0) × (is_ended r ≡ 0)
  unfolding is_begun is_ended
  row_other a b c d = (sym (ne _ _ _ _ a refl), sym (ne _ _ _ _ b (ne _ _ _ _ c (ne _ _ _ _ d refl))))

-- A COMPONENT'S ROW is of kind 7 to 14: what holds of these holds of it
module _ (P : ℕ → Type 0) (each : (n : ℕ) → 7 ≤ n → n ≤ 14 → P n) where
  Kind : Acted → Type 0
  Kind a = P a.kind

  answer-kind : (tag : ℕ) → P (answer_kind tag)
  unfolding answer_kind
  answer-kind tag = whether-eq P _ _ _ _ (each 8 (omega arith) (omega arith)) (whether-eq P _ _ _ _ (each 9 (omega arith) (omega arith)) (each 10 (omega arith) (omega arith)))

  reject-kind : (p : ℕ) → P (reject_kind p)
  unfolding reject_kind
  reject-kind p = whether-eq P _ _ _ _ (each 11 (omega arith) (omega arith)) (each 12 (omega arith) (omega arith))

  rejected-kind : (room : ℕ) (c : Control) (id p : ℕ) → Kind (rejected room c id p)
  unfolding rejected Kind
  rejected-kind room c id p = whether-lt Kind _ _ _ _ (each 13 (omega arith) (omega arith)) (each 14 (omega arith) (omega arith))

  act-kinds : (room : ℕ) (c : Control) (p : Component) → Kind (act room c p)
  unfolding act invokes rejects answers answers_sent faults faulty_reject Kind
  act-kinds room c p =
      whether-eq Kind _ _ _ _
      (whether-eq Kind _ _ _ _
      (whether-eq Kind _ _ _ _ (each 7 (omega arith) (omega arith)) (whether-eq Kind _ _ _ _ (each 7 (omega arith) (omega arith)) (rejected-kind room _ _ _)))
      (whether-eq Kind _ _ _ _
      (whether-lt Kind _ _ _ _ (reject-kind p.problem) (reject-kind p.problem))
      (whether-eq Kind _ _ _ _
      (whether-eq Kind _ _ _ _ (rejected-kind room _ _ _) (whether-eq Kind _ _ _ _ (answer-kind p.tag) (answer-kind p.tag)))
      (rejected-kind room _ _ _))))
      (whether-eq Kind _ _ _ _ (whether-eq Kind _ _ _ _ (each 14 (omega arith) (omega arith)) (each 14 (omega arith) (omega arith)))
      (whether-b Kind _ _ _ (rejected-kind room _ _ _) (rejected-kind room _ _ _)))

  pub act-kind : (room : ℕ) (c : Control) (p : Component) → P (act room c p).kind
  unfolding Kind
  act-kind room c p = act-kinds room c p

pub components-none : (me room : ℕ) (is : List Item) (c : Control) → (begun_rows (component_rows me room c is) ≡ 0) × (ended_rows (component_rows me room c is) ≡ 0)
unfolding component_rows component_row
components-none me room [] c = (refl, refl)
components-none me room (i ∷ is) c =
    let a : 7 ≤ (act room c i.part).kind = act-kind (λ (n : ℕ). 7 ≤ n) (λ n a b. a) room c i.part in
    let w = row_other (row_by me room c i) (λ z. omega arith) (λ z. omega arith) (λ z. omega arith) (λ z. omega arith) in
    let v = components-none me room is (act room c i.part).control in
    (omega arith, omega arith)
