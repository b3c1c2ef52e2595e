use Rattle.laws.specs.If.{true-false}
use Rattle.call_pass.specs.Refusing.{front-small, class_low, class-high, not-idle, eight-open, invoke-pieces}
use Rattle.call_given.specs.Pieces.{pieces_refusal}
use mathlib.Core.List.{List}
use Rattle.paper.specs.Invocations.{invocation_of, idle_slot}
use Rattle.paper.specs.declared.Invocation.{Invocation}
use Prim.Native.Nat.{ℕ, ◌≤◌}
use mathlib.Core.Path.{sym, ap, subst, ◌∙◌}
use Rattle.call_pass.proofs.invoke_refusal.Goals.{then-class-lt1-via-then-class-lt1, then-class-lt1-via-else-class-lt1+then-class-gt4}
use Rattle.std.proofs.Common.{◌≡◌, Bool, true, false, arith}
use Rattle.std.specs.Prelude.{Option, None, Some, ◌<◌, unwrap_or, IfSome, is_some, not}
use Rattle.call_pass.proofs.invoke_refusal.Goals as goal

-- the state that was looked up
state-as : (id n : ℕ) (l m : List Invocation) (s : ℕ) → m ≡ l → n ≡ id → s ≡ (invocation_of l n).state → (invocation_of m id).state ≡ s
state-as id n l m s e i p = ap (λ (m : List Invocation). (invocation_of m id).state) e ∙ sym (p ∙ ap (λ (k : ℕ). (invocation_of l k).state) i)

-- no slot that is Idle, or one
none-idle : (r : Option ℕ) (n : ℕ) {b : Bool} → unwrap_or r 8 ≡ n → is_some r ≡ not b → b ≡ true → n ≡ 8
none-idle None n e p q = sym e
none-idle (Some i) n {b} e p q = absurd (true-false (p ∙ ap not q))

some-idle : (r : Option ℕ) (n : ℕ) {b : Bool} → unwrap_or r 8 ≡ n → IfSome r (λ i. i < 8) → is_some r ≡ not b → b ≡ false → n ≡ 8 → ⊥
some-idle None n {b} e w p q z = true-false (sym (p ∙ ap not q))
some-idle (Some i) n e w p q z = omega (arith, e, w, z)

pub returns-then-class-lt1 : goal.returns-then-class-lt1
returns-then-class-lt1 c =
    λ x e f. elim c.then-class-lt1.branch [
      | then-class-lt1-via-then-class-lt1 w ↦ class_low x c.args.id c.args.linked c.args.class c.args.op.now c.args.par.now w.if-class-lt1.true
      | then-class-lt1-via-else-class-lt1+then-class-gt4 w ↦ class-high x c.args.id c.args.linked c.args.class c.args.op.now c.args.par.now w.if-class-gt4.true
    ]

pub returns-then-state-ne-IDLE : goal.returns-then-state-ne-IDLE
returns-then-state-ne-IDLE c =
    λ x e f. not-idle x c.args.id c.args.linked c.args.class c.args.op.now c.args.par.now c.if-class-lt1.false c.if-class-gt4.false
    (λ q. c.if-state-ne-IDLE.true (sym (state-as c.args.id _ _ _ _ e c.from.ensures c.state_of-state.ensures) ∙ q))

pub returns-then-is_none : goal.returns-then-is_none
returns-then-is_none c =
    λ x e f. eight-open x c.args.id c.args.linked c.args.class c.args.op.now c.args.par.now c.if-class-lt1.false c.if-class-gt4.false
    (state-as c.args.id _ _ _ _ e c.from.ensures c.state_of-state.ensures ∙ c.if-state-ne-IDLE.false) (ap idle_slot e ∙ none-idle _ _ c.idle_slot.ensures.is c.is_none.ensures c.if-is_none.true)

pub pieces_refusal-requires : goal.pieces_refusal-requires
pieces_refusal-requires c =
    (c.requires, subst (λ (k : ℕ). k ≤ 6) (sym c.front_of-front.ensures) (front-small c.args.linked))

pub returns : goal.returns
returns c =
    λ x e f. invoke-pieces x c.args.id c.args.linked c.args.class c.args.op.now c.args.par.now c.if-class-lt1.false c.if-class-gt4.false
    (state-as c.args.id _ _ _ _ e c.from.ensures c.state_of-state.ensures ∙ c.if-state-ne-IDLE.false)
    (λ q. some-idle _ _ c.idle_slot.ensures.is c.idle_slot.ensures.within c.is_none.ensures c.if-is_none.false (ap idle_slot (sym e) ∙ q))
    f (c.pieces_refusal.ensures ∙ ap (λ (k : ℕ). pieces_refusal c.args.n k c.args.op.now c.args.par.now) c.front_of-front.ensures)
