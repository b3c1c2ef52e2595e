use Rattle.reading_elements.specs.Steps.{by-head, nesting-told}
use Rattle.reading_elements.specs.Bounds.{element-in}
use mathlib.Core.Path.{refl, sym, ◌∙◌}
use native.Mathlib.Omega.{arith}
use Rattle.reading_elements.proofs.nesting_at.Goals as goal

pub overflow_sub-result : goal.overflow_sub-result
overflow_sub-result c =
    omega (
      arith,
      element-in _ _ _ _ _ (sym c.in-Ok-contents.is ∙ c.contents-in-Opens.ensures _ (omega arith)
          ∙ by-head _ _ _ _ _ (λ z. omega arith) (sym c.in-Opens.is ∙ c.head_at.ensures.is)),
    )

pub returns-in-Bad : goal.returns-in-Bad
returns-in-Bad c =
    let h = sym c.in-Bad.is ∙ c.head_at.ensures.is in
    let n = nesting-told _ c.args.left _ _ _ _ h (by-head _ c.args.left _ _ _ (λ z. omega arith) h) refl in
    record { is = n.0; within = n.1.0; sound = n.1.1.0; stands = n.1.1.1 }

pub returns-in-Whole : goal.returns-in-Whole
returns-in-Whole c =
    let h = sym c.in-Whole.is ∙ c.head_at.ensures.is in
    let n = nesting-told _ c.args.left _ _ _ _ h (by-head _ c.args.left _ _ _ (λ z. omega arith) h) refl in
    record { is = n.0; within = n.1.0; sound = n.1.1.0; stands = n.1.1.1 }

pub returns-in-Ok : goal.returns-in-Ok
returns-in-Ok c =
    let h = sym c.in-Holds.is ∙ c.head_at.ensures.is in
    let n = nesting-told _ c.args.left _ _ _ _ h (sym c.in-Ok.is ∙ c.contents.ensures _ (omega arith) ∙ by-head _ c.args.left _ _ _ (λ z. omega arith) h) refl in
    record { is = n.0; within = n.1.0; sound = n.1.1.0; stands = n.1.1.1 }

pub returns-in-Err : goal.returns-in-Err
returns-in-Err c =
    let h = sym c.in-Holds.is ∙ c.head_at.ensures.is in
    let n = nesting-told _ c.args.left _ _ _ _ h (sym c.in-Err.is ∙ c.contents.ensures _ (omega arith) ∙ by-head _ c.args.left _ _ _ (λ z. omega arith) h) refl in
    record { is = n.0; within = n.1.0; sound = n.1.1.0; stands = n.1.1.1 }

pub returns-in-Ok-contents : goal.returns-in-Ok-contents
returns-in-Ok-contents c =
    let h = sym c.in-Opens.is ∙ c.head_at.ensures.is in
    let n = nesting-told _ c.args.left _ _ _ _ h (sym c.in-Ok-contents.is ∙ c.contents-in-Opens.ensures _ (omega arith) ∙ by-head _ c.args.left _ _ _ (λ z. omega arith) h) refl in
    record { is = n.0; within = n.1.0; sound = n.1.1.0; stands = n.1.1.1 }

pub returns-in-Err-contents : goal.returns-in-Err-contents
returns-in-Err-contents c =
    let h = sym c.in-Opens.is ∙ c.head_at.ensures.is in
    let n = nesting-told _ c.args.left _ _ _ _ h (sym c.in-Err-contents.is ∙ c.contents-in-Opens.ensures _ (omega arith) ∙ by-head _ c.args.left _ _ _ (λ z. omega arith) h) refl in
    record { is = n.0; within = n.1.0; sound = n.1.1.0; stands = n.1.1.1 }
