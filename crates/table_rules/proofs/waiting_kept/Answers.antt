use Rattle.table_rules.proofs.Laws.{sound-item, some-wait}
use Rattle.table_laws.proofs.Following.{rest-start, rest-fails, rest_end, rest_more}
use borrow.Author.Tests.{eq-eqb, ne_eqb}
use Rattle.paper.specs.Components.{no_fault, waiting_items}
use Rattle.paper.specs.Rules.{is_sound_item, waiting_kept}
use Rattle.laws.specs.If.{eq}
use Rattle.laws.specs.Lists.{every}
use Prim.Native.Nat.{ℕ}
use mathlib.Core.List.{List}
use mathlib.Core.Bool.{true, false}
use mathlib.Core.Path.{refl, ap, ◌∙◌}
use native.Mathlib.Omega.{arith}
use Rattle.table_rules.proofs.waiting_kept.Goals as goal

pub returns-then-n-eq0 : goal.returns-then-n-eq0
unfolding waiting_kept waiting_items every
returns-then-n-eq0 c =
    ap (every is_sound_item) (eq _ _ _ _ (omega arith) refl)

pub loop-c-init : goal.loop-c-init
loop-c-init c =
    (omega arith, rest-start is_sound_item c.args.w.now)

pub returns-then-c-ne-NO_FAULT : goal.returns-then-c-ne-NO_FAULT
returns-then-c-ne-NO_FAULT c =
    let w : List ℕ = c.args.w.now in
    rest-fails is_sound_item w c.loop-c.at c.loop-c.invariant.1 c.component_at-c.result c.component_at-c.ensures.is (sound-item c.loop-c.at c.component_at-c.result false (ne_eqb c.component_at-c.result.fault no_fault c.if-c-ne-NO_FAULT.true)) ∙ some-wait w (λ h. omega arith)

pub returns-then-at-n : goal.returns-then-at-n
returns-then-at-n c =
    let w : List ℕ = c.args.w.now in
    rest_end is_sound_item w c.loop-c.at c.loop-c.invariant.1 c.component_at-c.result c.component_at-c.ensures.is (sound-item c.loop-c.at c.component_at-c.result true (eq-eqb c.component_at-c.result.fault no_fault c.if-c-ne-NO_FAULT.false)) c.if-c-ne-NO_FAULT.false (omega arith) ∙ some-wait w (λ h. omega arith)

pub loop-c-smaller : goal.loop-c-smaller
loop-c-smaller c =
    let w : List ℕ = c.args.w.now in
    omega (arith, c.component_at-c.ensures.within.long c.if-c-ne-NO_FAULT.false)

pub loop-c-preserved : goal.loop-c-preserved
loop-c-preserved c =
    let w : List ℕ = c.args.w.now in
    (omega arith, rest_more is_sound_item w c.loop-c.at c.loop-c.invariant.1 c.component_at-c.result c.component_at-c.ensures.is (sound-item c.loop-c.at c.component_at-c.result true (eq-eqb c.component_at-c.result.fault no_fault c.if-c-ne-NO_FAULT.false)) c.if-c-ne-NO_FAULT.false (omega arith) (omega (arith, c.component_at-c.ensures.within.long c.if-c-ne-NO_FAULT.false)))
