use mathlib.Core.Path.{sym, ◌∙◌}
use mathlib.Core.List.{List}
use Prim.Native.Nat.{ℕ}
use native.Mathlib.Omega.{arith}
use Rattle.paper.specs.Dialogues.{of_class4}
use Rattle.table_laws.proofs.Following.{rest-start, rest-fails, rest_end, rest_more}
use Rattle.call_send_parts.specs.Refused.{class4-at, class4-sound}
use Rattle.call_send_parts.proofs.each_class4.Goals as goal

pub loop-c-init : goal.loop-c-init
loop-c-init c =
    rest-start (of_class4 c.args.c) c.args.w.now

pub returns-then-not-of_class4 : goal.returns-then-not-of_class4
returns-then-not-of_class4 c =
    let w : List ℕ = c.args.w.now in
    let is = class4-at c.args.c c.component_at-k.result c.loop-c.at in
    rest-fails (of_class4 c.args.c) w c.loop-c.at c.loop-c.invariant c.component_at-k.result c.component_at-k.ensures.is (is ∙ sym c.of_class4.ensures ∙ c.if-not-of_class4.true)

pub returns-then-at-n : goal.returns-then-at-n
returns-then-at-n c =
    let w : List ℕ = c.args.w.now in
    let is = class4-at c.args.c c.component_at-k.result c.loop-c.at in
    let y = sym c.of_class4.ensures ∙ c.if-not-of_class4.false in
    let s = class4-sound c.args.c c.component_at-k.result y in
    rest_end (of_class4 c.args.c) w c.loop-c.at c.loop-c.invariant c.component_at-k.result c.component_at-k.ensures.is (is ∙ y) s (omega arith)

pub loop-c-smaller : goal.loop-c-smaller
loop-c-smaller c =
    let y = sym c.of_class4.ensures ∙ c.if-not-of_class4.false in
    let s = class4-sound c.args.c c.component_at-k.result y in
    omega (arith, c.component_at-k.ensures.within.long s)

pub loop-c-preserved : goal.loop-c-preserved
loop-c-preserved c =
    let w : List ℕ = c.args.w.now in
    let is = class4-at c.args.c c.component_at-k.result c.loop-c.at in
    let y = sym c.of_class4.ensures ∙ c.if-not-of_class4.false in
    let s = class4-sound c.args.c c.component_at-k.result y in
    rest_more (of_class4 c.args.c) w c.loop-c.at c.loop-c.invariant c.component_at-k.result c.component_at-k.ensures.is (is ∙ y) s (omega arith) (omega (arith, c.component_at-k.ensures.within.long s))
