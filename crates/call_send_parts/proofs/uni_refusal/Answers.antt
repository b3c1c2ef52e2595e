use native.Mathlib.Omega.{arith}
use mathlib.Core.Path.{sym, ◌∙◌}
use borrow.Author.Tests.{eqb-true, eqb-false}
use Rattle.paper.specs.Dialogues.{Place}
use Rattle.paper.specs.Calls.{place_at}
use Rattle.paper.specs.Layout.{view}
use Rattle.call_send_parts.specs.Refused.{uni-state, uni-none, uni-may, uni-no}
use Rattle.call_send_parts.proofs.uni_refusal.Goals.{then-is_empty-via-then-is_empty, then-is_empty-via-else-is_empty+then-not-each_class4}
use Rattle.call_send_parts.proofs.uni_refusal.Goals as goal

pub returns-then-c-ne-DIALOGUE_OPEN : goal.returns-then-c-ne-DIALOGUE_OPEN
returns-then-c-ne-DIALOGUE_OPEN c =
    let x : Place = place_at (view c.args.t.now) c.args.p in
    uni-state x c.args.c c.requires.control (λ z. omega arith)

pub returns-then-is_empty : goal.returns-then-is_empty
returns-then-is_empty c =
    let x : Place = place_at (view c.args.t.now) c.args.p in
    elim c.then-is_empty.branch [
      | then-is_empty-via-then-is_empty w ↦
          uni-none x c.args.c c.requires.control c.if-c-ne-DIALOGUE_OPEN.false c.waiting-w.result.now c.waiting-w.ensures (eqb-true _ _ (sym c.is_empty.ensures ∙ w.if-is_empty.true))
      | then-is_empty-via-else-is_empty+then-not-each_class4 w ↦
          uni-no x c.args.c c.requires.control c.if-c-ne-DIALOGUE_OPEN.false c.waiting-w.result.now c.waiting-w.ensures (eqb-false _ _ (sym c.is_empty.ensures ∙ w.if-is_empty.false))
          w.each_class4.result w.each_class4.ensures w.if-not-each_class4.true
    ]

pub returns : goal.returns
returns c =
    let x : Place = place_at (view c.args.t.now) c.args.p in
    uni-may x c.args.c c.requires.control c.if-c-ne-DIALOGUE_OPEN.false c.waiting-w.result.now c.waiting-w.ensures (eqb-false _ _ (sym c.is_empty.ensures ∙ c.if-is_empty.false))
    c.each_class4.result c.each_class4.ensures c.if-not-each_class4.false
