use Rattle.call_release.specs.Idling.{no-cancel-row, cancel-rows}
use Rattle.call_entry.specs.Ends.{no_rows, one-row, dialogue-entry, dialogue-refusal, dialogue-done}
use Rattle.call_entry.specs.Replies.{with_rows, left_as}
use Rattle.paper.specs.Layout.{view}
use Rattle.paper.specs.Calls.{place_at}
use Rattle.paper.specs.Invocations.{to_idle}
use Rattle.paper.specs.Dialogues.Request.{Timeout}
use Rattle.paper.specs.Dialogues.{Place, with_control, refusal, does, done as gives}
use Rattle.paper.specs.Rows.{cancel_row, row_octets}
use Rattle.paper.specs.declared.Row.{Row}
use lib.Seq.{sets}
use native.Mathlib.Omega.{arith}
use mathlib.Core.List.{List, [], ◌∷◌}
use mathlib.Core.Path.{refl, sym, ap, ◌∙◌}
use Rattle.call_release.proofs.try_timeout.Goals as goal

pub returns-in_err-p : goal.returns-in_err-p
returns-in_err-p c =
    dialogue-entry (with_rows c.args.table.now c.args.rows.now) c.args.service c.args.dialogue (Timeout c.args.id)
    c.from_residual.result c.in_err-p.field-0.0 c.from_residual.ensures.1 c.in_err-p.ensures.is

pub class_of-class-requires : goal.class_of-class-requires
class_of-class-requires c =
    c.in_ok-p.ensures.inside.used

pub idle_from-requires : goal.idle_from-requires
idle_from-requires c =
    (c.in_ok-p.ensures.inside.used, omega arith)

pub returns-in_err-idle_from : goal.returns-in_err-idle_from
unfolding refusal
returns-in_err-idle_from c =
    left_as c.in_err-idle_from.ensures.same
    (dialogue-refusal (with_rows c.args.table.now c.args.rows.now) c.args.service c.args.dialogue (Timeout c.args.id)
    c.in_ok-p.p c.in_ok-p.ensures.inside c.from_residual-in_err-idle_from.result c.in_err-idle_from.field-0.0 c.from_residual-in_err-idle_from.ensures.1 c.in_err-idle_from.ensures.is)

pub returns-then-class-eq4 : goal.returns-then-class-eq4
unfolding refusal does
returns-then-class-eq4 c =
    let x = place_at (view c.args.table.now) c.in_ok-p.p in
    let y : Place = with_control x (to_idle x.control c.args.id) in
    dialogue-done (with_rows c.args.table.now c.args.rows.now) c.args.service c.args.dialogue (Timeout c.args.id)
    c.in_ok-p.p c.in_ok-p.ensures.inside y [] [] c.in_ok-idle_from.ensures.is
    (ap (λ (l : List Row). gives y l []) (no-cancel-row c.args.dialogue x c.args.id c.class_of-class.result c.class_of-class.ensures c.if-class-eq4.true))
    refl c.in_ok-idle_from.ensures.changed (no_rows c.args.rows.now) refl

pub write_row-requires : goal.write_row-requires
write_row-requires c =
    omega (arith, c.in_ok-p.ensures.inside.within.long.0)

pub returns : goal.returns
unfolding refusal does
returns c =
    let x = place_at (view c.args.table.now) c.in_ok-p.p in
    let y : Place = with_control x (to_idle x.control c.args.id) in
    let w : Row = cancel_row c.args.dialogue c.args.id in
    dialogue-done (with_rows c.args.table.now c.args.rows.now) c.args.service c.args.dialogue (Timeout c.args.id)
    c.in_ok-p.p c.in_ok-p.ensures.inside y (w ∷ []) [] c.in_ok-idle_from.ensures.is
    (ap (λ (l : List Row). gives y l []) (cancel-rows c.args.dialogue x c.args.id c.class_of-class.result c.class_of-class.ensures c.if-class-eq4.false))
    refl c.in_ok-idle_from.ensures.changed
    (c.write_row.ensures.is ∙ ap (λ (r : Row). sets c.args.rows.now 0 (row_octets r)) c.cancel_row-row.ensures ∙ one-row c.args.rows.now w) refl
