use Rattle.call_release.specs.Idling.{idling, from-positive, idling-spaces, idling-refusal, idling-does}
use Rattle.call_entry.specs.Prologue.{meets-as}
use Rattle.call_entry.specs.Ends.{dialogue-entry, dialogue-refusal, dialogue-changed}
use Rattle.call_entry.specs.Replies.{only, left_as}
use Rattle.paper.specs.Layout.{view}
use Rattle.paper.specs.Calls.{place_at}
use Rattle.paper.specs.Invocations.{to_idle}
use Rattle.paper.specs.Dialogues.{with_control, needs as needs_state}
use native.Mathlib.Omega.{arith}
use mathlib.Core.Path.{refl, sym, ap, ◌∙◌}
use Rattle.call_release.proofs.try_idle.Goals as goal

pub returns-in_err-p : goal.returns-in_err-p
returns-in_err-p c =
    let m = meets-as (idling-spaces c.args.id c.args.by) c.in_err-p.ensures in
    dialogue-entry (only c.args.table.now) c.args.service c.args.dialogue (idling c.args.by c.args.id) c.from_residual.result c.in_err-p.field-0.0 c.from_residual.ensures.1 m.is

pub idle_from-requires : goal.idle_from-requires
idle_from-requires c =
    (c.in_ok-p.ensures.inside.used, from-positive c.args.by c.from_state-from.ensures)

pub returns-in_err-idle_from : goal.returns-in_err-idle_from
returns-in_err-idle_from c =
    let m = meets-as (idling-spaces c.args.id c.args.by) c.in_ok-p.ensures in
    let x = place_at (view c.args.table.now) c.in_ok-p.p in
    left_as c.in_err-idle_from.ensures.same
    (dialogue-refusal (only c.args.table.now) c.args.service c.args.dialogue (idling c.args.by c.args.id) c.in_ok-p.p m.inside
    c.from_residual-in_err-idle_from.result c.in_err-idle_from.field-0.0 c.from_residual-in_err-idle_from.ensures.1
    (c.in_err-idle_from.ensures.is ∙ ap (needs_state x c.args.id) c.from_state-from.ensures ∙ idling-refusal c.args.id c.args.by x))

pub returns : goal.returns
returns c =
    let m = meets-as (idling-spaces c.args.id c.args.by) c.in_ok-p.ensures in
    let x = place_at (view c.args.table.now) c.in_ok-p.p in
    dialogue-changed (only c.args.table.now) c.args.service c.args.dialogue (idling c.args.by c.args.id) c.in_ok-p.p m.inside
    (with_control x (to_idle x.control c.args.id)) (c.in_ok-idle_from.ensures.is ∙ ap (needs_state x c.args.id) c.from_state-from.ensures ∙ idling-refusal c.args.id c.args.by x)
    (idling-does c.args.id c.args.by c.args.dialogue x) refl c.in_ok-idle_from.ensures.changed
