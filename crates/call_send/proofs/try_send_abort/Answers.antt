use mathlib.Core.Path.{refl}
use Rattle.laws.specs.Runs.{wrote_as}
use Rattle.paper.specs.Dialogues.{Place, freed, does, refusal, abort_message}
use Rattle.paper.specs.Dialogues.Request.{Abort}
use Rattle.paper.specs.Calls.{place_at}
use Rattle.paper.specs.Layout.{view}
use Rattle.call_entry.specs.Replies.{with_space}
use Rattle.call_entry.specs.Ends.{dialogue-entry, dialogue-refusal}
use Rattle.call_send_parts.specs.Sent.{holds-fine}
use Rattle.call_send_parts.specs.Refused.{abort-octets}
use Rattle.call_send.specs.Sendings.{inside-holds, send-done, abort-is}
use Rattle.call_send.proofs.try_send_abort.Goals as goal

pub returns-in_err-p : goal.returns-in_err-p
returns-in_err-p c =
    dialogue-entry (with_space c.args.table.now c.args.space.now) c.args.service c.args.dialogue (Abort c.args.portion.now) c.from_residual.result c.in_err-p.field-0.0 c.from_residual.ensures.1 c.in_err-p.ensures.is

pub returns-in_err-abort_refusal : goal.returns-in_err-abort_refusal
unfolding refusal
returns-in_err-abort_refusal c =
    dialogue-refusal (with_space c.args.table.now c.args.space.now) c.args.service c.args.dialogue (Abort c.args.portion.now) c.in_ok-p.p c.in_ok-p.ensures.inside c.from_residual-in_err-abort_refusal.result c.in_err-abort_refusal.field-0.0 c.from_residual-in_err-abort_refusal.ensures.1 c.in_err-abort_refusal.ensures

pub load-c-requires : goal.load-c-requires
load-c-requires c =
    let u = c.in_ok-p.ensures.inside.used in
    (u.small, u.ready.long)

pub write_abort-e-requires : goal.write_abort-e-requires
write_abort-e-requires c =
    let short = abort-octets c.args.portion.now c.in_ok-abort_refusal.ensures in
    let i = c.in_ok-p.ensures.inside in
    (holds-fine (inside-holds i c.load-c.ensures), short.0, short.1, i.within.long.1)

pub free_at-requires : goal.free_at-requires
free_at-requires c =
    let u = c.in_ok-p.ensures.inside.used in
    (u.ready, u.small, u.told)

pub returns : goal.returns
unfolding refusal does
returns c =
    let x : Place = place_at (view c.args.table.now) c.in_ok-p.p in
    send-done c.args.table.now c.args.space.now c.args.service c.args.dialogue (Abort c.args.portion.now) c.in_ok-p.p c.in_ok-p.ensures.inside
    (freed x) (abort_message x c.args.portion.now) c.in_ok-abort_refusal.ensures refl
    c.write_abort-e.result c.free_at.new.t c.write_abort-e.new.out c.free_at.ensures (wrote_as c.write_abort-e.ensures.is (abort-is x c.load-c.result c.load-c.ensures c.args.portion.now)) refl
