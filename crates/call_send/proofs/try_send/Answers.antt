use mathlib.Core.Path.{refl, sym, ap}
use Rattle.paper.specs.Portions.{portion_by}
use Rattle.paper.specs.Dialogues.{Place, portion_refusal}
use Rattle.paper.specs.Calls.{place_at}
use Rattle.paper.specs.Layout.{view}
use Rattle.writing_portions.specs.Forms.{form_for}
use Rattle.call_entry.specs.Prologue.{meets-as}
use Rattle.call_entry.specs.Replies.{with_space}
use Rattle.call_entry.specs.Ends.{dialogue-entry, dialogue-refusal}
use Rattle.call_given.specs.Portion.{first-zero}
use Rattle.call_send.specs.Sendings.{inside-holds, send-done, sending, sending-spaces, sending-refusal, not-abrt, message_for, place_after, state_refusal}
use Rattle.call_send.specs.Messages.{sending-does}
use Rattle.paper.specs.Refusals.{pdu_number}
use Rattle.call_send.proofs.try_send.Goals as goal

pub returns-in_err-p : goal.returns-in_err-p
returns-in_err-p c =
    let m = meets-as (sending-spaces c.args.k c.args.given.name.now c.args.given.information.now) c.in_err-p.ensures in
    dialogue-entry (with_space c.args.table.now c.args.space.now) c.args.service c.args.dialogue (sending c.args.k c.args.given.name.now c.args.given.information.now) c.from_residual.result c.in_err-p.field-0.0 c.from_residual.ensures.1 m.is

pub load-c-requires : goal.load-c-requires
load-c-requires c =
    let u = c.in_ok-p.ensures.inside.used in
    (u.small, u.ready.long)

pub refusal_with-requires : goal.refusal_with-requires
refusal_with-requires c =
    (inside-holds c.in_ok-p.ensures.inside c.load-c.ensures, not-abrt c.args.k c.portion_kind-kind.ensures)

pub returns-in_err-refusal_with : goal.returns-in_err-refusal_with
returns-in_err-refusal_with c =
    let m = meets-as (sending-spaces c.args.k c.args.given.name.now c.args.given.information.now) c.in_ok-p.ensures in
    let x : Place = place_at (view c.args.table.now) c.in_ok-p.p in
    dialogue-refusal (with_space c.args.table.now c.args.space.now) c.args.service c.args.dialogue (sending c.args.k c.args.given.name.now c.args.given.information.now) c.in_ok-p.p m.inside
    c.from_residual-in_err-refusal_with.result c.in_err-refusal_with.field-0.0 c.from_residual-in_err-refusal_with.ensures.1
    (sending-refusal x c.args.given.name.now c.args.given.information.now c.args.k (pdu_number c.portion_kind-kind.result) (state_refusal c.args.k x) _ (ap pdu_number c.portion_kind-kind.ensures) refl c.in_err-refusal_with.ensures)

pub what_follows-f-requires : goal.what_follows-f-requires
what_follows-f-requires c =
    let x : Place = place_at (view c.args.table.now) c.in_ok-p.p in
    (inside-holds c.in_ok-p.ensures.inside c.load-c.ensures, not-abrt c.args.k c.portion_kind-kind.ensures, (first-zero (state_refusal c.args.k x) (portion_refusal x (form_for (pdu_number c.portion_kind-kind.result)) c.args.given.name.now c.args.given.information.now) 0 refl c.in_ok-refusal_with.ensures).1)

pub write_message-e-requires : goal.write_message-e-requires
write_message-e-requires c =
    let i = c.in_ok-p.ensures.inside in
    (inside-holds i c.load-c.ensures, c.what_follows-f.ensures, i.within.long.1)

pub leave-requires : goal.leave-requires
leave-requires c =
    (inside-holds c.in_ok-p.ensures.inside c.load-c.ensures, sym (first-zero (state_refusal c.args.k (place_at (view c.args.table.now) c.in_ok-p.p)) _ 0 refl c.in_ok-refusal_with.ensures).0)

pub returns : goal.returns
returns c =
    let m = meets-as (sending-spaces c.args.k c.args.given.name.now c.args.given.information.now) c.in_ok-p.ensures in
    let x : Place = place_at (view c.args.table.now) c.in_ok-p.p in
    send-done c.args.table.now c.args.space.now c.args.service c.args.dialogue (sending c.args.k c.args.given.name.now c.args.given.information.now) c.in_ok-p.p m.inside
    (place_after c.args.k x c.what_follows-f.result.sent.fits) (message_for c.args.k c.args.dialogue x (portion_by (form_for (pdu_number c.portion_kind-kind.result)) c.args.given.name.now c.args.given.information.now) c.what_follows-f.result.sent.fits)
    (sending-refusal x c.args.given.name.now c.args.given.information.now c.args.k (pdu_number c.portion_kind-kind.result) (state_refusal c.args.k x) 0 (ap pdu_number c.portion_kind-kind.ensures) refl c.in_ok-refusal_with.ensures)
    (sending-does c.args.dialogue x c.args.given.name.now c.args.given.information.now c.args.k (pdu_number c.portion_kind-kind.result) (ap pdu_number c.portion_kind-kind.ensures) c.what_follows-f.ensures)
    c.write_message-e.result c.leave.new.t c.write_message-e.new.out c.leave.ensures c.write_message-e.ensures.is refl
