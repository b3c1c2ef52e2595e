use mathlib.Core.Path.{sym, ap}
use Rattle.paper.specs.declared.Control.{Control}
use Rattle.paper.specs.Dialogues.{Place, portion_refusal}
use Rattle.paper.specs.Calls.{place_at}
use Rattle.paper.specs.Layout.{view}
use Rattle.paper.specs.Refusals.{answer_of}
use Rattle.writing_portions.specs.Forms.{form_for}
use Rattle.call_given.specs.Portion.{refusal_is, first-none, first-refusal}
use Rattle.call_send.specs.Sendings.{state_refusal}
use Rattle.paper.specs.Refusals.{pdu_number}
use Rattle.call_send.proofs.refusal_with.Goals as goal

pub returns-in_err-state_refusal : goal.returns-in_err-state_refusal
returns-in_err-state_refusal c =
    let x : Place = place_at (view c.args.t.now) c.args.p in
    first-refusal (state_refusal c.args.k x) (portion_refusal x (form_for (pdu_number c.args.kind)) c.args.given.name.now c.args.given.information.now)
    c.from_residual.result c.in_err-state_refusal.field-0.0 c.from_residual.ensures.1 c.in_err-state_refusal.ensures

pub returns : goal.returns
returns c =
    let x : Place = place_at (view c.args.t.now) c.args.p in
    first-none (state_refusal c.args.k x) (portion_refusal x (form_for (pdu_number c.args.kind)) c.args.given.name.now c.args.given.information.now) _ (sym c.in_ok-state_refusal.ensures)
    (refusal_is x c.waiting_length-n.result c.args.c.state (pdu_number c.args.kind) (answer_of c.portion_refusal.result) c.args.given.name.now c.args.given.information.now c.waiting_length-n.ensures.0
    (ap (λ (k : Control). k.state) c.requires.0.control) c.portion_refusal.ensures)
