use mathlib.Core.Path.{sym, ◌∙◌}
use native.Mathlib.Omega.{arith}
use Rattle.paper.specs.Dialogues.{Place}
use Rattle.paper.specs.Calls.{place_at}
use Rattle.paper.specs.Layout.{view}
use Rattle.writing_portions.specs.Spans.{portion-length}
use Rattle.call_send.specs.Messages.{given-short, portion-room}
use Rattle.writing_portions.specs.Forms.{not-four}
use Rattle.paper.specs.Refusals.{pdu_number}
use Rattle.call_send.proofs.what_follows.Goals as goal

pub portion_size-portion-requires : goal.portion_size-portion-requires
portion_size-portion-requires c =
    let x : Place = place_at (view c.args.t.now) c.args.p in
    given-short x (pdu_number c.args.kind) c.args.given.name.now c.args.given.information.now c.requires.2 (not-four c.args.kind c.requires.1)

pub sent_of-sent-requires : goal.sent_of-sent-requires
sent_of-sent-requires c =
    let x : Place = place_at (view c.args.t.now) c.args.p in
    (c.requires.0, omega (arith, c.portion_size-portion.ensures.is, portion-length (pdu_number c.args.kind) c.args.given.name.now c.args.given.information.now, portion-room x (pdu_number c.args.kind) c.args.given.name.now c.args.given.information.now c.requires.2))

pub returns : goal.returns
returns c =
    let x : Place = place_at (view c.args.t.now) c.args.p in
    record {
      short = given-short x (pdu_number c.args.kind) c.args.given.name.now c.args.given.information.now c.requires.2 (not-four c.args.kind c.requires.1);
      portion = c.portion_size-portion.ensures.is ∙ sym (portion-length (pdu_number c.args.kind) c.args.given.name.now c.args.given.information.now);
      sends = c.sent_of-sent.ensures;
    }
