use native.Mathlib.Omega.{arith}
use Rattle.paper.specs.Portions.{portion_by}
use Rattle.paper.specs.Dialogues.{Place, sent_components}
use Rattle.paper.specs.Calls.{place_at}
use Rattle.paper.specs.Layout.{view}
use Rattle.writing_octets.specs.Lengths.{components-small}
use Rattle.writing_portions.specs.Forms.{form_for}
use Rattle.call_send.specs.Messages.{rest-wrote}
use Rattle.paper.specs.Refusals.{pdu_number}
use Rattle.call_send.proofs.write_rest.Goals as goal

pub write_components-b-requires : goal.write_components-b-requires
write_components-b-requires c =
    (omega (arith, c.requires.1.sends.most, components-small c.args.f.sent.length), omega (arith, c.requires.1.portion, c.requires.2, c.write_given-a.ensures.past, c.write_given-a.ensures.long))

pub returns : goal.returns
returns c =
    let x : Place = place_at (view c.args.t.now) c.args.p in
    rest-wrote c.args.f.sent.length (portion_by (form_for (pdu_number c.args.kind)) c.args.given.name.now c.args.given.information.now) (sent_components x c.args.f.sent.fits) c.requires.1.sends.long
    c.write_given-a.ensures c.write_components-b.ensures c.write_sent.ensures
