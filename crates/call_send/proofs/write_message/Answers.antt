use Rattle.paper.specs.Portions.{portion_by}
use Rattle.paper.specs.Dialogues.{Place, sent_components}
use Rattle.paper.specs.Calls.{place_at}
use Rattle.paper.specs.Layout.{view}
use Rattle.writing_portions.specs.Forms.{form_for}
use Rattle.call_send_parts.specs.Sent.{holds-fine}
use Rattle.call_send.specs.Sendings.{tag_for, ids_for}
use Rattle.call_send.specs.Messages.{rest-small, rest-room, message-wrote, ids-few, joined}
use Rattle.paper.specs.Refusals.{pdu_number}
use Rattle.call_send.proofs.write_message.Goals as goal

pub write_front-a-requires : goal.write_front-a-requires
write_front-a-requires c =
    (holds-fine c.requires.0, rest-small c.args.f.portion c.args.f.sent.length c.rest_size-m.result c.requires.1.sends.most c.rest_size-m.ensures, c.requires.2)

pub write_rest-requires : goal.write_rest-requires
write_rest-requires c =
    (c.requires.0, c.requires.1, rest-room (tag_for c.args.k) c.args.f.portion c.args.f.sent.length c.rest_size-m.result (ids_for c.args.k c.args.dialogue c.args.c) (ids-few c.args.c (holds-fine c.requires.0) c.args.k c.args.dialogue) c.requires.1.sends.most c.rest_size-m.ensures c.write_front-a.ensures c.requires.2)

pub returns : goal.returns
returns c =
    let x : Place = place_at (view c.args.t.now) c.args.p in
    let both = message-wrote (tag_for c.args.k) c.args.f.portion c.args.f.sent.length c.rest_size-m.result (ids_for c.args.k c.args.dialogue c.args.c) (ids-few c.args.c (holds-fine c.requires.0) c.args.k c.args.dialogue) c.requires.1.sends.most c.rest_size-m.ensures c.write_front-a.ensures
    (portion_by (form_for (pdu_number c.args.kind)) c.args.given.name.now c.args.given.information.now) (sent_components x c.args.f.sent.fits) c.requires.1.portion c.requires.1.sends.long c.write_rest.ensures
    (joined c.args.k c.args.dialogue x c.args.c c.requires.0.control (portion_by (form_for (pdu_number c.args.kind)) c.args.given.name.now c.args.given.information.now) c.args.f.sent.fits c.rest_size-m.result) in
    record { is = both.0; within = both.1 }
