use mathlib.Core.Path.{refl}
use native.Mathlib.Omega.{arith}
use Rattle.laws.specs.Runs.{wrote_as, wrote-more, wrote_none}
use Rattle.writing_portions.specs.Forms.{form_for, identifier-length, around-length}
use Rattle.writing_portions.specs.Spans.{absent, portion-around, portion-joined}
use Rattle.paper.specs.Refusals.{pdu_number}
use Rattle.writing_portions.proofs.write_portion.Goals as goal

pub returns-then-name-information-eq0 : goal.returns-then-name-information-eq0
returns-then-name-information-eq0 c =
    wrote_as (wrote_none _ _) (absent (pdu_number c.args.kind) c.args.name.now c.args.information.now c.if-name-information-eq0.true)

pub write_around-a-requires : goal.write_around-a-requires
write_around-a-requires c =
    let e = c.pdu_size-n.ensures.is in
    let z = portion-around (pdu_number c.args.kind) c.args.name.now c.args.information.now c.if-name-information-eq0.false _ e in
    omega (arith, z)

pub write_pdu-requires : goal.write_pdu-requires
write_pdu-requires c =
    let e = c.pdu_size-n.ensures.is in
    let z = portion-around (pdu_number c.args.kind) c.args.name.now c.args.information.now c.if-name-information-eq0.false _ e in
    let w = c.write_around-a.ensures in
    omega (arith, e, z, w.past, w.long, around-length (form_for (pdu_number c.args.kind)) (identifier-length (pdu_number c.args.kind)) c.pdu_size-n.result)

pub returns : goal.returns
returns c =
    let e = c.pdu_size-n.ensures.is in
    wrote_as (wrote-more c.write_around-a.ensures refl c.write_pdu.ensures)
    (portion-joined (pdu_number c.args.kind) c.args.name.now c.args.information.now c.if-name-information-eq0.false _ e)
