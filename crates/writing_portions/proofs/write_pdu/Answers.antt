use mathlib.Core.Path.{refl}
use native.Mathlib.Omega.{arith}
use Rattle.laws.specs.Runs.{wrote_as, wrote-more}
use Rattle.writing_portions.specs.Forms.{pieces-joined}
use Rattle.writing_portions.specs.Spans.{name-length}
use Rattle.paper.specs.Refusals.{pdu_number}
use Rattle.writing_portions.proofs.write_pdu.Goals as goal

pub write_between-b-requires : goal.write_between-b-requires
write_between-b-requires c =
    omega (arith, name-length (pdu_number c.args.kind) c.args.name.now)

pub copy_at-requires : goal.copy_at-requires
copy_at-requires c =
    omega (arith, name-length (pdu_number c.args.kind) c.args.name.now)

pub returns : goal.returns
returns c =
    let name = c.write_name-a.ensures in
    let between = c.write_between-b.ensures in
    let information = c.copy_at.ensures in
    wrote_as (wrote-more name refl (wrote-more between refl information)) (pieces-joined c.args.name.now c.args.information.now (pdu_number c.args.kind))
