use mathlib.Core.Path.{refl, ap}
use native.Mathlib.Omega.{arith}
use Rattle.laws.specs.Runs.{wrote_as, wrote-more}
use Rattle.writing_octets.specs.Lengths.{element_size}
use Rattle.writing_portions.specs.Forms.{form_for, around-small, around-size, around-head}
use Rattle.paper.specs.Refusals.{pdu_number}
use Rattle.writing_portions.proofs.write_around.Goals as goal

pub write_head-a-requires : goal.write_head-a-requires
write_head-a-requires c =
    let n = c.args.n in
    let held = c.held_size-held.ensures.is in
    let external = c.element_size.ensures.is in
    omega (arith, held, external, around-size n _ _ held external, around-small n)

pub write_head-b-requires : goal.write_head-b-requires
write_head-b-requires c =
    let n = c.args.n in
    let held = c.held_size-held.ensures.is in
    let external = c.element_size.ensures.is in
    omega (arith, held, external, around-size n _ _ held external)

pub copy_at-d-requires : goal.copy_at-d-requires
copy_at-d-requires c =
    let n = c.args.n in
    let held = c.held_size-held.ensures.is in
    let external = c.element_size.ensures.is in
    omega (arith, held, external, around-size n _ _ held external)

pub write_head-e-requires : goal.write_head-e-requires
write_head-e-requires c =
    let n = c.args.n in
    let held = c.held_size-held.ensures.is in
    let external = c.element_size.ensures.is in
    let pdu = c.element_size-2.ensures.is in
    omega (arith, held, external, around-size n _ _ held external, ap element_size pdu)

pub write_head-requires : goal.write_head-requires
write_head-requires c =
    let n = c.args.n in
    let held = c.held_size-held.ensures.is in
    let external = c.element_size.ensures.is in
    let pdu = c.element_size-2.ensures.is in
    omega (arith, held, external, around-size n _ _ held external, pdu, ap element_size pdu)

pub returns : goal.returns
returns c =
    let a = c.write_head-a.ensures in
    let b = c.write_head-b.ensures in
    let d = c.copy_at-d.ensures in
    let e = c.write_head-e.ensures in
    let g = c.write_head.ensures in
    let held = c.held_size-held.ensures.is in
    let external = c.element_size.ensures.is in
    let pdu = c.element_size-2.ensures.is in
    wrote_as (wrote-more a refl (wrote-more b refl (wrote-more d refl (wrote-more e refl g))))
    (around-head c.args.n _ _ held external (form_for (pdu_number c.args.kind)) c.identifier-object.ensures pdu c.tag_of.ensures)
