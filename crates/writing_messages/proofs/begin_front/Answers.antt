use mathlib.Core.Path.{ap, sym}
use native.Mathlib.Omega.{arith}
use Rattle.laws.specs.Runs.{wrote_as}
use Rattle.paper.specs.Writing.{tlv}
use Rattle.writing_octets.specs.Lengths.{front-wrote, id-length}
use Rattle.writing_messages.proofs.begin_front.Goals as goal

pub returns : goal.returns
returns c =
    let w = c.write_head-a.ensures in
    let v = wrote_as c.write_id.ensures.is (ap (tlv 0x48) c.id_octets-own.ensures) in
    record { is = front-wrote 0x62 6 c.args.m w v (sym (id-length _ _ (omega arith))); within = omega arith }
