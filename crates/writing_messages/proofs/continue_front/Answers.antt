use mathlib.Core.Path.{ap, refl}
use Prim.Native.Nat.{◌+◌}
use native.Mathlib.Omega.{arith}
use lib.ListN.{length, length-append}
use Rattle.laws.specs.Runs.{wrote_as, wrote-more}
use Rattle.paper.specs.Sizes.{id_octets}
use Rattle.paper.specs.Writing.{tlv}
use Rattle.writing_octets.specs.Lengths.{front-wrote, id-length}
use Rattle.writing_messages.proofs.continue_front.Goals as goal

pub returns-clause-is : goal.returns-clause-is
returns-clause-is c =
    let own = tlv 0x48 (id_octets c.args.dialogue) in
    let peer = tlv 0x49 c.args.peer.now in
    let u = wrote_as c.write_id-b.ensures.is (ap (tlv 0x48) c.id_octets-own.ensures) in
    let n = id-length 0x48 (id_octets c.args.dialogue) (omega arith) in
    let k = id-length 0x49 c.args.peer.now (omega arith) in
    front-wrote 0x65 (8 + length c.args.peer.now) c.args.m c.write_head-a.ensures (wrote-more u refl c.write_id.ensures.is) (omega (arith, length-append own peer, n, k))
