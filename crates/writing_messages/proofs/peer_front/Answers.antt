use Rattle.std.proofs.Common.{◌+◌, length, sym, arith}
use Rattle.writing_octets.specs.Lengths.{front-wrote, id-length}
use Rattle.writing_messages.proofs.peer_front.Goals as goal

pub returns-clause-is : goal.returns-clause-is
returns-clause-is c =
    front-wrote c.args.tag (2 + length c.args.peer.now) c.args.m c.write_head-a.ensures c.write_id.ensures.is (sym (id-length _ _ (omega arith)))
