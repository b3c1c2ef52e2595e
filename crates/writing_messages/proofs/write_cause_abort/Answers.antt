use Rattle.std.proofs.Common.{◌+◌, [], ◌∷◌, length, refl, arith}
use Rattle.laws.specs.Runs.{wrote-more, wrote_as}
use Rattle.paper.specs.Messages.{abort_tag}
use Rattle.paper.specs.Writing.{tlv, cause_abort_octets}
use Rattle.writing_octets.specs.Heads.{front-joined}
use Rattle.writing_octets.specs.Lengths.{short-size}
use Rattle.writing_messages.proofs.write_cause_abort.Goals as goal

pub abort_front-a-requires : goal.abort_front-a-requires
abort_front-a-requires c = omega (arith, short-size (2 + length c.args.peer.now + 3) (omega arith))

pub write_single-requires : goal.write_single-requires
write_single-requires c = omega (arith, short-size (2 + length c.args.peer.now + 3) (omega arith))

pub returns : goal.returns
unfolding cause_abort_octets
returns c =
    record {
      is = wrote_as (wrote-more c.abort_front-a.ensures.is refl c.write_single.ensures) (front-joined abort_tag (tlv 0x49 c.args.peer.now) (0x4A ∷ 1 ∷ c.args.cause ∷ []) 3 refl);
      within = omega (arith, short-size (2 + length c.args.peer.now + 3) (omega arith));
    }
