use mathlib.Core.Path.{◌≡◌, refl, ap}
use Prim.Native.Nat.{◌+◌}
use native.Mathlib.Omega.{arith}
use Rattle.laws.specs.Runs.{wrote_none, wrote_as}
use Rattle.writing_octets.specs.Heads.{element_head}
use Rattle.writing_octets.specs.Lengths.{front-wrote}
use Rattle.writing_messages.proofs.uni_front.Goals as goal

pub returns : goal.returns
returns c =
    let e : c.args.m ≡ 0 + c.args.m = omega arith in
    let w = wrote_as c.write_head.ensures (ap (element_head 0x61) e) in
    record { is = front-wrote 0x61 0 c.args.m w (wrote_none _ _) refl; within = omega arith }
