use native.Mathlib.Omega.{arith}
use Rattle.laws.specs.Runs.{wrote_as}
use Rattle.writing_octets.specs.Lengths.{plain_size, linked-size, invoke-plain, invoke-linked}
use Rattle.writing_components.proofs.write_invoke.Goals as goal

pub write_plain-requires : goal.write_plain-requires
write_plain-requires c =
    omega (arith, plain_size c.args.op.now c.args.par.now c.args.linked c.if-linked-eq-NO_ID.true)

pub returns-then-linked-eq-NO_ID : goal.returns-then-linked-eq-NO_ID
returns-then-linked-eq-NO_ID c =
    record { is = wrote_as c.write_plain.ensures.is (invoke-plain _ _ _ _ c.if-linked-eq-NO_ID.true); within = omega (arith, plain_size c.args.op.now c.args.par.now c.args.linked c.if-linked-eq-NO_ID.true) }

pub write_linked-requires : goal.write_linked-requires
write_linked-requires c =
    omega (arith, linked-size c.args.op.now c.args.par.now c.args.linked c.if-linked-eq-NO_ID.false)

pub returns-else-linked-eq-NO_ID : goal.returns-else-linked-eq-NO_ID
returns-else-linked-eq-NO_ID c =
    record { is = wrote_as c.write_linked.ensures.is (invoke-linked _ _ _ _ c.if-linked-eq-NO_ID.false); within = omega (arith, linked-size c.args.op.now c.args.par.now c.args.linked c.if-linked-eq-NO_ID.false) }
