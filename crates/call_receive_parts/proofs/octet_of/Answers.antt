use native.Mathlib.Omega.{arith}
use Rattle.call_receive_parts.proofs.Laws.{octet-in, octet-past}
use Rattle.call_receive_parts.proofs.octet_of.Goals as goal

pub returns-then-i-id : goal.returns-then-i-id
returns-then-i-id c =
    octet-in c.args.s.now c.args.id.start c.args.id.length c.args.i (omega arith)

pub returns-else-i-id : goal.returns-else-i-id
returns-else-i-id c =
    octet-past c.args.s.now c.args.id.start c.args.id.length c.args.i (omega arith)
