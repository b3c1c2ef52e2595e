use Rattle.call_given.specs.Portion.{refusal-none}
use native.Mathlib.Omega.{arith}
use Rattle.std.proofs.Common.{rules}
use Rattle.paper.specs.Refusals.{pdu_number}
use Rattle.call_given.proofs.portion_refusal.Goals as goal

pub returns-then-is_empty-2 : goal.returns-then-is_empty-2
returns-then-is_empty-2 c =
    refusal-none c.args.n c.args.state (pdu_number c.args.kind) c.args.given.name.now c.args.given.information.now (search rules) (search rules) (omega arith)
