use Rattle.laws.specs.Runs.{Wrote}
use Rattle.call_send_parts.specs.Sent.{first_rejects}
use Rattle.call_send_parts.proofs.write_rejects.Given as goal

abbrev pub invariant-loop-w : goal.invariant-loop-w
invariant-loop-w l = Wrote l.initial.out l.at (first_rejects l.w-items l.w-index) l.e l.out
