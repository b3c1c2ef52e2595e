use Rattle.std.proofs.Common.{length}
use Rattle.program_lines.specs.Within.{Within, Short}
use Rattle.program_lines.proofs.next.Given as goal

abbrev pub invariant-loop : goal.invariant-loop
invariant-loop g l = Within (length l.buf) l.lines × Short (length l.line) l.count
