use Rattle.std.proofs.Common.{length}
use Rattle.program_lines.specs.Within.{Within}
use Rattle.program_play.proofs.lines.Given as goal

abbrev pub invariant-loop : goal.invariant-loop
invariant-loop g l = Within (length l.buf) l.input
