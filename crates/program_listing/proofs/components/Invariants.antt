use Rattle.program_listing.specs.Listed.{Stands}
use Rattle.program_listing.proofs.components.Given as goal

abbrev pub invariant-loop-p : goal.invariant-loop-p
invariant-loop-p g l = Stands l.fn.msg l.p-iterator l.l
