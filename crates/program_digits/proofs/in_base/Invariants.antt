use Rattle.program_digits.specs.Steps.{Left}
use Rattle.program_digits.proofs.in_base.Given as goal

abbrev pub invariant-loop-x : goal.invariant-loop-x
invariant-loop-x l = Left l.base l.s l.value l.x-index
