use lib.ListN.{take}
use Rattle.program_text.specs.Said.{Said}
use Rattle.program_text.proofs.word.Given as goal

abbrev pub invariant-loop-x : goal.invariant-loop-x
invariant-loop-x l = Said l.initial.out l.at (take l.x-index l.s) l.k l.out
