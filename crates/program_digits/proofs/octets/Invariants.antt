use lib.ListN.{take}
use Rattle.program_text.specs.Said.{Said}
use Rattle.program_digits.specs.Digits.{hex}
use Rattle.program_digits.proofs.octets.Given as goal

abbrev pub invariant-loop-x : goal.invariant-loop-x
invariant-loop-x l = Said l.initial.out l.at (hex (take l.x-index l.s)) l.k l.out
