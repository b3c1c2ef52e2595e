use Rattle.std.proofs.Common.{◌≡◌, take}
use lib.Seq.{sets}
use Rattle.program_digits.specs.Digits.{octets}
use Rattle.program_digits.proofs.decode.Given as goal

abbrev pub invariant-loop-i : goal.invariant-loop-i
invariant-loop-i l = l.s ≡ sets l.initial.s 0 (take l.i (octets l.initial.s))
