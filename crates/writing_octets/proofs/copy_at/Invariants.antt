use Rattle.std.proofs.Common.{◌≡◌}
use lib.ListN.{length, take}
use lib.Seq.{sets}
use Rattle.writing_octets.proofs.copy_at.Given as goal

abbrev pub invariant-loop-i : goal.invariant-loop-i
invariant-loop-i l = (length l.out ≡ length l.initial.out) × (l.out ≡ sets l.initial.out l.fn.at (take l.i l.fn.given))
