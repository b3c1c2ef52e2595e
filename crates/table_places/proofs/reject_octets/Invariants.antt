use Rattle.std.proofs.Common.{◌≡◌, ◌%◌}
use Rattle.paper.specs.Dialogues.{no_reject}
use Rattle.table_places.specs.Made.{made_reject}
use Rattle.table_places.proofs.Writing.{made}
use Rattle.table_places.proofs.reject_octets.Given as goal

abbrev pub invariant-loop-i : goal.invariant-loop-i
invariant-loop-i l = l.o ≡ made (λ r. r.id % 256) made_reject no_reject 8 l.fn.l l.i
