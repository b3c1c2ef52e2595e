use Rattle.std.proofs.Common.{◌≡◌}
use Rattle.paper.specs.Invocations.{no_invocation}
use Rattle.table_places.specs.Made.{made_invocation}
use Rattle.table_places.proofs.Writing.{made}
use Rattle.table_places.proofs.invocation_octets.Given as goal

abbrev pub invariant-loop-i : goal.invariant-loop-i
invariant-loop-i l = l.o ≡ made (λ v. v.id) made_invocation no_invocation 8 l.fn.l l.i
