use Rattle.std.proofs.Common.{refl, arith}
use Rattle.paper.specs.Invocations.{no_invocation}
use Rattle.table_places.specs.Made.{made_invocation}
use Rattle.table_places.proofs.Writing.{made_none, made_more, made_all}
use Rattle.table_places.proofs.invocation_octets.Goals as goal

pub loop-i-init : goal.loop-i-init
loop-i-init c = made_none (λ v. v.id) made_invocation no_invocation 8 _

pub loop-i-preserved : goal.loop-i-preserved
loop-i-preserved c = made_more _ _ _ _ _ c.loop-i.invariant c.loop-i-test.true refl c.invocation_mark.ensures

pub returns : goal.returns
returns c = made_all _ _ _ _ _ c.loop-i.invariant (λ j h k. absurd (omega arith))
