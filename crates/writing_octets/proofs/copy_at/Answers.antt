use Rattle.std.proofs.Common.{refl, arith, ap, ◌∙◌}
use lib.ListN.{length-set}
use lib.Seq.{sets, take_all}
use Rattle.laws.specs.Runs.{copied_more}
use Rattle.writing_octets.proofs.copy_at.Goals as goal

pub loop-i-init : goal.loop-i-init
loop-i-init c = (refl, refl)

pub loop-i-preserved : goal.loop-i-preserved
loop-i-preserved c = (simp length-set c.loop-i.invariant.0, copied_more _ _ _ _ _ c.loop-i.invariant.1 c.loop-i-test.true)

pub returns : goal.returns
returns c = record { past = refl; holds = c.loop-i.invariant.1 ∙ ap (sets _ _) (take_all _ _ c.loop-i-test.false); long = c.loop-i.invariant.0 }
