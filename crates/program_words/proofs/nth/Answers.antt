use Rattle.std.proofs.Common.{arith, refl}
use Rattle.program_words.specs.Words.{after}
use Rattle.program_words.specs.Steps.{after_next, field_is}
use Rattle.program_words.proofs.nth.Goals as goal

pub loop-init : goal.loop-init
unfolding after
loop-init c =
    (omega arith, refl)

pub loop-preserved : goal.loop-preserved
loop-preserved c =
    (omega arith, after_next c.args.separator c.args.line.now c.loop.counter c.loop.start c.past-start.result c.loop.invariant.1 c.past-start.ensures.0)

pub returns : goal.returns
returns c =
    field_is c.args.separator c.args.line.now c.loop.counter c.args.k c.loop.start c.end_of.result (omega arith) (omega arith) c.loop.invariant.1 c.end_of.ensures.0
