use native.Mathlib.Omega.{arith}
use Rattle.program_text.specs.Said.{said-none, said-next, said_all}
use Rattle.program_text.proofs.word.Goals as goal

pub loop-x-init : goal.loop-x-init
loop-x-init c =
    said-none _ _ (omega arith)

pub loop-x-preserved : goal.loop-x-preserved
loop-x-preserved c =
    said-next c.args.s.now c.loop-x.x-index (omega arith) c.loop-x.invariant c.put-k.ensures

pub returns : goal.returns
returns c =
    said_all c.args.s.now c.loop-x.x-index (omega arith) c.loop-x.invariant
