use Rattle.std.proofs.Common.{arith}
use Rattle.program_words.specs.Steps.{past_is}
use Rattle.program_words.proofs.past.Goals as goal

pub returns : goal.returns
returns c =
    (past_is c.args.separator c.args.line.now c.args.from c.end_of.result _ c.end_of.ensures.0 c.min.ensures, omega arith)
