use Rattle.call_given.specs.Pieces.{both_long}
use native.Mathlib.Omega.{arith}
use mathlib.Core.Path.{sym, ◌∙◌}
use Rattle.call_given.proofs.both_refusal.Goals as goal

pub returns-then-op-gt-MOST_WAITING : goal.returns-then-op-gt-MOST_WAITING
returns-then-op-gt-MOST_WAITING c =
    both_long c.args.n c.args.op.now c.args.par.now (sym c.is_result.ensures ∙ c.if-not-is_result.false) (omega (arith, c.then-op-gt-MOST_WAITING.either))
