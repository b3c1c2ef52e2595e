use Rattle.std.proofs.Common.{◌∙◌, sym, eqb-true, arith}
use Rattle.std.proofs.lemmas.Bool.{eqb-false}
use Rattle.program_text.specs.Said.{said-none}
use Rattle.program_digits.specs.Digits.{hex}
use Rattle.program_digits.specs.Steps.{hex-next, hex-all, hex-none}
use Rattle.program_digits.proofs.octets.Goals as goal

pub returns-then-is_empty : goal.returns-then-is_empty
returns-then-is_empty c =
    hex-none c.args.s.now (eqb-true _ _ (sym c.is_empty.ensures ∙ c.if-is_empty.true)) c.put.ensures

pub loop-x-init : goal.loop-x-init
unfolding hex
loop-x-init c =
    said-none _ _ (omega arith)

pub loop-x-preserved : goal.loop-x-preserved
loop-x-preserved c =
    hex-next c.args.s.now c.loop-x.x-index (omega arith) c.loop-x.invariant c.octet-k.ensures

pub returns : goal.returns
returns c =
    hex-all c.args.s.now c.loop-x.x-index (eqb-false _ _ (sym c.is_empty.ensures ∙ c.if-is_empty.false)) (omega arith) c.loop-x.invariant
