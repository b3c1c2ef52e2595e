use Rattle.std.proofs.Common.{◌≡◌, None, ◌∙◌, arith, get_or}
use Rattle.program_digits.specs.Digits.{hex_digit}
use Rattle.program_digits.specs.Steps.{left-next, left-none, left-all, no_digit, some_digit}
use Rattle.program_digits.proofs.in_base.Goals as goal

pub returns-in_err-d : goal.returns-in_err-d
returns-in_err-d c =
    let e : None ≡ hex_digit (get_or c.args.s.now c.loop-x.x-index 0) = cc (c.in_err-d.was) in
    c.from_residual.ensures ∙ left-none c.args.base c.args.s.now c.loop-x.value c.loop-x.x-index (omega arith) (omega (arith, no_digit _ e)) c.loop-x.invariant

pub returns-then-d-base : goal.returns-then-d-base
returns-then-d-base c =
    let d = some_digit (get_or c.args.s.now c.loop-x.x-index 0) c.in_ok-d.d (cc (c.in_ok-d.was)) in
    left-none c.args.base c.args.s.now c.loop-x.value c.loop-x.x-index (omega arith) (omega arith) c.loop-x.invariant

pub loop-x-preserved : goal.loop-x-preserved
loop-x-preserved c =
    let d = some_digit (get_or c.args.s.now c.loop-x.x-index 0) c.in_ok-d.d (cc (c.in_ok-d.was)) in
    left-next c.args.base c.args.s.now c.loop-x.value _ c.loop-x.x-index (omega arith) (omega arith) (omega arith) (omega (arith, c.with_digit-value.ensures)) c.loop-x.invariant

pub returns : goal.returns
returns c =
    left-all c.args.base c.args.s.now c.loop-x.value c.loop-x.x-index (omega arith) c.loop-x.invariant
