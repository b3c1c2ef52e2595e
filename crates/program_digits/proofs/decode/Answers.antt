use Rattle.std.proofs.Common.{sym, ◌∙◌, refl, arith, ◌+◌, ◌*◌}
use Rattle.program_digits.specs.Steps.{some_digit, decode-some, decode-next, decode-all}
use Rattle.program_digits.proofs.decode.Goals as goal

pub unwrap-high-requires : goal.unwrap-high-requires
unwrap-high-requires c =
    decode-some c.args.s.now c.requires c.loop-i.s c.loop-i.i c.loop-i.invariant (omega arith) (2 * c.loop-i.i) (omega arith) (omega arith) c.digit_of.ensures.value

pub unwrap-low-requires : goal.unwrap-low-requires
unwrap-low-requires c =
    decode-some c.args.s.now c.requires c.loop-i.s c.loop-i.i c.loop-i.invariant (omega arith) (2 * c.loop-i.i + 1) (omega arith) (omega arith) c.digit_of-in-loop-i.ensures.value

pub overflow_mul-s : goal.overflow_mul-s
overflow_mul-s c =
    let d = some_digit _ c.unwrap-high.result (sym c.unwrap-high.ensures ∙ c.digit_of.ensures.value) in
    omega arith

pub overflow_add-s : goal.overflow_add-s
overflow_add-s c =
    let d = some_digit _ c.unwrap-high.result (sym c.unwrap-high.ensures ∙ c.digit_of.ensures.value) in
    let e = some_digit _ c.unwrap-low.result (sym c.unwrap-low.ensures ∙ c.digit_of-in-loop-i.ensures.value) in
    omega arith

pub loop-i-preserved : goal.loop-i-preserved
loop-i-preserved c =
    let d = some_digit _ c.unwrap-high.result (sym c.unwrap-high.ensures ∙ c.digit_of.ensures.value) in
    let e = some_digit _ c.unwrap-low.result (sym c.unwrap-low.ensures ∙ c.digit_of-in-loop-i.ensures.value) in
    decode-next c.args.s.now c.requires c.loop-i.s c.loop-i.i c.loop-i.invariant (omega arith) _ _ _ d.0 e.0 refl

pub returns : goal.returns
returns c =
    decode-all c.args.s.now c.requires c.loop-i.s c.loop-i.i (omega arith) c.loop-i.invariant
