use Rattle.std.proofs.Common.{arith, ◌∙◌, ap, is_some, ne_eqb}
use Rattle.laws.specs.If.{eq, ne}
use Rattle.program_digits.specs.Digits.{is_hex}
use Rattle.program_digits.specs.Steps.{base_ok}
use Rattle.program_digits.proofs.is_hex.Goals as goal

pub returns-then-s-eq0 : goal.returns-then-s-eq0
unfolding is_hex
returns-then-s-eq0 c =
    eq _ _ _ _ (omega arith) (c.is_some.ensures ∙ ap is_some c.in_base.ensures ∙ base_ok 16 c.args.s.now)

pub returns-else-s-eq0 : goal.returns-else-s-eq0
unfolding is_hex
returns-else-s-eq0 c =
    ne _ _ _ _ (λ z. omega arith) (ne_eqb _ _ (λ z. omega arith))
