use Rattle.std.proofs.Common.{ℕ, ◌+◌, length, ap, ◌∙◌}
use Rattle.std.proofs.lemmas.Bool.{eqb-true, eq-eqb}
use Rattle.writing_octets.specs.Lengths.{element_size, none-size, both-size}
use Rattle.writing_components.proofs.result_size.Goals as goal

pub returns-then-is_empty : goal.returns-then-is_empty
returns-then-is_empty c = none-size _ _ (eqb-true (length c.args.op.now) 0 (cc))

pub returns-else-is_empty : goal.returns-else-is_empty
returns-else-is_empty c =
    c.element_size-else-is_empty.ensures.is ∙ ap (λ (k : ℕ). element_size (3 + k)) c.element_size.ensures.is ∙ both-size _ _ (λ h. cc (eq-eqb (length c.args.op.now) 0 h))
