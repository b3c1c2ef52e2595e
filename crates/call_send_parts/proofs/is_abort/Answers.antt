use Rattle.call_send_parts.specs.Refused.{abort-block, abort-whole}
use mathlib.Core.Path.{sym, ◌∙◌}
use Rattle.call_send_parts.proofs.is_abort.Goals as goal

pub returns-then-is_told : goal.returns-then-is_told
returns-then-is_told c =
    c.is_block.ensures ∙ abort-block c.args.portion.now (sym c.is_told.ensures ∙ c.if-is_told.true)

pub returns-else-is_told : goal.returns-else-is_told
returns-else-is_told c =
    c.is_portion.ensures ∙ abort-whole c.args.portion.now (sym c.is_told.ensures ∙ c.if-is_told.false)
