use mathlib.Core.Path.{sym, ap, ◌∙◌}
use mathlib.Core.List.{[]}
use lib.ListN.{length}
use Rattle.writing_portions.specs.Spans.{portion-length}
use Rattle.call_send_parts.specs.Refused.{abort-by, abort-given}
use Rattle.call_send_parts.proofs.abort_size.Goals as goal

pub returns-then-is_told : goal.returns-then-is_told
returns-then-is_told c =
    c.portion_size.ensures.is ∙ sym (portion-length 4 [] c.args.portion.now) ∙ ap length (abort-by c.args.portion.now (sym c.is_told.ensures ∙ c.if-is_told.true))

pub returns-else-is_told : goal.returns-else-is_told
returns-else-is_told c =
    ap length (abort-given c.args.portion.now (sym c.is_told.ensures ∙ c.if-is_told.false))
