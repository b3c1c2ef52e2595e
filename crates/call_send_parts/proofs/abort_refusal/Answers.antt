use mathlib.Core.Path.{sym, ◌∙◌}
use native.Mathlib.Omega.{arith}
use Rattle.call_send_parts.specs.Refused.{abort-long, abort-wrong, abort-over, abort-fits}
use Rattle.call_send_parts.proofs.abort_refusal.Goals.{then-portion-gt-MOST_WAITING-via-then-portion-gt-MOST_WAITING, then-portion-gt-MOST_WAITING-via-else-portion-gt-MOST_WAITING+then-abort_size-gt-MOST_WAITING}
use Rattle.call_send_parts.proofs.abort_refusal.Goals as goal

pub returns-then-not-is_abort : goal.returns-then-not-is_abort
returns-then-not-is_abort c =
    abort-wrong c.args.portion.now (sym c.is_abort.ensures ∙ c.if-not-is_abort.true)

pub returns-then-portion-gt-MOST_WAITING : goal.returns-then-portion-gt-MOST_WAITING
returns-then-portion-gt-MOST_WAITING c =
    abort-over c.args.portion.now (sym c.is_abort.ensures ∙ c.if-not-is_abort.false)
    (elim c.then-portion-gt-MOST_WAITING.branch [
      | then-portion-gt-MOST_WAITING-via-then-portion-gt-MOST_WAITING w ↦ abort-long c.args.portion.now w.if-portion-gt-MOST_WAITING.true
      | then-portion-gt-MOST_WAITING-via-else-portion-gt-MOST_WAITING+then-abort_size-gt-MOST_WAITING w ↦ omega (arith, w.abort_size.ensures, w.if-abort_size-gt-MOST_WAITING.true)
    ])

pub returns : goal.returns
returns c =
    abort-fits c.args.portion.now (sym c.is_abort.ensures ∙ c.if-not-is_abort.false) (omega (arith, c.abort_size.ensures, c.if-abort_size-gt-MOST_WAITING.false))
