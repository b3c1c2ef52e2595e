use Rattle.table_rules.proofs.Laws.{idle-four, idle-one}
use mathlib.Core.Path.{sym, ◌∙◌}
use Rattle.table_rules.proofs.invocations_kept.Goals as goal

pub each_invocation_kept-requires-then-word-ne0-2 : goal.each_invocation_kept-requires-then-word-ne0-2
each_invocation_kept-requires-then-word-ne0-2 c =
    idle-four c.args.rec.now (sym c.word.ensures ∙ c.if-word-ne0.false)

pub each_invocation_kept-requires-2 : goal.each_invocation_kept-requires-2
each_invocation_kept-requires-2 c =
    idle-one c.args.rec.now (sym c.word-2.ensures ∙ c.if-word-ne0-2.false) (sym c.word.ensures ∙ c.if-word-ne0.false)
