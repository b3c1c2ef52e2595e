use mathlib.Core.Path.{ap, ◌∙◌}
use Rattle.laws.specs.If.{yes, no}
use Rattle.paper.specs.Invocations.{all_transmitted}
use Rattle.paper.specs.Dialogues.{without_rejects}
use Rattle.call_send_parts.proofs.control_after.Goals as goal

pub returns-then-fits : goal.returns-then-fits
returns-then-fits c =
    yes _ _ _ c.if-fits.true
    (c.without_rejects.ensures ∙ ap without_rejects (c.sent_out-e.ensures ∙ ap all_transmitted c.in_state-d.ensures))

pub returns-else-fits : goal.returns-else-fits
returns-else-fits c =
    no _ _ _ c.if-fits.false (c.sent_out-e.ensures ∙ ap all_transmitted c.in_state-d.ensures)
