use Rattle.std.proofs.Common.{ap, ◌∙◌}
use Rattle.laws.specs.If.{eq, ne}
use Rattle.paper.specs.declared.Control.{Control}
use Rattle.paper.specs.Invocations.{with_reject}
use Rattle.dialogue_acts.specs.Told.{changed}
use Rattle.dialogue_acts.proofs.changed.Goals as goal

pub returns-then-t-eq-ROW_REJECTED : goal.returns-then-t-eq-ROW_REJECTED
unfolding changed
returns-then-t-eq-ROW_REJECTED c =
    eq _ _ _ _ c.if-t-eq-ROW_REJECTED.true (c.wait.ensures ∙ ap (λ (d : Control). with_reject d (record { id = c.args.id; problem = c.args.t.problem })) c.turned-d.ensures.is)

pub returns : goal.returns
unfolding changed
returns c = ne _ _ _ _ c.if-t-eq-ROW_REJECTED.false c.turned-d.ensures.is
