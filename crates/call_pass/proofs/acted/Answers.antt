use mathlib.Core.Path.{sym, ap, subst, ◌∙◌}
use Rattle.call_pass.specs.Passings.{invocations_after, Acts}
use Rattle.call_pass.proofs.acted.Goals as goal

pub invoked-requires : goal.invoked-requires
invoked-requires c =
    subst (Acts c.args.l) c.in-AnInvoke.is c.requires

pub rejected_by-requires : goal.rejected_by-requires
rejected_by-requires c =
    subst (Acts c.args.l) c.in-AReject.is c.requires

pub returns-in-AnInvoke : goal.returns-in-AnInvoke
returns-in-AnInvoke c =
    record { slot = c.invoked.ensures.slot; is = c.invoked.ensures.is ∙ ap (invocations_after c.args.l) (sym c.in-AnInvoke.is) }

pub returns-in-AResult : goal.returns-in-AResult
returns-in-AResult c =
    record { slot = c.unchanged.ensures.slot; is = c.unchanged.ensures.is ∙ ap (invocations_after c.args.l) (sym c.in-AResult.is) }

pub returns-in-AnError : goal.returns-in-AnError
returns-in-AnError c =
    record { slot = c.unchanged-in-AnError.ensures.slot; is = c.unchanged-in-AnError.ensures.is ∙ ap (invocations_after c.args.l) (sym c.in-AnError.is) }

pub returns-in-AReject : goal.returns-in-AReject
returns-in-AReject c =
    record { slot = c.rejected_by.ensures.slot; is = c.rejected_by.ensures.is ∙ ap (invocations_after c.args.l) (sym c.in-AReject.is) }
