use Rattle.std.proofs.Common.{sym, ap, ◌∙◌, List, map}
use Rattle.paper.specs.declared.Control.{Control}
use Rattle.paper.specs.declared.Invocation.{Invocation}
use Rattle.paper.specs.Invocations.{with_invocations, transmitted, all_idle, rejecting_ids, all_transmitted}
use Rattle.dialogue_invocations.proofs.sent_out.Goals as goal

pub returns-then-none_rejecting : goal.returns-then-none_rejecting
unfolding all_transmitted all_idle
returns-then-none_rejecting c =
    let a : Control = c.args.c in
    ap (with_invocations a) c.transmit_all.ensures
    ∙ sym (ap (all_idle (with_invocations a (map transmitted a.invocations))) (c.none_rejecting.ensures c.if-none_rejecting.true))

pub returns : goal.returns
unfolding all_transmitted
returns c =
    let a : Control = c.args.c in
    c.settle_all.ensures ∙ ap (λ (m : List Invocation). all_idle (with_invocations a m) (rejecting_ids a.invocations)) c.transmit_all.ensures
