use native.Mathlib.Omega.{arith}
use mathlib.Core.Path.{refl, sym, ◌∙◌}
use Rattle.laws.specs.If.{eq}
use Rattle.paper.specs.Calls.{faulted}
use Rattle.paper.specs.Layout.{view}
use Rattle.call_receive_parts.specs.Receives.{receives-as}
use Rattle.call_receive_parts.proofs.Laws.{assigned-is, owned-standing, drop-receives, run_is, abort-fits, fault-assigned, fault-none}
use Rattle.call_receive_parts.proofs.faulted.Goals as goal

pub returns-then-id-eq0 : goal.returns-then-id-eq0
unfolding faulted
returns-then-id-eq0 c =
    receives-as (eq _ _ _ _ (omega arith) refl) (drop-receives _ _ _ c.requires.0)

pub number_at-me-requires : goal.number_at-me-requires
number_at-me-requires c =
    let k = assigned-is (view c.args.t.now) c.args.service c.args.s.now c.args.m (sym c.assigned.ensures ∙ c.if-assigned.true) in
    omega (arith, k.0, c.requires.1.lies.destination.lies)

pub faulted_at-requires : goal.faulted_at-requires
faulted_at-requires c =
    let k = assigned-is (view c.args.t.now) c.args.service c.args.s.now c.args.m (sym c.assigned.ensures ∙ c.if-assigned.true) in
    (owned-standing c.args.t.now c.requires.0 c.args.service _ _ c.number_at-me.ensures k.1, omega arith)

pub overflow_cast-result : goal.overflow_cast-result
overflow_cast-result c =
    omega (arith, c.write_cause_abort-n.ensures.is.past, abort-fits c.args.s.now c.args.m.origin.start c.args.m.origin.length c.args.cause c.requires.1.lies.origin.short)

pub returns-then-assigned : goal.returns-then-assigned
returns-then-assigned c =
    fault-assigned _ _ _ _ (run_is c.args.s.now c.args.m.origin.start c.args.m.origin.length) _ c.requires.0 _ _ _ _ _ (λ h. omega arith) c.write_cause_abort-n.ensures.is (sym c.assigned.ensures ∙ c.if-assigned.true) _ c.number_at-me.ensures _ _ c.faulted_at.ensures

pub overflow_cast-result-2 : goal.overflow_cast-result-2
overflow_cast-result-2 c =
    omega (arith, c.write_cause_abort-n.ensures.is.past, abort-fits c.args.s.now c.args.m.origin.start c.args.m.origin.length c.args.cause c.requires.1.lies.origin.short)

pub returns : goal.returns
returns c =
    fault-none _ _ _ _ (run_is c.args.s.now c.args.m.origin.start c.args.m.origin.length) _ c.requires.0 _ _ _ _ _ (λ h. omega arith) c.write_cause_abort-n.ensures.is (sym c.assigned.ensures ∙ c.if-assigned.false)
