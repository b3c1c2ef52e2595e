use Rattle.std.proofs.Common.{◌≡◌, ℕ, ◌<◌, sym, ap, ◌∙◌, subst}
use Rattle.std.specs.Prelude.{Option, unwrap_or}
use Rattle.laws.specs.If.{eq, ne}
use Rattle.paper.specs.Sizes.{most_invocations}
use Rattle.paper.specs.Invocations.{slot_of, invocation_of}
use Rattle.call_pass.proofs.rejected_by.Goals as goal

pub returns-then-problem-eq1 : goal.returns-then-problem-eq1
returns-then-problem-eq1 c =
    record { slot = c.unchanged.ensures.slot; is = eq _ _ _ _ c.if-problem-eq1.true c.unchanged.ensures.is }

pub returns : goal.returns
unfolding invocation_of
returns c =
    let at : c.unwrap-at.result ≡ slot_of c.args.l c.args.id =
    ap (λ (o : Option ℕ). unwrap_or o 8) (sym c.unwrap-at.ensures) ∙ c.slot_of.ensures.is ∙ ap (slot_of c.args.l) c.from.ensures in
    record { slot = subst (λ (k : ℕ). k < most_invocations) (sym at) (c.requires c.if-problem-eq1.false); is = ne _ _ _ _ c.if-problem-eq1.false (cc at) }
