use native.Mathlib.Omega.{arith}
use mathlib.Core.Path.{◌≡◌, refl, sym, ◌∙◌}
use mathlib.Core.Bool.{Bool, true, false, not}
use borrow.Author.Tests.{eqb-true, eqb-false}
use lib.Dec.{eqb}
use Rattle.paper.specs.Layout.{view}
use Rattle.laws.specs.If.{ne}
use Rattle.paper.specs.Calls.{assigned}
use Rattle.table_laws.proofs.Owners.{owned-is}
use Rattle.call_receive_parts.proofs.Laws.{assigned-open, assigned-other, assigned-none}
use Rattle.call_receive_parts.proofs.assigned.Goals as goal

pub returns-then-m-ne4 : goal.returns-then-m-ne4
unfolding assigned
returns-then-m-ne4 c =
    ne _ _ _ _ (λ h. omega arith) refl

pub state_at-requires : goal.state_at-requires
state_at-requires c =
    let o = owned-is _ _ _ (sym c.owner.ensures ∙ c.if-owner.true) in
    (o.small, c.requires.0.long)

pub returns-then-owner : goal.returns-then-owner
returns-then-owner c = go (eqb c.state_at.result 1) refl
  where
    go : (b : Bool) → eqb c.state_at.result 1 ≡ b → not b ≡ assigned (view c.args.t.now) c.args.service c.args.s.now c.args.m
    go true q = assigned-open _ _ _ _ (omega arith) _ c.number_at-me.ensures (sym c.owner.ensures ∙ c.if-owner.true) (sym c.state_at.ensures ∙ eqb-true _ _ q)
    go false q = assigned-other _ _ _ _ (omega arith) _ c.number_at-me.ensures (sym c.owner.ensures ∙ c.if-owner.true) (λ h. eqb-false _ _ q (c.state_at.ensures ∙ h))

pub returns-else-owner : goal.returns-else-owner
returns-else-owner c =
    c.if-owner.false ∙ assigned-none _ _ _ _ (omega arith) _ c.number_at-me.ensures (sym c.owner.ensures ∙ c.if-owner.false)
