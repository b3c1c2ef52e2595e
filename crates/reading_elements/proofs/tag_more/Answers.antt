use Rattle.reading_elements.specs.Steps.{tag-on, tag-over}
use Rattle.laws.specs.If.{lt, ge}
use Rattle.std.proofs.Common.{◌+◌, ◌-◌, ◌≡◌, refl, sym, ◌∙◌, ap, arith}
use Rattle.paper.specs.Elements.{tag_more}
use Rattle.reading_elements.proofs.tag_more.Goals as goal

pub returns-then-s-p-lt128-clause-is : goal.returns-then-s-p-lt128-clause-is
returns-then-s-p-lt128-clause-is c =
    lt _ _ _ _ (omega arith) (lt _ _ _ _ (omega arith) refl) ∙ tag-on _ _ _ _ (λ h. omega arith) ∙ sym c.loop-p.invariant

pub loop-p-preserved : goal.loop-p-preserved
loop-p-preserved c =
    let a = c.args in
    let e : a.at + 4 - c.loop-p.p - 1 ≡ a.at + 4 - (c.loop-p.p + 1) = omega arith in
    c.loop-p.invariant
    ∙ sym (lt _ _ _ _ (omega arith) (ge _ _ _ _ (omega arith) (ap (λ n. tag_more a.s.now a.lim n (c.loop-p.p + 1)) (sym e))) ∙ tag-on _ _ _ _ (λ h. omega arith))

pub returns-clause-is : goal.returns-clause-is
returns-clause-is c = tag-over _ _ _ _ (λ h. omega arith) ∙ sym c.loop-p.invariant
