use Rattle.std.proofs.Common.{refl, sym, arith}
use Rattle.laws.specs.If.{no}
use Rattle.paper.specs.Components.{framed}
use Rattle.reading_components.specs.Steps.{component-none, component-framed, framed-nested, framed-bad}
use Rattle.reading_components.proofs.component_at.Goals as goal

pub returns-in-Nowhere : goal.returns-in-Nowhere
returns-in-Nowhere c =
    let both = component-none _ (λ i. omega (arith, c.type_inv.s i)) _ _ _ _ _ c.tag_at-t.ensures c.in-Nowhere.ensures.is refl refl in
    record { is = both.0; within = both.1 }

pub returns-in-Sound : goal.returns-in-Sound
returns-in-Sound c =
    let both = component-framed _ (λ i. omega (arith, c.type_inv.s i)) _ _ _ _ _ c.tag_at-t.ensures c.in-Sound.ensures.is (λ z. omega (arith, c.in-Sound.ensures.stands))
    (framed-nested _ _ _ _ _ _ (sym c.if-known_tag.ensures) (sym c.in-Sound.ensures.sound) c.pieces.ensures) in
    record { is = both.0; within = both.1 }

pub returns-in-Broken : goal.returns-in-Broken
returns-in-Broken c =
    let both = component-framed _ (λ i. omega (arith, c.type_inv.s i)) _ _ _ _ _ c.tag_at-t.ensures c.in-Broken.ensures.is (λ z. omega (arith, c.in-Broken.ensures.stands))
    (framed-bad _ _ _ _ _ _ (sym c.if-known_tag-2.ensures) (sym c.in-Broken.ensures.sound) c.misnested.ensures) in
    record { is = both.0; within = both.1 }

pub returns-in-Sound-2 : goal.returns-in-Sound-2
unfolding framed
returns-in-Sound-2 c =
    let both = component-framed _ (λ i. omega (arith, c.type_inv.s i)) _ _ _ _ _ c.tag_at-t.ensures c.in-Sound.ensures.is (λ z. omega (arith, c.in-Sound.ensures.stands))
    (no _ _ _ (sym c.if-known_tag.ensures) c.unrecognized.ensures) in
    record { is = both.0; within = both.1 }

pub returns-in-Broken-2 : goal.returns-in-Broken-2
unfolding framed
returns-in-Broken-2 c =
    let both = component-framed _ (λ i. omega (arith, c.type_inv.s i)) _ _ _ _ _ c.tag_at-t.ensures c.in-Broken.ensures.is (λ z. omega (arith, c.in-Broken.ensures.stands))
    (no _ _ _ (sym c.if-known_tag-2.ensures) c.unrecognized-in-Broken-2.ensures) in
    record { is = both.0; within = both.1 }
