use native.Mathlib.Omega.{arith}
use mathlib.Core.Path.{refl, ◌∙◌}
use Rattle.call_receive_rows.proofs.Loop.{rest-start, rest_more, rest_end}
use Rattle.call_receive_rows.proofs.show.Goals as goal

pub loop-at-init : goal.loop-at-init
loop-at-init c =
    rest-start _ _ _ _ _ _ _ (omega arith)

pub changed-last-requires : goal.changed-last-requires
changed-last-requires c =
    λ h. omega (arith, c.step-p.ensures.waits h, c.requires.3)

pub shape_of-rows-then-at-lim : goal.shape_of-rows-then-at-lim
shape_of-rows-then-at-lim c =
    c.write_row.ensures.long ∙ c.loop-at.invariant.long

pub returns-then-at-lim : goal.returns-then-at-lim
returns-then-at-lim c =
    rest_end _ _ _ _ _ _ _ c.loop-at.invariant c.step-p.result (c.step-p.ensures.is _ refl refl) _ c.changed-last.ensures _ c.write_row.ensures.is c.write_row.ensures.long c.requires.2 c.if-at-lim.true

pub changed-c-requires : goal.changed-c-requires
changed-c-requires c =
    λ h. omega (arith, c.step-p.ensures.waits h, c.requires.3)

pub loop-at-smaller-then-is_change : goal.loop-at-smaller-then-is_change
loop-at-smaller-then-is_change c =
    omega (arith, c.step-p.ensures.within.five (omega arith))

pub loop-at-preserved-then-is_change : goal.loop-at-preserved-then-is_change
loop-at-preserved-then-is_change c =
    rest_more _ _ _ _ _ _ _ c.loop-at.invariant c.step-p.result (c.step-p.ensures.is _ refl refl) _ c.changed-c.ensures _ c.write_row.ensures.is c.write_row.ensures.long c.step-p.ensures.within (omega arith)

pub loop-at-smaller : goal.loop-at-smaller
loop-at-smaller c =
    omega (arith, c.step-p.ensures.within.five (omega arith))

pub loop-at-preserved : goal.loop-at-preserved
loop-at-preserved c =
    rest_more _ _ _ _ _ _ _ c.loop-at.invariant c.step-p.result (c.step-p.ensures.is _ refl refl) _ (c.is_change.ensures c.if-is_change.false _ _) _ c.write_row.ensures.is c.write_row.ensures.long c.step-p.ensures.within (omega arith)
