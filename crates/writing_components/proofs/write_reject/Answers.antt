use native.Mathlib.Omega.{arith}
use mathlib.Core.Path.{refl, ◌∙◌}
use Rattle.paper.specs.Writing.{problem_octets}
use Rattle.laws.specs.Runs.{wrote-more, wrote_as}
use Rattle.writing_octets.specs.Lengths.{short-size, element-of, null_size, some_size, reject-none, reject-some}
use mathlib.Core.List.{append_assoc}
use Rattle.writing_components.proofs.write_reject.Goals as goal

pub write_head-a-requires : goal.write_head-a-requires
write_head-a-requires c =
    omega (arith, short-size 5 (omega arith), null_size c.args.id c.if-id-eq-NO_ID.true)

pub copy_at-b-requires : goal.copy_at-b-requires
copy_at-b-requires c =
    omega (arith, short-size 5 (omega arith), null_size c.args.id c.if-id-eq-NO_ID.true)

pub write_single-requires : goal.write_single-requires
write_single-requires c =
    omega (arith, short-size 5 (omega arith), null_size c.args.id c.if-id-eq-NO_ID.true)

pub returns-then-id-eq-NO_ID : goal.returns-then-id-eq-NO_ID
unfolding problem_octets
returns-then-id-eq-NO_ID c =
    record { is = wrote_as (wrote-more (wrote-more c.write_head-a.ensures refl c.copy_at-b.ensures) refl c.write_single.ensures) (simp append_assoc (element-of _ _ _ refl) ∙ reject-none _ _ c.if-id-eq-NO_ID.true); within = omega (arith, short-size 5 (omega arith), null_size c.args.id c.if-id-eq-NO_ID.true) }

pub write_head-a-requires-else-id-eq-NO_ID : goal.write_head-a-requires-else-id-eq-NO_ID
write_head-a-requires-else-id-eq-NO_ID c =
    omega (arith, short-size 6 (omega arith), some_size c.args.id c.if-id-eq-NO_ID.false)

pub write_single-b-requires : goal.write_single-b-requires
write_single-b-requires c =
    omega (arith, short-size 6 (omega arith), some_size c.args.id c.if-id-eq-NO_ID.false)

pub write_single-requires-else-id-eq-NO_ID : goal.write_single-requires-else-id-eq-NO_ID
write_single-requires-else-id-eq-NO_ID c =
    omega (arith, short-size 6 (omega arith), some_size c.args.id c.if-id-eq-NO_ID.false)

pub returns-else-id-eq-NO_ID : goal.returns-else-id-eq-NO_ID
unfolding problem_octets
returns-else-id-eq-NO_ID c =
    record { is = wrote_as (wrote-more (wrote-more c.write_head-a-else-id-eq-NO_ID.ensures refl c.write_single-b.ensures) refl c.write_single-else-id-eq-NO_ID.ensures) (simp append_assoc (element-of _ _ _ refl) ∙ reject-some _ _ c.if-id-eq-NO_ID.false); within = omega (arith, short-size 6 (omega arith), some_size c.args.id c.if-id-eq-NO_ID.false) }
