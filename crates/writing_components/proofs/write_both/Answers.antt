use mathlib.Core.Path.{refl}
use Rattle.writing_octets.specs.Lengths.{both_of}
use native.Mathlib.Omega.{arith}
use mathlib.Core.Path.{refl}
use mathlib.Core.List.{append_assoc}
use Rattle.laws.specs.Runs.{wrote-more, wrote_as}
use Rattle.writing_components.proofs.write_both.Goals as goal

pub returns : goal.returns
returns c =
    record { is = wrote_as (wrote-more (wrote-more (wrote-more (wrote-more c.write_head-a.ensures refl c.write_single-b.ensures) refl c.write_head-d.ensures) refl c.copy_at-e.ensures) refl c.copy_at.ensures) (simp append_assoc (both_of _ _ _ _ c.args.op.now c.args.par.now c.requires.0 refl)); within = omega arith }
