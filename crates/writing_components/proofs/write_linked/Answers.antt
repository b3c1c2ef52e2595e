use native.Mathlib.Omega.{arith}
use mathlib.Core.Path.{refl}
use mathlib.Core.List.{append_assoc}
use lib.ListN.{length-append}
use Rattle.laws.specs.Runs.{wrote-more, wrote_as}
use Rattle.writing_octets.specs.Lengths.{element-of}
use Rattle.writing_components.proofs.write_linked.Goals as goal

pub returns : goal.returns
returns c =
    record { is = wrote_as (wrote-more (wrote-more (wrote-more (wrote-more c.write_head-a.ensures refl c.write_single-b.ensures) refl c.write_single-d.ensures) refl c.copy_at-e.ensures) refl c.copy_at.ensures) (simp append_assoc (element-of _ _ _ (simp length-append (omega arith)))); within = omega arith }
