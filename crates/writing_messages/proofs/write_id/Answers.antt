use mathlib.Core.Path.{refl}
use native.Mathlib.Omega.{arith}
use Rattle.laws.specs.Runs.{wrote-more, wrote_as}
use Rattle.writing_octets.specs.Lengths.{id-of}
use Rattle.writing_messages.proofs.write_id.Goals as goal

pub returns : goal.returns
returns c =
    record { is = wrote_as (wrote-more (wrote-more c.put-a.ensures refl c.put-b.ensures) refl c.copy_at.ensures) (id-of _ _ c.requires.0); within = omega arith }
