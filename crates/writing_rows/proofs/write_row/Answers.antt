use mathlib.Core.Path.{ap, ◌∙◌}
use lib.Seq.{sets}
use Rattle.writing_rows.proofs.write_row.Goals as goal

pub returns : goal.returns
returns c =
    record { is = c.copy_at.ensures.holds ∙ ap (sets _ _) c.octets.ensures; long = c.copy_at.ensures.long }
