use Rattle.paper.specs.Rows.{component_row}
use Rattle.writing_rows.proofs.component_row.Goals as goal

pub returns : goal.returns
unfolding component_row
returns c =
    cc
