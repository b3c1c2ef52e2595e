use Rattle.laws.specs.Picks.{picks}
use Rattle.paper.specs.Rows.{start_of}
use Rattle.writing_rows.proofs.start_of.Goals as goal

pub returns-then-at-x : goal.returns-then-at-x
unfolding start_of
returns-then-at-x c = search picks

pub returns-else-at-x : goal.returns-else-at-x
unfolding start_of
returns-else-at-x c = search picks
