-- THE PORTION THAT A SENDING WRITES (02 a), where it isn't refused: it fits, and is read as the name and information given. Assumes nothing.
use Rattle.std.specs.Prelude.{◌≡◌, true, List, ℕ, ◌+◌, ◌≤◌, length}
use Rattle.paper.specs.Sizes.{most_waiting}
use Rattle.paper.specs.Portions.{Form, portion_by, spoken_in, spoken_by}
use Rattle.paper.specs.Dialogues.{Place, is_portion}

pub record Given (x : Place) (f : Form) (name info : List ℕ) : Type 0 where
  pub formed : is_portion (portion_by f name info) ≡ true
  pub says : spoken_in (portion_by f name info) ≡ spoken_by f name info
  pub room : length (portion_by f name info) + length x.waiting ≤ most_waiting
