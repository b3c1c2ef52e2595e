-- Given octets (operation, error, parameter, dialogue portion) where they are copied to. Assumes nothing.
use Rattle.std.specs.Prelude.{ℕ, ◌+◌, ◌≤◌, ◌≡◌, ◌⊎◌, List, length, get_or}
use Rattle.paper.specs.declared.Length.TheVariants.{Given}
use Rattle.paper.specs.Elements.{length_at}

-- AN OPERATION OR AN ERROR: its tag, 2 or 6, and its length
pub record Code (l : List ℕ) : Type 0 where
  pub tag : ((get_or l 0 0 ≡ 2) × (get_or l 1 0 ≤ 4)) ⊎ (get_or l 0 0 ≡ 6)
  pub start : ℕ
  pub count : ℕ
  pub given : Given start count ≡ length_at l (length l) 1
  pub least : 1 ≤ count
  pub whole : start + count ≡ length l
