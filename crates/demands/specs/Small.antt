-- HOW LARGE THE NUMBERS OF A ROW ARE: each goes into its four octets. Assumes nothing.
use mathlib.Core.List.{List, [], ◌∷◌}
use Prim.Native.Nat.{ℕ, ◌+◌, ◌≤◌}
use Rattle.paper.specs.Components.{Item}
use Rattle.reading_components.specs.Bounds.{ComponentIn}

-- COMPONENTS of a 6C that ends at lim
pub record Lies (lim : ℕ) (i : Item) : Type 0 where
  pub starts : i.start ≤ lim
  pub part : ComponentIn (i.start + 5) lim i.part

abbrev pub AllLie : ℕ → List Item → Type 0
AllLie lim [] = Unit
AllLie lim (i ∷ is) = Lies lim i × AllLie lim is
