-- COMPONENTS ONE AFTER ANOTHER, as a loop reads them: a test of each, and the test of what is left answers for the whole. Assumes nothing.
use Rattle.std.specs.Prelude.{◌≡◌, Bool, List, length}
use Prim.Native.Nat.{ℕ, ◌-◌, ◌<◌}
use Rattle.laws.specs.Lists.{every}
use Rattle.paper.specs.Components.{Item, items, components}

pub record Rest (f : Item → Bool) (w : List ℕ) (at : ℕ) : Type 0 where
  pub turns : ℕ
  pub enough : length w - at < turns
  pub same : every f (components w (length w) 0) ≡ every f (items w (length w) turns at)
