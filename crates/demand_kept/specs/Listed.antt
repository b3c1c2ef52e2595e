-- THE COMPONENTS IN WAITING OCTETS are listed alike wherever the octets are copied to, and those put after them are listed after
-- them (01, "Sending writes waiting components in order"). Assumes nothing.
use Rattle.std.specs.Prelude.{◌≡◌}
use Rattle.std.proofs.Math.Bool.{true}
use mathlib.Core.List.{List, map}
use Prim.Native.Nat.{ℕ, ◌+◌}
use Rattle.laws.specs.Lists.{every}
use Rattle.paper.specs.Components.{Item}
use Rattle.paper.specs.Rules.{is_sound_item}
use Rattle.demand_kept.specs.Carried.{further}

-- the same component k octets further
abbrev pub item_further : ℕ → Item → Item
item_further k i = record { start = k + i.start; part = further k i.part }

abbrev pub all_further : ℕ → List Item → List Item
all_further k l = map (item_further k) l

-- SOUND ONES
abbrev pub Sound : List Item → Type 0
Sound l = every is_sound_item l ≡ true
