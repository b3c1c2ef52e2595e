-- THE WHOLE TABLE: encode and view, each the other's inverse. Assumes nothing.
use Rattle.std.specs.Prelude.{Bool, ℕ}
use mathlib.Core.List.{List}
use Rattle.paper.specs.Layout.{slot, map_bit}
use Rattle.table_laws.specs.Slots.{slot_kept}

-- place p, walked over
unfoldable pub slot_at_kept : List ℕ → ℕ → Bool
slot_at_kept t p = slot_kept (slot t p) (map_bit t p)
