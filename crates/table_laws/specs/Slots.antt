-- A PLACE'S OCTETS AND ITS BIT, walked over as the code does, pass exactly where they are those of a fine place. Assumes nothing.
use Rattle.std.specs.Prelude.{◌≡◌, Bool, ℕ, ◌+◌, drop}
use Rattle.std.proofs.Math.Bool.{true, false}
use mathlib.Core.List.{List}
use Rattle.std.proofs.Math.ListN.{get_or}
use Rattle.laws.specs.If.{if_lt, if_eq, if_b}
use Rattle.laws.specs.Lists.{zeros}
use Rattle.paper.specs.Sizes.{most_waiting}
use Rattle.paper.specs.Dialogues.{dialogue_free}
use Rattle.paper.specs.Layout.{place_octets, state_at, waiting_length_at, waiting_start, place_by, flag}
use Rattle.paper.specs.Rules.{dialogue_kept, place_kept}

-- ---- THE WALK that the code makes over a place's octets and its bit of the map: free, and all zero but its turn
unfoldable pub free_kept : List ℕ → ℕ → Bool
free_kept s bit = if_eq bit 1 (zeros (drop state_at s)) false

-- or used: n waiting octets, zeros after them, and what a dialogue keeps
unfoldable pub used_kept : List ℕ → ℕ → Bool
used_kept s bit =
    if_eq bit 0
    (if_lt most_waiting (get_or s waiting_length_at 0) false (if_b (zeros (drop (waiting_start + get_or s waiting_length_at 0) s)) (dialogue_kept (place_by s)) false))
    false

abbrev pub slot_kept : List ℕ → ℕ → Bool
slot_kept s bit = if_eq (get_or s state_at 0) dialogue_free (free_kept s bit) (used_kept s bit)

-- ---- FROM OCTETS: what a place that passes is
pub record KeptSlot (s : List ℕ) (bit : ℕ) : Type 0 where
  pub kept : place_kept (place_by s) ≡ true
  pub same : place_octets (place_by s) ≡ s
  pub told : bit ≡ flag (place_by s)
