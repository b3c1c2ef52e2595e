-- A DIALOGUE FOUND by place and turn and service and state (answer 5). Assumes nothing.
use Rattle.std.specs.Prelude.{◌≡◌, ℕ, ◌<◌}
use Rattle.paper.specs.Sizes.{place_of, turn_of, places_in_all}
use Rattle.paper.specs.Calls.{Table, place_at}
use Rattle.paper.specs.Layout.{flag}

-- what a dialogue of that service and ID is
pub record Owned (T : Table) (s dialogue : ℕ) : Type 0 where
  pub small : place_of dialogue < places_in_all
  pub state : (place_at T (place_of dialogue)).control.state ≡ 0 → ⊥
  pub used : flag (place_at T (place_of dialogue)) ≡ 0
  pub service : (place_at T (place_of dialogue)).control.service ≡ s
  pub turn : (place_at T (place_of dialogue)).control.turn ≡ turn_of dialogue
