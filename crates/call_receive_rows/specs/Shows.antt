-- What the loop over a message's components gives. Assumes nothing.
use Rattle.std.specs.Prelude.{◌≡◌, List, ℕ, ◌+◌, ◌<◌, ◌≤◌, length}
use Rattle.std.proofs.lemmas.List.Edits.{sets}
use Rattle.paper.specs.declared.Control.{Control}
use Rattle.paper.specs.Components.{Item, item, component_at, next_start}
use Rattle.paper.specs.Invocations.{act}
use Rattle.paper.specs.Rows.{row_by, all_acted, component_rows, rows_octets}
use Rattle.dialogue_acts.specs.Told.{changed}
use Rattle.call_receive_rows.specs.declared.Stepped.{Stepped}
use Rattle.call_receive_rows.specs.declared.Shown.{Shown}

-- one component at a position
pub record Steps (me room : ℕ) (s : List ℕ) (lim at : ℕ) (c : Control) (r : Stepped) : Type 0 where
  pub control : changed c r.id r.told ≡ (act room c (component_at s lim at)).control
  pub row : r.row ≡ row_by me room c (item s lim at)
  pub next : r.next ≡ next_start lim (component_at s lim at)

-- the next position: a sound component has at least five octets
pub record Next (at lim next : ℕ) : Type 0 where
  pub within : next ≤ lim
  pub five : next < lim → at + 5 ≤ next

-- every component in order acts, and is shown from row 1 on
pub record Shows (me room : ℕ) (c : Control) (old : List ℕ) (is : List Item) (r : Shown) (new : List ℕ) : Type 0 where
  pub control : r.control ≡ all_acted room c is
  pub count : r.count ≡ length (component_rows me room c is)
  pub few : r.count ≤ 127
  pub holds : new ≡ sets old 32 (rows_octets (component_rows me room c is))
  pub long : length new ≡ length old
