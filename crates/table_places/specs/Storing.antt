-- What a store of a control record asks. Assumes nothing.
use Rattle.std.specs.Prelude.{◌≡◌, List, ℕ, ◌<◌}
use Rattle.paper.specs.declared.Control.{Control}
use Rattle.paper.specs.Sizes.{places_in_all}
use Rattle.paper.specs.Dialogues.{Place}
use Rattle.paper.specs.Calls.{place_at}
use Rattle.paper.specs.Layout.{flag, view}
use Rattle.table_laws.specs.Fine.{FineControl}
use Rattle.table_laws.specs.Ready.{Ready}

-- the table keeps the rules, place p is used (bit 0) or free (1), and c is a dialogue's
pub record Storing (bit : ℕ) (t : List ℕ) (p : ℕ) (c : Control) : Type 0 where
  pub ready : Ready t
  pub small : p < places_in_all
  pub told : flag (place_at (view t) p) ≡ bit
  pub control : FineControl c
  pub state : c.state ≡ 0 → ⊥

abbrev pub with_waiting : Control → List ℕ → Place
with_waiting c w = record { control = c; waiting = w }
