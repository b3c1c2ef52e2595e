-- WHAT A RECEIVED COMPONENT DOES KEEPS THE RULES (01, "Invocation states"), and leaves the dialogue's state and service. Assumes nothing.
use Rattle.std.specs.Prelude.{◌≡◌}
use mathlib.Core.List.{List, [], ◌∷◌}
use Prim.Native.Nat.{◌≤◌, ◌<◌}
use Rattle.paper.specs.declared.Component.{Component}
use Rattle.paper.specs.declared.Control.{Control}
use Rattle.paper.specs.Components.{reject_tag, Item}
use Rattle.table_laws.specs.Fine.{FineControl}

-- A COMPONENT AS IT IS READ: only a reject that is sound may lack its ID
pub record Readable (p : Component) : Type 0 where
  pub id : p.id ≤ 256
  pub code : p.fault ≤ 3
  pub named : p.fault ≡ 3 → (p.tag ≡ reject_tag → ⊥) → p.id < 256

-- WHAT STAYS of a dialogue, and what it keeps
pub record Stays (c d : Control) : Type 0 where
  pub fine : FineControl d
  pub state : d.state ≡ c.state
  pub service : d.service ≡ c.service

-- ALL COMPONENTS of a message
abbrev pub AllReadable : List Item → Type 0
AllReadable [] = Unit
AllReadable (i ∷ is) = Readable i.part × AllReadable is
