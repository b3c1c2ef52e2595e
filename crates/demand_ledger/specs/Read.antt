-- WHAT A MESSAGE IS READ AS keeps its type and destination, and at fault it has a P-Abort cause (01, "A received message"). Assumes nothing.
use Rattle.std.specs.Prelude.{◌≡◌, ◌<◌}
use Rattle.paper.specs.declared.Message.{Message}
use Rattle.paper.specs.Messages.{is_sound, is_dropped, begin_tag}

-- "never in 61, 62": a Begin has no destination
pub record Read (m : Message) : Type 0 where
  pub lone : m.tag ≡ begin_tag → m.destination.length ≡ 0
  pub coded : (m.fault ≡ is_dropped → ⊥) → (m.fault ≡ is_sound → ⊥) → m.fault < 5
