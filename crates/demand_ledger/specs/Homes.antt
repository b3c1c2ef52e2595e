-- IDS COME HOME: our ID, written as four octets, is read back as its number; a message that has it as its destination ID finds that
-- dialogue, and nobody where the service has none under it. Assumes nothing.
use Rattle.std.proofs.Math.Path.{◌≡◌}
use Rattle.std.specs.Prelude.{List, ◌∷◌, ℕ}
use Rattle.laws.specs.If.{if_eq}
use Rattle.paper.specs.declared.Message.{Message}
use Rattle.paper.specs.declared.Row.{Row}
use Rattle.paper.specs.Problems.{no_problem}
use Rattle.paper.specs.Messages.{end_tag, continue_tag}
use Rattle.paper.specs.Kinds.{row_continue, row_end, row_user_abort, row_abort}

-- THE ROW of a message to a dialogue: CONTINUE, END, U-ABORT or P-ABORT
unfoldable pub row_for : Message → ℕ
row_for m = if_eq m.tag continue_tag row_continue (if_eq m.tag end_tag row_end (if_eq m.cause no_problem row_user_abort row_abort))

pub record Comes (rows : List Row) (d kind : ℕ) : Type 0 where
  pub first : Row
  pub others : List Row
  pub are : rows ≡ first ∷ others
  pub dialogue : first.dialogue ≡ d
  pub shows : first.kind ≡ kind
