-- The reader's steps, as the code takes them: with what it has at hand in the place of what the definition names. Assumes nothing.
use Rattle.std.specs.Prelude.{◌≡◌, List, ℕ, ◌<◌, ◌≤◌, length, Option}
use Rattle.std.proofs.Common.{◌∙◌, ap}
use Rattle.laws.specs.If.{lt, ge, ne}
use Rattle.paper.specs.declared.Component.{Component}
use Rattle.paper.specs.declared.Message.{Message}
use Rattle.paper.specs.Components.{component_at}
use Rattle.paper.specs.Messages.{message_of}
use Rattle.reading_reader.specs.declared.Cursor.{Cursor}
use Rattle.reading_reader.specs.declared.Piece.{Piece}
use Rattle.reading_reader.specs.Read.{cursor_of, first_cursor, piece_of, piece_in}

-- a message that is not refused by 4, as it is read
pub of-message : (s : List ℕ) (m : Message) (r : Option Cursor) → (length s ≡ 0 → ⊥) → length s ≤ 512 → m ≡ message_of s → r ≡ cursor_of m → r ≡ first_cursor s
unfolding first_cursor
of-message s m r h g e q = ne _ _ _ _ h (ge _ _ _ _ g (q ∙ ap cursor_of e))

-- a component inside it, as it is read
pub of-component : (s : List ℕ) (lim at : ℕ) (c : Component) (r : Option Piece) → length s ≤ 512 → lim ≤ length s → at < lim → c ≡ component_at s lim at → r ≡ piece_of lim at c
    → r ≡ piece_in s lim at
unfolding piece_in
of-component s lim at c r h g i e q = ge _ _ _ _ h (ge _ _ _ _ g (lt _ _ _ _ i (q ∙ ap (piece_of lim at) e)))
