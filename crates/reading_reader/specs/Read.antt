-- THE READER (01, "Rows"): the component at a cursor of a message, and what the struct that holds both gives. Assumes nothing.
use Rattle.std.specs.Prelude.{List, [], ◌∷◌, ℕ, ◌-◌, ◌≡◌, length, Option, None, Some}
use Rattle.std.specs.Borrow.{Bor}
use Rattle.laws.specs.If.{if_lt, if_eq}
use Rattle.paper.specs.declared.Component.{Component}
use Rattle.paper.specs.declared.Message.{Message}
use Rattle.paper.specs.Sizes.{longest_message}
use Rattle.paper.specs.Components.{Item, component_at, no_fault}
use Rattle.paper.specs.Messages.{message_of, is_sound}
use Rattle.reading_reader.specs.declared.Cursor.{Cursor}
use Rattle.reading_reader.specs.declared.Piece.{Piece}
use Rattle.reading_reader.specs.declared.Reader.{Reader}

-- the first component of a message as it is read
unfoldable pub cursor_of : Message → Option Cursor
cursor_of m = if_eq m.fault is_sound (if_eq m.from 0 None (Some (record { lim = m.to; at = m.from }))) None

-- "none where the message is refused by 4, dropped for its form or at fault with cause 0 or 2"
unfoldable pub first_cursor : List ℕ → Option Cursor
first_cursor s = if_eq (length s) 0 None (if_lt longest_message (length s) None (cursor_of (message_of s)))

-- "up to a syntax fault"
unfoldable pub piece_of : ℕ → ℕ → Component → Option Piece
piece_of lim at c = if_eq c.fault no_fault (Some (record { at = at; component = c; next = record { lim = lim; at = c.stop } })) None

-- the component at a position, where they end at lim
unfoldable pub piece_in : List ℕ → ℕ → ℕ → Option Piece
piece_in s lim at = if_lt longest_message (length s) None (if_lt (length s) lim None (if_lt at lim (piece_of lim at (component_at s lim at)) None))

-- THE PIECE at a cursor
abbrev pub piece_at : List ℕ → Option Cursor → Option Piece
piece_at s None = None
piece_at s (Some k) = piece_in s k.lim k.at

-- how many octets there are from it on
abbrev pub left_at : Option Cursor → ℕ
left_at None = 0
left_at (Some k) = k.lim - k.at

-- THE STRUCT: what its functions `new`, `next` and `moved` give
abbrev pub at_start : Bor (List ℕ) → Reader
at_start msg = record { msg = msg; cursor = first_cursor msg.now }

abbrev pub next_of : Reader → Option Piece
next_of r = piece_at r.msg.now r.cursor

abbrev pub moved_to : Reader → Option Cursor → Reader
moved_to r k = record { msg = r.msg; cursor = k }

-- where a piece leaves the reader
abbrev pub after : Reader → Option Piece → Reader
after r None = r
after r (Some p) = moved_to r (Some p.next)

-- a call of `next`: what it gives, and the reader that it leaves
pub record Goes (r : Reader) (p : Option Piece) (q : Reader) : Type 0 where
  pub gives : p ≡ next_of r
  pub leaves : q ≡ after r p

-- "gives its components one after another": these, each from where the one before moved the reader to, and then none
pub data Gives : Reader → List Item → Type 0 where
  ends : {r : Reader} → next_of r ≡ None → Gives r []
  goes : {r : Reader} (p : Piece) {is : List Item} → next_of r ≡ Some p → Gives (moved_to r (Some p.next)) is → Gives r (record { start = p.at; part = p.component } ∷ is)
