-- THE COMPONENTS LISTED: what one turn of the listing does, and that it lists what 01's reader gives. Assumes nothing.
use Rattle.std.specs.Prelude.{◌≡◌, refl, List, [], ◌∷◌, ℕ, ◌+◌, ◌<◌, ◌≤◌, length, get_or, None, Some}
use Rattle.std.proofs.Common.{sym, subst, arith}
use Rattle.std.specs.Borrow.{Bor}
use Rattle.std.specs.Iterator.{Yields}
use Rattle.paper.specs.Components.{Item}
use Rattle.paper.specs.Readers.{message_items}
use Rattle.reading_reader.specs.declared.Piece.{Piece}
use Rattle.reading_reader.specs.declared.Reader.{Reader}
use Rattle.reading_reader.specs.Read.{at_start, next_of, moved_to, Goes, Gives, ends, goes}
use Rattle.reading_reader.specs.Whole.{reader-gives, PieceLies, piece-fits, gives-few}
use Rattle.program_listing.specs.declared.Listed.{Listed}

abbrev pub started : Listed
started = record { count = 0; last = None }

-- with a piece that the reader gives
abbrev pub with_piece : Listed → Piece → Listed
with_piece l p = record { count = l.count + 1; last = Some p.next }

-- A LISTING THAT STANDS, of a message's octets: what is listed and what the reader is still to give is what 01's reader gives
pub record Stands (s : List ℕ) (r : Reader) (l : Listed) : Type 0 where
  pub same : r.msg.now ≡ s
  pub rest : List Item
  pub gives : Gives r rest
  pub all : l.count + length rest ≡ length (message_items s)

-- of what a reader gives: what its next piece leaves
none_left : {r : Reader} {is : List Item} → Gives r is → next_of r ≡ None → length is ≡ 0
none_left (ends e) f = refl
none_left (goes p e g) f = let z : ◌≡◌ {A = ℕ} 0 1 = cc in absurd (omega arith)

rest-left : {r : Reader} {is : List Item} (p : Piece) → Gives r is → next_of r ≡ Some p → (js : List Item) × (Gives (moved_to r (Some p.next)) js × (length is ≡ 1 + length js))
rest-left p (ends e) f = let z : ◌≡◌ {A = ℕ} 0 1 = cc in absurd (omega arith)
rest-left {r} p (goes q {is = js} e g) f =
    let z : q ≡ p = cc in
    (js, (subst (λ (p : Piece). Gives (moved_to r (Some p.next)) js) z g, omega arith))

-- at the start
pub stands-first : (msg : Bor (List ℕ)) → ((i : ℕ) → get_or msg.now i 0 < 256) → Stands msg.now (at_start msg) started
stands-first msg octets = record { same = refl; rest = message_items msg.now; gives = reader-gives msg octets; all = omega arith }

module _ (s : List ℕ) (r q : Reader) (l : Listed) (w : Stands s r l) where
  -- a turn goes on with the next piece
  pub stands-next : (p : Piece) → Goes r (Some p) q → Stands s q (with_piece l p)
  stands-next p g =
      let js = rest-left p w.gives (sym g.gives) in
      subst (λ (q : Reader). Stands s q (with_piece l p)) (sym g.leaves) (record { same = w.same; rest = js.0; gives = js.1.0; all = omega (arith, w.all, js.1.1) })

  -- the next piece lies inside
  pub stands-piece : ((i : ℕ) → get_or s i 0 < 256) → (p : Piece) → Goes r (Some p) q → PieceLies r.cursor p
  stands-piece octets p g = (piece-fits r.msg.now (subst (λ (k : List ℕ). (i : ℕ) → get_or k i 0 < 256) (sym w.same) octets) r.cursor).lies p (sym g.gives)

  -- where there are none, all are listed
  pub stands-over : Goes r None q → l.count ≡ length (message_items s)
  stands-over g = omega (arith, none_left w.gives (sym g.gives), w.all)

-- few are listed
pub stands-few : (msg : Bor (List ℕ)) (r : Reader) (l : Listed) → ((i : ℕ) → get_or msg.now i 0 < 256) → Stands msg.now r l → l.count ≤ 512
stands-few msg r l octets w = omega (arith, (gives-few (at_start msg) (message_items msg.now) octets (reader-gives msg octets)).1, w.all)

-- what a reader gives up to its end, with what is listed before, is what 01's reader gives
pub stands-whole : (s : List ℕ) (r q u : Reader) (l : Listed) (ps : List Piece) → Stands s r l → Yields Goes r ps q → Goes q None u → l.count + length ps ≡ length (message_items s)
stands-whole s r q u l [] w y g =
    let v : Stands s q l = subst (λ (r : Reader). Stands s r l) y w in
    omega (arith, stands-over s q u l v g)
stands-whole s r q u l (p ∷ ps) w y g = omega (arith, stands-whole s y.0 q u (with_piece l p) ps (stands-next s r y.0 l w p y.1) y.2 g)
