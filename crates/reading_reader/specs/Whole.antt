-- THE READER GIVES THE COMPONENTS of its message, one after another, and then its end (01, "Rows"). Assumes nothing.
use Rattle.std.proofs.Math.Path.{◌≡◌, refl, sym, ap, subst}
use Rattle.std.proofs.Common.{◌∙◌, arith, ltb-true, ltb-false}
use Rattle.std.specs.Prelude.{Bool, true, false, get_or, ltb, Option, None, Some}
use mathlib.Core.List.{List, [], ◌∷◌}
use Prim.Native.Nat.{ℕ, zero, suc, ◌+◌, ◌-◌, ◌<◌, ◌≤◌}
use Rattle.std.proofs.Math.ListN.{length}
use Rattle.std.specs.Borrow.{Bor}
use Rattle.laws.specs.If.{if_lt, lt, ge, eq, ne, by-lt, by-eq}
use Rattle.paper.specs.declared.Component.{Component}
use Rattle.paper.specs.declared.Message.{Message}
use Rattle.paper.specs.Sizes.{longest_message}
use Rattle.paper.specs.Components.{Item, item, component_at, next_start, go_on, items, components, no_fault}
use Rattle.paper.specs.Messages.{message_of, is_sound}
use Rattle.paper.specs.Calls.{items_of}
use Rattle.paper.specs.Readers.{sound_items, items_by, message_items}
use Rattle.reading_components.specs.Bounds.{ComponentIn, component-in}
use Rattle.reading_messages.specs.Bounds.{MessageIn, message-in}
use Rattle.reading_reader.specs.declared.Cursor.{Cursor}
use Rattle.reading_reader.specs.declared.Piece.{Piece}
use Rattle.reading_reader.specs.declared.Reader.{Reader}
use Rattle.reading_reader.specs.Steps.{of-message, of-component}
use Rattle.reading_reader.specs.Read.{cursor_of, first_cursor, piece_of, piece_in, piece_at, left_at, at_start, moved_to, Gives, ends, goes}

-- what it gives is that alone
pub gives_one : {r : Reader} {is js : List Item} → Gives r is → Gives r js → is ≡ js
gives_one (ends e) (ends f) = refl
gives_one (ends e) (goes p f h) = let z : ◌≡◌ {A = ℕ} 0 1 = cc in absurd (omega arith)
gives_one (goes p e g) (ends f) = let z : ◌≡◌ {A = ℕ} 0 1 = cc in absurd (omega arith)
gives_one {r} (goes p {is} e g) (goes q {is = js} f h) =
    let x : p ≡ q = cc in
    let w : is ≡ js = gives_one g (subst (λ (p : Piece). Gives (moved_to r (Some p.next)) js) (sym x) h) in
    cc

as-list : {r : Reader} {is js : List Item} → Gives r is → js ≡ is → Gives r js
as-list {r} g e = subst (Gives r) (sym e) g

module _ (msg : Bor (List ℕ)) where
  abbrev s : List ℕ
  s = msg.now

  abbrev standing : Option Cursor → Reader
  standing k = record { msg = msg; cursor = k }

  abbrev standing_at : ℕ → ℕ → Reader
  standing_at lim at = standing (Some (record { lim = lim; at = at }))

  -- none from a start that has none
  none_from : None ≡ first_cursor s → Gives (at_start msg) []
  none_from e = ends (sym (ap (piece_at s) e))

  module _ (octets : (i : ℕ) → get_or s i 0 < 256) (short : length s ≤ 512) (lim : ℕ) (inside : lim ≤ length s) where
    -- nothing after the end
    piece-past : (at : ℕ) → lim ≤ at → piece_in s lim at ≡ None
    unfolding piece_in
    piece-past at g = sym (ge _ _ _ _ short (ge _ _ _ _ inside (ge _ _ _ _ g refl)))

    piece-here : (at : ℕ) (p : Option Piece) → at < lim → p ≡ piece_of lim at (component_at s lim at) → piece_in s lim at ≡ p
    piece-here at p h e = sym (of-component s lim at _ p short inside h refl e)

    -- after a sound component, the same as what is given from where it stops
    sound-rest : (n : ℕ) (c : Component) → c.fault ≡ no_fault → (c.stop < lim → Gives (standing_at lim c.stop) (sound_items (items s lim n c.stop)))
        → Gives (standing_at lim c.stop) (sound_items (go_on (ltb (next_start lim c) lim) (λ _. items s lim n (next_start lim c))))
    unfolding sound_items next_start
    sound-rest n c f on = subst (λ (x : ℕ). Gives (standing_at lim c.stop) (sound_items (go_on (ltb x lim) (λ _. items s lim n x)))) next (go (ltb c.stop lim) refl)
      where
        next : c.stop ≡ next_start lim c
        next = eq _ _ _ _ f refl

        go : (b : Bool) → ltb c.stop lim ≡ b → Gives (standing_at lim c.stop) (sound_items (go_on b (λ _. items s lim n c.stop)))
        go true e = on (ltb-true _ _ e)
        go false e = let z = ltb-false _ _ e in ends (piece-past c.stop z)

    -- the components from a position on
    sound-from : (n at : ℕ) → at ≤ lim → lim - at < n → Gives (standing_at lim at) (sound_items (items s lim n at))
    unfolding items sound_items piece_of
    sound-from zero at h i = absurd (omega arith)
    sound-from (suc n) at h i =
        let c : Component = component_at s lim at in
        let w : ComponentIn (at + 5) lim c = component-in s octets lim at c refl in
        by-eq c.fault no_fault (item s lim at ∷ sound_items (go_on (ltb (next_start lim c) lim) (λ _. items s lim n (next_start lim c)))) [] refl
        (λ f q.
        let z = w.long f in
        as-list (goes (record { at = at; component = c; next = record { lim = lim; at = c.stop } }) (piece-here at _ (omega (arith, w.ends)) (eq _ _ _ _ f refl))
        (sound-rest n c f (λ l. sound-from n c.stop w.ends (omega arith)))) q)
        (λ f q.
        as-list (ends (by-lt {A = ℕ} at lim 0 1 refl
        (λ l _. piece-here at None l (ne _ _ _ _ f refl))
        (λ l _. piece-past at l))) q)

  module _ (octets : (i : ℕ) → get_or s i 0 < 256) (some : length s ≡ 0 → ⊥) (short : length s ≤ 512) where
    -- of a sound one
    gives-sound : (message_of s).fault ≡ is_sound → Gives (at_start msg) (sound_items (items_of s (message_of s)))
    unfolding cursor_of items_of components sound_items
    gives-sound f =
        let m : Message = message_of s in
        let w : MessageIn (length s) m = message-in s m refl in
        by-eq m.from 0 [] (items s m.to (m.to - m.from + 1) m.from) refl
        (λ z q. as-list (none_from (of-message s m None some short refl (eq _ _ _ _ f (eq _ _ _ _ z refl)))) (ap sound_items q))
        (λ z q.
        let v : m.from ≤ m.to = w.order in
        let u : m.to ≤ length s = w.ends in
        as-list (subst (λ (k : Option Cursor). Gives (standing k) (sound_items (items s m.to (m.to - m.from + 1) m.from)))
        (of-message s m _ some short refl (eq _ _ _ _ f (ne _ _ _ _ z refl)))
        (sound-from octets short m.to u (m.to - m.from + 1) m.from v (omega arith)))
        (ap sound_items q))

-- THE READER: a new one, going on by `next`, gives exactly the components that 01's reader gives, and then none
pub reader-gives : (msg : Bor (List ℕ)) → ((i : ℕ) → get_or msg.now i 0 < 256) → Gives (at_start msg) (message_items msg.now)
unfolding message_items items_by first_cursor cursor_of
reader-gives msg octets =
    by-eq (length msg.now) 0 [] (if_lt longest_message (length msg.now) [] (items_by msg.now (message_of msg.now))) refl
    (λ z q. as-list (none_from msg (eq _ _ _ _ z refl)) q)
    (λ z q. by-lt _ _ _ _ q
    (λ l q. as-list (none_from msg (ne _ _ _ _ z (lt _ _ _ _ l refl))) q)
    (λ l q. by-eq _ _ _ _ q
    (λ f q. as-list (gives-sound msg octets z l f) q)
    (λ f q. as-list (none_from msg (ne _ _ _ _ z (ge _ _ _ _ l (ne _ _ _ _ f refl)))) q)))

-- WHERE A PIECE LIES: inside the message, its parameter inside it; and there is less left after it, so that a reading ends
pub record PieceLies (k : Option Cursor) (p : Piece) : Type 0 where
  pub starts : p.at < p.component.stop
  pub ends : p.component.stop ≤ 512
  pub order : p.component.par ≤ p.component.parstop
  pub down : left_at (Some p.next) < left_at k
  pub most : left_at k ≤ 512

module _ (s : List ℕ) (octets : (i : ℕ) → get_or s i 0 < 256) (p : Piece) where
  none : (k : Option Cursor) → Some p ≡ None → PieceLies k p
  none k q = let z : ◌≡◌ {A = ℕ} 0 1 = cc in absurd (omega arith)

  piece-lies : (k : Option Cursor) → Some p ≡ piece_at s k → PieceLies k p
  unfolding piece_in piece_of
  piece-lies None q = none None q
  piece-lies (Some k) q =
      by-lt _ _ _ _ q (λ a q. none (Some k) q)
      (λ a q. by-lt _ _ _ _ q (λ b q. none (Some k) q)
      (λ b q. by-lt _ _ _ _ q
      (λ d q. by-eq _ _ _ _ q
      (λ f q.
      let i : p.component ≡ component_at s k.lim k.at = cc in
      let w : ComponentIn (k.at + 5) k.lim p.component = component-in s octets k.lim k.at p.component i in
      let g : p.component.fault ≡ no_fault = ap (λ (c : Component). c.fault) i ∙ f in
      let j : p.at ≡ k.at = cc in
      let u : p ≡ record { at = k.at; component = component_at s k.lim k.at; next = record { lim = k.lim; at = (component_at s k.lim k.at).stop } } = cc in
      let x : p.next.lim ≡ k.lim = ap (λ (p : Piece). p.next.lim) u in
      let y : p.next.at ≡ p.component.stop = ap (λ (p : Piece). p.next.at) u ∙ ap (λ (c : Component). c.stop) (sym i) in
      let l : k.at + 5 ≤ p.component.stop = w.long g in
      record { starts = omega arith; ends = omega (arith, w.ends); order = w.order; down = omega (arith, w.ends); most = omega arith })
      (λ f q. none (Some k) q))
      (λ d q. none (Some k) q)))

-- the same of a piece, if there is one
pub record PieceFits (k : Option Cursor) (r : Option Piece) : Type 0 where
  pub lies : (p : Piece) → r ≡ Some p → PieceLies k p

pub piece-fits : (s : List ℕ) → ((i : ℕ) → get_or s i 0 < 256) → (k : Option Cursor) → PieceFits k (piece_at s k)
piece-fits s octets k = record { lies = λ p e. piece-lies s octets p k (sym e) }

-- so the pieces are few: there is less left after each
pub gives-few : (r : Reader) (is : List Item) → ((i : ℕ) → get_or r.msg.now i 0 < 256) → Gives r is → (length is ≤ left_at r.cursor) × (length is ≤ 512)
gives-few r [] octets (ends e) = (omega arith, omega arith)
gives-few r (i ∷ is) octets (goes p e g) =
    let w : PieceLies r.cursor p = (piece-fits r.msg.now octets r.cursor).lies p e in
    let z = gives-few (moved_to r (Some p.next)) is octets g in
    (omega (arith, w.down, z.0), omega (arith, w.down, w.most, z.0))
