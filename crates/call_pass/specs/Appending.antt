-- A COMPONENT WRITTEN after those that wait, straight into the table. Assumes nothing.
use Rattle.std.specs.Prelude.{◌≡◌, List, ◌++◌, ℕ, ◌+◌, ◌-◌, ◌<◌, ◌≤◌, length}
use Rattle.std.proofs.Common.{sym, ap, ◌∙◌, arith}
use Rattle.std.proofs.lemmas.List.Edits.{sets}
use Rattle.laws.specs.Parts.{over}
use Rattle.laws.specs.Runs.{Wrote}
use Rattle.paper.specs.declared.Control.{Control}
use Rattle.paper.specs.Sizes.{most_waiting}
use Rattle.paper.specs.Calls.{place_at, with_place}
use Rattle.paper.specs.Layout.{place_start, waiting_start, table_size, encode, view}
use Rattle.table_laws.specs.Octets.{waiting_from, control_octets}
use Rattle.table_laws.proofs.Stores.{passed-octets}
use Rattle.table_places.specs.Storing.{Storing, with_waiting}

-- c is to be stored with the component l, where n octets wait
pub record Appending (t : List ℕ) (p : ℕ) (c : Control) (n : ℕ) (l : List ℕ) : Type 0 where
  pub storing : Storing 0 t p c
  pub waits : n ≡ length (place_at (view t) p).waiting
  pub room : n + length l ≤ most_waiting

module _ {t : List ℕ} {p : ℕ} {c : Control} {n : ℕ} {l : List ℕ} (s : Appending t p c n l) where
  pub fits : waiting_from p + n + length l ≤ length t
  fits = omega (arith, s.room, s.storing.small, s.storing.ready.long)

  -- where the component is past
  module _ {q : ℕ} {u : List ℕ} (w : Wrote t (waiting_from p + n) l q u) where
    pub past : (waiting_from p ≤ q) × (q - (waiting_from p) ≡ n + length l) × (q - (waiting_from p) < 256)
    past = (omega (arith, w.past), omega (arith, w.past), omega (arith, w.past, s.room))

    pub as_long : length u ≡ table_size
    as_long = w.long ∙ s.storing.ready.long

    pub appended : {v : List ℕ} → v ≡ over u (place_start p) (control_octets c (q - (waiting_from p))) → v ≡ encode (with_place (view t) p (with_waiting c ((place_at (view t) p).waiting ++ l)))
    appended e =
        let k : ℕ = length (place_at (view t) p).waiting in
        let a : waiting_from p + n ≡ place_start p + (waiting_start + k) = omega (arith, s.waits) in
        let b : q - (waiting_from p) ≡ k + length l = omega (arith, past.1, s.waits) in
        e ∙ ap (λ (m : ℕ). over u (place_start p) (control_octets c m)) b
        ∙ ap (λ (x : List ℕ). over x (place_start p) (control_octets c (k + length l))) (w.holds ∙ ap (λ (m : ℕ). sets t m l) a ∙ ap (λ (x : List ℕ). sets x (place_start p + (waiting_start + k)) l) (sym s.storing.ready.same))
        ∙ passed-octets (view t) s.storing.ready.fine p s.storing.small c s.storing.control s.storing.state s.storing.told l (omega (arith, s.waits, s.room))
