-- THE ROWS OF EVERY STEP FIT into 128, and their numbers into four octets, on a table that keeps the rules and for a message of octets.
-- Assumes nothing.
use Rattle.std.specs.Prelude.{◌≡◌, refl, Bool, true}
use Rattle.std.proofs.Common.{sym, subst, arith}
use mathlib.Core.List.{List, [], ◌∷◌}
use Prim.Native.Nat.{ℕ, zero, suc, ◌+◌, ◌≤◌, ◌<◌}
use Rattle.std.proofs.Math.ListN.{length}
use Rattle.laws.specs.If.{if_lt, if_eq, if_b, by-lt, by-eq, by-b}
use Rattle.paper.specs.declared.Message.{Message}
use Rattle.paper.specs.declared.Control.{Control}
use Rattle.paper.specs.declared.Row.{Row}
use Rattle.paper.specs.Sizes.{services, places_in_all, longest_message, place_of, local_id, most_rejects}
use Rattle.paper.specs.Problems.{no_problem}
use Rattle.paper.specs.Components.{Item, components}
use Rattle.paper.specs.Messages.{message_of, no_run, is_sound, is_dropped, uni_tag, begin_tag, end_tag, continue_tag}
use Rattle.paper.specs.Invocations.{invocation_of}
use Rattle.paper.specs.Kinds.{row_uni, row_begin, row_continue, row_end, row_user_abort, row_abort}
use Rattle.paper.specs.Rows.{dialogue_row, cancel_row, component_rows}
use Rattle.paper.specs.Dialogues.{Place, Request, refusal, does, request, unless_refused, timeout_rows, empty_control}
use Rattle.paper.specs.Calls.{Table, Call, Out, stored, requested, opened, owns, may_begin, lowest_free, destination_number, items_of, shown_rows, faulted_at, faulted, uni_received, begin_at, begin_received, continue_received, end_received, abort_received, to_dialogue, sound_received, received, received_if, step, place_at}
use Rattle.paper.specs.Calls.Call.{Open, OnDialogue, Receive}
use Rattle.reading_messages.specs.Bounds.{MessageIn, message-in}
use Rattle.table_laws.specs.Fine.{Octets, Fine}
use Rattle.table_laws.proofs.Owners.{owned-is}
use Rattle.demand_kept.proofs.Leaves.{whether-eq, whether-lt, whether-b}
use Rattle.demand_kept.proofs.Shared.{lowest-there}
use Rattle.demand_kept.proofs.Shapes.{by_shape}
use Rattle.demand_kept.specs.StepKept.{WellFormed}
use Rattle.demands.specs.Rows.{SmallRow}
use Rattle.demands.proofs.Rows.{components-few, rows_long}
use Rattle.demands.specs.Small.{AllLie}
use Rattle.demands.proofs.Small.{none-small, more-small, dialogue-small, cancel-small, components-lie, components-small}
use Rattle.demand_ledger.proofs.Read.{message-read}
use Rattle.demands.specs.Fits.{Fit}

none-fit : Fit []
none-fit = record { few = omega arith; small = none-small }

one-fit : (r : Row) → SmallRow r → Fit (r ∷ [])
one-fit r h = record { few = omega arith; small = more-small r [] h none-small }

abbrev Fits : Out → Type 0
Fits o = Fit o.rows

-- what holds either way of a test holds, the test's fact in hand
module _ {A : Type 0} (P : A → Type 0) where
  when-eq : (a b : ℕ) (x y : A) → P x → ((a ≡ b → ⊥) → P y) → P (if_eq a b x y)
  when-eq a b x y f g = by-eq {r = if_eq a b x y} a b x y refl (λ h e. subst P (sym e) f) (λ h e. subst P (sym e) (g h))

  when-lt : (a b : ℕ) (x y : A) → (a < b → P x) → (b ≤ a → P y) → P (if_lt a b x y)
  when-lt a b x y f g = by-lt {r = if_lt a b x y} a b x y refl (λ h e. subst P (sym e) (f h)) (λ h e. subst P (sym e) (g h))

  when-b : (b : Bool) (x y : A) → (b ≡ true → P x) → P y → P (if_b b x y)
  when-b b x y f g = by-b {r = if_b b x y} b x y refl (λ h e. subst P (sym e) (f h)) (λ h e. subst P (sym e) g)

-- REQUESTS
module _ (me : ℕ) (small : me < 4294967296) (x : Place) where
  does-fit : (r : Request) → Fit (does me x r).rows
  unfolding timeout_rows
  does-fit =
      by_shape me x (λ r o. Fit o.rows) (λ r y m e. none-fit)
      (λ id y. whether-eq Fit (invocation_of x.control.invocations id).class 4 [] (cancel_row me id ∷ []) none-fit (one-fit (cancel_row me id) (cancel-small me id small)))
      (λ y. one-fit (dialogue_row row_abort me no_problem no_run 0) (dialogue-small row_abort me no_problem no_run 0 (omega arith) small (omega arith) (omega arith) (omega arith)))

  request-fit : (r : Request) → Fit (request me x r).rows
  unfolding request
  request-fit r = go (refusal x r) (does-fit r)
    where
      go : (n : ℕ) → Fit (does me x r).rows → Fit (unless_refused n x (does me x r)).rows
      go zero f = f
      go (suc n) f = none-fit

-- A RECEIVED MESSAGE
module _ (T : Table) (f : Fine T) (service : ℕ) (s< : service < services) (s : List ℕ) (octets : Octets s) (short : length s ≤ longest_message) where
  abbrev m : Message
  m = message_of s

  abbrev me : ℕ
  me = destination_number s m

  lies : MessageIn (length s) m
  lies = message-in s m refl

  me-small : me < 4294967296
  me-small =
      let a : ℕ = m.destination.start in
      omega (arith, octets a, octets (a + 1), octets (a + 2), octets (a + 3))

  few : length (items_of s m) ≤ 103
  unfolding items_of
  few =
      whether-eq (λ (l : List Item). length l ≤ 103) m.from 0 [] (components s m.to m.from) (omega arith)
      (components-few s octets m.to m.from lies.order (omega (arith, lies.ends)))

  all_lie : AllLie m.to (items_of s m)
  unfolding items_of
  all_lie = whether-eq (AllLie m.to) m.from 0 [] (components s m.to m.from) tt (components-lie s octets m.to m.from lies.order)

  -- a dialogue's row and at most 103 more
  shown-fit : (kind d room : ℕ) (c : Control) → kind ≤ 15 → d < 4294967296 → Fit (shown_rows kind d room c m (items_of s m))
  shown-fit kind d room c k h =
      let rows : List Row = component_rows d room c (items_of s m) in
      let n : length rows ≤ 103 = omega (arith, rows_long d room c (items_of s m), few) in
      record {
        few = omega arith;
        small = more-small (dialogue_row kind d no_problem m.portion (length rows)) rows
            (dialogue-small kind d no_problem m.portion (length rows) k h (omega arith) (omega (arith, lies.portion)) n)
            (components-small m.to (omega (arith, lies.ends)) d h room c (items_of s m) all_lie);
      }

  abort-fit : (cause : ℕ) → cause ≤ 65535 → Fit (dialogue_row row_abort me cause no_run 0 ∷ [])
  abort-fit cause h = one-fit (dialogue_row row_abort me cause no_run 0) (dialogue-small row_abort me cause no_run 0 (omega arith) me-small h (omega arith) (omega arith))

  faulted-fit : (cause : ℕ) → cause ≤ 65535 → Fits (faulted T service s m cause)
  unfolding faulted faulted_at
  faulted-fit cause h = whether-eq Fits m.origin.length 0 _ _ none-fit (whether-b Fits _ _ _ (abort-fit cause h) none-fit)

  to-dialogue-fit : (x : Place) → Fits (to_dialogue T service me s m x)
  unfolding to_dialogue continue_received end_received abort_received
  to-dialogue-fit x =
      whether-eq Fits x.control.state 3 _ _ (whether-eq Fits m.tag continue_tag _ _ (faulted-fit 3 (omega arith)) none-fit)
      (whether-eq Fits m.tag continue_tag _ _ (shown-fit row_continue me most_rejects _ (omega arith) me-small)
      (whether-eq Fits m.tag end_tag _ _ (shown-fit row_end me 0 x.control (omega arith) me-small)
      (whether-eq (λ (r : Row). Fit (r ∷ [])) m.cause no_problem _ _
      (one-fit (dialogue_row row_user_abort me no_problem m.portion 0) (dialogue-small row_user_abort me no_problem m.portion 0 (omega arith) me-small (omega arith) (omega (arith, lies.portion)) (omega arith)))
      (abort-fit m.cause lies.told))))

  begin-fit : Fits (begin_received T service s m)
  unfolding begin_received begin_at
  begin-fit =
      when-b Fits (may_begin T service) _ _
      (λ may.
      let p : ℕ = lowest_free T in
      let h : p < places_in_all = lowest-there T f service s< may in
      shown-fit row_begin (local_id p (place_at T p).control.turn) most_rejects _ (omega arith) (omega (arith, (f.each p h).control.turn)))
      (faulted-fit 4 (omega arith))

  sound-fit : Fits (sound_received T service s m)
  unfolding sound_received uni_received
  sound-fit =
      whether-eq Fits m.tag uni_tag _ _ (shown-fit row_uni 0 0 (empty_control 0) (omega arith) (omega arith))
      (whether-eq Fits m.tag begin_tag _ _ begin-fit (whether-b Fits _ _ _ (to-dialogue-fit _) (faulted-fit 1 (omega arith))))

  received-fit : Fits (received T service s m)
  unfolding received
  received-fit =
      when-eq Fits m.fault is_dropped _ _ none-fit
      (λ a. when-eq Fits m.fault is_sound _ _ sound-fit (λ b. faulted-fit m.fault (omega (arith, (message-read s).coded a b))))

-- EVERY STEP
pub step-fit : (T : Table) → Fine T → (c : Call) → WellFormed c → Fit (step T c).rows
unfolding step opened requested stored received_if
step-fit T f (Open service) o = whether-lt Fits service services _ _ (whether-b Fits _ _ _ none-fit none-fit) none-fit
step-fit T f (OnDialogue service dialogue r) o =
    whether-lt Fits service services _ _
    (when-b Fits (owns T service dialogue) _ _
    (λ h. request-fit dialogue (omega (arith, (owned-is T service dialogue h).small)) (place_at T (place_of dialogue)) r) none-fit)
    none-fit
step-fit T f (Receive service s) o =
    when-lt Fits service services _ _
    (λ s<. whether-eq Fits (length s) 0 _ _ none-fit (when-lt Fits 512 (length s) _ _ (λ h. none-fit) (λ h. received-fit T f service s< s o h)))
    (λ h. none-fit)
