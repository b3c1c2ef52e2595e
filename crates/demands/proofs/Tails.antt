-- WHAT A CALL LEAVES AS IT WAS (01, "Answer numbers"): octets after the message written and rows after the last; everything, where a
-- received message is dropped; the table, where a fresh one is refused. Assumes nothing.
use Rattle.std.specs.Prelude.{◌≡◌, refl, List, [], ◌∷◌, ℕ, zero, suc, ◌+◌, ◌*◌, ◌≤◌, length, drop, set}
use Rattle.std.proofs.Common.{ap, ◌∙◌, arith, drop-set-lt}
use Rattle.std.proofs.lemmas.List.Edits.{sets}
use Rattle.paper.specs.declared.Message.{Message}
use Rattle.paper.specs.declared.Row.{Row}
use Rattle.paper.specs.Rows.{rows_octets}
use Rattle.paper.specs.Messages.{message_of}
use Rattle.paper.specs.Dialogues.{Place}
use Rattle.paper.specs.Calls.{Table, Call, Out, faulted_at, faulted, uni_received, begin_at, begin_received, continue_received, end_received, abort_received, to_dialogue, sound_received, received, received_if, step}
use Rattle.paper.specs.Calls.Call.{Receive}
use Rattle.paper.specs.Layout.{encode, view}
use Rattle.paper.specs.Outcome.{Lent, Outcome, spaces_for, standing, given, refused_by, shown, outcome, fresh_outcome}
use Rattle.table_laws.specs.Fine.{Octets}
use Rattle.demand_kept.proofs.Leaves.{whether-eq, whether-lt, whether-b}
use Rattle.demands.proofs.Rows.{octets-long}
use Rattle.demands.proofs.Stands.{stands-ready}
use Rattle.demands.specs.Tails.{Quiet, Tails}

module _ (T : Table) where
  -- the table as it was; a row
  kept : (rows : List Row) (message : List ℕ) → Quiet T (record { answer = 0; dialogue = 0; rows = rows; message = message; table = T })
  kept rows message = record { done = refl; same = λ e. refl }

  rowed : (r : Row) (rows : List Row) (message : List ℕ) (U : Table) → Quiet T (record { answer = 0; dialogue = 0; rows = r ∷ rows; message = message; table = U })
  rowed r rows message U = record { done = refl; same = λ e. absurd (omega arith) }

  module _ (service : ℕ) (s : List ℕ) (m : Message) where
    faulted-quiet : (cause : ℕ) → Quiet T (faulted T service s m cause)
    unfolding faulted faulted_at
    faulted-quiet cause = whether-eq (Quiet T) _ _ _ _ (kept _ _) (whether-b (Quiet T) _ _ _ (rowed _ _ _ _) (kept _ _))

    dialogue-quiet : (me : ℕ) (x : Place) → Quiet T (to_dialogue T service me s m x)
    unfolding to_dialogue continue_received end_received abort_received
    dialogue-quiet me x =
        whether-eq (Quiet T) _ _ _ _ (whether-eq (Quiet T) _ _ _ _ (faulted-quiet 3) (kept _ _))
        (whether-eq (Quiet T) _ _ _ _ (rowed _ _ _ _) (whether-eq (Quiet T) _ _ _ _ (rowed _ _ _ _) (rowed _ _ _ _)))

    pub received-quiet : Quiet T (received T service s m)
    unfolding received sound_received uni_received begin_received begin_at
    received-quiet =
        whether-eq (Quiet T) _ _ _ _ (kept _ _)
        (whether-eq (Quiet T) _ _ _ _
        (whether-eq (Quiet T) _ _ _ _ (kept _ _)
        (whether-eq (Quiet T) _ _ _ _ (whether-b (Quiet T) _ _ _ (rowed _ _ _ _) (faulted-quiet 4))
        (whether-b (Quiet T) _ _ _ (dialogue-quiet _ _) (faulted-quiet 1))))
        (faulted-quiet m.fault))

-- A DROPPED MESSAGE changes nothing: "no row, no message, no octet changed"
quiet_step : (T : Table) (service : ℕ) (s : List ℕ) → length (step T (Receive service s)).rows ≡ 0 → (step T (Receive service s)).table ≡ T
unfolding step received_if
quiet_step T service s =
    whether-lt Same _ _ _ _
    (whether-eq Same _ _ _ _ (λ e. refl) (whether-lt Same _ _ _ _ (λ e. refl) (received-quiet T service s (message_of s)).same))
    (λ e. refl)
  where
    Same : Out → Type 0
    Same o = length o.rows ≡ 0 → o.table ≡ T

pub dropped-changes-nothing : (l : Lent) (service : ℕ) (s : List ℕ) → Octets l.table
    → (outcome l (Receive service s)).rows ≡ 0 → (outcome l (Receive service s)).length ≡ 0 → (outcome l (Receive service s)).lent ≡ l
unfolding outcome rows_octets
dropped-changes-nothing l service s o = stand (standing l (spaces_for (Receive service s))) refl
  where
    T : Table
    T = view l.table

    g : Out
    g = step T (Receive service s)

    Same : Outcome → Type 0
    Same x = x.rows ≡ 0 → x.length ≡ 0 → x.lent ≡ l

    none : (A : Type 0) (xs : List A) → length xs ≡ 0 → xs ≡ []
    none A [] e = refl
    none A (x ∷ xs) e = absurd (omega arith)

    done : standing l (spaces_for (Receive service s)) ≡ 0 → Same (given l g)
    done z a b =
        let t : encode g.table ≡ l.table = ap encode (quiet_step T service s a) ∙ (stands-ready l (spaces_for (Receive service s)) o z).same in
        let r : sets l.rows 0 (rows_octets g.rows) ≡ l.rows = ap (λ (x : List Row). sets l.rows 0 (rows_octets x)) (none Row g.rows a) in
        let m : sets l.space 0 g.message ≡ l.space = ap (λ (x : List ℕ). sets l.space 0 x) (none ℕ g.message b) in
        λ i. record { table = t i; rows = r i; space = m i }

    stand : (n : ℕ) → standing l (spaces_for (Receive service s)) ≡ n → Same (shown n l g)
    stand zero e = whether-eq Same _ _ _ _ (done e) (λ a b. refl)
    stand (suc n) e = λ a b. refl

-- A REFUSED FRESH changes nothing
pub fresh-refused : (t g l : List ℕ) → ((fresh_outcome t g l).answer ≡ 0 → ⊥) → (fresh_outcome t g l).lent.table ≡ t
unfolding fresh_outcome
fresh-refused t g l = whether-eq (λ (o : Outcome). (o.answer ≡ 0 → ⊥) → o.lent.table ≡ t) _ _ _ _ (λ n. absurd (n refl)) (λ n. refl)

-- AFTER THE MESSAGE AND AFTER THE LAST ROW: "At 0, row numbers after the last row and octets after the message written keep what they held"
drop-sets : (l : List ℕ) (i : ℕ) (vs : List ℕ) (n : ℕ) → i + length vs ≤ n → drop n (sets l i vs) ≡ drop n l
drop-sets l i [] n h = refl
drop-sets l i (v ∷ vs) n h = drop-sets (set l i v) (suc i) vs n (omega arith) ∙ drop-set-lt n l i v (omega arith)

pub tails-kept : (l : Lent) (c : Call) → Tails l (outcome l c)
unfolding outcome
tails-kept l c = stand (standing l (spaces_for c))
  where
    refused : (n : ℕ) → Tails l (refused_by n l)
    refused n = record { space = refl; rows = refl }

    done : (o : Out) → Tails l (given l o)
    done o = record {
      space = drop-sets l.space 0 o.message (length o.message) (omega arith);
      rows = drop-sets l.rows 0 (rows_octets o.rows) (32 * length o.rows) (omega (arith, octets-long o.rows));
    }

    stand : (n : ℕ) → Tails l (shown n l (step (view l.table) c))
    stand zero = whether-eq (Tails l) _ _ _ _ (done (step (view l.table) c)) (refused (step (view l.table) c).answer)
    stand (suc n) = refused (suc n)
