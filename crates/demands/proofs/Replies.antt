-- WHAT A FRESH, AN OPEN AND A RECEIVED MESSAGE ARE ANSWERED, at the octets of a table that keeps the rules. Assumes nothing.
use Rattle.std.specs.Prelude.{◌≡◌, Bool, true, false, not, ◌||◌, List, length}
use Rattle.std.proofs.Math.Path.{refl, sym, ap}
use Rattle.std.proofs.Common.{◌∙◌, arith}
use Prim.Native.Nat.{ℕ, zero, suc, ◌≤◌, ◌<◌}
use Rattle.laws.specs.If.{if_b, lt, eq, ne, ge, yes, no, by-eq, by-b, was-eq, was-yes, true-false}
use Rattle.paper.specs.Sizes.{services, place_of}
use Rattle.paper.specs.Messages.{message_of}
use Rattle.paper.specs.Dialogues.{Place, Request, unless_refused, refusal, does, request}
use Rattle.paper.specs.Dialogues.Request.{Invoke, Result, Error, UserReject, Cancel, Begin, Continue, End, Prearranged, Abort, Unidirectional, Timeout, RejectTimeout, NoReaction}
use Rattle.paper.specs.Calls.{Table, Out, place_at, may_begin, owns, stored, requested, opened, refuse, received_if, step}
use Rattle.paper.specs.Calls.Call.{Open, OnDialogue, Receive}
use Rattle.paper.specs.Counting.{Notice}
use Rattle.paper.specs.Layout.{encode, view}
use Rattle.paper.specs.Outcome.{Lent, Outcome, standing, spaces_for, given, shown, outcome, fresh_answer, fresh_outcome}
use Rattle.table_laws.specs.Fine.{Fine}
use Rattle.table_laws.proofs.Whole.{view-encode}
use Rattle.table_laws.proofs.Ready.{encode-stands}
use Rattle.demand_kept.proofs.Shapes.{does-answers}
use Rattle.demand_kept.specs.StepKept.{WellFormed}
use Rattle.demands.proofs.Tails.{received-quiet}
use Rattle.demands.specs.Applies.{among, cases_of, applies}
use Rattle.demands.proofs.Lowest.{lowest}
use Rattle.demands.specs.History.{Made, gave, told}
use Rattle.demands.proofs.History.{told-step}
use Rattle.demands.specs.Replies.{Begun, lent_with, Wide, asks}

pub begun-told : (t g l : List ℕ) → (fresh_outcome t g l).answer ≡ 0 → Begun t g l
unfolding fresh_outcome fresh_answer
begun-told t g l e =
    by-eq {r = fresh_outcome t g l} (fresh_answer t g l) 0 _ _ refl
    (λ q z.
    let a = was-eq _ _ _ _ (sym q) (λ z. omega arith) in
    let b = was-eq _ _ _ _ a.1 (λ z. omega arith) in
    let c = was-eq _ _ _ _ b.1 (λ z. omega arith) in
    let d = was-yes _ _ _ c.1 (λ z. omega arith) in
    record { guarantees = b.0; limits = c.0; fit = d.0; table = ap (λ (x : Outcome). x.lent.table) z })
    (λ q z. absurd (q (sym (ap (λ (x : Outcome). x.answer) z) ∙ e)))

module _ (T : Table) (f : Fine T) (m : Made) (wide : Wide m) where
  pub stands-wide : standing (lent_with T m) (spaces_for m.call) ≡ 0
  unfolding standing
  stands-wide = sym (eq _ _ _ _ (encode-stands T f).0 (ge _ _ _ _ wide.rows (ge _ _ _ _ wide.space (yes _ _ _ (encode-stands T f).1 refl))))

  gave-step : gave (encode T) m ≡ shown 0 (lent_with T m) (step T m.call)
  unfolding outcome
  gave-step =
      ap (λ (n : ℕ). shown n (lent_with T m) (step (view (encode T)) m.call)) stands-wide
      ∙ ap (λ (U : Table). shown 0 (lent_with T m) (step U m.call)) (view-encode T f)

  pub gave-answer : (gave (encode T) m).answer ≡ (step T m.call).answer
  gave-answer =
      ap (λ (o : Outcome). o.answer) gave-step
      ∙ by-eq {r = shown 0 (lent_with T m) (step T m.call)} _ _ _ _ refl (λ a z. ap (λ (o : Outcome). o.answer) z ∙ sym a) (λ a z. ap (λ (o : Outcome). o.answer) z)

  pub gave-done : (step T m.call).answer ≡ 0 → gave (encode T) m ≡ given (lent_with T m) (step T m.call)
  gave-done e = gave-step ∙ sym (eq _ _ _ _ e refl)

  -- and tells its rows
  pub gave-rows : WellFormed m.call → (step T m.call).answer ≡ 0 → (told (gave (encode T) m)).rows ≡ (step T m.call).rows
  gave-rows w e =
      ap (λ (o : Outcome). (told o).rows) (gave-done e) ∙ ap (λ (n : Notice). n.rows) (told-step T f (lent_with T m) m.call w stands-wide e)

pub open-answer : (T : Table) → Fine T → (s : ℕ) → s < services → (gave (encode T) (asks s)).answer ≡ if_b (may_begin T s) 0 7
unfolding step opened
open-answer T f s h =
    gave-answer T f (asks s) (record { rows = omega arith; space = omega arith })
    ∙ by-b {r = opened T s} _ _ _ refl (λ e z. given_is _ z ∙ yes _ _ _ e refl) (λ e z. given_is _ z ∙ no _ _ _ e refl)
  where
    given_is : (o : Out) → opened T s ≡ o → (step T (Open s)).answer ≡ o.answer
    given_is o z = ap (λ (x : Out). x.answer) (sym (lt _ _ _ _ h (sym z)))

-- A RECEIVED MESSAGE of 1 to 512 octets is answered 0
pub receive-answers : (T : Table) (s : ℕ) (msg : List ℕ) → s < services → 0 < length msg → length msg ≤ 512 → (step T (Receive s msg)).answer ≡ 0
unfolding step received_if
receive-answers T s msg h some few =
    sym (ap (λ (x : Out). x.answer) (lt _ _ _ _ h (ne _ _ _ _ (λ z. omega arith) (ge _ _ _ _ few refl)))) ∙ (received-quiet T s msg (message_of msg)).done

-- A REQUEST OR TIMER EVENT: on its service's dialogue it is answered by its refusal, else by 5
module _ (T : Table) (f : Fine T) (s d : ℕ) (r : Request) (rows space : List ℕ) (h : s < services) (wide : Wide (record { call = OnDialogue s d r; rows = rows; space = space })) where
  abbrev made : Made
  made = record { call = OnDialogue s d r; rows = rows; space = space }

  abbrev x : Place
  x = place_at T (place_of d)

  pub request-answered : owns T s d ≡ true → (gave (encode T) made).answer ≡ refusal x r
  unfolding step requested stored request
  request-answered o =
      gave-answer T f made wide ∙ sym (ap (λ (y : Out). y.answer) (lt {r = stored T (place_of d) (request d x r)} _ _ _ _ h (yes _ _ _ o refl))) ∙ by (refusal x r)
    where
      by : (n : ℕ) → (unless_refused n x (does d x r)).answer ≡ n
      by zero = does-answers d x r
      by (suc n) = refl

  pub unknown-answered : owns T s d ≡ false → (gave (encode T) made).answer ≡ 5
  unfolding step requested
  unknown-answered o = gave-answer T f made wide ∙ sym (ap (λ (y : Out). y.answer) (lt {r = refuse 5 T} _ _ _ _ h (no _ _ _ o refl)))

-- no refusal is 5: where 5 applies, the dialogue isn't that service's
none-5 : (x : Place) (r : Request) → among 5 (cases_of x r) ≡ false
none-5 x (Invoke id linked class op par) = refl
none-5 x (Result tag id op par) = refl
none-5 x (Error id err par) = refl
none-5 x (UserReject id p) = refl
none-5 x (Cancel id) = refl
none-5 x (Begin name info) = refl
none-5 x (Continue name info) = refl
none-5 x (End name info) = refl
none-5 x Prearranged = refl
none-5 x (Abort given) = refl
none-5 x (Unidirectional name info) = refl
none-5 x (Timeout id) = refl
none-5 x (RejectTimeout id) = refl
none-5 x NoReaction = refl

pub owned-not-5 : (l : Lent) (s d : ℕ) (r : Request) → owns (view l.table) s d ≡ true → (outcome l (OnDialogue s d r)).answer ≡ 5 → ⊥
unfolding applies
owned-not-5 l s d r o e =
    let a : applies 5 l (OnDialogue s d r) ≡ true =
    ap (λ (n : ℕ). applies n l (OnDialogue s d r)) (sym e) ∙ (lowest l (OnDialogue s d r)).given (λ z. omega arith) in
    true-false (sym a ∙ ap (λ (b : Bool). not b || among 5 (cases_of (place_at (view l.table) (place_of d)) r)) o ∙ none-5 (place_at (view l.table) (place_of d)) r)
