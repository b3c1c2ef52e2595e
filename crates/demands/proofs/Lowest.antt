-- "WHERE SEVERAL APPLY, THE LOWEST" (01, "Answer numbers"): a call is answered by the lowest number that applies, by 0 where none does. Assumes nothing.
use Rattle.std.specs.Prelude.{◌≡◌, Bool, ◌&&◌, ◌||◌, List, [], ◌∷◌, length, get_or, eqb, ltb, leb}
use Rattle.std.proofs.Math.Path.{refl, ap}
use Rattle.std.proofs.Common.{sym, subst, ◌∙◌, arith, ltb-true, ltb-false, leb-true, le-leb, eqb-true, eq-eqb, ne_eqb}
use Rattle.std.proofs.Math.Bool.{true, false, cond, not}
use Prim.Native.Nat.{ℕ, zero, suc, ◌≤◌, ◌<◌}
use Rattle.std.proofs.lemmas.Bool.{lt-leb}
use Rattle.laws.specs.If.{if_lt, if_eq, if_b, true-false, eq, ne, by-eq, all}
use Rattle.laws.specs.Lists.{every}
use Rattle.laws.specs.Sums.{sum}
use Rattle.paper.specs.Sizes.{places_in_all, services, place_of, most_waiting}
use Rattle.paper.specs.Components.{waiting_items}
use Rattle.paper.specs.Writing.{invoke_octets, result_octets, error_octets, reject_octets}
use Rattle.paper.specs.Portions.{Form, aarq, aare, audt, portion_by}
use Rattle.paper.specs.Dialogues.{Place, Request, dialogue_open, dialogue_received, dialogue_active, is_portion, is_block, is_abort, has_peer, of_class4, overfull, first as first_of, unplaced, portion_refusal, invoke_refusal, result_refusal, error_refusal, reject_refusal, needs, needs_open, needs_peer, needs_sent, uni_refusal, abort_portion, abort_refusal, refusal, does, request, unless_refused}
use Rattle.paper.specs.Dialogues.Request.{Invoke, Result, Error, UserReject, Cancel, Begin, Continue, End, Prearranged, Abort, Unidirectional, Timeout, RejectTimeout, NoReaction}
use Rattle.paper.specs.Shares.{Resource, shared, limit_fits, shares_fit}
use Rattle.paper.specs.Calls.{Table, Call, Out, place_at, stored, requested, opened, received_if, step}
use Rattle.paper.specs.Calls.Call.{Open, OnDialogue, Receive}
use Rattle.paper.specs.Messages.{message_of}
use Rattle.paper.specs.Counting.{service_of}
use Rattle.paper.specs.Layout.{view}
use Rattle.paper.specs.Outcome.{Lent, Outcome, standing, shown, outcome, fresh_answer, fresh_outcome}
use Rattle.demand_kept.proofs.Shapes.{does-answers}
use Rattle.demands.specs.Applies.{Case, among, is_in, over, given, unnamed, in_active, portion_cases, cases_of, cases_in, cases, applies, some, fresh_cases, fresh_applies, Lowest}
use Rattle.demands.proofs.Tails.{received-quiet}

-- THE LOWEST of those that apply is the first, where the numbers rise
abbrev first : List Case → ℕ
first [] = 0
first (c ∷ cs) = if_b c.1 c.0 (first cs)

abbrev rising : ℕ → List Case → Bool
rising m [] = true
rising m (c ∷ cs) = leb m c.0 && rising c.0 cs

-- there is one lowest
module _ (f : ℕ → Bool) where
  not-less : (n m : ℕ) → Lowest f n → Lowest f m → n < m → ⊥
  not-less zero m v w h = true-false (sym (w.given (λ e. omega arith)) ∙ v.none refl m)
  not-less (suc n) m v w h = true-false (sym (v.given (λ e. omega arith)) ∙ w.lower (suc n) h)

  one-lowest : (n m : ℕ) → Lowest f n → Lowest f m → n ≡ m
  one-lowest n m v w = go (ltb n m) refl (ltb m n) refl
    where
      go : (a : Bool) → ltb n m ≡ a → (b : Bool) → ltb m n ≡ b → n ≡ m
      go true p b q = absurd (not-less n m v w (ltb-true n m p))
      go false p true q = absurd (not-less m n w v (ltb-true m n q))
      go false p false q = omega (arith, ltb-false n m p, ltb-false m n q)

rising-split : (m n : ℕ) (b : Bool) → leb m n && b ≡ true → (m ≤ n) × (b ≡ true)
rising-split m n b e = go (leb m n) refl e
  where
    go : (a : Bool) → leb m n ≡ a → a && b ≡ true → (m ≤ n) × (b ≡ true)
    go true q e = (leb-true m n q, e)
    go false q e = absurd (true-false (sym e))

other : (k n : ℕ) (b c : Bool) → (k ≡ n → ⊥) → eqb k n && b || c ≡ c
other k n b c h = ap (λ (t : Bool). t && b || c) (ne_eqb k n h)

below : (m : ℕ) (cs : List Case) → rising m cs ≡ true → (k : ℕ) → k < m → among k cs ≡ false
below m [] r k h = refl
below m (c ∷ cs) r k h =
    let s = rising-split m c.0 (rising c.0 cs) r in
    other k c.0 c.1 (among k cs) (λ e. omega (arith, s.0)) ∙ below c.0 cs s.1 k (omega (arith, s.0))

first-lowest : (m : ℕ) (cs : List Case) → 1 ≤ m → rising m cs ≡ true → Lowest (λ k. among k cs) (first cs)
unfolding if_b
first-lowest m [] h r = record { given = λ z. absurd (z refl); lower = λ k l. absurd (omega arith); none = λ z k. refl }
first-lowest m (c ∷ cs) h r =
    let s = rising-split m c.0 (rising c.0 cs) r in
    go c.0 c.1 (omega (arith, s.0)) s.1 (first-lowest c.0 cs (omega (arith, s.0)) s.1)
  where
    skip : (k n : ℕ) → eqb k n && false || among k cs ≡ among k cs
    skip k n = by (eqb k n)
      where
        by : (t : Bool) → t && false || among k cs ≡ among k cs
        by true = refl
        by false = refl

    go : (n : ℕ) (b : Bool) → 1 ≤ n → rising n cs ≡ true → Lowest (λ k. among k cs) (first cs) → Lowest (λ k. among k ((n, b) ∷ cs)) (first ((n, b) ∷ cs))
    go n true h r ih = record {
      given = λ z. ap (λ (t : Bool). t && true || among n cs) (eq-eqb n n refl);
      lower = λ k l. other k n true (among k cs) (λ e. omega arith) ∙ below n cs r k l;
      none = λ z. absurd (omega arith);
    }
    go n false h r ih = record {
      given = λ z. skip (first cs) n ∙ ih.given z;
      lower = λ k l. skip k n ∙ ih.lower k l;
      none = λ z k. skip k n ∙ ih.none z k;
    }

-- A TEST OF A REFUSAL'S NEST is one of ours: where it holds (is) or fails (not) the number n is given, else what follows
module _ {A : Type 0} (f : A → ℕ) {n r : ℕ} where
  is : (b : Bool) {x y : A} → f x ≡ n → f y ≡ r → f (cond b x y) ≡ cond b n r
  is true p q = p
  is false p q = q

  fails : (b : Bool) {x y : A} → f x ≡ r → f y ≡ n → f (cond b x y) ≡ cond (not b) n r
  fails true p q = p
  fails false p q = q

  is_lt : (a b : ℕ) (x y : A) → f x ≡ n → f y ≡ r → f (if_lt a b x y) ≡ if_b (ltb a b) n r
  unfolding if_lt if_b
  is_lt a b x y = is (ltb a b)

  not-lt : (a b : ℕ) (x y : A) → f x ≡ r → f y ≡ n → f (if_lt a b x y) ≡ if_b (not (ltb a b)) n r
  unfolding if_lt if_b
  not-lt a b x y = fails (ltb a b)

  is_eq : (a b : ℕ) (x y : A) → f x ≡ n → f y ≡ r → f (if_eq a b x y) ≡ if_b (eqb a b) n r
  unfolding if_eq if_b
  is_eq a b x y = is (eqb a b)

  not-eq : (a b : ℕ) (x y : A) → f x ≡ r → f y ≡ n → f (if_eq a b x y) ≡ if_b (not (eqb a b)) n r
  unfolding if_eq if_b
  not-eq a b x y = fails (eqb a b)

  not-b : (b : Bool) (x y : A) → f x ≡ r → f y ≡ n → f (if_b b x y) ≡ if_b (not b) n r
  unfolding if_b
  not-b b x y = fails b

-- a number is itself
abbrev itself : ℕ → ℕ
itself n = n

over-is : (x : Place) (l : List ℕ) → overfull x l ≡ if_b (over x l) 12 0
unfolding overfull
over-is x l = is_lt itself _ _ _ _ refl refl

peer-is : (x : Place) → needs_peer x ≡ if_b (not (is_in x dialogue_received || is_in x dialogue_active)) 6 0
unfolding needs_peer has_peer if_eq if_b
peer-is x = go (eqb x.control.state dialogue_received) (eqb x.control.state dialogue_active)
  where
    go : (a b : Bool) → cond {A = ℕ} (cond a true b) 0 6 ≡ cond (not (a || b)) 6 0
    go true b = refl
    go false true = refl
    go false false = refl

-- every waiting component is of class 4
abbrev of_classes : Place → Bool
of_classes x = every (of_class4 x.control) (waiting_items x.waiting)

uni-is : (x : Place) → uni_refusal x ≡ if_b (not (is_in x dialogue_open)) 6 (if_b (eqb (length x.waiting) 0) 6 (if_b (not (of_classes x)) 6 0))
unfolding uni_refusal
uni-is x = not-eq itself _ _ _ _ (is_eq itself _ _ _ _ refl (not-b itself _ _ _ refl refl)) refl

-- A SENDING: its state's refusal, else its portion's. What a test gives comes first
test-first : (b : Bool) (n q m : ℕ) {r : ℕ} → 0 < n → (b ≡ false → first_of q m ≡ r) → first_of (if_b b n q) m ≡ if_b b n r
unfolding first_of if_b
test-first true n q m some h = sym (ne _ _ _ _ (λ z. omega arith) refl)
test-first false n q m some h = h refl

none_first : (m : ℕ) → first_of 0 m ≡ m
unfolding first_of
none_first m = sym (eq _ _ _ _ refl refl)

-- 14, in any state; in Open, which isn't Active
unplaced-is : (x : Place) (name info : List ℕ) → unplaced x.control.state name info ≡ if_b (unnamed name info) 14 (if_b (in_active x name info) 14 0)
unfolding unplaced if_eq if_b
unplaced-is x name info = go (eqb (length name) 0) (eqb (length info) 0) (is_in x dialogue_active)
  where
    go : (a b c : Bool) → cond {A = ℕ} a (cond b 0 14) (cond c 14 0) ≡ cond (not b && not (not a)) 14 (cond (c && (not a || not b)) 14 0)
    go true true true = refl
    go true true false = refl
    go true false c = refl
    go false true true = refl
    go false true false = refl
    go false false true = refl
    go false false false = refl

open-unplaced : (x : Place) (name info : List ℕ) → not (is_in x dialogue_open) ≡ false → unplaced x.control.state name info ≡ if_b (unnamed name info) 14 0
unfolding if_b
open-unplaced x name info e =
    unplaced-is x name info
    ∙ ap (λ (b : Bool). cond {A = ℕ} (unnamed name info) 14 (cond (b && (given name || given info)) 14 0)) (ne_eqb x.control.state dialogue_active (λ z. omega (arith, is_open)))
  where
    is_open : x.control.state ≡ 1
    is_open = eqb-true x.control.state 1 (was-not (is_in x dialogue_open) e)
      where
        was-not : (b : Bool) → not b ≡ false → b ≡ true
        was-not true e = refl
        was-not false e = absurd (true-false e)

portion-is : (x : Place) (f : Form) (name info : List ℕ) (cs : List Case) → unplaced x.control.state name info ≡ first ((14, unnamed name info) ∷ cs)
    → portion_refusal x f name info ≡ first (portion_cases x f name info cs)
unfolding portion_refusal
portion-is x f name info cs e =
    not-b itself _ _ _
    (not-b itself _ _ _ (ap (λ (n : ℕ). first_of n (unplaced x.control.state name info)) (over-is x (portion_by f name info)) ∙ test-first (over x (portion_by f name info)) 12 _ _ (omega arith) (λ _. none_first _ ∙ e)) refl) refl

-- with begin and Unidirectional, with continue and end
open-first : (x : Place) (f : Form) (name info : List ℕ) → not (is_in x dialogue_open) ≡ false → portion_refusal x f name info ≡ first (portion_cases x f name info [])
open-first x f name info e = portion-is x f name info [] (open-unplaced x name info e)

begin-first : (x : Place) (name info : List ℕ) → refusal x (Begin name info) ≡ first (cases_of x (Begin name info))
unfolding refusal needs_open
begin-first x name info =
    ap (λ (n : ℕ). first_of n (portion_refusal x aarq name info)) (not-eq itself x.control.state dialogue_open 0 6 refl refl)
    ∙ test-first (not (is_in x dialogue_open)) 6 _ _ (omega arith) (λ e. none_first _ ∙ open-first x aarq name info e)

uni-first : (x : Place) (name info : List ℕ) → refusal x (Unidirectional name info) ≡ first (cases_of x (Unidirectional name info))
unfolding refusal
uni-first x name info =
    ap (λ (n : ℕ). first_of n (portion_refusal x audt name info)) (uni-is x)
    ∙ test-first (not (is_in x dialogue_open)) 6 _ _ (omega arith) (λ e. test-first (eqb (length x.waiting) 0) 6 _ _ (omega arith)
    (λ _. test-first (not (of_classes x)) 6 _ _ (omega arith) (λ _. none_first _ ∙ open-first x audt name info e)))

peer-first : (x : Place) (name info : List ℕ) → first_of (needs_peer x) (portion_refusal x aare name info) ≡ first (cases_of x (Continue name info))
peer-first x name info =
    ap (λ (n : ℕ). first_of n (portion_refusal x aare name info)) (peer-is x)
    ∙ test-first (not (is_in x dialogue_received || is_in x dialogue_active)) 6 _ _ (omega arith)
    (λ _. none_first _ ∙ portion-is x aare name info ((14, in_active x name info) ∷ []) (unplaced-is x name info))

-- AN ABORT'S OCTETS: a BE element is neither a 6B nor none
block-alone : (l : List ℕ) → get_or l 0 0 ≡ 0xBE → is_portion l ≡ false
unfolding is_portion
block-alone [] e = absurd (omega arith)
block-alone (x ∷ l) e = sym (ne _ _ _ _ (λ z. omega arith) (ne _ _ _ _ (λ z. omega arith) refl))

abort-is : (l : List ℕ) → is_abort l ≡ is_block l || is_portion l
unfolding is_abort is_block
abort-is l =
    by-eq {r = is_abort l} _ _ _ _ refl (λ a z. z ∙ sym (ap (λ (b : Bool). is_block l || b) (block-alone l a) ∙ or-false (is_block l)))
    (λ a z. z ∙ ap (λ (b : Bool). b || is_portion l) (ne _ _ _ _ a refl))
  where
    or-false : (b : Bool) → b || false ≡ b
    or-false true = refl
    or-false false = refl

-- EACH REQUEST: its refusal is the first of its cases, and they rise from 5 on
refusal-first : (x : Place) (r : Request) → (refusal x r ≡ first (cases_of x r)) × (rising 5 (cases_of x r) ≡ true)
unfolding refusal invoke_refusal result_refusal error_refusal reject_refusal needs needs_open needs_sent uni_refusal abort_refusal
refusal-first x (Invoke id linked class op par) = (
  is_lt itself _ _ _ _ refl
      (is_lt itself _ _ _ _ refl
      (not-eq itself _ _ _ _
      (is_eq itself _ _ _ _ refl (not-b itself _ _ _ (not-b itself _ _ _ (over-is x (invoke_octets id linked op par)) refl) refl))
      refl)),
  refl,
)
refusal-first x (Result tag id op par) = (is_eq itself _ _ _ _ refl (not-b itself _ _ _ (over-is x (result_octets tag id op par)) refl), refl)
refusal-first x (Error id err par) =
    (is_eq itself _ _ _ _ refl (not-b itself _ _ _ (not-b itself _ _ _ (over-is x (error_octets id err par)) refl) refl), refl)
refusal-first x (UserReject id p) =
    (is_eq itself _ _ _ _ refl (not-eq itself _ _ _ _ (not-b itself _ _ _ (over-is x (reject_octets id p)) refl) refl), refl)
refusal-first x (Cancel id) = (not-eq itself _ _ _ _ refl refl, refl)
refusal-first x (Begin name info) = (begin-first x name info, refl)
refusal-first x (Continue name info) = (peer-first x name info, refl)
refusal-first x (End name info) = (peer-first x name info, refl)
refusal-first x Prearranged = (refl, refl)
refusal-first x (Abort given) = (
  not-b itself _ _ _ (is_lt itself _ _ _ _ refl refl) refl ∙ ap (λ (b : Bool). if_b (not b) 11 (if_b (ltb most_waiting (length (abort_portion given))) 12 0)) (abort-is given),
  refl,
)
refusal-first x (Unidirectional name info) = (uni-first x name info, refl)
refusal-first x (Timeout id) = (not-eq itself _ _ _ _ refl refl, refl)
refusal-first x (RejectTimeout id) = (not-eq itself _ _ _ _ refl refl, refl)
refusal-first x NoReaction = (not-eq itself _ _ _ _ refl refl, refl)

request-answer : (me : ℕ) (x : Place) (r : Request) → (request me x r).answer ≡ refusal x r
unfolding request
request-answer me x r = go (refusal x r)
  where
    go : (n : ℕ) → (unless_refused n x (does me x r)).answer ≡ n
    go zero = does-answers me x r
    go (suc n) = refl

abbrev answer_of : Out → ℕ
answer_of o = o.answer

-- EACH CALL, from 3 on
step-first : (T : Table) (c : Call) → (step T c).answer ≡ first ((3, not (ltb (service_of c) services)) ∷ cases_in T c)
unfolding step opened requested stored received_if
step-first T (Open service) = not-lt answer_of _ _ _ _ (not-b answer_of _ _ _ refl refl) refl
step-first T (OnDialogue service dialogue r) =
    not-lt answer_of _ _ _ _
    (not-b answer_of _ _ _ (request-answer dialogue (place_at T (place_of dialogue)) r ∙ (refusal-first (place_at T (place_of dialogue)) r).0) refl) refl
step-first T (Receive service s) =
    not-lt answer_of _ _ _ _
    (is_eq answer_of _ _ _ _ refl (is_lt answer_of _ _ _ _ refl (received-quiet T service s (message_of s)).done)) refl

cases-rise : (l : Lent) (c : Call) → rising 1 (cases l c) ≡ true
cases-rise l (Open service) = refl
cases-rise l (OnDialogue service dialogue r) = (refusal-first (place_at (view l.table) (place_of dialogue)) r).1
cases-rise l (Receive service s) = refl

-- an outcome given at n is answered n, whether it is 0 or not
settled : (n : ℕ) (x y : Outcome) → x.answer ≡ 0 → y.answer ≡ n → (if_eq n 0 x y).answer ≡ n
settled n x y p q =
    by-eq {r = if_eq n 0 x y} n 0 x y refl (λ z e. ap (λ (o : Outcome). o.answer) e ∙ p ∙ sym z) (λ z e. ap (λ (o : Outcome). o.answer) e ∙ q)

outcome-first : (l : Lent) (c : Call) → (outcome l c).answer ≡ first (cases l c)
unfolding outcome standing
outcome-first l c =
    not-eq shows _ _ _ _
    (is_lt shows _ _ _ _ refl (is_lt shows _ _ _ _ refl (not-b shows _ _ _ (settled (step T c).answer _ _ refl refl ∙ step-first T c) refl))) refl
  where
    T : Table
    T = view l.table

    shows : ℕ → ℕ
    shows n = (shown n l (step T c)).answer

-- ANSWER NUMBERS: whatever octets are lent, the answer is the lowest number that applies, 0 where none does
pub lowest : (l : Lent) (c : Call) → Lowest (λ n. applies n l c) (outcome l c).answer
unfolding applies
lowest l c = subst (Lowest (λ n. among n (cases l c))) (sym (outcome-first l c)) (first-lowest 1 (cases l c) (omega arith) (cases-rise l c))

-- and no other number is so: each is "given exactly when" it is the lowest that applies
pub given-exactly : (l : Lent) (c : Call) (n : ℕ) → Lowest (λ k. applies k l c) n → (outcome l c).answer ≡ n
given-exactly l c n w = one-lowest (λ k. applies k l c) (outcome l c).answer n (lowest l c) w

-- shares that don't fit are wrong in one of the three ways
leb-not : (a b : ℕ) → leb a b ≡ not (ltb b a)
leb-not a b = go (ltb b a) refl
  where
    go : (t : Bool) → ltb b a ≡ t → leb a b ≡ not t
    go true e = lt-leb a b (ltb-true b a e)
    go false e = le-leb a b (ltb-false b a e)

module _ (R : Resource) where
  abbrev above : ℕ → Bool
  above n = some (λ k. ltb (R.limit k) (R.guarantee k)) n

  abbrev wide : ℕ → Bool
  wide n = some (λ k. ltb R.size (R.limit k)) n

  limits-fit : (n : ℕ) → all (limit_fits R) n ≡ not (above n || wide n)
  unfolding if_b if_lt
  limits-fit zero = refl
  limits-fit (suc n) =
      ap (λ (t : Bool). cond t (limit_fits R n) false) (limits-fit n)
      ∙ ap (λ (t : Bool). cond (not (above n || wide n)) (cond (ltb (R.limit n) (R.guarantee n)) false t) false) (leb-not (R.limit n) R.size)
      ∙ go (above n) (wide n) (ltb (R.limit n) (R.guarantee n)) (ltb R.size (R.limit n))
    where
      go : (a b c d : Bool) → cond (not (a || b)) (cond c false (not d)) false ≡ not ((a || c) || (b || d))
      go true b c d = refl
      go false true true d = refl
      go false true false d = refl
      go false false true d = refl
      go false false false d = refl

  abbrev n : ℕ
  n = R.services

  shares-first : if_b {A = ℕ} (shares_fit R) 0 13 ≡ if_b (above n) 13 (if_b (wide n) 13 (if_b (ltb R.size (sum R.guarantee n)) 13 0))
  unfolding if_b shares_fit
  shares-first =
      ap (λ (t : Bool). cond {A = ℕ} (cond t (leb (sum R.guarantee n) R.size) false) 0 13) (limits-fit n)
      ∙ ap (λ (t : Bool). cond {A = ℕ} (cond (not (above n || wide n)) t false) 0 13) (leb-not (sum R.guarantee n) R.size)
      ∙ go (above n) (wide n) (ltb R.size (sum R.guarantee n))
    where
      go : (a b c : Bool) → cond {A = ℕ} (cond (not (a || b)) (not c) false) 0 13 ≡ cond a 13 (cond b 13 (cond c 13 0))
      go true b c = refl
      go false true c = refl
      go false false true = refl
      go false false false = refl

-- fresh likewise: "Fresh gives only 1, 13 or 0"
pub fresh-lowest : (t g l : List ℕ) → Lowest (λ n. fresh_applies n t g l) (fresh_outcome t g l).answer
unfolding fresh_applies fresh_outcome fresh_answer
fresh-lowest t g l =
    subst (Lowest (λ n. among n (fresh_cases t g l))) (sym (settled (fresh_answer t g l) _ _ refl refl ∙ nest)) (first-lowest 1 (fresh_cases t g l) (omega arith) refl)
  where
    nest : fresh_answer t g l ≡ first (fresh_cases t g l)
    nest = not-eq itself _ _ _ _ (not-eq itself _ _ _ _ (not-eq itself _ _ _ _ (shares-first (shared places_in_all services g l (λ k. 0))) refl) refl) refl
