-- WHAT A COMPONENT IS REFUSED BY, and what stands where it isn't (01, answers 6 and 8 to 12). Assumes nothing.
use Rattle.std.specs.Prelude.{◌≡◌, Bool, true, false, List, ℕ, ◌+◌, ◌<◌, ◌≤◌, ltb}
use Rattle.std.proofs.Math.Path.{refl, sym, ap, subst}
use Rattle.std.proofs.Common.{◌∙◌, arith, ltb-true, ltb-false}
use Rattle.std.proofs.Math.ListN.{length, get_or-eq_default}
use Rattle.laws.specs.If.{if_lt, if_eq, if_b, lt, ge, eq, ne, yes, no, was-ge, was-eq, was-yes, by-eq, true-false}
use Rattle.paper.specs.declared.Invocation.{Invocation}
use Rattle.paper.specs.Sizes.{most_invocations, most_waiting}
use Rattle.paper.specs.Components.{no_id}
use Rattle.paper.specs.Problems.{by_user, sender_of, sender_of_problem, kind_of}
use Rattle.paper.specs.Writing.{invoke_octets, result_octets, error_octets, reject_octets}
use Rattle.paper.specs.Invocations.{idle, no_invocation, slot_of, idle_slot, invocation_of, state_of, may_reject, passed, to_state, rejecting}
use Rattle.paper.specs.Dialogues.{Place, dialogue_open, is_code, is_parameter, is_result, overfull, invoke_refusal, result_refusal, error_refusal, reject_refusal, rejected_by}
use Rattle.paper.specs.Calls.{place_at}
use Rattle.paper.specs.Layout.{view}
use Rattle.writing_octets.specs.Lengths.{element_size, result_size, plain_size, linked-size, invoke-length, result-length, error-length, reject-length, some_size}
use Rattle.call_given.specs.Pieces.{pieces_refusal, both_refusal}
use Rattle.table_laws.proofs.Keeps.{passed-fine, to-state-fine}
use Rattle.table_places.specs.Storing.{Storing}
use Rattle.call_entry.specs.Prologue.{Used, used-storing}

-- the octets before an invoke's operation: the linked ID, 256 none, takes three
unfoldable pub front_of : ℕ → ℕ
front_of linked = if_eq linked no_id 3 6

pub front-small : (linked : ℕ) → front_of linked ≤ 6
unfolding front_of
front-small linked = by-eq {r = front_of linked} linked no_id 3 6 refl (λ h e. omega (arith, e)) (λ h e. omega (arith, e))

front-size : (id linked : ℕ) (op par : List ℕ) → element_size (front_of linked + length op + length par) ≡ length (invoke_octets id linked op par)
unfolding front_of
front-size id linked op par =
    by-eq {r = front_of linked} linked no_id 3 6 refl
    (λ h e. ap (λ (k : ℕ). element_size (k + length op + length par)) e ∙ plain_size op par linked h)
    (λ h e. ap (λ (k : ℕ). element_size (k + length op + length par)) e ∙ linked-size op par linked h)
    ∙ sym (invoke-length op par id linked)

module _ (x : Place) where
  module _ {n : ℕ} (w : length x.waiting ≡ n) where
    over-as : (size : ℕ) (l : List ℕ) → size ≡ length l → if_lt most_waiting (n + size) 12 0 ≡ overfull x l
    unfolding overfull
    over-as size l e = ap (λ (k : ℕ). if_lt most_waiting (k + size) 12 0) (sym w) ∙ ap (λ (k : ℕ). if_lt most_waiting (length x.waiting + k) 12 0) e

    pieces-as : (front : ℕ) (code par l : List ℕ) → element_size (front + length code + length par) ≡ length l
        → pieces_refusal n front code par ≡ if_b (is_code code) (if_b (is_parameter par) (overfull x l) 11) 11
    unfolding pieces_refusal
    pieces-as front code par l e = ap (λ (k : ℕ). if_b (is_code code) (if_b (is_parameter par) k 11) 11) (over-as _ l e)

  room : (l : List ℕ) → 0 ≡ overfull x l → length x.waiting + length l ≤ most_waiting
  unfolding overfull
  room l e = (was-ge most_waiting (length x.waiting + length l) 12 0 e (λ z. omega arith)).0

  -- ---- an invoke
  module _ (id linked class : ℕ) (op par : List ℕ) where
    pub class_low : class < 1 → 8 ≡ invoke_refusal x id linked class op par
    unfolding invoke_refusal
    class_low h = lt _ _ _ _ h refl

    pub class-high : 4 < class → 8 ≡ invoke_refusal x id linked class op par
    unfolding invoke_refusal
    class-high h = ge _ _ _ _ (omega arith) (lt _ _ _ _ h refl)

    module _ (a : 1 ≤ class) (b : class ≤ 4) where
      pub not-idle : (state_of x.control id ≡ idle → ⊥) → 9 ≡ invoke_refusal x id linked class op par
      unfolding invoke_refusal
      not-idle h = ge _ _ _ _ a (ge _ _ _ _ b (ne _ _ _ _ h refl))

      module _ (d : state_of x.control id ≡ idle) where
        pub eight-open : idle_slot x.control.invocations ≡ most_invocations → 10 ≡ invoke_refusal x id linked class op par
        unfolding invoke_refusal
        eight-open h = ge _ _ _ _ a (ge _ _ _ _ b (eq _ _ _ _ d (eq _ _ _ _ h refl)))

        pub invoke-pieces : (idle_slot x.control.invocations ≡ most_invocations → ⊥) → {n r : ℕ} → length x.waiting ≡ n → r ≡ pieces_refusal n (front_of linked) op par
            → r ≡ invoke_refusal x id linked class op par
        unfolding invoke_refusal
        invoke-pieces h w e =
            ge _ _ _ _ a (ge _ _ _ _ b (eq _ _ _ _ d (ne _ _ _ _ h (e ∙ pieces-as w (front_of linked) op par (invoke_octets id linked op par) (front-size id linked op par)))))

    pub invoke-in : 0 ≡ invoke_refusal x id linked class op par
        → (class ≤ 4) × (idle_slot x.control.invocations ≡ most_invocations → ⊥) × (length x.waiting + length (invoke_octets id linked op par) ≤ most_waiting)
        × (1 ≤ class) × (state_of x.control id ≡ idle)
    unfolding invoke_refusal
    invoke-in e =
        let a = was-ge _ _ _ _ e (λ z. omega arith) in
        let b = was-ge _ _ _ _ a.1 (λ z. omega arith) in
        let c = was-eq _ _ _ _ b.1 (λ z. omega arith) in
        by-eq _ _ _ _ c.1 (λ h z. absurd (omega arith))
        (λ h z. let d = was-yes _ _ _ z (λ y. omega arith) in
        let f = was-yes _ _ _ d.1 (λ y. omega arith) in
        (b.0, h, room (invoke_octets id linked op par) f.1, a.0, c.0))

  -- ---- a result, an error: not in Open
  module _ (tag id : ℕ) (op par : List ℕ) where
    pub result-open : x.control.state ≡ dialogue_open → 6 ≡ result_refusal x tag id op par
    unfolding result_refusal
    result-open h = eq _ _ _ _ h refl

    pub result-pieces : (x.control.state ≡ dialogue_open → ⊥) → {n r : ℕ} → length x.waiting ≡ n → r ≡ both_refusal n op par → r ≡ result_refusal x tag id op par
    unfolding result_refusal both_refusal
    result-pieces h w e = ne _ _ _ _ h (e ∙ ap (λ (k : ℕ). if_b (is_result op par) k 11) (over-as w (result_size op par) (result_octets tag id op par) (sym (result-length op par tag id))))

    pub result-in : 0 ≡ result_refusal x tag id op par → length x.waiting + length (result_octets tag id op par) ≤ most_waiting
    unfolding result_refusal
    result-in e =
        by-eq _ _ _ _ e (λ h z. absurd (omega arith)) (λ h z. room (result_octets tag id op par) (was-yes _ _ _ z (λ y. omega arith)).1)

  module _ (id : ℕ) (err par : List ℕ) where
    pub error-open : x.control.state ≡ dialogue_open → 6 ≡ error_refusal x id err par
    unfolding error_refusal
    error-open h = eq _ _ _ _ h refl

    pub error-pieces : (x.control.state ≡ dialogue_open → ⊥) → {n r : ℕ} → length x.waiting ≡ n → r ≡ pieces_refusal n 3 err par → r ≡ error_refusal x id err par
    unfolding error_refusal
    error-pieces h w e = ne _ _ _ _ h (e ∙ pieces-as w 3 err par (error_octets id err par) (sym (error-length err par id)))

    pub error-in : 0 ≡ error_refusal x id err par → length x.waiting + length (error_octets id err par) ≤ most_waiting
    unfolding error_refusal
    error-in e =
        by-eq _ _ _ _ e (λ h z. absurd (omega arith))
        (λ h z. room (error_octets id err par) (was-yes _ _ _ (was-yes _ _ _ z (λ y. omega arith)).1 (λ y. omega arith)).1)

  -- ---- a reject
  module _ (id p : ℕ) where
    pub reject-open : x.control.state ≡ dialogue_open → 6 ≡ reject_refusal x id p
    unfolding reject_refusal
    reject-open h = eq _ _ _ _ h refl

    module _ (a : x.control.state ≡ dialogue_open → ⊥) where
      pub not-users : (sender_of_problem p ≡ by_user → ⊥) → 8 ≡ reject_refusal x id p
      unfolding reject_refusal
      not-users h = ne _ _ _ _ a (ne _ _ _ _ h refl)

      module _ (b : sender_of_problem p ≡ by_user) where
        pub may-not : may_reject (kind_of p) (invocation_of x.control.invocations id) ≡ false → 9 ≡ reject_refusal x id p
        unfolding reject_refusal
        may-not h = ne _ _ _ _ a (eq _ _ _ _ b (no _ _ _ h refl))

        -- one with an ID has eight octets
        pub reject-room : may_reject (kind_of p) (invocation_of x.control.invocations id) ≡ true → id < 256 → {n r : ℕ} → length x.waiting ≡ n
            → r ≡ if_lt most_waiting (n + 8) 12 0 → r ≡ reject_refusal x id p
        unfolding reject_refusal
        reject-room c i w h =
            ne _ _ _ _ a (eq _ _ _ _ b (yes _ _ _ c (h ∙ over-as w 8 (reject_octets id p) (some_size id (λ q. omega arith) ∙ sym (reject-length id p)))))

    pub reject-in : 0 ≡ reject_refusal x id p
        → (sender_of_problem p ≡ by_user) × (may_reject (kind_of p) (invocation_of x.control.invocations id) ≡ true) × (length x.waiting + length (reject_octets id p) ≤ most_waiting)
    unfolding reject_refusal
    reject-in e =
        by-eq _ _ _ _ e (λ h z. absurd (omega arith))
        (λ h z. let a = was-eq _ _ _ _ z (λ y. omega arith) in
        let b = was-yes _ _ _ a.1 (λ y. omega arith) in
        (a.0, b.0, room (reject_octets id p) b.1))

-- the user's problems are of four kinds
pub user-small : (kind code : ℕ) → sender_of kind code ≡ 1 → kind < 4
unfolding sender_of
user-small kind code e =
    by-eq _ _ _ _ (sym e) (λ h z. omega arith)
    (λ n z. by-eq _ _ _ _ z (λ h y. omega arith)
    (λ n z. by-eq _ _ _ _ z (λ h y. omega arith)
    (λ n z. by-eq _ _ _ _ z (λ h y. omega arith) (λ n y. absurd (omega arith)))))

-- an invocation that isn't Idle has its slot
pub slot-there : (l : List Invocation) (id : ℕ) → length l ≡ 8 → ((invocation_of l id).state ≡ 0 → ⊥) → slot_of l id < 8
unfolding invocation_of
slot-there l id e n = go (ltb (slot_of l id) 8) refl
  where
    go : (b : Bool) → ltb (slot_of l id) 8 ≡ b → slot_of l id < 8
    go true q = ltb-true (slot_of l id) 8 q
    go false q = absurd (n (ap (λ (v : Invocation). v.state) (get_or-eq_default l no_invocation (omega (arith, ltb-false (slot_of l id) 8 q, e)))))

-- one that the user may reject with a result or error problem isn't
pub rejectable : (kind : ℕ) (v : Invocation) → may_reject kind v ≡ true → (kind ≡ 1 → ⊥) → v.state ≡ 0 → ⊥
unfolding may_reject
rejectable kind v e n z =
    by-eq _ _ _ _ (sym e) (λ h y. n h)
    (λ m y. by-eq _ _ _ _ y (λ h w. omega (arith, h, z))
    (λ k w. by-eq _ _ _ _ w (λ h u. by-eq _ _ _ _ u (λ g s. omega (arith, g, z)) (λ g s. true-false s)) (λ h u. true-false u)))

-- ---- what each leaves can be stored
module _ {t : List ℕ} {p : ℕ} (u : Used t p) where
  abbrev x : Place
  x = place_at (view t) p

  pub plain-storing : Storing 0 t p x.control
  plain-storing = used-storing u u.fine.control u.state

  pub passed-storing : (id class : ℕ) → state_of x.control id ≡ 0 → 1 ≤ class → class ≤ 4 → Storing 0 t p (passed x.control id class)
  unfolding passed
  passed-storing id class i g h = used-storing u (passed-fine x.control u.fine.control id class i g h) u.state

  pub rejected-storing : (id q : ℕ) → may_reject (kind_of q) (invocation_of x.control.invocations id) ≡ true → Storing 0 t p (rejected_by x.control id q)
  unfolding rejected_by to_state
  rejected-storing id q m =
      by-eq {r = rejected_by x.control id q} (kind_of q) 1 x.control (to_state x.control id rejecting) refl
      (λ h e. subst (Storing 0 t p) (sym e) plain-storing)
      (λ h e. subst (Storing 0 t p) (sym e) (used-storing u
      (to-state-fine x.control u.fine.control id rejecting (rejectable (kind_of q) (invocation_of x.control.invocations id) m h) (omega arith) (omega arith)) u.state))
