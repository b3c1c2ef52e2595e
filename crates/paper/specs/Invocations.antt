-- INVOCATION STATES (01, "Invocation states"; 003): what a request, a component or a timer does to a dialogue's invocations. Assumes nothing.
use Rattle.std.specs.Prelude.{Bool, true, false, List, [], ◌∷◌, map, ℕ, ◌+◌, get_or, set, eqb}
use Rattle.laws.specs.If.{if_lt, if_eq, if_b}
use Rattle.laws.specs.Lists.{first_at}
use Rattle.paper.specs.declared.Component.{Component}
use Rattle.paper.specs.declared.Invocation.{Invocation}
use Rattle.paper.specs.declared.Reject.{Reject}
use Rattle.paper.specs.declared.Control.{Control}
use Rattle.paper.specs.declared.Acted.{Acted}
pub use Rattle.paper.specs.Records.{in_state, was_shown, with_invocations}
use Rattle.paper.specs.Records.{with_rejects}
use Rattle.paper.specs.Problems.{sender_of_problem, by_user, problem, general, kind_of, no_problem}
use Rattle.paper.specs.Kinds.{row_invoke, row_last, row_not_last, row_error, row_user_reject, row_remote_reject, row_rejected, row_not_stored}
use Rattle.paper.specs.Components.{invoke_tag, last_tag, error_tag, reject_tag, not_last_tag, no_id, no_fault, if_read}

-- "Idle, Pending (passed), Sent (transmitted), Wait (may be rejected), Rejecting"
abbrev pub idle : ℕ
idle = 0

abbrev pub pending : ℕ
pending = 1

abbrev pub sent : ℕ
sent = 2

abbrev pub wait : ℕ
wait = 3

abbrev pub rejecting : ℕ
rejecting = 4

-- one in Idle: "invocations not in use are zero"
abbrev pub no_invocation : Invocation
no_invocation = record { id = 0; class = 0; state = idle; shown = 0 }

-- one that is passed: "Pending (passed)"
abbrev pub new_one : ℕ → ℕ → Invocation
new_one id class = record { id = id; class = class; state = pending; shown = 0 }

-- ours of that ID, in any state but Idle
unfoldable pub is_open : ℕ → Invocation → Bool
is_open id v = if_eq v.state idle false (eqb v.id id)

unfoldable pub is_idle : Invocation → Bool
is_idle v = eqb v.state idle

unfoldable pub slot_of : List Invocation → ℕ → ℕ
slot_of l id = first_at (is_open id) l

unfoldable pub idle_slot : List Invocation → ℕ
idle_slot l = first_at is_idle l

-- our invocation of an ID; in Idle where it is not in use
unfoldable pub invocation_of : List Invocation → ℕ → Invocation
invocation_of l id = get_or l (slot_of l id) no_invocation

abbrev pub state_of : Control → ℕ → ℕ
state_of c id = (invocation_of c.invocations id).state

abbrev pub with_invocation : Control → ℕ → Invocation → Control
with_invocation c i v = with_invocations c (set c.invocations i v)

-- the invocation of an ID goes to a state in use
unfoldable pub to_state : Control → ℕ → ℕ → Control
to_state c id state =
    with_invocation c (slot_of c.invocations id) (in_state (invocation_of c.invocations id) state)

-- EVERY WAY TO IDLE; of some IDs, in their order
unfoldable pub to_idle : Control → ℕ → Control
to_idle c id = with_invocation c (slot_of c.invocations id) no_invocation

unfoldable pub all_idle : Control → List ℕ → Control
all_idle c [] = c
all_idle c (id ∷ ids) = all_idle (to_idle c id) ids

-- a new invocation, Pending, in the first slot that is Idle
unfoldable pub passed : Control → ℕ → ℕ → Control
passed c id class = with_invocation c (idle_slot c.invocations) (new_one id class)

-- a result not last was shown
unfoldable pub not_last_shown : Control → ℕ → Control
not_last_shown c id = with_invocation c (slot_of c.invocations id) (was_shown (invocation_of c.invocations id))

-- a sending: Pending to Sent, "Sent (transmitted)"; "Rejecting until transmitted, then Idle", in the order of their slots
unfoldable pub transmitted : Invocation → Invocation
transmitted v = if_eq v.state pending (in_state v sent) v

unfoldable pub rejecting_ids : List Invocation → List ℕ
rejecting_ids [] = []
rejecting_ids (v ∷ l) = if_eq v.state rejecting (v.id ∷ rejecting_ids l) (rejecting_ids l)

unfoldable pub all_transmitted : Control → Control
all_transmitted c = all_idle (with_invocations c (map transmitted c.invocations)) (rejecting_ids c.invocations)

-- COMPONENTS RECEIVED, with the kinds of rows for them
abbrev pub acted : Control → ℕ → ℕ → Acted
acted c kind p = record { control = c; kind = kind; problem = p }

abbrev pub with_reject : Control → Reject → Control
with_reject c r = with_rejects c (c.count + 1) (set c.rejects c.count r)

-- a reject of ours: stored, or not. "A ninth waiting reject, or one in Unidirectional or End, isn't stored": room is 8, there 0
unfoldable pub rejected : ℕ → Control → ℕ → ℕ → Acted
rejected room c id p = if_lt c.count room (acted (with_reject c (record { id = id; problem = p })) row_rejected p) (acted c row_not_stored p)

-- "Class 1: A7 stays Sent; A2, A3 to Wait. Class 2: A3 to Wait. Class 3: A7 stays, A2 to Wait. Class 4: none."
-- 1 stays, 2 to Wait, 0 none
unfoldable pub takes : ℕ → ℕ → ℕ
takes class tag =
    if_eq tag not_last_tag (if_eq class 1 1 (if_eq class 3 1 0))
    (if_eq tag last_tag (if_eq class 1 2 (if_eq class 3 2 0))
    (if_eq class 1 2 (if_eq class 2 2 0)))

unfoldable pub answer_kind : ℕ → ℕ
answer_kind tag = if_eq tag last_tag row_last (if_eq tag not_last_tag row_not_last row_error)

-- result problems for A2 and A7, error problems for A3
unfoldable pub answer_problem : ℕ → ℕ → ℕ
answer_problem tag code = if_eq tag error_tag (problem 3 code) (problem 2 code)

-- "Any other of A2, A7 (result code 1) or A3 (error code 1) on a Sent one is rejected and Idle."
unfoldable pub answers_sent : ℕ → Control → ℕ → ℕ → Acted
answers_sent room c tag id =
    if_eq (takes (invocation_of c.invocations id).class tag) 0 (rejected room (to_idle c id) id (answer_problem tag 1))
    (if_eq (takes (invocation_of c.invocations id).class tag) 1 (acted (not_last_shown c id) (answer_kind tag) no_problem)
    (acted (to_state c id wait) (answer_kind tag) no_problem))

-- "A2, A7, A3 on one not Sent: rejected with code 0, no change."
unfoldable pub answers : ℕ → Control → ℕ → ℕ → Acted
answers room c tag id = if_eq (state_of c id) sent (answers_sent room c tag id) (rejected room c id (answer_problem tag 0))

-- "Linked invoke: the linked ID must be ours and Sent, else invoke code 5. Ours is unchanged." The invoke's own ID is the partner's.
unfoldable pub invokes : ℕ → Control → ℕ → ℕ → Acted
invokes room c id linked =
    if_eq linked no_id (acted c row_invoke no_problem) (if_eq (state_of c linked) sent (acted c row_invoke no_problem) (rejected room c id (problem 1 5)))

-- its Sent invocation to Idle, other states unchanged
unfoldable pub released : Control → ℕ → Control
released c id = if_eq (state_of c id) sent (to_idle c id) c

-- "A received reject is U-REJECT or R-REJECT by this list"
unfoldable pub reject_kind : ℕ → ℕ
reject_kind p = if_eq (sender_of_problem p) by_user row_user_reject row_remote_reject

-- "Received reject with invoke or general problem: Sent to Idle, other states unchanged. With result or error problem or 05 00: shown, no change."
unfoldable pub rejects : Control → ℕ → ℕ → Acted
rejects c id p = if_lt (kind_of p) 2 (acted (released c id) (reject_kind p) p) (acted c (reject_kind p) p)

-- "a faulty A4 is a local notice, never stored, and returns one to Idle only if ID and tag 81 can be read"; the row has our general code
unfoldable pub faulty_reject : Control → ℕ → ℕ → ℕ → Acted
faulty_reject c id p code = if_read p (acted (released c id) row_not_stored (general code)) (acted c row_not_stored (general code))

unfoldable pub is_answer : ℕ → Bool
is_answer tag = if_eq tag last_tag true (if_eq tag error_tag true (eqb tag not_last_tag))

-- "A faulty A2, A3, A7 returns its Sent invocation to Idle"
unfoldable pub faults : ℕ → Control → Component → Acted
faults room c p =
    if_eq p.tag reject_tag (faulty_reject c p.id p.problem p.fault)
    (if_b (is_answer p.tag) (rejected room (released c p.id) p.id (general p.fault))
    (rejected room c p.id (general p.fault)))

-- WHAT A COMPONENT DOES
unfoldable pub act : ℕ → Control → Component → Acted
act room c p =
    if_eq p.fault no_fault
    (if_eq p.tag invoke_tag (invokes room c p.id p.linked)
    (if_eq p.tag reject_tag (rejects c p.id p.problem)
    (answers room c p.tag p.id)))
    (faults room c p)

-- REQUESTS: "User reject of a result: Wait, or Sent after an A7 was shown; of an error: Wait. .. of an invoke needs no state."
unfoldable pub may_reject : ℕ → Invocation → Bool
may_reject kind v =
    if_eq kind 1 true
    (if_eq v.state wait true
    (if_eq kind 2 (if_eq v.state sent (eqb v.shown 1) false) false))
