-- OUR INVOCATIONS AS A HOST PLAYS THEM (01, "Invocation states"): from what it passed and cancelled, what was sent, and the components received
-- with their rows; those in use, in order of passing. Assumes nothing.
use Rattle.std.specs.Prelude.{List, [], ◌∷◌, ℕ}
use Rattle.laws.specs.If.{if_lt, if_eq, if_b}
use Rattle.paper.specs.declared.Component.{Component}
use Rattle.paper.specs.declared.Invocation.{Invocation}
use Rattle.paper.specs.declared.Row.{Row}
use Rattle.paper.specs.Problems.{problem, kind_of}
use Rattle.paper.specs.Components.{Item, reject_tag, no_fault, if_read}
use Rattle.paper.specs.Invocations.{idle, sent, wait, rejecting, no_invocation, in_state, transmitted, is_answer, was_shown}
use Rattle.paper.specs.Kinds.{row_invoke, row_last, row_not_last, row_error, row_rejected}

-- ours of an ID, in Idle where it isn't in use
unfoldable pub ours_of : List Invocation → ℕ → Invocation
ours_of [] id = no_invocation
ours_of (v ∷ l) id = if_eq v.id id v (ours_of l id)

-- it becomes v; in Idle it is in use no more
unfoldable pub becomes : List Invocation → ℕ → Invocation → List Invocation
becomes [] id v = if_eq v.state idle [] (v ∷ [])
becomes (w ∷ l) id v = if_eq w.id id (if_eq v.state idle l (v ∷ l)) (w ∷ becomes l id v)

-- "User reject of a result .. of an error ..: Rejecting until transmitted"; "of an invoke needs no state"
unfoldable pub user_rejects : List Invocation → ℕ → ℕ → List Invocation
user_rejects l id p = becomes l id (if_eq (kind_of p) 1 (ours_of l id) (in_state (ours_of l id) rejecting))

-- a sending: "Sent (transmitted)"; "Rejecting until transmitted, then Idle"
unfoldable pub all_sent : List Invocation → List Invocation
all_sent [] = []
all_sent (v ∷ l) = if_eq v.state rejecting (all_sent l) (transmitted v ∷ all_sent l)

-- WHAT OUR INVOCATION BECOMES. "Sent to Idle, other states unchanged"
unfoldable pub releases : Invocation → Invocation
releases v = if_eq v.state sent no_invocation v

-- "A faulty A2, A3, A7 returns its Sent invocation to Idle"; a faulty A4 "only if ID and tag 81 can be read"
unfoldable pub fault_heard : Component → Invocation → Invocation
fault_heard p v = if_eq p.tag reject_tag (if_read p.problem (releases v) v) (if_b (is_answer p.tag) (releases v) v)

-- by a reject of ours, with a problem: "Any other of A2, A7 (result code 1) or A3 (error code 1) on a Sent one is rejected and Idle.
-- A2, A7, A3 on one not Sent: rejected with code 0, no change."; of an invoke, with code 5: "Ours is unchanged"
unfoldable pub reject_heard : ℕ → Component → Invocation → Invocation
reject_heard q p v =
    if_eq q (problem 2 1) no_invocation (if_eq q (problem 3 1) no_invocation (if_eq p.fault no_fault v (fault_heard p v)))

-- WHAT A COMPONENT TELLS of our invocation of its ID, by its row's kind and problem and as it was read. 7 INVOKE: "Ours is unchanged";
-- 8 RESULT-L and 10 U-ERROR: "A2, A3 to Wait"; 9 RESULT-NL: "A7 stays Sent"; 11 and 12: "Received reject with invoke or general problem:
-- Sent to Idle, other states unchanged. With result or error problem ..: shown, no change."; 13 and 14: a reject of ours
unfoldable pub heard_of : ℕ → ℕ → Component → Invocation → Invocation
heard_of kind q p v =
    if_eq kind row_invoke v
    (if_eq kind row_last (in_state v wait)
    (if_eq kind row_not_last (was_shown v)
    (if_eq kind row_error (in_state v wait)
    (if_lt kind row_rejected (if_lt (kind_of q) 2 (releases v) v)
    (reject_heard q p v)))))

-- each component of a message in order, with its row
unfoldable pub heard_all : List Invocation → List Item → List Row → List Invocation
heard_all l [] rows = l
heard_all l (i ∷ is) [] = l
heard_all l (i ∷ is) (r ∷ rows) =
    heard_all (becomes l i.part.id (heard_of r.kind r.problem i.part (ours_of l i.part.id))) is rows
