-- DIALOGUE STATES (01, "Dialogue states"): what a request or a timer does to one dialogue. It is told its local ID (me), and
-- knows neither its place nor another service. Assumes nothing.
use Rattle.std.specs.Prelude.{Bool, true, false, List, [], ◌∷◌, ◌++◌, ℕ, zero, suc, ◌+◌, length, get_or, take, replicate, eqb, leb}
use Rattle.laws.specs.If.{if_lt, if_eq, if_b}
use Rattle.laws.specs.Lists.{every}
use Rattle.paper.specs.declared.Reject.{Reject}
use Rattle.paper.specs.declared.Control.{Control}
use Rattle.paper.specs.declared.Row.{Row}
use Rattle.paper.specs.Sizes.{most_invocations, most_waiting, most_rejects, depths, depths_from, next_turn, id_octets}
pub use Rattle.paper.specs.Records.{with_state}
use Rattle.paper.specs.Records.{with_service, with_peer_id, with_rejects}
use Rattle.paper.specs.Elements.{is_element}
use Rattle.paper.specs.Problems.{sender_of_problem, by_user, kind_of, no_problem}
use Rattle.paper.specs.Components.{Item, waiting_items, code_end, invoke_tag, no_fault}
use Rattle.paper.specs.Messages.{no_run}
use Rattle.paper.specs.Writing.{invoke_octets, result_octets, error_octets, reject_octets, begin_octets, continue_octets, end_octets, uni_octets, user_abort_octets}
use Rattle.paper.specs.Portions.{Form, aarq, aare, abrt, audt, portion_by}
use Rattle.paper.specs.Invocations.{idle, sent, wait, rejecting, no_invocation, idle_slot, invocation_of, state_of, to_state, to_idle, passed, all_transmitted, may_reject}
use Rattle.paper.specs.Kinds.{row_abort}
use Rattle.paper.specs.Rows.{dialogue_row, cancel_row}

-- the states; 0 is a free place
abbrev pub dialogue_free : ℕ
dialogue_free = 0

abbrev pub dialogue_open : ℕ
dialogue_open = 1

abbrev pub dialogue_sent : ℕ
dialogue_sent = 2

abbrev pub dialogue_received : ℕ
dialogue_received = 3

abbrev pub dialogue_active : ℕ
dialogue_active = 4

-- "Received or Active": where the peer's ID is known
unfoldable pub has_peer : ℕ → Bool
has_peer state = if_eq state dialogue_received true (eqb state dialogue_active)

-- a place: its control record and its waiting octets
pub record Place : Type 0 where
  pub control : Control
  pub waiting : List ℕ

-- no dialogue; the turn is kept
abbrev pub no_reject : Reject
no_reject = record { id = 0; problem = 0 }

abbrev pub empty_control : ℕ → Control
empty_control turn = record {
  turn = turn;
  state = dialogue_free;
  service = 0;
  peerlen = 0;
  peer = replicate 4 0;
  count = 0;
  invocations = replicate most_invocations no_invocation;
  rejects = replicate most_rejects no_reject;
}

abbrev pub empty_place : ℕ → Place
empty_place turn = record { control = empty_control turn; waiting = [] }

-- "the turn goes up by one .. each time its place is freed"
abbrev pub freed : Place → Place
freed x = empty_place (next_turn x.control.turn)

-- a dialogue begun in a free place
abbrev pub begun : ℕ → ℕ → ℕ → ℕ → List ℕ → Control
begun turn state service peerlen peer = with_peer_id (with_service (with_state (empty_control turn) state) service) peerlen peer

abbrev pub with_control : Place → Control → Place
with_control x c = record { control = c; waiting = x.waiting }

-- the peer's ID: its octets
abbrev pub peer_of : Control → List ℕ
peer_of c = take c.peerlen c.peer

-- WHAT A REQUEST GIVES to its dialogue
pub record Done : Type 0 where
  pub answer : ℕ
  pub place : Place
  pub rows : List Row
  pub message : List ℕ

abbrev pub refused : ℕ → Place → Done
refused n x = record { answer = n; place = x; rows = []; message = [] }

-- "All but 0 change nothing."
abbrev pub unless_refused : ℕ → Place → Done → Done
unless_refused zero x o = o
unless_refused (suc n) x o = refused (suc n) x

abbrev pub done : Place → List Row → List ℕ → Done
done x rows message = record { answer = 0; place = x; rows = rows; message = message }

-- OCTETS GIVEN (answer 11): "octets given for operation, error, parameter or dialogue portion not one well-formed element of
-- its kind, or reaching depth 17 in what it becomes part of"
-- an operation or an error
unfoldable pub is_code : List ℕ → Bool
is_code l = if_eq (length l) 0 false (eqb (code_end l (length l) 0) (length l))

-- a parameter of an invoke or error, depth 2, or none
unfoldable pub is_parameter : List ℕ → Bool
is_parameter l = if_eq (length l) 0 true (is_element (depths_from 2) l)

-- "only one of a result's operation and parameter"; the parameter is in the 30, depth 3
unfoldable pub is_result : List ℕ → List ℕ → Bool
is_result op par = if_eq (length op) 0 (eqb (length par) 0) (if_b (is_code op) (is_element (depths_from 3) par) false)

-- "a whole 6B element or none"
unfoldable pub is_portion : List ℕ → Bool
is_portion l = if_eq (length l) 0 true (if_eq (get_or l 0 0) 0x6B (is_element depths l) false)

-- 02 a: "a context name (one 06 element)", of at least 1 octet, or none
unfoldable pub is_name : List ℕ → Bool
is_name l = if_eq (length l) 0 true (if_eq (get_or l 0 0) 6 (is_code l) false)

-- "user information (one BE element)", depth 5 in its portion
unfoldable pub is_block : List ℕ → Bool
is_block l = if_eq (get_or l 0 0) 0xBE (is_element (depths_from 5) l) false

unfoldable pub is_information : List ℕ → Bool
is_information l = if_eq (length l) 0 true (is_block l)

-- WAITING COMPONENTS. Answer 12: "waiting components .. over 240 octets"
unfoldable pub overfull : Place → List ℕ → ℕ
overfull x l = if_lt most_waiting (length x.waiting + length l) 12 0

-- the first of two numbers that isn't 0
unfoldable pub first : ℕ → ℕ → ℕ
first n m = if_eq n 0 m n

-- NAME AND INFORMATION given with a sending (02 a): "11 for them too; 14, either given with continue or end in Active, or user
-- information without a name .., after 12". "The 240 octets from here on count the portion too."
unfoldable pub unplaced : ℕ → List ℕ → List ℕ → ℕ
unplaced state name info = if_eq (length name) 0 (if_eq (length info) 0 0 14) (if_eq state dialogue_active 14 0)

unfoldable pub portion_refusal : Place → Form → List ℕ → List ℕ → ℕ
portion_refusal x f name info =
    if_b (is_name name)
    (if_b (is_information info) (first (overfull x (portion_by f name info)) (unplaced x.control.state name info)) 11)
    11

abbrev pub passing : Place → Control → List ℕ → Done
passing x c l = done (record { control = c; waiting = x.waiting ++ l }) [] []

-- COMPONENTS PASSED. "Open takes a place (ruling); only invokes may be passed then"; "Components may be passed in Sent, Received, Active."
unfoldable pub invoke_refusal : Place → ℕ → ℕ → ℕ → List ℕ → List ℕ → ℕ
invoke_refusal x id linked class op par =
    if_lt class 1 8
    (if_lt 4 class 8
    (if_eq (state_of x.control id) idle
    (if_eq (idle_slot x.control.invocations) most_invocations 10
    (if_b (is_code op) (if_b (is_parameter par) (overfull x (invoke_octets id linked op par)) 11) 11))
    9))

unfoldable pub result_refusal : Place → ℕ → ℕ → List ℕ → List ℕ → ℕ
result_refusal x tag id op par =
    if_eq x.control.state dialogue_open 6 (if_b (is_result op par) (overfull x (result_octets tag id op par)) 11)

unfoldable pub error_refusal : Place → ℕ → List ℕ → List ℕ → ℕ
error_refusal x id err par =
    if_eq x.control.state dialogue_open 6
    (if_b (is_code err) (if_b (is_parameter par) (overfull x (error_octets id err par)) 11) 11)

-- 8: "a problem code that the user may not send"
unfoldable pub reject_refusal : Place → ℕ → ℕ → ℕ
reject_refusal x id p =
    if_eq x.control.state dialogue_open 6
    (if_eq (sender_of_problem p) by_user
    (if_b (may_reject (kind_of p) (invocation_of x.control.invocations id)) (overfull x (reject_octets id p)) 9)
    8)

-- "Rejecting until transmitted"; an invoke's reject changes no invocation of ours
unfoldable pub rejected_by : Control → ℕ → ℕ → Control
rejected_by c id p = if_eq (kind_of p) 1 c (to_state c id rejecting)

-- "Timeout or cancel: Sent to Idle. .. Reject timeout: Wait to Idle."
unfoldable pub needs : Place → ℕ → ℕ → ℕ
needs x id state = if_eq (state_of x.control id) state 0 9

-- "Timeout gives L-CANCEL but in class 4."
unfoldable pub timeout_rows : ℕ → Place → ℕ → List Row
timeout_rows me x id = if_eq (invocation_of x.control.invocations id).class 4 [] (cancel_row me id ∷ [])

-- SENDING: "Sending writes waiting components in order, then all waiting rejects if the sum is at most 240, else they wait (003)."
unfoldable pub all_rejects : List Reject → List ℕ
all_rejects [] = []
all_rejects (r ∷ rs) = reject_octets r.id r.problem ++ all_rejects rs

unfoldable pub waiting_rejects : Control → List ℕ
waiting_rejects c = all_rejects (take c.count c.rejects)

-- 02 a: n octets of the 240 are the dialogue portion's
unfoldable pub rejects_fit : Place → ℕ → Bool
rejects_fit x n = leb (n + (length x.waiting + length (waiting_rejects x.control))) most_waiting

unfoldable pub sent_components : Place → Bool → List ℕ
sent_components x fits = if_b fits (x.waiting ++ waiting_rejects x.control) x.waiting

abbrev pub without_rejects : Control → Control
without_rejects c = with_rejects c 0 (replicate most_rejects no_reject)

-- what a sending leaves
unfoldable pub after_sending : Place → Bool → ℕ → Place
after_sending x fits state = record {
  control = if_b fits (without_rejects (all_transmitted (with_state x.control state))) (all_transmitted (with_state x.control state));
  waiting = [];
}

-- "Begin (to Sent) and Unidirectional (frees) need Open. Continue (to Active) and basic end (frees) need Received or Active."
unfoldable pub needs_open : Place → ℕ
needs_open x = if_eq x.control.state dialogue_open 0 6

unfoldable pub needs_peer : Place → ℕ
needs_peer x = if_b (has_peer x.control.state) 0 6

unfoldable pub needs_sent : Place → ℕ
needs_sent x = if_eq x.control.state dialogue_sent 0 6

-- "Unidirectional with no component or with one not of class 4" (answer 6): each waiting one is an invoke whose ID is open with class 4
unfoldable pub of_class4 : Control → Item → Bool
of_class4 c i =
    if_eq i.part.fault no_fault
    (if_eq i.part.tag invoke_tag (eqb (invocation_of c.invocations i.part.id).class 4) false)
    false

unfoldable pub uni_refusal : Place → ℕ
uni_refusal x =
    if_eq x.control.state dialogue_open
    (if_eq (length x.waiting) 0 6 (if_b (every (of_class4 x.control) (waiting_items x.waiting)) 0 6))
    6

-- "Prearranged end and user abort (both free): any; only abort takes a dialogue portion, .. and writes a message only in
-- Received and Active." 02 a: "with abort only user information (ABRT: user)", a BE element in place of the whole 6B
unfoldable pub is_abort : List ℕ → Bool
is_abort given = if_eq (get_or given 0 0) 0xBE (is_block given) (is_portion given)

unfoldable pub abort_portion : List ℕ → List ℕ
abort_portion given = if_eq (get_or given 0 0) 0xBE (portion_by abrt [] given) given

unfoldable pub abort_refusal : List ℕ → ℕ
abort_refusal given = if_b (is_abort given) (if_lt most_waiting (length (abort_portion given)) 12 0) 11

unfoldable pub abort_message : Place → List ℕ → List ℕ
abort_message x given = if_b (has_peer x.control.state) (user_abort_octets (peer_of x.control) (abort_portion given)) []

-- THE REQUESTS AND TIMER EVENTS on a dialogue; IDs are octets, a linked ID is 256 where there is none, tag is A2 or A7; sendings
-- take a context name and user information, an abort a dialogue portion or user information, no octets for none
pub data Request : Type 0 where
  Invoke : ℕ → ℕ → ℕ → List ℕ → List ℕ → Request
  Result : ℕ → ℕ → List ℕ → List ℕ → Request
  Error : ℕ → List ℕ → List ℕ → Request
  UserReject : ℕ → ℕ → Request
  Cancel : ℕ → Request
  Begin Continue End : List ℕ → List ℕ → Request
  Prearranged : Request
  Abort : List ℕ → Request
  Unidirectional : List ℕ → List ℕ → Request
  Timeout RejectTimeout : ℕ → Request
  NoReaction : Request

-- WHAT A REQUEST TAKES AND GIVES: whether it takes a row space, for rows that it may give; whether it takes a message space, for a message that
-- it may write; whether it frees the place
pub record Shape : Type 0 where
  pub rows : Bool
  pub message : Bool
  pub frees : Bool

abbrev shape : Bool → Bool → Bool → Shape
shape rows message frees = record { rows = rows; message = message; frees = frees }

abbrev pub shape_of : Request → Shape
shape_of (Invoke id linked class op par) = shape false false false
shape_of (Result tag id op par) = shape false false false
shape_of (Error id err par) = shape false false false
shape_of (UserReject id p) = shape false false false
shape_of (Cancel id) = shape false false false
shape_of (Begin name info) = shape false true false
shape_of (Continue name info) = shape false true false
shape_of (End name info) = shape false true true
shape_of Prearranged = shape false false true
shape_of (Abort given) = shape false true true
shape_of (Unidirectional name info) = shape false true true
shape_of (Timeout id) = shape true false false
shape_of (RejectTimeout id) = shape false false false
shape_of NoReaction = shape true false true

-- its refusal from 6 on, 0 for none: "Where several apply, the lowest."
unfoldable pub refusal : Place → Request → ℕ
refusal x (Invoke id linked class op par) = invoke_refusal x id linked class op par
refusal x (Result tag id op par) = result_refusal x tag id op par
refusal x (Error id err par) = error_refusal x id err par
refusal x (UserReject id p) = reject_refusal x id p
refusal x (Cancel id) = needs x id sent
refusal x (Begin name info) = first (needs_open x) (portion_refusal x aarq name info)
refusal x (Continue name info) = first (needs_peer x) (portion_refusal x aare name info)
refusal x (End name info) = first (needs_peer x) (portion_refusal x aare name info)
refusal x Prearranged = 0
refusal x (Abort given) = abort_refusal given
refusal x (Unidirectional name info) = first (uni_refusal x) (portion_refusal x audt name info)
refusal x (Timeout id) = needs x id sent
refusal x (RejectTimeout id) = needs x id wait
refusal x NoReaction = needs_sent x

-- a message with its portion and what is sent
abbrev pub fits_with : Place → List ℕ → Bool
fits_with x portion = rejects_fit x (length portion)

abbrev pub begins : ℕ → Place → List ℕ → Done
begins me x portion =
    done (after_sending x (fits_with x portion) dialogue_sent) [] (begin_octets (id_octets me) portion (sent_components x (fits_with x portion)))

abbrev pub continues : ℕ → Place → List ℕ → Done
continues me x portion =
    done (after_sending x (fits_with x portion) dialogue_active) []
    (continue_octets (id_octets me) (peer_of x.control) portion (sent_components x (fits_with x portion)))

abbrev pub ends : Place → List ℕ → Done
ends x portion = done (freed x) [] (end_octets (peer_of x.control) portion (sent_components x (fits_with x portion)))

abbrev pub unis : Place → List ℕ → Done
unis x portion = done (freed x) [] (uni_octets portion (sent_components x (fits_with x portion)))

-- what it does where it isn't refused. "An end drops what it didn't send."
unfoldable pub does : ℕ → Place → Request → Done
does me x (Invoke id linked class op par) = passing x (passed x.control id class) (invoke_octets id linked op par)
does me x (Result tag id op par) = passing x x.control (result_octets tag id op par)
does me x (Error id err par) = passing x x.control (error_octets id err par)
does me x (UserReject id p) = passing x (rejected_by x.control id p) (reject_octets id p)
does me x (Cancel id) = done (with_control x (to_idle x.control id)) [] []
does me x (Begin name info) = begins me x (portion_by aarq name info)
does me x (Continue name info) = continues me x (portion_by aare name info)
does me x (End name info) = ends x (portion_by aare name info)
does me x Prearranged = done (freed x) [] []
does me x (Abort given) = done (freed x) [] (abort_message x given)
does me x (Unidirectional name info) = unis x (portion_by audt name info)
does me x (Timeout id) = done (with_control x (to_idle x.control id)) (timeout_rows me x id) []
does me x (RejectTimeout id) = done (with_control x (to_idle x.control id)) [] []
does me x NoReaction = done (freed x) (dialogue_row row_abort me no_problem no_run 0 ∷ []) []

unfoldable pub request : ℕ → Place → Request → Done
request me x r = unless_refused (refusal x r) x (does me x r)
