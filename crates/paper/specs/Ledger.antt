-- THE LEDGER (demand 2): what was put in, played over the calls, their answers and rows as a host sees them, and never read from the
-- table. Dialogues stand in order of beginning and are found by their ID, from the start. Assumes nothing.
use Rattle.std.specs.Prelude.{Bool, List, [], ◌∷◌, ◌++◌, ℕ, ◌+◌, ◌-◌, length, get_or, leb}
use Rattle.std.proofs.Math.Option.{Option, none, some}
use Rattle.laws.specs.If.{if_lt, if_eq, if_b}
use Rattle.laws.specs.Sums.{sum_by}
use Rattle.paper.specs.declared.Message.{Message}
use Rattle.paper.specs.declared.Invocation.{Invocation}
use Rattle.paper.specs.declared.Row.{Row}
use Rattle.paper.specs.Sizes.{places_in_all, services, most_waiting, place_of, id_octets}
use Rattle.paper.specs.Problems.{no_problem}
use Rattle.paper.specs.Components.{Item, no_id}
use Rattle.paper.specs.Messages.{message_of, is_sound, uni_tag, begin_tag, end_tag, continue_tag, abort_tag}
use Rattle.paper.specs.Writing.{Written, joined}
use Rattle.paper.specs.Portions.{Form, aarq, aare, abrt, audt, portion_by, Spoken, spoken_in, spoken_by}
use Rattle.paper.specs.Kinds.{row_begin, row_continue, row_rejected}
use Rattle.paper.specs.Shares.{shared, gives}
use Rattle.paper.specs.Dialogues.{Request, abort_portion, dialogue_open, dialogue_sent, dialogue_received, dialogue_active, has_peer}
use Rattle.paper.specs.Dialogues.Request.{Invoke, Result, Error, UserReject, Cancel, Begin, Continue, End, Prearranged, Abort, Unidirectional, Timeout, RejectTimeout, NoReaction}
use Rattle.paper.specs.Calls.{Call, octets_at, destination_number, items_of}
use Rattle.paper.specs.Calls.Call.{Open, OnDialogue, Receive}
use Rattle.paper.specs.Counting.{Notice, is_ended}
use Rattle.paper.specs.Invocations.{no_invocation, new_one}
use Rattle.paper.specs.Contents.{Wire}
use Rattle.paper.specs.Asked.{becomes, user_rejects, all_sent, heard_all}

-- A DIALOGUE: the local ID that an open or a BEGIN row told, its service and state; the partner's ID (of the Begin received, or of the
-- first Continue); the components passed and not yet sent; the rejects shown in rows 13 and not yet sent; our invocations in use
pub record Entry : Type 0 where
  pub id : ℕ
  pub service : ℕ
  pub state : ℕ
  pub peer : List ℕ
  pub passed : List Written
  pub rejects : List Written
  pub invocations : List Invocation

-- the shares that fresh was given, the dialogues that are open, the IDs of those that ended
pub record Ledger : Type 0 where
  pub guarantees : List ℕ
  pub limits : List ℕ
  pub dialogues : List Entry
  pub ended : List ℕ

abbrev pub new_ledger : List ℕ → List ℕ → Ledger
new_ledger g l = record { guarantees = g; limits = l; dialogues = []; ended = [] }

unfoldable pub find : List Entry → ℕ → Option Entry
find [] d = none
find (e ∷ l) d = if_eq e.id d (some e) (find l d)

unfoldable pub altered : List Entry → ℕ → (Entry → Entry) → List Entry
altered [] d f = []
altered (e ∷ l) d f = if_eq e.id d (f e ∷ l) (e ∷ altered l d f)

unfoldable pub removed : List Entry → ℕ → List Entry
removed [] d = []
removed (e ∷ l) d = if_eq e.id d l (e ∷ removed l d)

-- a dialogue begins, goes on, ends
abbrev pub begins : Ledger → Entry → Ledger
begins L e = record { guarantees = L.guarantees; limits = L.limits; dialogues = L.dialogues ++ (e ∷ []); ended = L.ended }

abbrev pub goes_on : Ledger → ℕ → (Entry → Entry) → Ledger
goes_on L d f = record { guarantees = L.guarantees; limits = L.limits; dialogues = altered L.dialogues d f; ended = L.ended }

abbrev pub ends : Ledger → ℕ → Ledger
ends L d = record { guarantees = L.guarantees; limits = L.limits; dialogues = removed L.dialogues d; ended = d ∷ L.ended }

-- a component is PASSED, with what it makes of our invocations
abbrev pub passes : Written → (List Invocation → List Invocation) → Entry → Entry
passes w f e = record {
  id = e.id;
  service = e.service;
  state = e.state;
  peer = e.peer;
  passed = e.passed ++ (w ∷ []);
  rejects = e.rejects;
  invocations = f e.invocations;
}

-- "Timeout or cancel: Sent to Idle. .. Reject timeout: Wait to Idle."
abbrev pub idles : ℕ → Entry → Entry
idles id e = record {
  id = e.id;
  service = e.service;
  state = e.state;
  peer = e.peer;
  passed = e.passed;
  rejects = e.rejects;
  invocations = becomes e.invocations id no_invocation;
}

abbrev pub unmoved : List Invocation → List Invocation
unmoved l = l

-- SENT: "waiting components in order, then all waiting rejects if the sum is at most 240, else they wait"; n octets of the 240 are the
-- dialogue portion's (02 a)
unfoldable pub fit : Entry → ℕ → Bool
fit e n = leb (n + (length (joined e.passed) + length (joined e.rejects))) most_waiting

unfoldable pub goes : Entry → Bool → List Written
goes e fits = if_b fits (e.passed ++ e.rejects) e.passed

unfoldable pub stays : Entry → Bool → List Written
stays e fits = if_b fits [] e.rejects

abbrev pub sends : ℕ → List ℕ → Entry → Entry
sends state portion e = record {
  id = e.id;
  service = e.service;
  state = state;
  peer = e.peer;
  passed = [];
  rejects = stays e (fit e (length portion));
  invocations = all_sent e.invocations;
}

-- A REQUEST OR TIMER EVENT answered 0. "Begin (to Sent) .. Continue (to Active)"; both ends, abort, Unidirectional and no-reaction free
abbrev pub noted : Ledger → ℕ → Request → Ledger
noted L d (Invoke id linked class op par) = goes_on L d (passes (Written.Invoke id linked op par) (λ l. becomes l id (new_one id class)))
noted L d (Result tag id op par) = goes_on L d (passes (Written.Result tag id op par) unmoved)
noted L d (Error id err par) = goes_on L d (passes (Written.Error id err par) unmoved)
noted L d (UserReject id p) = goes_on L d (passes (Written.Reject id p) (λ l. user_rejects l id p))
noted L d (Cancel id) = goes_on L d (idles id)
noted L d (Begin name info) = goes_on L d (sends dialogue_sent (portion_by aarq name info))
noted L d (Continue name info) = goes_on L d (sends dialogue_active (portion_by aare name info))
noted L d (End name info) = ends L d
noted L d Prearranged = ends L d
noted L d (Abort given) = ends L d
noted L d (Unidirectional name info) = ends L d
noted L d (Timeout id) = goes_on L d (idles id)
noted L d (RejectTimeout id) = goes_on L d (idles id)
noted L d NoReaction = ends L d

-- A RECEIVED MESSAGE. "invoke ID plus 128 (256 none)": the ID's octet again
unfoldable pub unsigned : ℕ → ℕ
unsigned n = if_lt n 128 (n + 128) (if_lt n 256 (n - 128) no_id)

-- "13 L-REJECT stored"
unfoldable pub rejects_in : List Row → List Written
rejects_in [] = []
rejects_in (r ∷ rows) = if_eq r.kind row_rejected (Written.Reject (unsigned r.invoke) r.problem ∷ rejects_in rows) (rejects_in rows)

abbrev pub partner_in : List ℕ → List ℕ
partner_in s = octets_at s (message_of s).origin

abbrev pub components_in : List ℕ → List Item
components_in s = items_of s (message_of s)

-- "Continue in Sent stores the peer's ID and makes Active; later ones don't change it."
unfoldable pub answered : List ℕ → List Row → Entry → Entry
answered s rows e = record {
  id = e.id;
  service = e.service;
  state = dialogue_active;
  peer = if_eq e.state dialogue_sent (partner_in s) e.peer;
  passed = e.passed;
  rejects = e.rejects ++ rejects_in rows;
  invocations = heard_all e.invocations (components_in s) rows;
}

-- by its rows: the first is the dialogue's; "ended is .. a row 4, 5 or 6"
unfoldable pub shown : Ledger → ℕ → List ℕ → List Row → Ledger
shown L service s [] = L
shown L service s (r ∷ rows) =
    if_eq r.kind row_begin
    (begins L
    (record {
      id = r.dialogue;
      service = service;
      state = dialogue_received;
      peer = partner_in s;
      passed = [];
      rejects = rejects_in rows;
      invocations = heard_all [] (components_in s) rows;
    }))
    (if_eq r.kind row_continue (goes_on L r.dialogue (answered s rows)) (if_eq (is_ended r) 1 (ends L r.dialogue) L))

-- A CALL, and what it told: a refusal changes nothing
abbrev pub played_by : Ledger → Call → Notice → Ledger
played_by L (Open service) t =
    begins L (record { id = t.dialogue; service = service; state = dialogue_open; peer = []; passed = []; rejects = []; invocations = [] })
played_by L (OnDialogue service dialogue r) t = noted L dialogue r
played_by L (Receive service s) t = shown L service s t.rows

unfoldable pub played : Ledger → Call → Notice → Ledger
played L c t = if_eq t.answer 0 (played_by L c t) L

-- how many of the dialogues that ended had a place: as often it was freed
unfoldable pub had_place : ℕ → ℕ → ℕ
had_place p d = if_eq (place_of d) p 1 0

unfoldable pub ended_in : ℕ → List ℕ → ℕ
ended_in p l = sum_by (had_place p) l

-- WHAT THE NEXT CALL'S MESSAGE HOLDS. A sending: the name and information as a PDU of that form says them, what was passed, then the rejects
abbrev pub sending : ℕ → List ℕ → List ℕ → Form → List ℕ → List ℕ → Entry → Wire
sending tag origin destination f name info e =
    Wire.Holds
    (record {
      tag = tag;
      origin = origin;
      destination = destination;
      portion = portion_by f name info;
      spoken = spoken_by f name info;
      cause = no_problem;
      components = goes e (fit e (length (portion_by f name info)));
    })

-- an Abort, with the user's dialogue portion or a cause
abbrev pub aborting : List ℕ → List ℕ → Spoken → ℕ → Wire
aborting destination portion spoken cause =
    Wire.Holds (record { tag = abort_tag; origin = []; destination = destination; portion = portion; spoken = spoken; cause = cause; components = [] })

-- "with abort only user information (ABRT: user)"; a whole 6B says what it says
unfoldable pub abort_spoken : List ℕ → Spoken
abort_spoken given = if_eq (get_or given 0 0) 0xBE (spoken_by abrt [] given) (spoken_in given)

-- of a request: our ID and the partner's; an abort "writes a message only in Received and Active"
abbrev pub said_by : Entry → Request → Wire
said_by e (Begin name info) = sending begin_tag (id_octets e.id) [] aarq name info e
said_by e (Continue name info) = sending continue_tag (id_octets e.id) e.peer aare name info e
said_by e (End name info) = sending end_tag [] e.peer aare name info e
said_by e (Unidirectional name info) = sending uni_tag [] [] audt name info e
said_by e (Abort given) = if_b (has_peer e.state) (aborting e.peer (abort_portion given) (abort_spoken given) no_problem) Wire.Nothing
said_by e (Invoke id linked class op par) = Wire.Nothing
said_by e (Result tag id op par) = Wire.Nothing
said_by e (Error id err par) = Wire.Nothing
said_by e (UserReject id p) = Wire.Nothing
said_by e (Cancel id) = Wire.Nothing
said_by e Prearranged = Wire.Nothing
said_by e (Timeout id) = Wire.Nothing
said_by e (RejectTimeout id) = Wire.Nothing
said_by e NoReaction = Wire.Nothing

abbrev pub said_of : Option Entry → Request → Wire
said_of none r = Wire.Nothing
said_of (some e) r = said_by e r

-- of a received message: to whom it is, "this service's dialogue in Sent, Received or Active"
unfoldable pub for_service : ℕ → Option Entry → Option Entry
for_service service none = none
for_service service (some e) = if_eq e.service service (if_eq e.state dialogue_open none (some e)) none

unfoldable pub addressee : Ledger → ℕ → List ℕ → Message → Option Entry
addressee L service s m = if_eq m.destination.length 4 (for_service service (find L.dialogues (destination_number s m))) none

-- a service's dialogues, and whether it is given one more (demand 3)
unfoldable pub is_entry_of : ℕ → Entry → ℕ
is_entry_of s e = if_eq e.service s 1 0

unfoldable pub entries_of : List Entry → ℕ → ℕ
entries_of l s = sum_by (is_entry_of s) l

unfoldable pub may_begin_in : Ledger → ℕ → Bool
may_begin_in L s = gives (shared places_in_all services L.guarantees L.limits (entries_of L.dialogues)) s

-- its P-Abort cause: "unknown type, 0; order, frame or dialogue portion wrong, or end of 6C not found, 2; Begin without a place, 4;
-- destination not assigned, 1; Continue in Received, 3"; above 4 where it is at no fault or dropped for its form
unfoldable pub to_entry : ℕ → Option Entry → ℕ
to_entry tag none = 1
to_entry tag (some e) = if_eq tag continue_tag (if_eq e.state dialogue_received 3 no_problem) no_problem

unfoldable pub cause_of : Ledger → ℕ → List ℕ → Message → ℕ
cause_of L service s m =
    if_eq m.fault is_sound
    (if_eq m.tag uni_tag no_problem
    (if_eq m.tag begin_tag (if_b (may_begin_in L service) no_problem 4) (to_entry m.tag (addressee L service s m))))
    m.fault

-- "originating ID not derivable, drop. Otherwise write Abort to it"
unfoldable pub said_for : Ledger → ℕ → List ℕ → Message → Wire
said_for L service s m =
    if_lt (cause_of L service s m) 5
    (if_eq m.origin.length 0 Wire.Nothing (aborting (octets_at s m.origin) [] Spoken.Silent (cause_of L service s m)))
    Wire.Nothing

abbrev pub said : Ledger → Call → Wire
said L (Open service) = Wire.Nothing
said L (OnDialogue service dialogue r) = said_of (find L.dialogues dialogue) r
said L (Receive service s) = said_for L service s (message_of s)
