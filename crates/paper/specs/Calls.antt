-- THE CALLS: every request, received message and timer event as one step from a table (01, "Answer numbers" and
-- "A received message"). Assumes nothing.
use Rattle.std.specs.Prelude.{Bool, true, false, List, [], ◌∷◌, ℕ, ◌+◌, ◌*◌, length, get_or, set, take, drop, replicate, eqb}
use Rattle.laws.specs.If.{if_lt, if_eq, if_b}
use Rattle.laws.specs.Lists.{first_at, pad}
use Rattle.laws.specs.Sums.{sum_by}
use Rattle.paper.specs.declared.Run.{Run}
use Rattle.paper.specs.declared.Message.{Message}
use Rattle.paper.specs.declared.Control.{Control}
use Rattle.paper.specs.declared.Row.{Row}
use Rattle.paper.specs.Sizes.{places_in_all, services, longest_message, most_rejects, local_id, place_of, turn_of}
use Rattle.paper.specs.Records.{with_state, with_peer_id}
use Rattle.paper.specs.Problems.{no_problem}
use Rattle.paper.specs.Components.{Item, components}
use Rattle.paper.specs.Messages.{message_of, is_sound, is_dropped, no_run, uni_tag, begin_tag, end_tag, continue_tag}
use Rattle.paper.specs.Writing.{cause_abort_octets}
use Rattle.paper.specs.Kinds.{row_uni, row_begin, row_continue, row_end, row_user_abort, row_abort}
use Rattle.paper.specs.Rows.{dialogue_row, component_rows, all_acted}
use Rattle.paper.specs.Shares.{Resource, shared, gives}
use Rattle.paper.specs.Dialogues.{Place, Request, Done, request, empty_place, empty_control, freed, begun, with_control, dialogue_free, dialogue_open, dialogue_sent, dialogue_received, dialogue_active}

-- THE TABLE: shares and places
pub record Table : Type 0 where
  pub guarantees : List ℕ
  pub limits : List ℕ
  pub places : List Place

abbrev pub place_at : Table → ℕ → Place
place_at T p = get_or T.places p (empty_place 0)

abbrev pub with_place : Table → ℕ → Place → Table
with_place T p x = record { guarantees = T.guarantees; limits = T.limits; places = set T.places p x }

unfoldable pub is_free : Place → Bool
is_free x = eqb x.control.state dialogue_free

-- 1 where the place has a dialogue of that service
unfoldable pub is_of : ℕ → Place → ℕ
is_of s x = if_b (is_free x) 0 (if_eq x.control.service s 1 0)

-- a service's dialogues, as the table holds them
unfoldable pub held : List Place → ℕ → ℕ
held ps s = sum_by (is_of s) ps

-- DIALOGUES are a resource (demand 3): a table has 128 places for those of its services
abbrev pub dialogues : Table → Resource
dialogues T = shared places_in_all services T.guarantees T.limits (held T.places)

-- whether a new dialogue of a service is given a place
unfoldable pub may_begin : Table → ℕ → Bool
may_begin T s = gives (dialogues T) s

-- "the lowest is taken"
unfoldable pub lowest_free : Table → ℕ
lowest_free T = first_at is_free T.places

-- "no such dialogue, or another service's" (answer 5): found by place and turn and service and state
unfoldable pub is_dialogue : Place → ℕ → ℕ → Bool
is_dialogue x service turn =
    if_b (is_free x) false (if_eq x.control.service service (eqb x.control.turn turn) false)

unfoldable pub owns : Table → ℕ → ℕ → Bool
owns T service dialogue =
    if_lt (place_of dialogue) places_in_all (is_dialogue (place_at T (place_of dialogue)) service (turn_of dialogue)) false

-- WHAT A CALL GIVES: the local ID that an open gives, else 0
pub record Out : Type 0 where
  pub answer : ℕ
  pub dialogue : ℕ
  pub rows : List Row
  pub message : List ℕ
  pub table : Table

abbrev pub refuse : ℕ → Table → Out
refuse n T = record { answer = n; dialogue = 0; rows = []; message = []; table = T }

abbrev pub shows : List Row → List ℕ → Table → Out
shows rows message T = record { answer = 0; dialogue = 0; rows = rows; message = message; table = T }

-- "message dropped (no row, no message, no octet changed)"
abbrev pub dropped : Table → Out
dropped T = shows [] [] T

-- A REQUEST on a dialogue
unfoldable pub stored : Table → ℕ → Done → Out
stored T p o = record {
  answer = o.answer;
  dialogue = 0;
  rows = o.rows;
  message = o.message;
  table = if_eq o.answer 0 (with_place T p o.place) T;
}

unfoldable pub requested : Table → ℕ → ℕ → Request → Out
requested T service dialogue r =
    if_b (owns T service dialogue) (stored T (place_of dialogue) (request dialogue (place_at T (place_of dialogue)) r)) (refuse 5 T)

-- OPEN: "Open takes a place (ruling)"
abbrev pub opened_at : Table → ℕ → ℕ → Out
opened_at T service p = record {
  answer = 0;
  dialogue = local_id p (place_at T p).control.turn;
  rows = [];
  message = [];
  table = with_place T p (record { control = begun (place_at T p).control.turn dialogue_open service 0 (replicate 4 0); waiting = [] });
}

unfoldable pub opened : Table → ℕ → Out
opened T service = if_b (may_begin T service) (opened_at T service (lowest_free T)) (refuse 7 T)

-- A RECEIVED MESSAGE. A run of its octets
abbrev pub octets_at : List ℕ → Run → List ℕ
octets_at s r = take r.length (drop r.start s)

-- four octets as a number, high first
abbrev pub number_at : List ℕ → ℕ → ℕ
number_at s a = get_or s a 0 * 16777216 + get_or s (a + 1) 0 * 65536 + get_or s (a + 2) 0 * 256 + get_or s (a + 3) 0

abbrev pub destination_number : List ℕ → Message → ℕ
destination_number s m = number_at s m.destination.start

-- "It is assigned when it is the four octets of this service's dialogue in Sent, Received or Active."
unfoldable pub assigned : Table → ℕ → List ℕ → Message → Bool
assigned T service s m =
    if_eq m.destination.length 4
    (if_b (owns T service (destination_number s m))
    (if_eq (place_at T (place_of (destination_number s m))).control.state dialogue_open false true)
    false)
    false

-- "On a fault: originating ID not derivable, drop. Otherwise write Abort to it and free an assigned destination's place, with
-- a P-ABORT row."
unfoldable pub faulted_at : Table → ℕ → ℕ → List ℕ → Out
faulted_at T dialogue cause message =
    shows (dialogue_row row_abort dialogue cause no_run 0 ∷ []) message (with_place T (place_of dialogue) (freed (place_at T (place_of dialogue))))

unfoldable pub faulted : Table → ℕ → List ℕ → Message → ℕ → Out
faulted T service s m cause =
    if_eq m.origin.length 0 (dropped T)
    (if_b (assigned T service s m) (faulted_at T (destination_number s m) cause (cause_abort_octets (octets_at s m.origin) cause))
    (shows [] (cause_abort_octets (octets_at s m.origin) cause) T))

-- its components, none without a 6C
unfoldable pub items_of : List ℕ → Message → List Item
items_of s m = if_eq m.from 0 [] (components s m.to m.from)

-- the dialogue row and those of the components, acting on a control record with room for waiting rejects
abbrev pub shown_rows : ℕ → ℕ → ℕ → Control → Message → List Item → List Row
shown_rows kind me room c m is =
    dialogue_row kind me no_problem m.portion (length (component_rows me room c is)) ∷ component_rows me room c is

-- a Unidirectional has no dialogue: "local ID (0 in UNI)"
unfoldable pub uni_received : Table → List ℕ → Message → Out
uni_received T s m = shows (shown_rows row_uni 0 0 (empty_control 0) m (items_of s m)) [] T

-- "Begin opens in Received."
abbrev pub begun_control : Table → ℕ → ℕ → List ℕ → Message → Control
begun_control T service p s m =
    begun (place_at T p).control.turn dialogue_received service m.origin.length (pad 4 (octets_at s m.origin))

unfoldable pub begin_at : Table → ℕ → ℕ → List ℕ → Message → Out
begin_at T service p s m =
    shows
    (shown_rows row_begin (local_id p (place_at T p).control.turn) most_rejects (begun_control T service p s m) m (items_of s m))
    []
    (with_place T p (record { control = all_acted most_rejects (begun_control T service p s m) (items_of s m); waiting = [] }))

-- "Begin without a place, 4"
unfoldable pub begin_received : Table → ℕ → List ℕ → Message → Out
begin_received T service s m = if_b (may_begin T service) (begin_at T service (lowest_free T) s m) (faulted T service s m 4)

-- "Continue in Sent stores the peer's ID and makes Active; later ones don't change it."
abbrev pub with_peer : Control → ℕ → List ℕ → Control
with_peer c peerlen peer = with_state (with_peer_id c peerlen peer) dialogue_active

unfoldable pub continued_control : Control → List ℕ → Message → Control
continued_control c s m = if_eq c.state dialogue_sent (with_peer c m.origin.length (pad 4 (octets_at s m.origin))) c

unfoldable pub continue_received : Table → ℕ → List ℕ → Message → Place → Out
continue_received T me s m x =
    shows
    (shown_rows row_continue me most_rejects (continued_control x.control s m) m (items_of s m))
    []
    (with_place T (place_of me) (with_control x (all_acted most_rejects (continued_control x.control s m) (items_of s m))))

-- "End shows its components, then frees"
unfoldable pub end_received : Table → ℕ → List ℕ → Message → Place → Out
end_received T me s m x = shows (shown_rows row_end me 0 x.control m (items_of s m)) [] (with_place T (place_of me) (freed x))

-- "Abort frees, with a P-ABORT row where it has 4A, else a U-ABORT row"
unfoldable pub abort_received : Table → ℕ → Message → Place → Out
abort_received T me m x =
    shows (if_eq m.cause no_problem (dialogue_row row_user_abort me no_problem m.portion 0) (dialogue_row row_abort me m.cause no_run 0) ∷ []) []
    (with_place T (place_of me) (freed x))

-- one to an assigned dialogue: "Continue in Received, 3"; "End or Abort in Received is dropped (ruling)"
unfoldable pub to_dialogue : Table → ℕ → ℕ → List ℕ → Message → Place → Out
to_dialogue T service me s m x =
    if_eq x.control.state dialogue_received (if_eq m.tag continue_tag (faulted T service s m 3) (dropped T))
    (if_eq m.tag continue_tag (continue_received T me s m x)
    (if_eq m.tag end_tag (end_received T me s m x) (abort_received T me m x)))

-- a sound message, by its type: "destination not assigned, 1"
unfoldable pub sound_received : Table → ℕ → List ℕ → Message → Out
sound_received T service s m =
    if_eq m.tag uni_tag (uni_received T s m)
    (if_eq m.tag begin_tag (begin_received T service s m)
    (if_b (assigned T service s m) (to_dialogue T service (destination_number s m) s m (place_at T (place_of (destination_number s m))))
    (faulted T service s m 1)))

unfoldable pub received : Table → ℕ → List ℕ → Message → Out
received T service s m =
    if_eq m.fault is_dropped (dropped T)
    (if_eq m.fault is_sound (sound_received T service s m) (faulted T service s m m.fault))

-- "received message of 0 or over 512 octets" (answer 4)
unfoldable pub received_if : Table → ℕ → List ℕ → Out
received_if T service s =
    if_eq (length s) 0 (refuse 4 T) (if_lt longest_message (length s) (refuse 4 T) (received T service s (message_of s)))

-- THE CALLS: the service first
pub data Call : Type 0 where
  Open : ℕ → Call
  OnDialogue : ℕ → ℕ → Request → Call
  Receive : ℕ → List ℕ → Call

-- "service above 15" (answer 3)
abbrev pub of_service : ℕ → Table → Out → Out
of_service service T o = if_lt service services o (refuse 3 T)

-- THE STEP
unfoldable pub step : Table → Call → Out
step T (Open service) = of_service service T (opened T service)
step T (OnDialogue service dialogue r) = of_service service T (requested T service dialogue r)
step T (Receive service s) = of_service service T (received_if T service s)

-- a fresh table: "exactly the empty table of those shares, all turns 0"
unfoldable pub fresh_table : List ℕ → List ℕ → Table
fresh_table g l = record { guarantees = g; limits = l; places = replicate places_in_all (empty_place 0) }
