-- CASES worked out by hand from 01, beside P1 to P8: turns above 0, and all eight numbers of a row of every kind. Assumes nothing.
use Rattle.std.specs.Prelude.{◌≡◌, refl, List, [], ◌∷◌, ◌++◌, ℕ, zero, suc, replicate, drop}
use Rattle.paper.specs.declared.Row.{Row}
use Rattle.paper.specs.Invocations.{state_of, idle, sent, wait}
use Rattle.paper.specs.Dialogues.{Place, empty_place, begun, waiting_rejects, dialogue_free, dialogue_open, dialogue_sent}
use Rattle.paper.specs.Dialogues.Request.{Invoke, Begin, Continue, Prearranged, Timeout, NoReaction}
use Rattle.paper.specs.Calls.{Table, Out, fresh_table, place_at}
use Rattle.paper.specs.Calls.Call.{Open, OnDialogue, Receive}
use Rattle.paper.specs.Computing.{computed}

-- a row by its eight numbers
abbrev pub row : ℕ → ℕ → ℕ → ℕ → ℕ → ℕ → ℕ → ℕ → Row
row kind dialogue invoke linked problem start length follow = record {
  kind = kind;
  dialogue = dialogue;
  invoke = invoke;
  linked = linked;
  problem = problem;
  start = start;
  length = length;
  follow = follow;
}

-- TURNS. A table with these places; guarantees 0, so that a service alone may take every place
abbrev pub table_of : List Place → Table
table_of ps = record { guarantees = replicate 16 0; limits = replicate 16 128; places = ps }

-- place 0 was freed 66,051 times: turn 01 02 03, three octets that differ
pub turned : Table
unfolding computed
turned = table_of (empty_place 0x010203 ∷ replicate 127 (empty_place 0))

pub turned_open : Out
unfolding computed turned
turned_open = computed turned (Open 3)

pub turned_begun : Out
unfolding computed turned_open
turned_begun = computed turned_open.table (OnDialogue 3 0x010203 (Begin [] []))

-- a Continue from the peer's 07 to these four octets
abbrev pub continue_to : ℕ → ℕ → ℕ → ℕ → List ℕ
continue_to a b c d = 0x65 ∷ 0x09 ∷ 0x48 ∷ 0x01 ∷ 0x07 ∷ 0x49 ∷ 0x04 ∷ a ∷ b ∷ c ∷ d ∷ []

pub found : Out
unfolding computed turned_begun
found = computed turned_begun.table (Receive 3 (continue_to 0x00 0x01 0x02 0x03))

-- our Continue names both ends
pub answered : Out
unfolding computed found
answered = computed found.table (OnDialogue 3 0x010203 (Continue [] []))

-- the turn's octets low first name nobody
pub reversed : Out
unfolding computed turned_begun
reversed = computed turned_begun.table (Receive 3 (continue_to 0x00 0x03 0x02 0x01))

-- nor does the place with its next turn, or with none
pub later : Out
unfolding computed turned_begun
later = computed turned_begun.table (Receive 3 (continue_to 0x00 0x01 0x02 0x04))

pub turnless : Out
unfolding computed turned_begun
turnless = computed turned_begun.table (Receive 3 (continue_to 0x00 0x00 0x00 0x00))

-- the highest place: its number is in the first octet
abbrev pub taken : Place
taken = record { control = begun 0 dialogue_open 3 0 (replicate 4 0); waiting = [] }

pub highest : Out
unfolding computed
highest = computed (table_of (replicate 127 taken ++ (empty_place 0x010203 ∷ []))) (Open 3)

pub highest_begun : Out
unfolding computed highest
highest_begun = computed highest.table (OnDialogue 3 0x7F010203 (Begin [] []))

-- none is left
pub full : Out
unfolding computed highest
full = computed highest.table (Open 3)

-- taken and freed again and again: one turn each time
abbrev pub cycles : ℕ → ℕ → Table → Table
cycles zero turn T = T
cycles (suc n) turn T = cycles n (suc turn) (computed (computed T (Open 3)).table (OnDialogue 3 turn Prearranged)).table

pub empty : Table
unfolding computed
empty = fresh_table (replicate 16 4) (replicate 16 64)

pub once : Out
unfolding computed empty
once = computed (cycles 1 0 empty) (Open 3)

pub once_begun : Out
unfolding computed once
once_begun = computed once.table (OnDialogue 3 1 (Begin [] []))

-- the first turn that needs its second octet
pub often : Out
unfolding computed empty
often = computed (cycles 256 0 empty) (Open 3)

pub often_begun : Out
unfolding computed often
often_begun = computed often.table (OnDialogue 3 256 (Begin [] []))

-- the last turn: freed, it is 0 again
pub last_turn : Out
unfolding computed
last_turn = computed (table_of (empty_place 16777215 ∷ replicate 127 (empty_place 0))) (Open 3)

pub wrapped : Out
unfolding computed last_turn
wrapped = computed last_turn.table (OnDialogue 3 0x00FFFFFF Prearranged)

pub wrapped_open : Out
unfolding computed wrapped
wrapped_open = computed wrapped.table (Open 3)

-- the ID before the wrap names nobody
pub wrapped_late : Out
unfolding computed wrapped_open
wrapped_late = computed wrapped_open.table (OnDialogue 3 0x00FFFFFF (Begin [] []))

abbrev pub turn_at : Out → ℕ → ℕ
turn_at o p = (place_at o.table p).control.turn

abbrev pub state_at : Out → ℕ → ℕ
state_at o p = (place_at o.table p).control.state

-- ROWS OF EVERY KIND, all eight numbers: kind; local ID, 66051 is place 0 with turn 01 02 03; ID plus 128; linked ID plus 128;
-- problem or cause; start, length; rows that follow.
-- 1 UNI, its portion from octet 2; 7 of -128, as 0; 14 of 127, as 255, whose linked ID 5 nobody sent: not stored in a UNI
pub uni : Out
unfolding computed turned
uni =
    computed turned
    (Receive 3
    (0x61 ∷ 0x19 ∷ 0x6B ∷ 0x02 ∷ 0x05 ∷ 0x00 ∷ 0x6C ∷ 0x13 ∷ 0xA1 ∷ 0x06 ∷ 0x02 ∷ 0x01 ∷ 0x80 ∷ 0x02 ∷ 0x01 ∷ 0x3B ∷ 0xA1 ∷ 0x09
    ∷ 0x02 ∷ 0x01 ∷ 0x7F ∷ 0x80 ∷ 0x01 ∷ 0x05 ∷ 0x02 ∷ 0x01 ∷ 0x3C ∷ []))

-- 2 BEGIN, its portion and its invoke indefinite: their lengths reach past 00 00; 13 for a result of nothing sent
pub begins : Out
unfolding computed turned
begins =
    computed turned
    (Receive 3
    (0x62 ∷ 0x1B ∷ 0x48 ∷ 0x02 ∷ 0xAA ∷ 0xBB ∷ 0x6B ∷ 0x80 ∷ 0x05 ∷ 0x00 ∷ 0x00 ∷ 0x00 ∷ 0x6C ∷ 0x0F ∷ 0xA1 ∷ 0x80 ∷ 0x02 ∷ 0x01
    ∷ 0x7F ∷ 0x02 ∷ 0x01 ∷ 0x3B ∷ 0x00 ∷ 0x00 ∷ 0xA2 ∷ 0x03 ∷ 0x02 ∷ 0x01 ∷ 0x05 ∷ []))

-- ours: -128 and 127 of class 1, 5 of class 2, 6 of class 4, all Sent
abbrev pub invoking : Table → ℕ → ℕ → Out
invoking T id class = computed T (OnDialogue 3 0x010203 (Invoke id 256 class (0x02 ∷ 0x01 ∷ 0x3B ∷ []) []))

pub ours : Out
unfolding computed turned_open
ours =
    computed (invoking (invoking (invoking (invoking turned_open.table 0x80 1).table 0x7F 1).table 5 2).table 6 4).table
    (OnDialogue 3 0x010203 (Begin [] []))

-- 3 CONTINUE with eight: A7 of our -128; an invoke 127 linked to it; its A2; A3 of our 5; their reject of our 127; one that names
-- none; an invoke 6 linked to 127, Idle by now; octets without a frame
pub continues : Out
unfolding computed ours
continues =
    computed ours.table
    (Receive 3
    (0x65 ∷ 0x45 ∷ 0x48 ∷ 0x01 ∷ 0x07 ∷ 0x49 ∷ 0x04 ∷ 0x00 ∷ 0x01 ∷ 0x02 ∷ 0x03 ∷ 0x6C ∷ 0x3A
    ∷ 0xA7 ∷ 0x03 ∷ 0x02 ∷ 0x01 ∷ 0x80
    ∷ 0xA1 ∷ 0x09 ∷ 0x02 ∷ 0x01 ∷ 0x7F ∷ 0x80 ∷ 0x01 ∷ 0x80 ∷ 0x02 ∷ 0x01 ∷ 0x3C
    ∷ 0xA2 ∷ 0x03 ∷ 0x02 ∷ 0x01 ∷ 0x80
    ∷ 0xA3 ∷ 0x06 ∷ 0x02 ∷ 0x01 ∷ 0x05 ∷ 0x02 ∷ 0x01 ∷ 0x22
    ∷ 0xA4 ∷ 0x06 ∷ 0x02 ∷ 0x01 ∷ 0x7F ∷ 0x81 ∷ 0x01 ∷ 0x02
    ∷ 0xA4 ∷ 0x05 ∷ 0x05 ∷ 0x00 ∷ 0x80 ∷ 0x01 ∷ 0x02
    ∷ 0xA1 ∷ 0x09 ∷ 0x02 ∷ 0x01 ∷ 0x06 ∷ 0x80 ∷ 0x01 ∷ 0x7F ∷ 0x02 ∷ 0x01 ∷ 0x3C
    ∷ 0xA1 ∷ 0x09 ∷ 0x02 ∷ []))

-- a second one: a reject that the partner's sub-layer sends (81 05); A2 of our 6, which class 4 forbids: 82 1; a reject with a code
-- that nobody sends (81 08): a notice of ours, general 1
pub rejecting : Out
unfolding computed continues
rejecting =
    computed continues.table
    (Receive 3
    (0x65 ∷ 0x20 ∷ 0x48 ∷ 0x01 ∷ 0x07 ∷ 0x49 ∷ 0x04 ∷ 0x00 ∷ 0x01 ∷ 0x02 ∷ 0x03 ∷ 0x6C ∷ 0x15
    ∷ 0xA4 ∷ 0x06 ∷ 0x02 ∷ 0x01 ∷ 0x80 ∷ 0x81 ∷ 0x01 ∷ 0x05
    ∷ 0xA2 ∷ 0x03 ∷ 0x02 ∷ 0x01 ∷ 0x06
    ∷ 0xA4 ∷ 0x06 ∷ 0x02 ∷ 0x01 ∷ 0x7F ∷ 0x81 ∷ 0x01 ∷ 0x08 ∷ []))

-- nine results of nothing sent: eight rejects wait, the ninth isn't stored
abbrev pub results : ℕ → List ℕ
results zero = []
results (suc n) = 0xA2 ∷ 0x03 ∷ 0x02 ∷ 0x01 ∷ 0x09 ∷ results n

pub ninth : Out
unfolding computed ours
ninth =
    computed ours.table
    (Receive 3
    (0x65 ∷ 0x38 ∷ 0x48 ∷ 0x01 ∷ 0x07 ∷ 0x49 ∷ 0x04 ∷ 0x00 ∷ 0x01 ∷ 0x02 ∷ 0x03 ∷ 0x6C ∷ 0x2D ∷ results 9))

-- 4 END with a portion; A2 of our -128, in Wait: 14, as nothing can be sent after an End
pub ends : Out
unfolding computed continues
ends =
    computed continues.table
    (Receive 3
    (0x64 ∷ 0x11 ∷ 0x49 ∷ 0x04 ∷ 0x00 ∷ 0x01 ∷ 0x02 ∷ 0x03 ∷ 0x6B ∷ 0x02 ∷ 0x05 ∷ 0x00 ∷ 0x6C ∷ 0x05 ∷ 0xA2 ∷ 0x03 ∷ 0x02 ∷ 0x01
    ∷ 0x80 ∷ []))

-- 5 U-ABORT with a portion
pub aborts : Out
unfolding computed ours
aborts =
    computed ours.table
    (Receive 3 (0x67 ∷ 0x0A ∷ 0x49 ∷ 0x04 ∷ 0x00 ∷ 0x01 ∷ 0x02 ∷ 0x03 ∷ 0x6B ∷ 0x02 ∷ 0x05 ∷ 0x00 ∷ []))

-- 6 P-ABORT: the partner's cause 4; no reaction, no cause; a Continue whose 6B comes twice, cause 2 and no portion shown
pub causes : Out
unfolding computed ours
causes =
    computed ours.table (Receive 3 (0x67 ∷ 0x09 ∷ 0x49 ∷ 0x04 ∷ 0x00 ∷ 0x01 ∷ 0x02 ∷ 0x03 ∷ 0x4A ∷ 0x01 ∷ 0x04 ∷ []))

pub silent : Out
unfolding computed ours
silent = computed ours.table (OnDialogue 3 0x010203 NoReaction)

pub wrong : Out
unfolding computed ours
wrong =
    computed ours.table
    (Receive 3
    (0x65 ∷ 0x11 ∷ 0x48 ∷ 0x01 ∷ 0x07 ∷ 0x49 ∷ 0x04 ∷ 0x00 ∷ 0x01 ∷ 0x02 ∷ 0x03 ∷ 0x6B ∷ 0x02 ∷ 0x05 ∷ 0x00 ∷ 0x6B ∷ 0x02 ∷ 0x05
    ∷ 0x00 ∷ []))

-- 15 L-CANCEL of -128 and of 127, none in class 4
pub low : Out
unfolding computed ours
low = computed ours.table (OnDialogue 3 0x010203 (Timeout 0x80))

pub high : Out
unfolding computed ours
high = computed ours.table (OnDialogue 3 0x010203 (Timeout 0x7F))

pub quiet : Out
unfolding computed ours
quiet = computed ours.table (OnDialogue 3 0x010203 (Timeout 6))

abbrev pub invocation_at : Out → ℕ → ℕ
invocation_at o id = state_of (place_at o.table 0).control id

pub cases :
    (turned_open.dialogue ≡ 66051)
    × (turned_begun.message ≡ 0x62 ∷ 0x06 ∷ 0x48 ∷ 0x04 ∷ 0x00 ∷ 0x01 ∷ 0x02 ∷ 0x03 ∷ [])
    × (found.rows ≡ row 3 66051 256 256 65535 0 0 0 ∷ [])
    × (answered.message
    ≡ 0x65 ∷ 0x09 ∷ 0x48 ∷ 0x04 ∷ 0x00 ∷ 0x01 ∷ 0x02 ∷ 0x03 ∷ 0x49 ∷ 0x01 ∷ 0x07 ∷ [])
    × (reversed.message ≡ 0x67 ∷ 0x06 ∷ 0x49 ∷ 0x01 ∷ 0x07 ∷ 0x4A ∷ 0x01 ∷ 0x01 ∷ [])
    × (reversed.rows ≡ [])
    × (state_at reversed 0 ≡ dialogue_sent)
    × (later.message ≡ 0x67 ∷ 0x06 ∷ 0x49 ∷ 0x01 ∷ 0x07 ∷ 0x4A ∷ 0x01 ∷ 0x01 ∷ [])
    × (turnless.message ≡ 0x67 ∷ 0x06 ∷ 0x49 ∷ 0x01 ∷ 0x07 ∷ 0x4A ∷ 0x01 ∷ 0x01 ∷ [])
    × (highest.dialogue ≡ 2130772483)
    × (highest_begun.message ≡ 0x62 ∷ 0x06 ∷ 0x48 ∷ 0x04 ∷ 0x7F ∷ 0x01 ∷ 0x02 ∷ 0x03 ∷ [])
    × (full.answer ≡ 7)
    × (once.dialogue ≡ 1)
    × (once_begun.message ≡ 0x62 ∷ 0x06 ∷ 0x48 ∷ 0x04 ∷ 0x00 ∷ 0x00 ∷ 0x00 ∷ 0x01 ∷ [])
    × (often.dialogue ≡ 256)
    × (often_begun.message ≡ 0x62 ∷ 0x06 ∷ 0x48 ∷ 0x04 ∷ 0x00 ∷ 0x00 ∷ 0x01 ∷ 0x00 ∷ [])
    × (last_turn.dialogue ≡ 16777215)
    × (wrapped.answer ≡ 0)
    × (turn_at wrapped 0 ≡ 0)
    × (wrapped_open.dialogue ≡ 0)
    × (wrapped_late.answer ≡ 5)
    × (uni.rows ≡ row 1 0 256 256 65535 2 4 2 ∷ row 7 0 0 256 65535 8 8 0 ∷ row 14 0 255 133 261 16 11 0 ∷ [])
    × (begins.rows
    ≡ row 2 66051 256 256 65535 6 6 2 ∷ row 7 66051 255 256 65535 14 10 0 ∷ row 13 66051 133 256 512 24 5 0 ∷ [])
    × (continues.rows
    ≡ row 3 66051 256 256 65535 0 0 8
    ∷ row 9 66051 0 256 65535 13 5 0
    ∷ row 7 66051 255 0 65535 18 11 0
    ∷ row 8 66051 0 256 65535 29 5 0
    ∷ row 10 66051 133 256 65535 34 8 0
    ∷ row 11 66051 255 256 258 42 8 0
    ∷ row 12 66051 256 256 2 50 7 0
    ∷ row 13 66051 134 255 261 57 11 0
    ∷ row 13 66051 256 256 2 0 0 0 ∷ [])
    × (waiting_rejects (place_at continues.table 0).control
    ≡ 0xA4 ∷ 0x06 ∷ 0x02 ∷ 0x01 ∷ 0x06 ∷ 0x81 ∷ 0x01 ∷ 0x05 ∷ 0xA4 ∷ 0x05 ∷ 0x05 ∷ 0x00 ∷ 0x80 ∷ 0x01 ∷ 0x02 ∷ [])
    × (invocation_at continues 0x80 ≡ wait)
    × (invocation_at continues 0x7F ≡ idle)
    × (invocation_at continues 6 ≡ sent)
    × (rejecting.rows
    ≡ row 3 66051 256 256 65535 0 0 3
    ∷ row 12 66051 0 256 261 13 8 0
    ∷ row 13 66051 134 256 513 21 5 0
    ∷ row 14 66051 255 256 1 26 8 0 ∷ [])
    × (drop 8 ninth.rows ≡ row 13 66051 137 256 512 48 5 0 ∷ row 14 66051 137 256 512 53 5 0 ∷ [])
    × (ends.rows ≡ row 4 66051 256 256 65535 8 4 1 ∷ row 14 66051 0 256 512 14 5 0 ∷ [])
    × (state_at ends 0 ≡ dialogue_free)
    × (turn_at ends 0 ≡ 66052)
    × (aborts.rows ≡ row 5 66051 256 256 65535 8 4 0 ∷ [])
    × (causes.rows ≡ row 6 66051 256 256 4 0 0 0 ∷ [])
    × (silent.rows ≡ row 6 66051 256 256 65535 0 0 0 ∷ [])
    × (wrong.rows ≡ row 6 66051 256 256 2 0 0 0 ∷ [])
    × (wrong.message ≡ 0x67 ∷ 0x06 ∷ 0x49 ∷ 0x01 ∷ 0x07 ∷ 0x4A ∷ 0x01 ∷ 0x02 ∷ [])
    × (low.rows ≡ row 15 66051 0 256 65535 0 0 0 ∷ [])
    × (high.rows ≡ row 15 66051 255 256 65535 0 0 0 ∷ [])
    × (quiet.rows ≡ [])
    × (invocation_at quiet 6 ≡ idle)
unfolding computed turned_open turned_begun found answered reversed later turnless highest highest_begun full once once_begun often often_begun last_turn wrapped wrapped_open wrapped_late uni begins continues rejecting ninth ends aborts causes silent wrong low high quiet
cases = (refl, refl, refl, refl, refl, refl, refl, refl, refl, refl, refl, refl, refl, refl, refl, refl, refl, refl, refl, refl, refl, refl, refl, refl, refl, refl, refl, refl, refl, refl, refl, refl, refl, refl, refl, refl, refl, refl, refl, refl, refl, refl)
