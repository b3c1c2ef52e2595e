-- WHEN EACH ANSWER NUMBER APPLIES to a call on what is lent (01, "Answer numbers"). Each is said by itself: neither by the refusals of the
-- definitions, nor by a lower number's not applying. proofs/Lowest.antt proves that a call is answered by the lowest. Assumes nothing.
use Rattle.std.specs.Prelude.{◌≡◌, Bool, true, false, not, ◌&&◌, ◌||◌, List, [], ◌∷◌, ℕ, zero, suc, ◌+◌, ◌<◌, length, get_or, eqb, ltb}
use Rattle.laws.specs.Lists.{every}
use Rattle.laws.specs.Sums.{sum}
use Rattle.paper.specs.Sizes.{places_in_all, services, most_invocations, most_waiting, longest_message, place_of}
use Rattle.paper.specs.Problems.{sender_of_problem, by_user, kind_of}
use Rattle.paper.specs.Components.{waiting_items}
use Rattle.paper.specs.Writing.{invoke_octets, result_octets, error_octets, reject_octets}
use Rattle.paper.specs.Invocations.{idle, sent, wait, idle_slot, invocation_of, state_of, may_reject}
use Rattle.paper.specs.Portions.{Form, aarq, aare, audt, portion_by}
use Rattle.paper.specs.Dialogues.{Place, Request, dialogue_open, dialogue_sent, dialogue_received, dialogue_active, is_code, is_parameter, is_result, is_portion, is_name, is_block, is_information, abort_portion, of_class4}
use Rattle.paper.specs.Dialogues.Request.{Invoke, Result, Error, UserReject, Cancel, Begin, Continue, End, Prearranged, Abort, Unidirectional, Timeout, RejectTimeout, NoReaction}
use Rattle.paper.specs.Calls.{Table, Call, place_at, owns, may_begin}
use Rattle.paper.specs.Calls.Call.{Open, OnDialogue, Receive}
use Rattle.paper.specs.Counting.{service_of}
use Rattle.paper.specs.Layout.{table_size, view}
use Rattle.paper.specs.Rules.{rules}
use Rattle.paper.specs.Outcome.{Lent, spaces_for}

-- A CASE: a number, and a test for which it applies
abbrev pub Case : Type 0
Case = ℕ × Bool

-- a number applies where a test of its own holds; one without a test for a call never applies to it
abbrev pub among : ℕ → List Case → Bool
among n [] = false
among n (c ∷ cs) = eqb n c.0 && c.1 || among n cs

-- the dialogue's state; that of its invocation of an ID
abbrev pub is_in : Place → ℕ → Bool
is_in x state = eqb x.control.state state

abbrev pub id_in : Place → ℕ → ℕ → Bool
id_in x id state = eqb (state_of x.control id) state

-- waiting components, with one more or with a portion, over 240 octets
abbrev pub over : Place → List ℕ → Bool
over x l = ltb most_waiting (length x.waiting + length l)

-- NAME AND INFORMATION given with a sending (02 a: "11 for them too"; "The 240 octets from here on count the portion too", as it is formed
-- from what is given; "14, either given with continue or end in Active, or user information without a name"); cs: what else applies
abbrev pub given : List ℕ → Bool
given l = not (eqb (length l) 0)

abbrev pub unnamed : List ℕ → List ℕ → Bool
unnamed name info = given info && not (given name)

abbrev pub in_active : Place → List ℕ → List ℕ → Bool
in_active x name info = is_in x dialogue_active && (given name || given info)

abbrev pub portion_cases : Place → Form → List ℕ → List ℕ → List Case → List Case
portion_cases x f name info cs =
    (11, not (is_name name)) ∷ (11, not (is_information info)) ∷ (12, over x (portion_by f name info)) ∷ (14, unnamed name info) ∷ cs

-- A REQUEST, in its dialogue's place.
-- 6: "dialogue state doesn't take the request; Unidirectional with no component or with one not of class 4"; and of the states: "only
-- invokes may be passed" in Open, Begin and Unidirectional "need Open", Continue and basic end "need Received or Active", prearranged end and
-- user abort "any", no-reaction timer "Sent only".
-- 8: "class not 1 to 4, or a problem code that the user may not send".
-- 9: "invoke ID in a state other than the request needs (a new invoke needs Idle)".
-- 10: "8 invocations already open".
-- 11: "octets given for operation, error, parameter or dialogue portion not one well-formed element of its kind, or reaching depth 17 in
-- what it becomes part of; only one of a result's operation and parameter".
-- 12: "waiting components, or a given dialogue portion, over 240 octets".
-- An abort takes "a whole 6B element or none" (01), or user information (02 a)
abbrev pub cases_of : Place → Request → List Case
cases_of x (Invoke id linked class op par) =
    (8, ltb class 1) ∷ (8, ltb 4 class)
    ∷ (9, not (id_in x id idle)) ∷ (10, eqb (idle_slot x.control.invocations) most_invocations)
    ∷ (11, not (is_code op)) ∷ (11, not (is_parameter par)) ∷ (12, over x (invoke_octets id linked op par)) ∷ []
cases_of x (Result tag id op par) =
    (6, is_in x dialogue_open) ∷ (11, not (is_result op par)) ∷ (12, over x (result_octets tag id op par)) ∷ []
cases_of x (Error id err par) =
    (6, is_in x dialogue_open) ∷ (11, not (is_code err)) ∷ (11, not (is_parameter par)) ∷ (12, over x (error_octets id err par)) ∷ []
cases_of x (UserReject id p) =
    (6, is_in x dialogue_open) ∷ (8, not (eqb (sender_of_problem p) by_user))
    ∷ (9, not (may_reject (kind_of p) (invocation_of x.control.invocations id))) ∷ (12, over x (reject_octets id p)) ∷ []
cases_of x (Cancel id) = (9, not (id_in x id sent)) ∷ []
cases_of x (Begin name info) = (6, not (is_in x dialogue_open)) ∷ portion_cases x aarq name info []
cases_of x (Continue name info) =
    (6, not (is_in x dialogue_received || is_in x dialogue_active)) ∷ portion_cases x aare name info ((14, in_active x name info) ∷ [])
cases_of x (End name info) =
    (6, not (is_in x dialogue_received || is_in x dialogue_active)) ∷ portion_cases x aare name info ((14, in_active x name info) ∷ [])
cases_of x Prearranged = []
cases_of x (Abort given) = (11, not (is_block given || is_portion given)) ∷ (12, ltb most_waiting (length (abort_portion given))) ∷ []
cases_of x (Unidirectional name info) =
    (6, not (is_in x dialogue_open)) ∷ (6, eqb (length x.waiting) 0)
    ∷ (6, not (every (of_class4 x.control) (waiting_items x.waiting))) ∷ portion_cases x audt name info []
cases_of x (Timeout id) = (9, not (id_in x id sent)) ∷ []
cases_of x (RejectTimeout id) = (9, not (id_in x id wait)) ∷ []
cases_of x NoReaction = (6, not (is_in x dialogue_sent)) ∷ []

-- A CALL.
-- 4: "received message of 0 or over 512 octets".
-- 5: "no such dialogue, or another service's".
-- 7: "open request without a place (demand 3)"
abbrev pub cases_in : Table → Call → List Case
cases_in T (Open service) = (7, not (may_begin T service)) ∷ []
cases_in T (OnDialogue service dialogue r) = (5, not (owns T service dialogue)) ∷ cases_of (place_at T (place_of dialogue)) r
cases_in T (Receive service s) = (4, eqb (length s) 0) ∷ (4, ltb longest_message (length s)) ∷ []

-- A CALL ON WHAT IS LENT.
-- 1: "a lent space or table has the wrong size"; a space that the call doesn't take is not judged.
-- 2: "the table breaks a table rule".
-- 3: "service above 15"
abbrev pub cases : Lent → Call → List Case
cases l c =
    (1, not (eqb (length l.table) table_size))
    ∷ (1, ltb (length l.rows) (spaces_for c).rows) ∷ (1, ltb (length l.space) (spaces_for c).space)
    ∷ (2, not (rules l.table))
    ∷ (3, not (ltb (service_of c) services))
    ∷ cases_in (view l.table) c

unfoldable pub applies : ℕ → Lent → Call → Bool
applies n l c = among n (cases l c)

-- A FRESH TABLE, of guarantees g and limits l.
-- 13: "a guarantee above its limit, a limit above 128, or guarantees over 128 together"
abbrev pub some : (ℕ → Bool) → ℕ → Bool
some f zero = false
some f (suc n) = some f n || f n

abbrev pub fresh_cases : List ℕ → List ℕ → List ℕ → List Case
fresh_cases t g l =
    (1, not (eqb (length t) table_size)) ∷ (1, not (eqb (length g) services)) ∷ (1, not (eqb (length l) services))
    ∷ (13, some (λ k. ltb (get_or l k 0) (get_or g k 0)) services)
    ∷ (13, some (λ k. ltb places_in_all (get_or l k 0)) services)
    ∷ (13, ltb places_in_all (sum (λ k. get_or g k 0) services)) ∷ []

unfoldable pub fresh_applies : ℕ → List ℕ → List ℕ → List ℕ → Bool
fresh_applies n t g l = among n (fresh_cases t g l)

-- "Where several apply, the lowest": n applies and none below it does; 0 where none does
pub record Lowest (f : ℕ → Bool) (n : ℕ) : Type 0 where
  pub given : (n ≡ 0 → ⊥) → f n ≡ true
  pub lower : (k : ℕ) → k < n → f k ≡ false
  pub none : n ≡ 0 → (k : ℕ) → f k ≡ false
