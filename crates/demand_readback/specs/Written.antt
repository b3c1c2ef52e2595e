-- WHAT IS WRITTEN, AND AS WHAT IT IS TO BE READ (01, "Coding"). Assumes nothing.
use Rattle.std.specs.Prelude.{ℕ, ◌+◌, ◌-◌, ◌<◌, ◌≤◌, ◌≡◌, true, ◌⊎◌, List, [], ◌∷◌, ◌++◌, length}
use Rattle.laws.specs.If.{if_eq}
use Rattle.paper.specs.declared.Component.{Component}
use Rattle.paper.specs.declared.Run.{Run}
use Rattle.paper.specs.declared.Message.{Message}
use Rattle.paper.specs.Problems.{sender_of_problem, by_nobody, no_problem}
use Rattle.paper.specs.Components.{invoke_tag, last_tag, error_tag, reject_tag, not_last_tag, no_id, sound, Item}
use Rattle.paper.specs.Messages.{uni_tag, begin_tag, end_tag, continue_tag, abort_tag, no_run, Derived, sound_of, message_of}
use Rattle.paper.specs.Dialogues.{is_code, is_parameter, is_result}
use Rattle.paper.specs.Calls.{octets_at}
use Rattle.paper.specs.Writing.{length_octets, tlv, Written, octets_of, components_octets, begin_octets, continue_octets, end_octets, uni_octets}
use Rattle.paper.specs.Writing.Written.{Invoke, Result, Error, Reject}
use Rattle.demand_readback.specs.Standing.{Has}

-- "A2 result last, A7 result not last"
abbrev pub ResultTag : ℕ → Type 0
ResultTag t = (t ≡ last_tag) ⊎ (t ≡ not_last_tag)

-- parts that the rules allow: those that answer 11 lets through; IDs of one octet; one of the nineteen problems
abbrev pub Allowed : Written → Type 0
Allowed (Invoke id linked op par) = (id < 256) × (linked ≤ no_id) × (is_code op ≡ true) × (is_parameter par ≡ true)
Allowed (Result tag id op par) = ResultTag tag × (id < 256) × (is_result op par ≡ true)
Allowed (Error id err par) = (id < 256) × (is_code err ≡ true) × (is_parameter par ≡ true)
Allowed (Reject id p) = (id ≤ no_id) × (sender_of_problem p ≡ by_nobody → ⊥)

-- a sound component that ends at x, with its parameter, of n octets, at its end
abbrev pub placed : ℕ → ℕ → ℕ → ℕ → ℕ → ℕ → Component
placed t id linked p x n = sound t id linked p x (if_eq n 0 0 (x - n)) (if_eq n 0 0 x)

-- as what it is to be read, where it ends at x
unfoldable pub read_as : Written → ℕ → Component
read_as (Invoke id linked op par) x = placed invoke_tag id linked no_problem x (length par)
read_as (Result tag id op par) x = placed tag id no_id no_problem x (length par)
read_as (Error id err par) x = placed error_tag id no_id no_problem x (length par)
read_as (Reject id p) x = placed reject_tag id no_id p x 0

-- its parameter, none in a reject
abbrev pub parameter_of : Written → List ℕ
parameter_of (Invoke id linked op par) = par
parameter_of (Result tag id op par) = par
parameter_of (Error id err par) = par
parameter_of (Reject id p) = []

-- COMPONENTS one after another
abbrev pub AllAllowed : List Written → Type 0
AllAllowed [] = Unit
AllAllowed (w ∷ ws) = Allowed w × AllAllowed ws

unfoldable pub items_from : ℕ → List Written → List Item
items_from at [] = []
items_from at (w ∷ ws) = record { start = at; part = read_as w (at + length (octets_of w)) } ∷ items_from (at + length (octets_of w)) ws

-- A MESSAGE: where its contents begin, a run of its octets, and n octets at its end, x: from and to (0 and 0 for none)
abbrev pub starts : List ℕ → ℕ
starts c = 1 + length (length_octets (length c))

abbrev pub run : ℕ → ℕ → Run
run p n = record { start = p; length = n }

abbrev pub from_of : ℕ → ℕ → ℕ
from_of x n = if_eq n 0 0 (x - n)

abbrev pub to_of : ℕ → ℕ → ℕ
to_of x n = if_eq n 0 0 x

-- octets that are put at p, 0 and 0 where there is none
abbrev pub run_at : ℕ → List ℕ → Run
run_at p l = run (if_eq (length l) 0 0 p) (length l)

-- a sound message s with its type and IDs, its dialogue portion, and components cs at its end; an Abort, with a portion or a cause
abbrev pub with_components : List ℕ → Run → List ℕ → Derived → Message
with_components s portion cs d = sound_of d portion (from_of (length s) (length cs)) (to_of (length s) (length cs)) no_problem

abbrev pub read_begin : List ℕ → List ℕ → List ℕ → Message
read_begin own portion cs =
    let b = starts (tlv 0x48 own ++ (portion ++ components_octets cs)) in
    with_components (begin_octets own portion cs) (run_at (b + 2 + length own) portion) cs
    (record { tag = begin_tag; origin = run (b + 2) (length own); destination = no_run })

abbrev pub read_continue : List ℕ → List ℕ → List ℕ → List ℕ → Message
read_continue own peer portion cs =
    let b = starts (tlv 0x48 own ++ (tlv 0x49 peer ++ (portion ++ components_octets cs))) in
    with_components (continue_octets own peer portion cs) (run_at (b + 2 + length own + 2 + length peer) portion) cs
    (record { tag = continue_tag; origin = run (b + 2) (length own); destination = run (b + 2 + length own + 2) (length peer) })

abbrev pub read_end : List ℕ → List ℕ → List ℕ → Message
read_end peer portion cs =
    let b = starts (tlv 0x49 peer ++ (portion ++ components_octets cs)) in
    with_components (end_octets peer portion cs) (run_at (b + 2 + length peer) portion) cs
    (record { tag = end_tag; origin = no_run; destination = run (b + 2) (length peer) })

abbrev pub read_uni : List ℕ → List ℕ → Message
read_uni portion cs =
    with_components (uni_octets portion cs) (run_at (starts (portion ++ components_octets cs)) portion) cs
    (record { tag = uni_tag; origin = no_run; destination = no_run })

abbrev pub read_user_abort : List ℕ → List ℕ → Message
read_user_abort peer user =
    let b = starts (tlv 0x49 peer ++ user) in
    sound_of (record { tag = abort_tag; origin = no_run; destination = run (b + 2) (length peer) }) (run_at (b + 2 + length peer) user) 0 0 no_problem

abbrev pub read_cause_abort : List ℕ → ℕ → Message
read_cause_abort peer cause =
    sound_of (record { tag = abort_tag; origin = no_run; destination = run (starts (tlv 0x49 peer ++ (0x4A ∷ 1 ∷ cause ∷ [])) + 2) (length peer) }) no_run 0 0 cause

-- s IS READ BACK as m, whose IDs, dialogue portion and components are the octets put in
pub record Back (s : List ℕ) (m : Message) (own peer user cs : List ℕ) : Type 0 where
  pub is : message_of s ≡ m
  pub origin : octets_at s m.origin ≡ own
  pub destination : octets_at s m.destination ≡ peer
  pub portion : octets_at s m.portion ≡ user
  pub components : Has s m.from cs
  pub ends : m.from + length cs ≡ m.to
