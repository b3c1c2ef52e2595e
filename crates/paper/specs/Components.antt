-- COMPONENTS (01, "Coding" and, for the faults, the end of "Invocation states"). Assumes nothing.
use Rattle.std.specs.Prelude.{Bool, true, false, List, [], ◌∷◌, ℕ, zero, suc, ◌+◌, ◌-◌, length, get_or, eqb, ltb}
use Rattle.laws.specs.If.{if_lt, if_eq, if_b}
use Rattle.paper.specs.declared.Length.{Length}
use Rattle.paper.specs.declared.Length.TheVariants.{Wrong, Given, Until}
use Rattle.paper.specs.Elements.{Reading}
use Rattle.std.specs.Prelude.{Ok, Err}
use Rattle.paper.specs.declared.Frame.{Frame}
use Rattle.paper.specs.declared.Component.{Component}
use Rattle.paper.specs.Sizes.{depths, depths_from}
use Rattle.paper.specs.Elements.{length_at, element, frame_at}
use Rattle.paper.specs.Problems.{sender_of, by_nobody, problem, no_problem}

-- "A1 invoke, A2 result last, A7 result not last, A3 error, A4 reject"
abbrev pub invoke_tag : ℕ
invoke_tag = 0xA1

abbrev pub last_tag : ℕ
last_tag = 0xA2

abbrev pub error_tag : ℕ
error_tag = 0xA3

abbrev pub reject_tag : ℕ
reject_tag = 0xA4

abbrev pub not_last_tag : ℕ
not_last_tag = 0xA7

unfoldable pub known_tag : ℕ → Bool
known_tag t = if_eq t invoke_tag true (if_eq t last_tag true (if_eq t error_tag true (if_eq t reject_tag true (eqb t not_last_tag))))

-- "256 none", of an ID
abbrev pub no_id : ℕ
no_id = 256

-- A COMPONENT'S FAULT, the code of a general problem (004: unrecognized, mistyped, badly structured component): "unknown tag 0; ..
-- wrong, missing or extra piece 1"; "bad nesting 2", as no frame is
abbrev pub unrecognized : ℕ
unrecognized = 0

abbrev pub mistyped : ℕ
mistyped = 1

abbrev pub badly_structured : ℕ
badly_structured = 2

-- no fault
abbrev pub no_fault : ℕ
no_fault = 3

-- a component that is sound, with its parameter from q to r
abbrev pub sound : ℕ → ℕ → ℕ → ℕ → ℕ → ℕ → ℕ → Component
sound t id l p x q r = record { tag = t; id = id; linked = l; problem = p; fault = no_fault; stop = x; par = q; parstop = r }

-- one with a syntax fault; its problem is a reject's, as far as it was read
abbrev pub faulty : ℕ → ℕ → ℕ → ℕ → ℕ → Component
faulty t id p code x = record { tag = t; id = id; linked = no_id; problem = p; fault = code; stop = x; par = 0; parstop = 0 }

-- the octet of an element `tag 01 x` at p inside e, else 256: "Invoke ID 02 01, linked 80 01, both -128 to 127"
unfoldable pub single : List ℕ → ℕ → ℕ → ℕ → ℕ
single s tag e p = if_lt e (p + 3) no_id (if_eq (get_or s p 0) tag (if_eq (get_or s (p + 1) 0) 1 (get_or s (p + 2) 0) no_id) no_id)

-- past an element of at least 1 octet inside e, by its length; else 0
unfoldable pub some_end : ℕ → Length → ℕ
some_end e Wrong = 0
some_end e (Until b) = 0
some_end e (Given b n) = if_lt n 1 0 (if_lt e (b + n) 0 (b + n))

-- "operation or error 02 with 1 to 4 octets or 06 with at least 1, not examined": where the one at p ends, else 0
unfoldable pub code_end : List ℕ → ℕ → ℕ → ℕ
code_end s e p =
    if_lt p e
    (if_eq (get_or s p 0) 2 (if_lt (p + 1) e (if_lt 4 (get_or s (p + 1) 0) 0 (some_end e (length_at s e (p + 1)))) 0)
    (if_eq (get_or s p 0) 6 (some_end e (length_at s e (p + 1)))
    0))
    0

-- "A parameter is one element": the frame of the element at p ends at e, so that nothing follows. That what stands in the frame is
-- well formed is no question here: the pieces are read only of a component that is, with all in it (framed)
abbrev pub frame_ends : List ℕ → ℕ → ℕ → ℕ → Bool
frame_ends s d e p = eqb (frame_at s d e p).stop e

-- after an operation or error that ends at q: nothing, or a parameter and nothing more
unfoldable pub last_piece : List ℕ → ℕ → ℕ → ℕ → ℕ → ℕ → ℕ → Component
last_piece s t id l x e q =
    if_eq q 0 (faulty t id no_problem mistyped x)
    (if_eq q e (sound t id l no_problem x 0 0)
    (if_b (frame_ends s (depths_from 2) e q) (sound t id l no_problem x q e) (faulty t id no_problem mistyped x)))

-- the linked ID stands after the invoke ID, at p; the operation after it
unfoldable pub invoke_pieces : List ℕ → ℕ → ℕ → ℕ → ℕ → Component
invoke_pieces s id x e p =
    if_eq (single s 0x80 e p) no_id (last_piece s invoke_tag id no_id x e (code_end s e p))
    (last_piece s invoke_tag id (single s 0x80 e p) x e (code_end s e (p + 3)))

-- inside the 30: operation and parameter, both
unfoldable pub result_both : List ℕ → ℕ → ℕ → ℕ → ℕ → ℕ → Component
result_both s t id x e q =
    if_eq q 0 (faulty t id no_problem mistyped x)
    (if_b (frame_ends s (depths_from 3) e q) (sound t id no_id no_problem x q e) (faulty t id no_problem mistyped x))

-- "result 30 holding operation and parameter"; "Invoke, result and error may lack it; a result lacks the whole 30 then"
unfoldable pub result_pieces : List ℕ → ℕ → ℕ → ℕ → ℕ → ℕ → Component
result_pieces s t id x e p =
    if_eq p e (sound t id no_id no_problem x 0 0)
    (if_eq (get_or s p 0) 0x30
    (if_b (frame_ends s (depths_from 2) e p)
    (result_both s t id x (frame_at s (depths_from 2) e p).to (code_end s (frame_at s (depths_from 2) e p).to (frame_at s (depths_from 2) e p).from))
    (faulty t id no_problem mistyped x))
    (faulty t id no_problem mistyped x))

-- "80 general, 81 invoke, 82 result, 83 error, length 1", with nothing after it; "other codes are a syntax error"
unfoldable pub problem_at : List ℕ → ℕ → ℕ → ℕ
problem_at s e p =
    if_eq (e - p) 3
    (if_lt (get_or s p 0) 0x80 no_problem
    (if_eq (get_or s (p + 1) 0) 1
    (if_eq (sender_of (get_or s p 0 - 0x80) (get_or s (p + 2) 0)) by_nobody no_problem (problem (get_or s p 0 - 0x80) (get_or s (p + 2) 0)))
    no_problem))
    no_problem

-- A FAULTY REJECT "returns one to Idle only if ID and tag 81 can be read": the tag stands after the ID, at p. Its problem is then an
-- invoke problem, whatever its code; else none
abbrev pub some_invoke_problem : ℕ
some_invoke_problem = problem 1 0

unfoldable pub tag81 : List ℕ → ℕ → ℕ → ℕ → ℕ
tag81 s id e p = if_eq id no_id no_problem (if_lt p e (if_eq (get_or s p 0) 0x81 some_invoke_problem no_problem) no_problem)

-- what a faulty reject does where both can be read, and where not
abbrev pub if_read : {A : Type 0} → ℕ → A → A → A
if_read p c f = if_eq p no_problem f c

unfoldable pub reject_pieces : List ℕ → ℕ → ℕ → ℕ → ℕ → Component
reject_pieces s id x e p =
    if_eq (problem_at s e p) no_problem (faulty reject_tag id (tag81 s id e p) mistyped x) (sound reject_tag id no_id (problem_at s e p) x 0 0)

-- a reject without an ID: 05 00 first
unfoldable pub null_pieces : List ℕ → ℕ → ℕ → ℕ → Component
null_pieces s x e b =
    if_lt e (b + 2) (faulty reject_tag no_id no_problem mistyped x)
    (if_eq (get_or s b 0) 5 (if_eq (get_or s (b + 1) 0) 0 (reject_pieces s no_id x e (b + 2)) (faulty reject_tag no_id no_problem mistyped x))
    (faulty reject_tag no_id no_problem mistyped x))

-- the pieces after an invoke ID, by the tag
unfoldable pub pieces_after : List ℕ → ℕ → ℕ → ℕ → ℕ → ℕ → Component
pieces_after s t id x e p =
    if_eq t invoke_tag (invoke_pieces s id x e p)
    (if_eq t error_tag (last_piece s error_tag id no_id x e (code_end s e p))
    (if_eq t reject_tag (reject_pieces s id x e p)
    (result_pieces s t id x e p)))

unfoldable pub pieces : List ℕ → ℕ → ℕ → ℕ → ℕ → Component
pieces s t x e b =
    if_eq (single s 2 e b) no_id (if_eq t reject_tag (null_pieces s x e b) (faulty t no_id no_problem mistyped x))
    (pieces_after s t (single s 2 e b) x e (b + 3))

-- go on with a component that is well formed
abbrev pub if_nested : Reading → Component → Component → Component
if_nested (Ok e) c f = c
if_nested (Err e) c f = f

-- the problem of one with bad nesting, whose contents stand from b to e: that of a faulty reject; no other has one
unfoldable pub read_problem : List ℕ → ℕ → ℕ → ℕ → ℕ
read_problem s t e b = if_eq t reject_tag (tag81 s (single s 2 e b) e (b + 3)) no_problem

-- one that has a frame: "unknown tag 0; bad nesting 2; wrong, missing or extra piece 1. The ID is used if the first piece is 02 01"
unfoldable pub framed : List ℕ → ℕ → ℕ → ℕ → Frame → Component
framed s lim at t f =
    if_b (known_tag t)
    (if_nested (element s depths lim at) (pieces s t f.stop f.to f.from)
    (faulty t (single s 2 f.to f.from) (read_problem s t f.to f.from) badly_structured f.stop))
    (faulty t (single s 2 f.to f.from) no_problem unrecognized f.stop)

-- the first octet of a component, 0 where there is none
unfoldable pub tag_at : List ℕ → ℕ → ℕ → ℕ
tag_at s lim at = if_lt at lim (get_or s at 0) 0

-- THE COMPONENT at a position of a 6C that ends at lim: "no frame .. or an empty 6C, general 2 with 05 00", else by its pieces
unfoldable pub component_at : List ℕ → ℕ → ℕ → Component
component_at s lim at =
    if_eq (frame_at s depths lim at).stop 0 (faulty (tag_at s lim at) no_id no_problem badly_structured 0)
    (framed s lim at (tag_at s lim at) (frame_at s depths lim at))

-- a component and where it starts
pub record Item : Type 0 where
  pub start : ℕ
  pub part : Component

abbrev pub item : List ℕ → ℕ → ℕ → Item
item s lim at = record { start = at; part = component_at s lim at }

-- "Later components of the message are discarded": a fault ends the reading
unfoldable pub next_start : ℕ → Component → ℕ
next_start lim c = if_eq c.fault no_fault c.stop lim

abbrev pub go_on : {A : Type 0} → Bool → (Unit {0} → List A) → List A
go_on true k = k tt
go_on false k = []

-- the component at a position and those after it to lim, up to a syntax fault; n is at least what is left
unfoldable pub items : List ℕ → ℕ → ℕ → ℕ → List Item
items s lim zero at = []
items s lim (suc n) at =
    item s lim at ∷ go_on (ltb (next_start lim (component_at s lim at)) lim) (λ _. items s lim n (next_start lim (component_at s lim at)))

-- THE COMPONENTS of a 6C whose contents stand from `from` to lim; of an empty one, a fault
unfoldable pub components : List ℕ → ℕ → ℕ → List Item
components s lim from = items s lim (lim - from + 1) from

-- those in octets that wait to be sent: no 6C is around them yet, and of no octets there are none
unfoldable pub waiting_items : List ℕ → List Item
waiting_items w = if_eq (length w) 0 [] (components w (length w) 0)
