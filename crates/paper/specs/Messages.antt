-- A MESSAGE READ (01, "Coding" and "A received message"; 003, 3.3.4). Assumes nothing.
use Rattle.std.specs.Prelude.{Bool, true, false, List, ℕ, suc, ◌+◌, ◌-◌, ◌%◌, length, get_or, eqb}
use Rattle.laws.specs.If.{if_lt, if_eq, if_b}
use Rattle.paper.specs.declared.Length.{Length}
use Rattle.paper.specs.declared.Length.TheVariants.{Wrong, Given, Until}
use Rattle.paper.specs.Elements.{Reading}
use Rattle.std.specs.Prelude.{Ok, Err}
use Rattle.paper.specs.declared.Frame.{Frame}
use Rattle.paper.specs.declared.Run.{Run}
use Rattle.paper.specs.declared.Message.{Message}
use Rattle.paper.specs.Sizes.{depths}
use Rattle.paper.specs.Elements.{constructor, length_at, element, frame_at}
use Rattle.paper.specs.Problems.{no_problem}

-- "61 Unidirectional, 62 Begin, 64 End, 65 Continue, 67 Abort"
abbrev pub uni_tag : ℕ
uni_tag = 0x61

abbrev pub begin_tag : ℕ
begin_tag = 0x62

abbrev pub end_tag : ℕ
end_tag = 0x64

abbrev pub continue_tag : ℕ
continue_tag = 0x65

abbrev pub abort_tag : ℕ
abort_tag = 0x67

-- what a message is, beside the P-Abort causes 0 and 2 of one at fault
abbrev pub is_sound : ℕ
is_sound = 255

abbrev pub is_dropped : ℕ
is_dropped = 254

abbrev pub no_run : Run
no_run = record { start = 0; length = 0 }

-- an ID at a position, "a length 1 to 4 and that many octets inside the message"
unfoldable pub id_at : List ℕ → ℕ → ℕ → Run
id_at s tag at =
    if_lt (length s) (at + 3) no_run
    (if_eq (get_or s at 0) tag
    (if_lt (get_or s (at + 1) 0) 1 no_run
    (if_lt 4 (get_or s (at + 1) 0) no_run
    (if_lt (length s) (at + 2 + get_or s (at + 1) 0) no_run (record { start = at + 2; length = get_or s (at + 1) 0 }))))
    no_run)

-- "The originating ID is derivable when the contents begin with 48 ..; never in 61, 64, 67."
unfoldable pub origin_of : List ℕ → ℕ → ℕ → Run
origin_of s t b = if_eq t uni_tag no_run (if_eq t end_tag no_run (if_eq t abort_tag no_run (id_at s 0x48 b)))

-- where the octets after a run begin
abbrev pub past : Run → ℕ → ℕ
past r b = if_eq r.length 0 b (r.start + r.length)

-- "The destination ID likewise, with 49 after it (first in 64 and 67; never in 61, 62)."
unfoldable pub destination_of : List ℕ → ℕ → ℕ → Run → Run
destination_of s t b o =
    if_eq t uni_tag no_run
    (if_eq t begin_tag no_run
    (if_eq t end_tag (id_at s 0x49 b)
    (if_eq t abort_tag (id_at s 0x49 b)
    (if_eq o.length 0 no_run (id_at s 0x49 (past o b))))))

-- the message so far: its type, and the IDs that are derivable
pub record Derived : Type 0 where
  pub tag : ℕ
  pub origin : Run
  pub destination : Run

unfoldable pub derived : List ℕ → ℕ → Derived
derived s b = record {
  tag = get_or s 0 0;
  origin = origin_of s (get_or s 0 0) b;
  destination = destination_of s (get_or s 0 0) b (origin_of s (get_or s 0 0) b);
}

-- a message at fault, with its P-Abort cause (or dropped for its form)
abbrev pub fault_of : Derived → ℕ → Message
fault_of d c = record { tag = d.tag; fault = c; origin = d.origin; destination = d.destination; portion = no_run; from = 0; to = 0; cause = no_problem }

abbrev pub sound_of : Derived → Run → ℕ → ℕ → ℕ → Message
sound_of d p from to cause =
    record { tag = d.tag; fault = is_sound; origin = d.origin; destination = d.destination; portion = p; from = from; to = to; cause = cause }

-- the end of the message: a definite outer element's contents end with it; an indefinite one's with 00 00 and then no octet
unfoldable pub closes : List ℕ → Bool → ℕ → Bool
closes s false p = eqb p (length s)
closes s true p = if_eq (p + 2) (length s) (if_eq (get_or s p 0) 0 (eqb (get_or s (p + 1) 0) 0) false) false

abbrev pub closing : List ℕ → Bool → ℕ → Derived → Message → Message
closing s o p d m = if_b (closes s o p) m (fault_of d 2)

-- the octet at a position inside the message, 0 past its end (no tag is 0)
unfoldable pub octet_at : List ℕ → ℕ → ℕ
octet_at s p = if_lt p (length s) (get_or s p 0) 0

-- "then 6C components": the frame, that "end of 6C not found" faults; in Unidirectional needed
unfoldable pub components_by : List ℕ → Bool → Derived → Run → Frame → Message
components_by s o d portion f =
    if_eq f.stop 0 (fault_of d 2) (closing s o f.stop d (sound_of d portion f.from f.to no_problem))

unfoldable pub components_part : List ℕ → Bool → Derived → Run → ℕ → Message
components_part s o d portion p =
    if_eq (octet_at s p) 0x6C (components_by s o d portion (frame_at s (suc depths) (length s) p))
    (if_eq d.tag uni_tag (fault_of d 2) (closing s o p d (sound_of d portion 0 0 no_problem)))

-- "Abort has, after 49, nothing, 4A 01 with 0 to 4, or 6B."
unfoldable pub abort_part : List ℕ → Bool → Derived → ℕ → Message
abort_part s o d p =
    if_eq (octet_at s p) 0x4A
    (if_eq (octet_at s (p + 1)) 1
    (if_lt (p + 2) (length s)
    (if_lt (get_or s (p + 2) 0) 5 (closing s o (p + 3) d (sound_of d no_run 0 0 (get_or s (p + 2) 0))) (fault_of d 2))
    (fault_of d 2))
    (fault_of d 2))
    (closing s o p d (sound_of d no_run 0 0 no_problem))

-- after a dialogue portion that ends at x: nothing more in an Abort
abbrev pub after_portion : List ℕ → Bool → Derived → ℕ → Reading → Message
after_portion s o d p (Err f) = fault_of d 2
after_portion s o d p (Ok x) =
    if_eq d.tag abort_tag (closing s o x d (sound_of d (record { start = p; length = x - p }) 0 0 no_problem))
    (components_part s o d (record { start = p; length = x - p }) x)

-- "then 6B dialogue portion, optional": one well-formed element
unfoldable pub portion_part : List ℕ → Bool → Derived → ℕ → Message
portion_part s o d p =
    if_eq (octet_at s p) 0x6B (after_portion s o d p (element s depths (length s) p))
    (if_eq d.tag abort_tag (abort_part s o d p) (components_part s o d no_run p))

-- "In order: 48 originating ID (Begin, Continue), 49 destination ID (End, Continue, Abort), each 1 to 4 octets"
unfoldable pub in_order : List ℕ → Bool → ℕ → Derived → Message
in_order s o b d =
    if_eq d.tag uni_tag (portion_part s o d b)
    (if_eq d.tag begin_tag (if_eq d.origin.length 0 (fault_of d 2) (portion_part s o d (past d.origin b)))
    (if_eq d.destination.length 0 (fault_of d 2) (portion_part s o d (past d.destination b))))

unfoldable pub known_type : ℕ → Bool
known_type t = if_eq t uni_tag true (if_eq t begin_tag true (if_eq t end_tag true (if_eq t continue_tag true (eqb t abort_tag))))

-- "unknown type, 0"
abbrev pub typed : Derived → Message → Message
typed d m = if_b (known_type d.tag) m (fault_of d 0)

-- the contents begin at b. "Octets after the outer element are a frame fault", as is an element that goes past the message
unfoldable pub by_length : List ℕ → Length → Message
by_length s Wrong = fault_of (derived s 0) is_dropped
by_length s (Until b) =
    if_eq (constructor (get_or s 0 0)) 1 (typed (derived s b) (in_order s true b (derived s b))) (fault_of (derived s 0) is_dropped)
by_length s (Given b n) =
    typed (derived s b) (if_eq (b + n) (length s) (in_order s false b (derived s b)) (fault_of (derived s b) 2))

-- THE MESSAGE: "A long outer tag, or an outer length missing or in none of the four forms: dropped (ruling)."
unfoldable pub message_of : List ℕ → Message
message_of s = if_eq (get_or s 0 0 % 32) 31 (fault_of (derived s 0) is_dropped) (by_length s (length_at s (length s) 1))
