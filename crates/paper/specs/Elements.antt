-- ELEMENTS (01, "Coding"; 004). Positions into one list of octets; lim is where the octets around end. Assumes nothing.
use Rattle.std.specs.Prelude.{List, Bool, true, false, ℕ, zero, suc, ◌+◌, ◌*◌, ◌-◌, ◌/◌, ◌%◌, length, get_or, eqb, Result, Ok, Err}
use Rattle.laws.specs.If.{if_lt, if_eq}
use Rattle.paper.specs.declared.Length.{Length}
use Rattle.paper.specs.declared.Length.TheVariants.{Wrong, Given, Until}
use Rattle.paper.specs.declared.Head.{Head}
use Rattle.paper.specs.declared.Head.TheVariants.{Bad, Whole, Holds, Opens}
use Rattle.paper.specs.declared.Frame.{Frame}

-- what the reading of an element gives: where it ends, or the octet at which its first fault lies
abbrev pub Reading : Type 0
Reading = Result ℕ ℕ

-- past the last of at most n further octets of a long tag, else 0
unfoldable pub tag_more : List ℕ → ℕ → ℕ → ℕ → ℕ
tag_more s lim zero at = 0
tag_more s lim (suc n) at = if_lt at lim (if_lt (get_or s at 0) 128 (at + 1) (tag_more s lim n (at + 1))) 0

-- "Any other length is malformed, as is tag 00. Long tags have 1 to 4 further octets, no leading 80, number at least 31."
-- Where the tag at a position ends, 0 where it is malformed; a long one has 31 in its low five bits.
unfoldable pub tag_end : List ℕ → ℕ → ℕ → ℕ
tag_end s lim at =
    if_lt at lim
    (if_eq (get_or s at 0) 0 0
    (if_eq (get_or s at 0 % 32) 31
    (if_lt (at + 1) lim
    (if_lt (get_or s (at + 1) 0) 31 0
    (if_eq (get_or s (at + 1) 0) 128 0
    (tag_more s lim 4 (at + 1))))
    0)
    (at + 1)))
    0

-- "Length below 128 uses one octet; 81 only for 128 to 255; 82 only for 256 up; 80 (indefinite, constructors only) ends at 00 00."
unfoldable pub length_at : List ℕ → ℕ → ℕ → Length
length_at s lim at =
    if_lt at lim
    (if_lt (get_or s at 0) 128 (Given (at + 1) (get_or s at 0))
    (if_eq (get_or s at 0) 128 (Until (at + 1))
    (if_eq (get_or s at 0) 129
    (if_lt (at + 1) lim
    (if_lt (get_or s (at + 1) 0) 128 Wrong
    (Given (at + 2) (get_or s (at + 1) 0)))
    Wrong)
    (if_eq (get_or s at 0) 130
    (if_lt (at + 2) lim
    (if_lt (get_or s (at + 1) 0 * 256 + get_or s (at + 2) 0) 256 Wrong
    (Given (at + 3) (get_or s (at + 1) 0 * 256 + get_or s (at + 2) 0)))
    Wrong)
    Wrong))))
    Wrong

-- 1 in a constructor's tag
abbrev pub constructor : ℕ → ℕ
constructor tag = tag / 32 % 2

-- the head, of the constructor bit and the length
unfoldable pub head_by : ℕ → ℕ → Length → Head
head_by lim k Wrong = Bad
head_by lim k (Until b) = if_eq k 1 (Opens b) Bad
head_by lim k (Given b n) = if_lt (lim - b) n Bad (if_eq k 1 (Holds b (b + n)) (Whole (b + n)))

unfoldable pub head_at : List ℕ → ℕ → ℕ → Head
head_at s lim at = if_eq (tag_end s lim at) 0 Bad (head_by lim (constructor (get_or s at 0)) (length_at s lim (tag_end s lim at)))

-- whether contents end at a position: at their limit, or, where the length is indefinite, at 00 00
unfoldable pub ended : List ℕ → Bool → ℕ → ℕ → Bool
ended s true lim at = if_lt (at + 1) lim (if_eq (get_or s at 0) 0 (eqb (get_or s (at + 1) 0) 0) false) false
ended s false lim at = eqb at lim

abbrev pub end_at : Bool → ℕ → ℕ
end_at true at = at + 2
end_at false at = at

-- go on from where an element ends; its fault is the fault of what holds it
abbrev pub onwards : Reading → (ℕ → Reading) → Reading
onwards (Ok e) k = k e
onwards (Err f) k = Err f

abbrev pub or_next : Bool → ℕ → (Unit {0} → Reading) → Reading
or_next true e k = Ok e
or_next false e k = k tt

-- "contents are if each of their elements is": the elements one after another, as el reads each, to their end.
-- Where no end comes, the fault is that of the element around, which begins at `outer`. n is above what is left.
unfoldable pub contents : (ℕ → ℕ → Reading) → List ℕ → Bool → ℕ → ℕ → ℕ → ℕ → Reading
contents el s o lim outer zero at = Err outer
contents el s o lim outer (suc n) at =
    or_next (ended s o lim at) (end_at o at)
    (λ _. if_eq at lim (Err outer) (onwards (el lim at) (λ e. contents el s o lim outer n e)))

abbrev pub by_head : Head → ℕ → ℕ → (Bool → ℕ → ℕ → Reading) → Reading
by_head Bad lim at k = Err at
by_head (Whole e) lim at k = Ok e
by_head (Holds b e) lim at k = k false e b
by_head (Opens b) lim at k = k true lim b

-- "An element is well formed if its contents are": one of at most d depths, at a position
unfoldable pub element : List ℕ → ℕ → ℕ → ℕ → Reading
element s zero lim at = Err at
element s (suc d) lim at = by_head (head_at s lim at) lim at (λ o e b. contents (element s d) s o e at (suc e) b)

-- octets that are ONE ELEMENT, with d depths to go, and nothing more
abbrev pub ends_at : ℕ → Reading → Bool
ends_at n (Ok e) = eqb e n
ends_at n (Err f) = false

unfoldable pub is_element : ℕ → List ℕ → Bool
is_element d l = ends_at (length l) (element l d (length l) 0)

-- THE FRAME of an element: a definite one's is given by its tag and length; "an indefinite 6C or component has its end
-- found when well-formed elements lead up to 00 00". A primitive holds no pieces. stop 0: "no frame (tag or length wrong
-- or past the 6C, end not found)".
abbrev pub no_frame : Frame
no_frame = record { from = 0; to = 0; stop = 0 }

abbrev pub frame_to : ℕ → Reading → Frame
frame_to b (Ok x) = record { from = b; to = x - 2; stop = x }
frame_to b (Err f) = no_frame

abbrev pub frame_by : Head → (Unit {0} → Reading) → Frame
frame_by Bad r = no_frame
frame_by (Whole e) r = record { from = e; to = e; stop = e }
frame_by (Holds b e) r = record { from = b; to = e; stop = e }
frame_by (Opens b) r = frame_to b (r tt)

unfoldable pub frame_at : List ℕ → ℕ → ℕ → ℕ → Frame
frame_at s d lim at = frame_by (head_at s lim at) (λ _. element s d lim at)
