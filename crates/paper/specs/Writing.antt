-- COMPONENTS AND MESSAGES WRITTEN (01, "Coding"): "We write definite, shortest lengths and copy given octets." Assumes nothing.
use Rattle.std.specs.Prelude.{List, [], ◌∷◌, ◌++◌, ℕ, ◌+◌, ◌/◌, ◌%◌, length}
use Rattle.laws.specs.If.{if_lt, if_eq}
use Rattle.paper.specs.Problems.{kind_of, code_of}
use Rattle.paper.specs.Components.{invoke_tag, error_tag, reject_tag, no_id}
use Rattle.paper.specs.Messages.{uni_tag, begin_tag, end_tag, continue_tag, abort_tag}

unfoldable pub length_octets : ℕ → List ℕ
length_octets n = if_lt n 128 (n ∷ []) (if_lt n 256 (0x81 ∷ n ∷ []) (0x82 ∷ n / 256 ∷ n % 256 ∷ []))

-- an element: tag, length, contents
unfoldable pub tlv : ℕ → List ℕ → List ℕ
tlv tag c = tag ∷ (length_octets (length c) ++ c)

-- "Invoke ID 02 01", then what follows it
abbrev pub id_then : ℕ → List ℕ → List ℕ
id_then id l = 2 ∷ 1 ∷ id ∷ l

unfoldable pub linked_then : ℕ → List ℕ → List ℕ
linked_then linked l = if_eq linked no_id l (0x80 ∷ 1 ∷ linked ∷ l)

-- the components; a parameter that is absent has no octets
unfoldable pub invoke_octets : ℕ → ℕ → List ℕ → List ℕ → List ℕ
invoke_octets id linked op par = tlv invoke_tag (id_then id (linked_then linked (op ++ par)))

-- last or not last by the tag; "a result lacks the whole 30" without operation and parameter
unfoldable pub result_octets : ℕ → ℕ → List ℕ → List ℕ → List ℕ
result_octets tag id op par = tlv tag (id_then id (if_eq (length op) 0 [] (tlv 0x30 (op ++ par))))

unfoldable pub error_octets : ℕ → List ℕ → List ℕ → List ℕ
error_octets id err par = tlv error_tag (id_then id (err ++ par))

-- "Reject: 02 01 or 05 00, then 80 general, 81 invoke, 82 result, 83 error, length 1"
unfoldable pub problem_octets : ℕ → List ℕ
problem_octets p = (0x80 + kind_of p) ∷ 1 ∷ code_of p ∷ []

unfoldable pub reject_octets : ℕ → ℕ → List ℕ
reject_octets id p = tlv reject_tag (if_eq id no_id (5 ∷ 0 ∷ problem_octets p) (id_then id (problem_octets p)))

-- A COMPONENT BY ITS PARTS: invoke ID, linked ID (256 none), operation, parameter; tag, invoke ID, operation, parameter; invoke
-- ID, error, parameter; invoke ID (256 none), problem as in a row
pub data Written : Type 0 where
  Invoke : ℕ → ℕ → List ℕ → List ℕ → Written
  Result : ℕ → ℕ → List ℕ → List ℕ → Written
  Error : ℕ → List ℕ → List ℕ → Written
  Reject : ℕ → ℕ → Written

unfoldable pub octets_of : Written → List ℕ
octets_of (Invoke id linked op par) = invoke_octets id linked op par
octets_of (Result tag id op par) = result_octets tag id op par
octets_of (Error id err par) = error_octets id err par
octets_of (Reject id p) = reject_octets id p

-- one after another
unfoldable pub joined : List Written → List ℕ
joined [] = []
joined (w ∷ ws) = octets_of w ++ joined ws

-- "then 6C components, optional": absent where there is none
unfoldable pub components_octets : List ℕ → List ℕ
components_octets cs = if_eq (length cs) 0 [] (tlv 0x6C cs)

-- the messages; IDs are given as their octets, a dialogue portion too: "then 6B dialogue portion, optional"
unfoldable pub begin_octets : List ℕ → List ℕ → List ℕ → List ℕ
begin_octets own portion cs = tlv begin_tag (tlv 0x48 own ++ (portion ++ components_octets cs))

unfoldable pub continue_octets : List ℕ → List ℕ → List ℕ → List ℕ → List ℕ
continue_octets own peer portion cs = tlv continue_tag (tlv 0x48 own ++ (tlv 0x49 peer ++ (portion ++ components_octets cs)))

unfoldable pub end_octets : List ℕ → List ℕ → List ℕ → List ℕ
end_octets peer portion cs = tlv end_tag (tlv 0x49 peer ++ (portion ++ components_octets cs))

unfoldable pub uni_octets : List ℕ → List ℕ → List ℕ
uni_octets portion cs = tlv uni_tag (portion ++ components_octets cs)

-- a user's Abort, with its dialogue portion or none; the transaction sub-layer's, with its cause
unfoldable pub user_abort_octets : List ℕ → List ℕ → List ℕ
user_abort_octets peer portion = tlv abort_tag (tlv 0x49 peer ++ portion)

unfoldable pub cause_abort_octets : List ℕ → ℕ → List ℕ
cause_abort_octets peer cause = tlv abort_tag (tlv 0x49 peer ++ (0x4A ∷ 1 ∷ cause ∷ []))
