-- DIALOGUE PORTIONS (02 a; 004, 4.2.3): the four PDUs as one description, from which the octets written and the reading are said.
-- Assumes nothing.
use Rattle.std.specs.Prelude.{Bool, true, false, List, [], ◌∷◌, ◌++◌, ℕ, ◌+◌, ◌-◌, ◌/◌, ◌%◌, length, get_or, take, drop}
use Rattle.laws.specs.If.{if_lt, if_eq, if_b}
use Rattle.paper.specs.declared.Frame.{Frame}
use Rattle.paper.specs.declared.Run.{Run}
use Rattle.paper.specs.declared.Pdu.{Pdu}
use Rattle.paper.specs.declared.Portion.{Portion}
use Rattle.paper.specs.declared.Portion.TheVariants.{Absent, Opaque, Aarq, Aare, Abrt, Audt}
use Rattle.paper.specs.declared.Row.{Row}
use Rattle.paper.specs.Sizes.{depths, depths_from}
use Rattle.paper.specs.Elements.{is_element, frame_at, no_frame}
use Rattle.paper.specs.Problems.{no_problem}
use Rattle.paper.specs.Components.{no_id, single, code_end, tag_at}
use Rattle.paper.specs.Messages.{no_run}
use Rattle.paper.specs.Writing.{tlv}

-- "object identifiers 00 11 86 05 01 01 01 (structured) and 00 11 86 05 01 02 01 (unstructured)"
abbrev pub structured : List ℕ
structured = 0 ∷ 0x11 ∷ 0x86 ∷ 5 ∷ 1 ∷ 1 ∷ 1 ∷ []

abbrev pub unstructured : List ℕ
unstructured = 0 ∷ 0x11 ∷ 0x86 ∷ 5 ∷ 1 ∷ 2 ∷ 1 ∷ []

-- "65,535 none", of a result, a diagnostic or a source
abbrev pub no_value : ℕ
no_value = no_problem

-- what a PDU says: the octets of its name (one 06 element) and of its user information (one BE element), none where it has none;
-- result; diagnostic, 256 + value by the user, 512 + value by the provider; abort source
pub record Parts : Type 0 where
  pub name : List ℕ
  pub information : List ℕ
  pub result : ℕ
  pub diagnostic : ℕ
  pub source : ℕ

-- THE PIECES that stand in a PDU
pub data Piece : Type 0 where
  Version Name Result Diagnostic Source Information : Piece

-- THE FORM of a PDU: its kind as a number, its object identifier, its tag, its pieces in order; what we write, of a name and
-- information given; what it is read as
pub record Form : Type 0 where
  pub kind : ℕ
  pub identifier : List ℕ
  pub tag : ℕ
  pub pieces : List Piece
  pub puts : List ℕ → List ℕ → Parts
  pub made : Pdu → Portion

-- "AARE: accepted, user, null"; "ABRT: user"
abbrev pub plain : List ℕ → List ℕ → Parts
plain name info = record { name = name; information = info; result = no_value; diagnostic = no_value; source = no_value }

abbrev pub accepts : List ℕ → List ℕ → Parts
accepts name info = record { name = name; information = info; result = 0; diagnostic = 256; source = no_value }

abbrev pub aborts : List ℕ → List ℕ → Parts
aborts name info = record { name = name; information = info; result = no_value; diagnostic = no_value; source = 0 }

-- "Add dialogue request (AARQ), response (AARE) and abort (ABRT) .. and the unidirectional PDU for Unidirectional."
abbrev pub aarq : Form
aarq = record { kind = 2; identifier = structured; tag = 0x60; pieces = Version ∷ Name ∷ Information ∷ []; puts = plain; made = λ p. Aarq p.name p.information }

abbrev pub aare : Form
aare = record {
  kind = 3;
  identifier = structured;
  tag = 0x61;
  pieces = Version ∷ Name ∷ Result ∷ Diagnostic ∷ Information ∷ [];
  puts = accepts;
  made = λ p. Aare p.name p.information p.result p.diagnostic;
}

abbrev pub abrt : Form
abrt = record { kind = 4; identifier = structured; tag = 0x64; pieces = Source ∷ Information ∷ []; puts = aborts; made = λ p. Abrt p.source p.information }

abbrev pub audt : Form
audt = record { kind = 5; identifier = unstructured; tag = 0x60; pieces = Version ∷ Name ∷ Information ∷ []; puts = plain; made = λ p. Audt p.name p.information }

abbrev pub forms : List Form
forms = aarq ∷ aare ∷ abrt ∷ audt ∷ []

-- WRITTEN. "We leave out protocol versions."; a name that isn't given has no A1
unfoldable pub piece_octets : Piece → Parts → List ℕ
piece_octets Piece.Version p = []
piece_octets Piece.Name p = if_eq (length p.name) 0 [] (tlv 0xA1 p.name)
piece_octets Piece.Result p = tlv 0xA2 (2 ∷ 1 ∷ p.result ∷ [])
piece_octets Piece.Diagnostic p = tlv 0xA3 (tlv (0xA0 + p.diagnostic / 256) (2 ∷ 1 ∷ p.diagnostic % 256 ∷ []))
piece_octets Piece.Source p = 0x80 ∷ 1 ∷ p.source ∷ []
piece_octets Piece.Information p = p.information

unfoldable pub pieces_octets : List Piece → Parts → List ℕ
pieces_octets [] p = []
pieces_octets (k ∷ ks) p = piece_octets k p ++ pieces_octets ks p

-- the 28 holds the object identifier and the A0, the A0 the PDU
unfoldable pub portion_octets : Form → Parts → List ℕ
portion_octets f p = tlv 0x6B (tlv 0x28 (tlv 6 f.identifier ++ tlv 0xA0 (tlv f.tag (pieces_octets f.pieces p))))

-- what a name and information that are given become: no portion where neither is
unfoldable pub portion_by : Form → List ℕ → List ℕ → List ℕ
portion_by f name info = if_eq (length name + length info) 0 [] (portion_octets f (f.puts name info))

-- READ. Positions in the portion's octets l; e is where the octets around end. The element at p, if it is of that tag, with d
-- depths to go: 6B is 1, 28 is 2, A0 is 3, the PDU 4, its pieces 5
unfoldable pub tagged : List ℕ → ℕ → ℕ → ℕ → ℕ → Frame
tagged l d tag e p = if_eq (tag_at l e p) tag (frame_at l d e p) no_frame

-- and nothing after it
unfoldable pub only : List ℕ → ℕ → ℕ → ℕ → ℕ → Frame
only l d tag e p = if_eq (tagged l d tag e p).stop e (tagged l d tag e p) no_frame

-- these octets, from p on
unfoldable pub stands_at : List ℕ → ℕ → ℕ → List ℕ → Bool
stands_at l e p [] = true
stands_at l e p (v ∷ vs) = if_lt p e (if_eq (get_or l p 0) v (stands_at l e (p + 1) vs) false) false

-- `02 01` with a value of at most so much, and nothing after it; else 256
unfoldable pub value_in : List ℕ → ℕ → Frame → ℕ
value_in l most f = if_eq f.to (f.from + 3) (if_lt most (single l 2 f.to f.from) no_id (single l 2 f.to f.from)) no_id

-- what the pieces give: nothing yet; the next one's beginning, 0 where a piece is wrong; and what it held. At 0 stands the 6B, which is
-- the beginning of no piece, so a wrong one stays wrong
abbrev pub unread : ℕ → Pdu
unread at = record { at = at; name = no_run; information = no_run; result = no_value; diagnostic = no_value; source = no_value }

abbrev pub goes_to : Pdu → ℕ → Pdu
goes_to w at = record { at = at; name = w.name; information = w.information; result = w.result; diagnostic = w.diagnostic; source = w.source }

abbrev pub with_name : Pdu → Run → ℕ → Pdu
with_name w r at = record { at = at; name = r; information = w.information; result = w.result; diagnostic = w.diagnostic; source = w.source }

abbrev pub with_information : Pdu → Run → ℕ → Pdu
with_information w r at = record { at = at; name = w.name; information = r; result = w.result; diagnostic = w.diagnostic; source = w.source }

abbrev pub with_result : Pdu → ℕ → ℕ → Pdu
with_result w v at = record { at = at; name = w.name; information = w.information; result = v; diagnostic = w.diagnostic; source = w.source }

abbrev pub with_diagnostic : Pdu → ℕ → ℕ → Pdu
with_diagnostic w v at = record { at = at; name = w.name; information = w.information; result = w.result; diagnostic = v; source = w.source }

abbrev pub with_source : Pdu → ℕ → ℕ → Pdu
with_source w v at = record { at = at; name = w.name; information = w.information; result = w.result; diagnostic = w.diagnostic; source = v }

-- the A1 holds the name, a 06 element of at least 1 octet
unfoldable pub name_in : List ℕ → Pdu → Frame → Pdu
name_in l w f =
    if_eq (tag_at l f.to f.from) 6
    (if_eq (code_end l f.to f.from) f.to (with_name w (record { start = f.from; length = f.to - f.from }) f.stop) (goes_to w 0))
    (goes_to w 0)

unfoldable pub result_in : List ℕ → Pdu → Frame → Pdu
result_in l w f = if_eq (value_in l 1 f) no_id (goes_to w 0) (with_result w (value_in l 1 f) f.stop)

-- the A3 holds A1 (user) or A2 (provider)
unfoldable pub diagnostic_in : List ℕ → Pdu → Frame → Pdu
diagnostic_in l w f =
    if_eq (value_in l 2 (only l (depths_from 6) 0xA1 f.to f.from)) no_id
    (if_eq (value_in l 2 (only l (depths_from 6) 0xA2 f.to f.from)) no_id (goes_to w 0) (with_diagnostic w (512 + value_in l 2 (only l (depths_from 6) 0xA2 f.to f.from)) f.stop))
    (with_diagnostic w (256 + value_in l 2 (only l (depths_from 6) 0xA1 f.to f.from)) f.stop)

-- a piece where the last one ended: "a protocol version before the name .. is stepped over"; user information may be absent
unfoldable pub piece : List ℕ → ℕ → Pdu → Piece → Pdu
piece l e w Piece.Version = if_eq (tag_at l e w.at) 0x80 (goes_to w (frame_at l (depths_from 5) e w.at).stop) w
piece l e w Piece.Name = name_in l w (tagged l (depths_from 5) 0xA1 e w.at)
piece l e w Piece.Result = result_in l w (tagged l (depths_from 5) 0xA2 e w.at)
piece l e w Piece.Diagnostic = diagnostic_in l w (tagged l (depths_from 5) 0xA3 e w.at)
piece l e w Piece.Source = if_lt 1 (single l 0x80 e w.at) (goes_to w 0) (with_source w (single l 0x80 e w.at) (w.at + 3))
piece l e w Piece.Information =
    if_eq (tag_at l e w.at) 0xBE
    (with_information w (record { start = w.at; length = (frame_at l (depths_from 5) e w.at).stop - w.at }) (frame_at l (depths_from 5) e w.at).stop)
    w

unfoldable pub all_pieces : List ℕ → ℕ → Pdu → List Piece → Pdu
all_pieces l e w [] = w
all_pieces l e w (k ∷ ks) = all_pieces l e (piece l e w k) ks

-- what the 6B holds: the 28 alone, in it the object identifier and the A0 and nothing else, in the A0 the PDU and nothing else
unfoldable pub external : List ℕ → Frame
external l = only l (depths_from 2) 0x28 (frame_at l depths (length l) 0).to (frame_at l depths (length l) 0).from

unfoldable pub pdu_of : Form → List ℕ → Frame → Frame
pdu_of f l x =
    if_b (stands_at l x.to x.from (tlv 6 f.identifier))
    (only l (depths_from 4) f.tag (only l (depths_from 3) 0xA0 x.to (x.from + length (tlv 6 f.identifier))).to
    (only l (depths_from 3) 0xA0 x.to (x.from + length (tlv 6 f.identifier))).from)
    no_frame

-- a PDU of a form: its pieces, and nothing after them
abbrev pub ending : Form → ℕ → Pdu → Portion
ending f e w = if_eq w.at e (f.made w) Opaque

abbrev pub in_form : Form → List ℕ → Frame → Portion
in_form f l pdu = ending f pdu.to (all_pieces l pdu.to (unread pdu.from) f.pieces)

unfoldable pub read_by : List Form → List ℕ → Portion
read_by [] l = Opaque
read_by (f ∷ fs) l = if_eq (pdu_of f l (external l)).stop 0 (read_by fs l) (in_form f l (pdu_of f l (external l)))

-- THE PORTION that octets are: "Any other portion stays opaque"; none where they are no well-formed 6B element
unfoldable pub portion_of : List ℕ → Portion
portion_of l = if_eq (get_or l 0 0) 0x6B (if_b (is_element depths l) (read_by forms l) Absent) Absent

-- by its parts
abbrev pub run_in : List ℕ → Run → List ℕ
run_in l r = take r.length (drop r.start l)

pub data Spoken : Type 0 where
  Silent Other : Spoken
  Speaks : ℕ → Parts → Spoken

abbrev pub parts_in : List ℕ → Portion → Spoken
parts_in l Absent = Spoken.Silent
parts_in l Opaque = Spoken.Other
parts_in l (Aarq n i) = Spoken.Speaks aarq.kind (plain (run_in l n) (run_in l i))
parts_in l (Aare n i r d) = Spoken.Speaks aare.kind (record { name = run_in l n; information = run_in l i; result = r; diagnostic = d; source = no_value })
parts_in l (Abrt s i) = Spoken.Speaks abrt.kind (record { name = []; information = run_in l i; result = no_value; diagnostic = no_value; source = s })
parts_in l (Audt n i) = Spoken.Speaks audt.kind (plain (run_in l n) (run_in l i))

unfoldable pub spoken_in : List ℕ → Spoken
spoken_in l = parts_in l (portion_of l)

-- what a name and information that are given say
unfoldable pub spoken_by : Form → List ℕ → List ℕ → Spoken
spoken_by f name info = if_eq (length name + length info) 0 Spoken.Silent (Spoken.Speaks f.kind (f.puts name info))

-- AS NUMBERS: kind; start and length of the name and of the user information, 0 0 none; result, diagnostic, source, 65,535 none
abbrev pub eight : ℕ → Run → Run → ℕ → ℕ → ℕ → Row
eight kind n i result diagnostic source = record {
  kind = kind;
  dialogue = n.start;
  invoke = n.length;
  linked = i.start;
  problem = i.length;
  start = result;
  length = diagnostic;
  follow = source;
}

abbrev pub portion_row : Portion → Row
portion_row Absent = eight 0 no_run no_run no_value no_value no_value
portion_row Opaque = eight 1 no_run no_run no_value no_value no_value
portion_row (Aarq n i) = eight aarq.kind n i no_value no_value no_value
portion_row (Aare n i r d) = eight aare.kind n i r d no_value
portion_row (Abrt s i) = eight abrt.kind no_run i no_value no_value s
portion_row (Audt n i) = eight audt.kind n i no_value no_value no_value

-- in a message, at a run as a row gives it: its numbers have 32 bits, so a run that reaches further is none
abbrev pub run_from : ℕ → Run → Run
run_from k r = if_eq r.length 0 no_run (record { start = k + r.start; length = r.length })

abbrev pub from_start : ℕ → Portion → Portion
from_start k Absent = Absent
from_start k Opaque = Opaque
from_start k (Aarq n i) = Aarq (run_from k n) (run_from k i)
from_start k (Aare n i r d) = Aare (run_from k n) (run_from k i) r d
from_start k (Abrt s i) = Abrt s (run_from k i)
from_start k (Audt n i) = Audt (run_from k n) (run_from k i)

unfoldable pub portion_at : List ℕ → ℕ → ℕ → Portion
portion_at s start len =
    if_lt (length s) (start + len) Absent (if_lt 0xFFFFFFFF (start + len) Absent (from_start start (portion_of (take len (drop start s)))))
