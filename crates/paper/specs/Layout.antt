-- THE OCTET FORM OF THE TABLE (docs/TABLE.md has it as a picture): each field is said once, in order, with its width and what it holds.
-- Assumes nothing.
use Rattle.std.specs.Prelude.{List, [], ◌∷◌, map, ℕ, ◌+◌, ◌*◌, ◌/◌, ◌%◌, length, get_or, take, drop}
use Rattle.laws.specs.If.{if_b}
use Rattle.laws.specs.Lists.{tab, pad}
use Rattle.laws.specs.Digits.{packed_octets, octet_digits}
use Rattle.laws.specs.Fields.{Field, field, laid_out, total, offset, records, pairs, pairs_at}
use Rattle.paper.specs.declared.Invocation.{Invocation}
use Rattle.paper.specs.declared.Reject.{Reject}
use Rattle.paper.specs.declared.Control.{Control}
use Rattle.paper.specs.Sizes.{places_in_all, services, most_invocations, most_rejects, most_waiting, three}
use Rattle.paper.specs.Problems.{problem, kind_of, code_of}
use Rattle.paper.specs.Dialogues.{Place}
use Rattle.paper.specs.Calls.{Table, is_free}

-- An invocation is two octets: its ID; state, class times 8, shown times 64
abbrev pub invocation_mark : Invocation → ℕ
invocation_mark v = v.state + v.class * 8 + v.shown * 64

abbrev pub invocation_octets : List Invocation → List ℕ
invocation_octets l = pairs (λ v. v.id) invocation_mark l

-- a waiting reject is two octets: its ID, or 0; code, kind times 8, 128 where there is no ID
abbrev pub reject_mark : Reject → ℕ
reject_mark r = code_of r.problem + kind_of r.problem * 8 + r.id / 256 * 128

abbrev pub waiting_reject_octets : List Reject → List ℕ
waiting_reject_octets l = pairs (λ r. r.id % 256) reject_mark l

-- A PLACE: turn, high first; state; service; length of the peer's ID, and that ID; length of the waiting octets; number of waiting
-- rejects; the invocations; the rejects; the waiting octets
abbrev pub place_fields : List (Field Place)
place_fields =
    field 3 (λ x. three x.control.turn [])
    ∷ field 1 (λ x. x.control.state ∷ [])
    ∷ field 1 (λ x. x.control.service ∷ [])
    ∷ field 1 (λ x. x.control.peerlen ∷ [])
    ∷ field 4 (λ x. x.control.peer)
    ∷ field 1 (λ x. length x.waiting ∷ [])
    ∷ field 1 (λ x. x.control.count ∷ [])
    ∷ field (2 * most_invocations) (λ x. invocation_octets x.control.invocations)
    ∷ field (2 * most_rejects) (λ x. waiting_reject_octets x.control.rejects)
    ∷ field most_waiting (λ x. pad most_waiting x.waiting)
    ∷ []

abbrev pub place_octets : Place → List ℕ
place_octets x = laid_out place_fields x

abbrev pub place_size : ℕ
place_size = total place_fields

-- the numbers of those that laws speak of, in the list above
abbrev pub peer_field : ℕ
peer_field = 4

abbrev pub waiting_length_field : ℕ
waiting_length_field = 5

abbrev pub count_field : ℕ
count_field = 6

abbrev pub invocations_field : ℕ
invocations_field = 7

abbrev pub rejects_field : ℕ
rejects_field = 8

abbrev pub waiting_field : ℕ
waiting_field = 9

-- where each begins
abbrev pub turn_at : ℕ
turn_at = offset place_fields 0

abbrev pub state_at : ℕ
state_at = offset place_fields 1

abbrev pub service_at : ℕ
service_at = offset place_fields 2

abbrev pub peer_length_at : ℕ
peer_length_at = offset place_fields 3

abbrev pub peer_at : ℕ
peer_at = offset place_fields peer_field

abbrev pub waiting_length_at : ℕ
waiting_length_at = offset place_fields waiting_length_field

abbrev pub count_at : ℕ
count_at = offset place_fields count_field

abbrev pub first_invocation : ℕ
first_invocation = offset place_fields invocations_field

abbrev pub first_reject : ℕ
first_reject = offset place_fields rejects_field

abbrev pub waiting_start : ℕ
waiting_start = offset place_fields waiting_field

-- "a map of 64-bit words, one bit a place": bit p is set where place p is free, each word's octets least significant first
unfoldable pub flag : Place → ℕ
flag x = if_b (is_free x) 1 0

abbrev pub map_size : ℕ
map_size = places_in_all / 8

abbrev pub map_octets : List Place → List ℕ
map_octets ps = packed_octets map_size (map flag ps)

-- THE TABLE: the map, the guarantees, the limits, the places. "The table has one fixed size, stated in docs/."
abbrev pub fields_of_table : List (Field Table)
fields_of_table =
    field map_size (λ T. map_octets T.places)
    ∷ field services (λ T. T.guarantees)
    ∷ field services (λ T. T.limits)
    ∷ field (places_in_all * place_size) (λ T. records place_octets T.places)
    ∷ []

abbrev pub table_size : ℕ
table_size = total fields_of_table

abbrev pub guarantees_at : ℕ
guarantees_at = offset fields_of_table 1

abbrev pub limits_at : ℕ
limits_at = offset fields_of_table 2

abbrev pub place_start : ℕ → ℕ
place_start p = offset fields_of_table 3 + p * place_size

unfoldable pub encode : Table → List ℕ
encode T = laid_out fields_of_table T

-- READ BACK
abbrev pub invocation_by : ℕ → ℕ → Invocation
invocation_by id o = record { id = id; class = o / 8 % 8; state = o % 8; shown = o / 64 }

abbrev pub invocations_at : ℕ → ℕ → List ℕ → List Invocation
invocations_at n a s = pairs_at invocation_by n a s

abbrev pub reject_by : ℕ → ℕ → Reject
reject_by id o = record { id = o / 128 * 256 + id; problem = problem (o / 8 % 16) (o % 8) }

abbrev pub rejects_at : ℕ → ℕ → List ℕ → List Reject
rejects_at n a s = pairs_at reject_by n a s

abbrev pub control_by : List ℕ → Control
control_by s = record {
  turn = get_or s turn_at 0 * 65536 + get_or s (turn_at + 1) 0 * 256 + get_or s (turn_at + 2) 0;
  state = get_or s state_at 0;
  service = get_or s service_at 0;
  peerlen = get_or s peer_length_at 0;
  peer = get_or s peer_at 0 ∷ get_or s (peer_at + 1) 0 ∷ get_or s (peer_at + 2) 0 ∷ get_or s (peer_at + 3) 0 ∷ [];
  count = get_or s count_at 0;
  invocations = invocations_at most_invocations first_invocation s;
  rejects = rejects_at most_rejects first_reject s;
}

unfoldable pub place_by : List ℕ → Place
place_by s = record { control = control_by s; waiting = take (get_or s waiting_length_at 0) (drop waiting_start s) }

-- the octets of place p
unfoldable pub slot : List ℕ → ℕ → List ℕ
slot t p = take place_size (drop (place_start p) t)

unfoldable pub view : List ℕ → Table
view t = record {
  guarantees = take services (drop guarantees_at t);
  limits = take services (drop limits_at t);
  places = tab places_in_all 0 (λ p. place_by (slot t p));
}

-- bit p of the map
unfoldable pub map_bit : List ℕ → ℕ → ℕ
map_bit t p = get_or (octet_digits (take map_size t)) p 0
