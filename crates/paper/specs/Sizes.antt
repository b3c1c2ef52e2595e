-- SIZES (01, "Sizes"). Assumes nothing.
use Rattle.std.specs.Prelude.{List, [], ◌∷◌, ℕ, suc, ◌+◌, ◌*◌, ◌-◌, ◌/◌, ◌%◌, ℤ}
use Rattle.std.proofs.Math.IntN.ℤ.{pos, negsuc}

-- "128 dialogue places"
abbrev pub places_in_all : ℕ
places_in_all = 128

-- "services (TC-users) 0 to 15"
abbrev pub services : ℕ
services = 16

-- "8 open invocations a dialogue"
abbrev pub most_invocations : ℕ
most_invocations = 8

-- "240 octets of waiting components and 8 waiting rejects a dialogue"
abbrev pub most_waiting : ℕ
most_waiting = 240

abbrev pub most_rejects : ℕ
most_rejects = 8

-- "received message 1 to 512 octets"
abbrev pub longest_message : ℕ
longest_message = 512

-- "space for a message at least 272 octets; space for at least 128 rows of 8 32-bit numbers (in C calls four octets ..)"
abbrev pub least_space : ℕ
least_space = 272

abbrev pub least_rows : ℕ
least_rows = 4096

-- "a component or dialogue portion is depth 1 and depth 17 is malformed": 16 depths from the component on
abbrev pub depths : ℕ
depths = 16

-- those from depth k on: a parameter is at depth 2, at 3 in a result's 30, user information at 5 in its portion
abbrev pub depths_from : ℕ → ℕ
depths_from k = 17 - k

-- "The local ID is four octets: the place (0 to 127), then its turn in three, high first."
-- As a number it is place times 2^24 plus turn.
abbrev pub turns : ℕ
turns = 16777216

abbrev pub local_id : ℕ → ℕ → ℕ
local_id place turn = place * 16777216 + turn

abbrev pub place_of : ℕ → ℕ
place_of dialogue = dialogue / 16777216

abbrev pub turn_of : ℕ → ℕ
turn_of dialogue = dialogue % 16777216

-- "the turn goes up by one, modulo 16,777,216, each time its place is freed"
abbrev pub next_turn : ℕ → ℕ
next_turn turn = (turn + 1) % 16777216

-- a number as its octets, high first: three, four
abbrev pub three : ℕ → List ℕ → List ℕ
three n l = n / 65536 % 256 ∷ n / 256 % 256 ∷ n % 256 ∷ l

abbrev pub id_octets : ℕ → List ℕ
id_octets dialogue = dialogue / 16777216 ∷ three dialogue []

-- "-128 to 127 (in calls one signed octet)": its octet, a negative one's above 127; negsuc n is minus n, less one
abbrev pub octet_of : ℤ → ℕ
octet_of (pos n) = n
octet_of (negsuc n) = 256 - suc n
