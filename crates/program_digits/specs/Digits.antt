-- NUMBERS AND OCTETS AS TEXT: the digits that are printed, and what a text is read as. Assumes nothing.
use Rattle.std.specs.Prelude.{Option, Some, None, ℕ, zero, suc, ◌+◌, ◌*◌, ◌-◌, ◌/◌, ◌%◌, min, Bool, true, false, List, [], ◌∷◌, ◌++◌, length, get_or, take, drop}
use Rattle.std.proofs.lemmas.List.Edits.{sets}
use Rattle.laws.specs.If.{if_lt, if_eq, if_b}

-- the octet of a digit below 16: `0` to `9`, then `A` to `F`
unfoldable pub sign : ℕ → ℕ
sign d = if_lt d 10 (d + 48) (d + 55)

-- the digit of an octet, a letter in either case; 16 of any other
unfoldable pub digit : ℕ → ℕ
digit x = if_lt x 48 16 (if_lt x 58 (x - 48) (if_lt x 65 16 (if_lt x 71 (x - 55) (if_lt x 97 16 (if_lt x 103 (x - 87) 16)))))

-- the same, none of any other octet
unfoldable pub hex_digit : ℕ → Option ℕ
hex_digit x = if_lt (digit x) 16 (Some (digit x)) None

-- ---- PRINTED: a number in decimal, with as few digits as there are; at most k of them
unfoldable pub digits : ℕ → ℕ → List ℕ
digits zero n = []
digits (suc k) n = if_lt n 10 (sign n ∷ []) (digits k (n / 10) ++ (sign (n % 10) ∷ []))

-- a number of 64 bits has no more than 20
unfoldable pub decimal : ℕ → List ℕ
decimal n = digits 20 n

-- octets in hex, two digits each; `-` for none
unfoldable pub hex : List ℕ → List ℕ
hex [] = []
hex (x ∷ s) = sign (x / 16) ∷ (sign (x % 16) ∷ hex s)

unfoldable pub or_none : List ℕ → List ℕ
or_none [] = 45 ∷ []
or_none (x ∷ s) = x ∷ s

-- a dialogue's ID: 8 hex digits
unfoldable pub dialogue : ℕ → List ℕ
dialogue n = hex (n / 16777216 ∷ (n / 65536 % 256 ∷ (n / 256 % 256 ∷ (n % 256 ∷ []))))

-- an invoke ID of an octet: -128 to 127
unfoldable pub invoke_id : ℕ → List ℕ
invoke_id x = if_lt x 128 (decimal x) (45 ∷ decimal (256 - x))

-- ---- READ: are these digits of the base, and of what number, after v?
unfoldable pub below : ℕ → List ℕ → Bool
below b [] = true
below b (x ∷ s) = if_lt (digit x) b (below b s) false

unfoldable pub valued : ℕ → ℕ → List ℕ → ℕ
valued b v [] = v
valued b v (x ∷ s) = valued b (v * b + digit x) s

-- "One too large for 32 bits is the largest of 32 bits"
abbrev pub largest : ℕ
largest = 4294967295

unfoldable pub in_base : ℕ → List ℕ → Option ℕ
in_base b s = if_b (below b s) (Some (min (valued b 0 s) largest)) None

-- without a sign or leading zeros
unfoldable pub read_decimal : List ℕ → Option ℕ
read_decimal s = if_eq (length s) 0 None (if_eq (get_or s 0 0) 48 (if_eq (length s) 1 (Some 0) None) (in_base 10 s))

unfoldable pub read_dialogue : List ℕ → Option ℕ
read_dialogue s = if_eq (length s) 8 (in_base 16 s) None

-- -128 to 127, as its octet
unfoldable pub negative : Option ℕ → Option ℕ
negative None = None
negative (Some n) = if_eq n 0 None (if_lt 128 n None (Some (256 - n)))

unfoldable pub positive : Option ℕ → Option ℕ
positive None = None
positive (Some n) = if_lt 127 n None (Some n)

unfoldable pub read_id : List ℕ → Option ℕ
read_id s = if_eq (length s) 0 None (if_eq (get_or s 0 0) 45 (negative (read_decimal (drop 1 s))) (positive (read_decimal s)))

-- hex octets: an even number of digits, and the octet of each two
unfoldable pub is_hex : List ℕ → Bool
is_hex s = if_eq (length s % 2) 0 (below 16 s) false

unfoldable pub octets : List ℕ → List ℕ
octets [] = []
octets (x ∷ []) = []
octets (x ∷ (y ∷ s)) = (digit x * 16 + digit y) ∷ octets s

-- a text that is hex, with the octets in its place, from its start, and how many they are; else as it was
unfoldable pub read_here : List ℕ → List ℕ
read_here s = if_b (is_hex s) (sets s 0 (octets s)) s

unfoldable pub octet_count : List ℕ → Option ℕ
octet_count s = if_b (is_hex s) (Some (length s / 2)) None

-- a line whose part from one place up to another is hex, with the octets in its place, from its start; else as it was
unfoldable pub decoded : ℕ → ℕ → List ℕ → List ℕ
decoded start stop line = if_b (is_hex (take (stop - start) (drop start line))) (sets line start (octets (take (stop - start) (drop start line)))) line
