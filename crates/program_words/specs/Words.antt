-- THE WORDS OF A LINE, parted by one separator, and the octets that they give in hex. Assumes nothing.
use Rattle.std.specs.Prelude.{Option, Some, None, ◌≡◌, ℕ, zero, suc, ◌+◌, ◌-◌, ◌/◌, Bool, true, false, List, [], ◌∷◌, length, take, drop, eqb}
use Rattle.laws.specs.If.{if_lt, if_eq, if_b}
use Rattle.program_digits.specs.Digits.{is_hex, decoded}
use Rattle.program_words.specs.declared.Field.{Field}
use Rattle.program_words.specs.declared.Pair.{Pair}

-- up to the first separator x; what follows it; what follows k of them; the word with k others before it, empty after the last one
unfoldable pub up_to : ℕ → List ℕ → List ℕ
up_to x [] = []
up_to x (y ∷ s) = if_eq y x [] (y ∷ up_to x s)

abbrev pub past : ℕ → List ℕ → List ℕ
past x s = drop (suc (length (up_to x s))) s

unfoldable pub after : ℕ → ℕ → List ℕ → List ℕ
after x zero s = s
after x (suc k) s = past x (after x k s)

abbrev pub word_of : ℕ → ℕ → List ℕ → List ℕ
word_of x k s = up_to x (after x k s)

-- where it lies
abbrev pub field_of : ℕ → ℕ → List ℕ → Field
field_of x k s = record { start = length s - length (after x k s); stop = length s - length (after x k s) + length (word_of x k s) }

-- how many separators there are
unfoldable pub count : ℕ → List ℕ → ℕ
count x [] = 0
count x (y ∷ s) = if_b (eqb y x) 1 0 + count x s

-- are they the same octets?
unfoldable pub same : List ℕ → List ℕ → Bool
same [] [] = true
same [] (y ∷ t) = false
same (x ∷ s) [] = false
same (x ∷ s) (y ∷ t) = if_eq x y (same s t) false

-- the octets of a field, none for one that lies in no such line
unfoldable pub cut_of : Field → List ℕ → List ℕ
cut_of f s = if_lt (length s) f.stop [] (if_lt f.stop f.start [] (take (f.stop - f.start) (drop f.start s)))

-- the octets that a field gives in hex, put in its own place, from its start: where they lie, and the line then
unfoldable pub octets_of : Field → List ℕ → Option Field
octets_of f s = if_lt (length s) f.stop None (if_lt f.stop f.start None
    (if_b (is_hex (take (f.stop - f.start) (drop f.start s))) (Some (record { start = f.start; stop = f.start + (f.stop - f.start) / 2 })) None))

unfoldable pub with_octets : Field → List ℕ → List ℕ
with_octets f s = if_lt (length s) f.stop s (if_lt f.stop f.start s (decoded f.start f.stop s))

-- the same, `-` for none
unfoldable pub or_none : Field → List ℕ → Option Field
or_none f s = if_b (same (cut_of f s) (45 ∷ [])) (Some (record { start = f.start; stop = f.start })) (octets_of f s)

unfoldable pub with_or_none : Field → List ℕ → List ℕ
with_or_none f s = if_b (same (cut_of f s) (45 ∷ [])) s (with_octets f s)

-- of two words that follow each other, one after the other, where both are hex or `-`
unfoldable pub pair_of : Option Field → Option Field → Option Pair
pair_of None g = None
pair_of (Some f) None = None
pair_of (Some f) (Some g) = Some (record { first = f; second = g })

pub record Two (x k : ℕ) (s : List ℕ) (r : Option Pair) (t : List ℕ) : Type 0 where
  pub both : r ≡ pair_of (or_none (field_of x k s) s) (or_none (field_of x (k + 1) s) (with_or_none (field_of x k s) s))
  pub line : t ≡ with_or_none (field_of x (k + 1) s) (with_or_none (field_of x k s) s)
