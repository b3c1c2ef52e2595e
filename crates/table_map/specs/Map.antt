-- The table with one bit of its map changed. Assumes nothing.
use Rattle.std.specs.Prelude.{ℕ, ◌+◌, ◌-◌, ◌/◌, ◌%◌, ◌^◌, List, get_or, set}

-- bit p, which was clear, set
unfoldable pub with_bit : List ℕ → ℕ → List ℕ
with_bit t p = set t (p / 8) (get_or t (p / 8) 0 + 2 ^ (p % 8))

-- bit p, which was set, cleared
unfoldable pub without_bit : List ℕ → ℕ → List ℕ
without_bit t p = set t (p / 8) (get_or t (p / 8) 0 - 2 ^ (p % 8))
