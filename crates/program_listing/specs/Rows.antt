-- A ROW AS TEXT: its numbers read out of the row space, each after a blank. Assumes nothing.
use Rattle.std.specs.Prelude.{ℕ, zero, suc, ◌+◌, ◌*◌, ◌≡◌, List, [], ◌∷◌, ◌++◌, length}
use Rattle.std.proofs.Common.{sym, ap, add-one}
use Rattle.laws.specs.If.{if_lt}
use Rattle.paper.specs.Rows.{four_at}
use Rattle.program_text.specs.Said.{Said, said_more, said-as}
use Rattle.program_digits.specs.Digits.{decimal}

-- four octets, least significant first; 0 past the end
unfoldable pub number_at : List ℕ → ℕ → ℕ
number_at s at = if_lt (length s) (at + 4) 0 (four_at s at)

-- k numbers from a place on
unfoldable pub numbers : ℕ → ℕ → List ℕ → List ℕ
numbers zero place s = []
numbers (suc k) place s = numbers k place s ++ (32 ∷ decimal (number_at s (place + 4 * k)))

pub numbers-next : {l m n : List ℕ} {at p q : ℕ} (k place : ℕ) (s : List ℕ) (v : ℕ) → v ≡ number_at s (place + 4 * k) → Said l at (numbers k place s) p m → Said m p (32 ∷ decimal v) q n
    → Said l at (numbers (k + 1) place s) q n
unfolding numbers
numbers-next k place s v e a b =
    said-as (said-as (said_more a b) (ap (λ (j : ℕ). numbers k place s ++ (32 ∷ decimal j)) e)) (ap (λ (j : ℕ). numbers j place s) (sym (add-one k)))
