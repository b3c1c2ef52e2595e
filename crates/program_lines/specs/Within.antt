-- Standard input read through a buffer of b octets, and a line in a space of n. Assumes nothing.
use Rattle.std.specs.Prelude.{ℕ, ◌≤◌, Option, IfSome, List, [], ◌∷◌, ◌++◌}
use Rattle.program_digits.specs.Digits.{decimal}
use Rattle.program_lines.specs.declared.Lines.{Lines}

pub record Within (b : ℕ) (l : Lines) : Type 0 where
  pub taken : l.at ≤ l.have
  pub had : l.have ≤ b

-- the octets that a line takes are no more than its space has
abbrev pub Short : ℕ → Option ℕ → Type 0
Short n count = IfSome count (λ k. k ≤ n)

-- what is said of a line that cannot be read: its number and `bad`
abbrev pub unread : ℕ → ℕ → List ℕ
unread number separator = decimal number ++ (separator ∷ (98 ∷ (97 ∷ (100 ∷ (10 ∷ [])))))
