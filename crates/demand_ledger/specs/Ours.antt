-- OUR INVOCATIONS in the ledger's list are those of the eight slots, looked up by their ID. Assumes nothing.
use Rattle.std.specs.Prelude.{◌≡◌, ℕ}
use mathlib.Core.List.{List, [], ◌∷◌}
use Rattle.paper.specs.declared.Invocation.{Invocation}
use Rattle.paper.specs.Invocations.{no_invocation, invocation_of}
use Rattle.paper.specs.Asked.{ours_of}

-- each in use, under an ID of its own
abbrev pub Apart : List Invocation → Type 0
Apart [] = Unit
Apart (v ∷ l) = (ours_of l v.id ≡ no_invocation) × (v.state ≡ 0 → ⊥) × Apart l

-- ONE OF AN ID: it has it, or is none in use
pub record Of (id : ℕ) (v : Invocation) : Type 0 where
  pub named : (v.state ≡ 0 → ⊥) → v.id ≡ id
  pub unused : v.state ≡ 0 → v ≡ no_invocation

-- THE SAME INVOCATIONS, in the slots and in the ledger's list
pub record Ours (slots l : List Invocation) : Type 0 where
  pub same : (k : ℕ) → invocation_of slots k ≡ ours_of l k
  pub apart : Apart l
