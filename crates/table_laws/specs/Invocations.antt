-- EACH CHANGE OF AN INVOCATION KEEPS THE RULES (01, table rules: "invocations not in use are zero", "invoke IDs within a dialogue differ"). Assumes nothing.
use Rattle.std.specs.Prelude.{◌≡◌, List, ℕ, ◌<◌, length, get_or}
use Rattle.paper.specs.declared.Invocation.{Invocation}
use Rattle.paper.specs.Invocations.{no_invocation}

abbrev pub invocation_nth : List Invocation → ℕ → Invocation
invocation_nth l i = get_or l i no_invocation

-- the others have another ID
abbrev pub Apart : List Invocation → ℕ → Invocation → Type 0
Apart l i v = (v.state ≡ 0 → ⊥) → (j : ℕ) → (j ≡ i → ⊥) → j < length l → ((invocation_nth l j).state ≡ 0 → ⊥) → (invocation_nth l j).id ≡ v.id → ⊥
