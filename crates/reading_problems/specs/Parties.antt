-- WHO SENDS by its number in paper/specs/Problems, with that of nobody. Assumes nothing.
use Rattle.std.specs.Prelude.{ℕ, Option, Some, None}
use Rattle.paper.specs.Problems.{by_layer, by_user, by_nobody}
use Rattle.reading_problems.specs.declared.Party.{Party}
use Rattle.reading_problems.specs.declared.Party.TheVariants.{SubLayer, User}

abbrev pub party_number : Option Party → ℕ
party_number None = by_nobody
party_number (Some SubLayer) = by_layer
party_number (Some User) = by_user
