-- One ruleset for every return of a nest of shut tests: `search picks`, and `search picks depth n` past five tests.
use Rattle.std.proofs.Common.{rules, eq-eqb, ne_eqb, lt-ltb, le-ltb, le-leb}
use Rattle.std.proofs.lemmas.Bool.{lt-leb}
use Rattle.laws.specs.If.{lt, ge, eq, ne}

pub ruleset picks = (rules, lt, ge, eq, ne)

-- and for tests that answer a Bool
pub ruleset tests = (rules, eq-eqb, ne_eqb, lt-ltb, le-ltb, le-leb, lt-leb)
