use mathlib.Core.Path.{sym, ◌∙◌}
use Rattle.laws.specs.Runs.{wrote_as, wrote_none}
use Rattle.laws.specs.Lists.{length_none}
use Rattle.call_send.proofs.write_given.Goals as goal

pub returns-then-q-eq0 : goal.returns-then-q-eq0
returns-then-q-eq0 c =
    wrote_as (wrote_none _ _) (length_none _ (sym c.requires.2 ∙ c.if-q-eq0.true))
