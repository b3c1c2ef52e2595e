use mathlib.Core.Path.{ap}
use native.Mathlib.Omega.{arith}
use lib.ListN.{length}
use Rattle.laws.specs.Runs.{wrote_none, wrote_as}
use Rattle.writing_octets.specs.Lengths.{no-components, some-components}
use Rattle.writing_messages.proofs.write_components.Goals as goal

pub returns-then-n-eq0 : goal.returns-then-n-eq0
returns-then-n-eq0 c =
    wrote_as (wrote_none _ _) (no-components _ c.if-n-eq0.true)

pub write_head-requires : goal.write_head-requires
write_head-requires c =
    omega (arith, ap length (some-components c.args.n c.if-n-eq0.false))

pub returns-else-n-eq0 : goal.returns-else-n-eq0
returns-else-n-eq0 c =
    wrote_as c.write_head.ensures (some-components _ c.if-n-eq0.false)
