use mathlib.Core.Path.{ap}
use native.Mathlib.Omega.{arith}
use lib.ListN.{length}
use Rattle.writing_octets.specs.Lengths.{no-components, some-components}
use Rattle.writing_messages.proofs.components_size.Goals as goal

pub returns-then-n-eq0 : goal.returns-then-n-eq0
returns-then-n-eq0 c =
    record { is = omega (arith, ap length (no-components c.args.n c.if-n-eq0.true)); within = omega arith }

pub returns-else-n-eq0 : goal.returns-else-n-eq0
returns-else-n-eq0 c =
    record { is = omega (arith, ap length (some-components c.args.n c.if-n-eq0.false)); within = omega arith }
