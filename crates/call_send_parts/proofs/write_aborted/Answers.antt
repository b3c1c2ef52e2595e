use mathlib.Core.Path.{sym, ap, ◌∙◌}
use native.Mathlib.Omega.{arith}
use lib.ListN.{length}
use Rattle.laws.specs.Runs.{wrote_as}
use Rattle.call_send_parts.specs.Refused.{abort-by, abort-given}
use Rattle.call_send_parts.proofs.write_aborted.Goals as goal

pub write_portion-requires : goal.write_portion-requires
write_portion-requires c =
    let e = ap length (abort-by c.args.portion.now (sym c.is_told.ensures ∙ c.if-is_told.true)) in
    (omega arith, c.requires.0, (omega (arith, e, c.requires.1), omega (arith, e, c.requires.1)))

pub returns-then-is_told : goal.returns-then-is_told
returns-then-is_told c =
    wrote_as c.write_portion.ensures (abort-by c.args.portion.now (sym c.is_told.ensures ∙ c.if-is_told.true))

pub copy_at-requires : goal.copy_at-requires
copy_at-requires c =
    omega (arith, c.requires.1, ap length (abort-given c.args.portion.now (sym c.is_told.ensures ∙ c.if-is_told.false)))

pub returns-else-is_told : goal.returns-else-is_told
returns-else-is_told c =
    wrote_as c.copy_at.ensures (abort-given c.args.portion.now (sym c.is_told.ensures ∙ c.if-is_told.false))
