use Rattle.std.proofs.Common.{◌+◌, ◌-◌, refl, arith}
use Rattle.laws.specs.If.{if_lt, lt, ge}
use Rattle.paper.specs.Components.{no_id}
use Rattle.paper.specs.Rows.{signed}
use Rattle.writing_rows.proofs.signed.Goals as goal

pub returns-in-0-to-127 : goal.returns-in-0-to-127
unfolding signed
returns-in-0-to-127 c =
    lt c.args.octet 128 (c.args.octet + 128) (if_lt c.args.octet 256 (c.args.octet - 128) no_id) (omega arith) refl

pub returns-in-128-to-255 : goal.returns-in-128-to-255
unfolding signed
returns-in-128-to-255 c =
    ge c.args.octet 128 (c.args.octet + 128) (if_lt c.args.octet 256 (c.args.octet - 128) no_id) (omega arith)
    (lt c.args.octet 256 (c.args.octet - 128) no_id (omega arith) refl)

pub returns-in_default : goal.returns-in_default
unfolding signed
returns-in_default c =
    ge c.args.octet 128 (c.args.octet + 128) (if_lt c.args.octet 256 (c.args.octet - 128) no_id) (omega arith)
    (ge c.args.octet 256 (c.args.octet - 128) no_id (omega arith) refl)
