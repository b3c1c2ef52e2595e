use Rattle.std.proofs.Common.{◌∙◌, arith}
use Rattle.program_text.specs.Said.{said-none}
use Rattle.program_listing.specs.Rows.{numbers, numbers-next}
use Rattle.program_listing.proofs.row.Goals as goal

pub loop-i-init : goal.loop-i-init
unfolding numbers
loop-i-init c =
    said-none _ _ (omega arith)

pub loop-i-preserved : goal.loop-i-preserved
loop-i-preserved c =
    numbers-next c.loop-i.i c.args.place c.args.rows.now c.from.result (c.from.ensures ∙ c.number_at-n.ensures) c.loop-i.invariant c.spaced-k.ensures
