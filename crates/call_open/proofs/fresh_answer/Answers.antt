use Rattle.call_open.specs.Fresh.{fresh-size, fresh-guarantees, fresh-limits, fresh-unfit, fresh-fit}
use mathlib.Core.Path.{sym, ◌∙◌}
use Rattle.call_open.proofs.fresh_answer.Goals.{then-t-ne-TABLE_OCTETS-via-then-t-ne-TABLE_OCTETS, then-t-ne-TABLE_OCTETS-via-else-t-ne-TABLE_OCTETS+then-g-ne-SERVICES, then-t-ne-TABLE_OCTETS-via-else-t-ne-TABLE_OCTETS+else-g-ne-SERVICES+then-l-ne-SERVICES}
use Rattle.call_open.proofs.fresh_answer.Goals as goal

pub returns-then-t-ne-TABLE_OCTETS : goal.returns-then-t-ne-TABLE_OCTETS
returns-then-t-ne-TABLE_OCTETS c = elim c.then-t-ne-TABLE_OCTETS.branch [
  | then-t-ne-TABLE_OCTETS-via-then-t-ne-TABLE_OCTETS w ↦ fresh-size c.args.t.now c.args.g.now c.args.l.now w.if-t-ne-TABLE_OCTETS.true
  | then-t-ne-TABLE_OCTETS-via-else-t-ne-TABLE_OCTETS+then-g-ne-SERVICES w ↦
      fresh-guarantees c.args.t.now c.args.g.now c.args.l.now w.if-t-ne-TABLE_OCTETS.false w.if-g-ne-SERVICES.true
  | then-t-ne-TABLE_OCTETS-via-else-t-ne-TABLE_OCTETS+else-g-ne-SERVICES+then-l-ne-SERVICES w ↦
      fresh-limits c.args.t.now c.args.g.now c.args.l.now w.if-t-ne-TABLE_OCTETS.false w.if-g-ne-SERVICES.false w.if-l-ne-SERVICES.true
]

pub returns-then-not-shares_fit : goal.returns-then-not-shares_fit
returns-then-not-shares_fit c =
    fresh-unfit c.args.t.now c.args.g.now c.args.l.now c.if-t-ne-TABLE_OCTETS.false c.if-g-ne-SERVICES.false c.if-l-ne-SERVICES.false (sym c.shares_fit.ensures ∙ c.if-not-shares_fit.true)

pub returns : goal.returns
returns c =
    fresh-fit c.args.t.now c.args.g.now c.args.l.now c.if-t-ne-TABLE_OCTETS.false c.if-g-ne-SERVICES.false c.if-l-ne-SERVICES.false (sym c.shares_fit.ensures ∙ c.if-not-shares_fit.false)
