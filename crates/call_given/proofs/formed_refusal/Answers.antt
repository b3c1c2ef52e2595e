use mathlib.Core.Path.{sym}
use Rattle.call_given.specs.Portion.{refusal_of, first-none, first-refusal}
use Rattle.call_given.proofs.formed_refusal.Goals as goal

pub returns-in_err-malformed_by : goal.returns-in_err-malformed_by
unfolding refusal_of
returns-in_err-malformed_by c =
    first-refusal _ _ c.from_residual.result c.in_err-malformed_by.field-0.0 c.from_residual.ensures.1 c.in_err-malformed_by.ensures

pub returns-in_err-overfull_by : goal.returns-in_err-overfull_by
unfolding refusal_of
returns-in_err-overfull_by c =
    first-none _ _ _ (sym c.in_ok-malformed_by.ensures)
    (first-refusal _ _ c.from_residual-in_err-overfull_by.result c.in_err-overfull_by.field-0.0 c.from_residual-in_err-overfull_by.ensures.1 c.in_err-overfull_by.ensures)

pub returns : goal.returns
unfolding refusal_of
returns c =
    first-none _ _ _ (sym c.in_ok-malformed_by.ensures) (first-none _ _ _ (sym c.in_ok-overfull_by.ensures) c.unplaced_by.ensures)
