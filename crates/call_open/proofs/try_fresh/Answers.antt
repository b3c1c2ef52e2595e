use mathlib.Core.Path.{refl}
use Rattle.call_entry.specs.Replies.{Ends, only, passed_up, above-zero}
use Rattle.paper.specs.Outcome.{fresh_outcome}
use Rattle.paper.specs.declared.Refusal.{Refusal}
use Rattle.call_open.specs.Fresh.{fresh-sizes, fresh-refused, fresh-done}
use Rattle.call_open.proofs.try_fresh.Goals as goal

pub returns-in_err-fresh_answer : goal.returns-in_err-fresh_answer
returns-in_err-fresh_answer c =
    let t = c.args.table.now in
    let why : Refusal = c.in_err-fresh_answer.field-0.0 in
    passed_up (λ r. Ends (fresh_outcome t c.args.guarantees.now c.args.limits.now) r (only t)) c.from_residual.result why c.from_residual.ensures.1
    (fresh-refused t c.args.guarantees.now c.args.limits.now _ c.in_err-fresh_answer.ensures (above-zero why) refl)

pub lay_out-requires : goal.lay_out-requires
lay_out-requires c =
    fresh-sizes c.args.table.now c.args.guarantees.now c.args.limits.now c.in_ok-fresh_answer.ensures

pub returns : goal.returns
returns c =
    fresh-done c.args.table.now c.args.guarantees.now c.args.limits.now c.in_ok-fresh_answer.ensures refl c.lay_out.ensures
