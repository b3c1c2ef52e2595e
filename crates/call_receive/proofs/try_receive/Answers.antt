use native.Mathlib.Omega.{arith}
use mathlib.Core.Path.{refl}
use Rattle.std.proofs.Common.{rules}
use Rattle.paper.specs.Calls.Call.{Receive}
use Rattle.paper.specs.Outcome.{Lent, outcome}
use Rattle.paper.specs.declared.Refusal.{Refusal}
use Rattle.call_entry.specs.Replies.{Ends, above-zero, passed_up}
use Rattle.call_receive.specs.Ends.{receive-refused, no-octets, too_many, is-done}
use Rattle.call_receive.proofs.try_receive.Goals.{then-is_empty-via-then-is_empty, then-is_empty-via-else-is_empty+then-message-gt-LONGEST_MESSAGE}
use Rattle.call_receive.proofs.try_receive.Goals as goal

pub returns-in_err-may : goal.returns-in_err-may
returns-in_err-may c =
    let l : Lent = record { table = c.args.table.now; rows = c.args.rows.now; space = c.args.space.now } in
    let why : Refusal = c.in_err-may.field-0.0 in
    passed_up (λ r. Ends (outcome l (Receive c.args.service c.args.message.now)) r l) c.from_residual.result why c.from_residual.ensures.1
    (receive-refused l c.args.service c.args.message.now _ c.in_err-may.ensures.is (above-zero why) refl)

pub returns-then-is_empty : goal.returns-then-is_empty
returns-then-is_empty c =
    let l : Lent = record { table = c.args.table.now; rows = c.args.rows.now; space = c.args.space.now } in
    elim c.then-is_empty.branch [
      | then-is_empty-via-then-is_empty w ↦ no-octets l c.args.service c.args.message.now c.in_ok-may.ensures.inside.within (search rules) refl
      | then-is_empty-via-else-is_empty+then-message-gt-LONGEST_MESSAGE w ↦ too_many l c.args.service c.args.message.now c.in_ok-may.ensures.inside.within (omega arith) refl
    ]

pub receive-r-requires : goal.receive-r-requires
receive-r-requires c =
    let i = c.in_ok-may.ensures.inside in
    (record { ready = i.ready; service = i.within.service; is = c.in_ok-may.ensures.may; there = i.there }, search rules, omega arith, i.within.long.0, i.within.long.1)

pub returns : goal.returns
returns c =
    is-done (record { table = c.args.table.now; rows = c.args.rows.now; space = c.args.space.now }) c.args.service c.args.message.now c.in_ok-may.ensures.inside.within (search rules) (omega (arith, c.if-message-gt-LONGEST_MESSAGE.false)) c.receive-r.ensures refl
