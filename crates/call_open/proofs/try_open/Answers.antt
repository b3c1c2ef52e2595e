use Rattle.table_places.specs.Storing.{with_waiting}
use Rattle.paper.specs.Layout.{encode, view}
use Rattle.paper.specs.Calls.{with_place}
use Rattle.paper.specs.Calls.Call.{Open}
use Rattle.paper.specs.Outcome.{outcome}
use Rattle.call_entry.specs.Replies.{Ends, only, passed_up, above-zero}
use Rattle.call_open.specs.Opened.{open-refused, open_no, open-storing, open_done}
use Rattle.table_places.specs.Storing.{Storing}
use Rattle.paper.specs.declared.Control.{Control}
use Rattle.paper.specs.declared.Refusal.{Refusal}
use mathlib.Core.List.{[]}
use mathlib.Core.Path.{refl, sym, ap, subst, ◌∙◌}
use Rattle.call_open.proofs.try_open.Goals as goal

pub returns-in_err-may : goal.returns-in_err-may
returns-in_err-may c =
    let t = c.args.table.now in
    let why : Refusal = c.in_err-may.field-0.0 in
    passed_up (λ r. Ends (outcome (only t) (Open c.args.service)) r (only t)) c.from_residual.result why c.from_residual.ensures.1
    (open-refused t c.args.service _ c.in_err-may.ensures.is (above-zero why) refl)

pub returns-then-not-may : goal.returns-then-not-may
returns-then-not-may c =
    open_no c.args.table.now c.args.service c.in_ok-may.ensures.inside (sym c.in_ok-may.ensures.may ∙ c.if-not-may.true) refl

pub begin_at-requires : goal.begin_at-requires
begin_at-requires c =
    subst (Storing 1 c.args.table.now c.lowest_place-p.result) (sym c.begun-c.ensures)
    (open-storing c.args.table.now c.args.service c.in_ok-may.ensures.inside (sym c.in_ok-may.ensures.may ∙ c.if-not-may.false) c.lowest_place-p.result c.lowest_place-p.ensures.0 c.turn_at-turn.result c.turn_at-turn.ensures.1)

pub returns : goal.returns
returns c =
    open_done c.args.table.now c.args.service c.in_ok-may.ensures.inside (sym c.in_ok-may.ensures.may ∙ c.if-not-may.false) c.lowest_place-p.result c.lowest_place-p.ensures.0
    c.id_at-id.result c.turn_at-turn.result c.begin_at.new.t c.id_at-id.ensures c.turn_at-turn.ensures.0
    (c.begin_at.ensures ∙ ap (λ (x : Control). encode (with_place (view c.args.table.now) c.lowest_place-p.result (with_waiting x []))) c.begun-c.ensures) refl
