use mathlib.Core.Path.{◌≡◌, sym, ◌∙◌}
use mathlib.Core.List.{List}
use native.Mathlib.Omega.{arith}
use Prim.Native.Nat.{ℕ}
use Rattle.paper.specs.Layout.{view}
use Rattle.paper.specs.declared.Refusal.{Refusal}
use Rattle.paper.specs.Refusals.{number}
use Rattle.paper.specs.declared.Refusal.TheVariants.{WrongSize, NoService}
use Rattle.paper.specs.Outcome.{Spaces}
use Rattle.call_entry.specs.Replies.{above-zero, passed_up}
use Rattle.call_entry.specs.Prologue.{spaces, Enters, enters-no, rows_few, space-small, table-no, service-no, enters}
use Rattle.call_entry.proofs.enter.Goals.{then-lent-least-via-then-lent-least, then-lent-least-via-else-lent-least+then-lent-least-2}
use Rattle.call_entry.proofs.enter.Goals as goal

pub returns-then-lent-least : goal.returns-then-lent-least
returns-then-lent-least c =
    let t : List ℕ = c.args.t.now in
    let lent : Spaces = spaces c.args.lent in
    let least : Spaces = spaces c.args.least in
    enters-no t lent least c.args.service WrongSize
    (elim c.then-lent-least.branch [
      | then-lent-least-via-then-lent-least w ↦ rows_few t lent least c.args.service w.if-lent-least.true
      | then-lent-least-via-else-lent-least+then-lent-least-2 w ↦ space-small t lent least c.args.service w.if-lent-least.false w.if-lent-least-2.true
    ])

pub returns-in_err-c : goal.returns-in_err-c
returns-in_err-c c =
    let t : List ℕ = c.args.t.now in
    let lent : Spaces = spaces c.args.lent in
    let least : Spaces = spaces c.args.least in
    let why : Refusal = c.in_err-c.field-0.0 in
    passed_up (Enters t lent least c.args.service) c.from_residual.result why c.from_residual.ensures.1
    (enters-no t lent least c.args.service why (table-no t lent least c.args.service (omega arith) (omega arith) (number why) c.in_err-c.ensures.is (above-zero why)))

pub returns-then-i-ge-SERVICES : goal.returns-then-i-ge-SERVICES
returns-then-i-ge-SERVICES c =
    enters-no c.args.t.now _ _ c.args.service NoService (service-no _ (spaces c.args.lent) (spaces c.args.least) _ (omega arith) (omega arith) c.in_ok-c.ensures.is (omega arith))

pub returns : goal.returns
unfolding view
returns c =
    let f = c.in_ok-c.ensures.fine in
    enters c.args.t.now (spaces c.args.lent) (spaces c.args.least) c.args.service (omega arith) (omega arith) c.in_ok-c.c.counts c.in_ok-c.c.unused c.in_ok-c.c.free c.in_ok-c.ensures.is
    f (omega arith) c.gives_place.result _ _ _ c.from.ensures c.share_at-share.ensures.0 c.share_at-share.ensures.1 c.gives_place.ensures

pub slice_bounds-share_at-end : goal.slice_bounds-share_at-end
slice_bounds-share_at-end c =
    omega (arith, c.in_ok-c.ensures.fine.ready.long)

pub slice_bounds-share_at-end-2 : goal.slice_bounds-share_at-end-2
slice_bounds-share_at-end-2 c =
    omega (arith, c.in_ok-c.ensures.fine.ready.long)
