use mathlib.Core.Path.{refl, sym, ap, subst, ◌∙◌}
use native.Mathlib.Omega.{arith}
use Rattle.paper.specs.declared.Control.{Control}
use Rattle.paper.specs.Invocations.{with_invocations}
use Rattle.paper.specs.Calls.{place_at}
use Rattle.paper.specs.Layout.{view}
use Rattle.call_entry.specs.Prologue.{meets-as}
use Rattle.call_entry.specs.Replies.{only}
use Rattle.call_entry.specs.Ends.{dialogue-entry, dialogue-refusal}
use Rattle.call_pass.specs.Appending.{fits, past, as_long, appended}
use Rattle.call_pass.specs.Passings.{passing, control_after, Acts, passing-spaces, writing, writes, acts, appends, pass-done}
use Rattle.call_pass.proofs.try_pass.Goals as goal

pub returns-in_err-p : goal.returns-in_err-p
returns-in_err-p c =
    let m = meets-as (passing-spaces c.args.code.now c.args.parameter.now c.args.what) c.in_err-p.ensures in
    dialogue-entry (only c.args.table.now) c.args.service c.args.dialogue (passing c.args.what c.args.code.now c.args.parameter.now) c.from_residual.result c.in_err-p.field-0.0 c.from_residual.ensures.1 m.is

pub load-c-requires : goal.load-c-requires
load-c-requires c =
    let u = c.in_ok-p.ensures.inside.used in
    (u.small, u.ready.long)

pub waiting_length-n-requires : goal.waiting_length-n-requires
waiting_length-n-requires c =
    let u = c.in_ok-p.ensures.inside.used in
    (u.ready, u.small)

pub returns-in_err-refusal : goal.returns-in_err-refusal
returns-in_err-refusal c =
    let m = meets-as (passing-spaces c.args.code.now c.args.parameter.now c.args.what) c.in_ok-p.ensures in
    let x = place_at (view c.args.table.now) c.in_ok-p.p in
    dialogue-refusal (only c.args.table.now) c.args.service c.args.dialogue (passing c.args.what c.args.code.now c.args.parameter.now) c.in_ok-p.p m.inside
    c.from_residual-in_err-refusal.result c.in_err-refusal.field-0.0 c.from_residual-in_err-refusal.ensures.1
    (c.in_err-refusal.ensures x (sym (ap (λ (k : Control). k.state) c.load-c.ensures)) (sym (ap (λ (k : Control). k.invocations) c.load-c.ensures)) (sym c.waiting_length-n.ensures.0))

pub acted-s-requires : goal.acted-s-requires
acted-s-requires c =
    let x = place_at (view c.args.table.now) c.in_ok-p.p in
    subst (λ (k : Control). Acts k.invocations c.args.what) (sym c.load-c.ensures) (acts c.args.code.now c.args.parameter.now x c.args.what c.in_ok-p.ensures.inside.used.fine.control.eight (c.in_ok-refusal.ensures x (sym (ap (λ (k : Control). k.state) c.load-c.ensures)) (sym (ap (λ (k : Control). k.invocations) c.load-c.ensures)) (sym c.waiting_length-n.ensures.0)))

pub overflow_mul-a : goal.overflow_mul-a
overflow_mul-a c =
    omega (arith, c.in_ok-p.ensures.inside.used.small)

pub overflow_add-a : goal.overflow_add-a
overflow_add-a c =
    omega (arith, c.in_ok-p.ensures.inside.used.small)

pub overflow_add-a-2 : goal.overflow_add-a-2
overflow_add-a-2 c =
    omega (arith, c.in_ok-p.ensures.inside.used.small, c.waiting_length-n.ensures.1)

pub write-e-requires : goal.write-e-requires
write-e-requires c =
    let x = place_at (view c.args.table.now) c.in_ok-p.p in
    let e = c.in_ok-refusal.ensures x (sym (ap (λ (k : Control). k.state) c.load-c.ensures)) (sym (ap (λ (k : Control). k.invocations) c.load-c.ensures)) (sym c.waiting_length-n.ensures.0) in
    let s = appends c.args.code.now c.args.parameter.now c.args.what c.in_ok-p.ensures.inside.used c.load-c.ensures c.waiting_length-n.ensures.0 e (ap (with_invocations c.load-c.result) c.acted-s.ensures.is) in
    writing c.args.code.now c.args.parameter.now c.args.what c.args.table.now _ (writes c.args.code.now c.args.parameter.now x c.args.what c.requires e) (omega (arith, s.room)) (fits s)

pub overflow_sub-e : goal.overflow_sub-e
overflow_sub-e c =
    omega (arith, c.write-e.ensures.past)

pub overflow_cast-e : goal.overflow_cast-e
overflow_cast-e c =
    let x = place_at (view c.args.table.now) c.in_ok-p.p in
    let e = c.in_ok-refusal.ensures x (sym (ap (λ (k : Control). k.state) c.load-c.ensures)) (sym (ap (λ (k : Control). k.invocations) c.load-c.ensures)) (sym c.waiting_length-n.ensures.0) in
    let s = appends c.args.code.now c.args.parameter.now c.args.what c.in_ok-p.ensures.inside.used c.load-c.ensures c.waiting_length-n.ensures.0 e (ap (with_invocations c.load-c.result) c.acted-s.ensures.is) in
    omega (arith, (past s c.write-e.ensures).2)

pub put_control-requires : goal.put_control-requires
put_control-requires c =
    let x = place_at (view c.args.table.now) c.in_ok-p.p in
    let e = c.in_ok-refusal.ensures x (sym (ap (λ (k : Control). k.state) c.load-c.ensures)) (sym (ap (λ (k : Control). k.invocations) c.load-c.ensures)) (sym c.waiting_length-n.ensures.0) in
    let s = appends c.args.code.now c.args.parameter.now c.args.what c.in_ok-p.ensures.inside.used c.load-c.ensures c.waiting_length-n.ensures.0 e (ap (with_invocations c.load-c.result) c.acted-s.ensures.is) in
    (s.storing.small, as_long s c.write-e.ensures, s.storing.control)

pub returns : goal.returns
returns c =
    let m = meets-as (passing-spaces c.args.code.now c.args.parameter.now c.args.what) c.in_ok-p.ensures in
    let x = place_at (view c.args.table.now) c.in_ok-p.p in
    let e = c.in_ok-refusal.ensures x (sym (ap (λ (k : Control). k.state) c.load-c.ensures)) (sym (ap (λ (k : Control). k.invocations) c.load-c.ensures)) (sym c.waiting_length-n.ensures.0) in
    let s = appends c.args.code.now c.args.parameter.now c.args.what c.in_ok-p.ensures.inside.used c.load-c.ensures c.waiting_length-n.ensures.0 e (ap (with_invocations c.load-c.result) c.acted-s.ensures.is) in
    pass-done c.args.table.now c.args.service c.args.dialogue c.args.what c.args.code.now c.args.parameter.now c.in_ok-p.p m.inside
    e (ap (with_invocations c.load-c.result) c.acted-s.ensures.is ∙ ap (control_after c.args.what) c.load-c.ensures) refl (appended s c.write-e.ensures c.put_control.ensures)
