use Rattle.std.proofs.Common.{◌≡◌, refl, ap, ◌∙◌, List, get_or, arith}
use Rattle.std.proofs.Math.ListN.{get_or-eq_default}
use Rattle.paper.specs.declared.Control.{Control}
use Rattle.paper.specs.declared.Invocation.{Invocation}
use Rattle.paper.specs.Invocations.{no_invocation, slot_of, to_idle}
use Rattle.call_release.specs.Idling.{not-idled, idled, storing-idle}
use Rattle.call_release.proofs.idle_from.Goals as goal

pub store_control-requires : goal.store_control-requires
store_control-requires c =
    storing-idle c.args.t.now c.args.p c.args.id c.load-c.result c.load-c.ensures c.requires.0 c.to_idle.result (c.to_idle.ensures ∙ ap (to_idle c.load-c.result) c.from-id.ensures)

pub returns-in-Some : goal.returns-in-Some
returns-in-Some c =
    idled c.args.t.now c.args.p c.args.id c.load-c.result c.load-c.ensures c.args.state c.in-Some.i _ (c.in-Some.ensures.is ∙ ap (slot_of c.load-c.result.invocations) c.from-id.ensures) refl c.if-c-i.true
    c.to_idle.result (c.to_idle.ensures ∙ ap (to_idle c.load-c.result) c.from-id.ensures) c.store_control.new.t c.store_control.ensures

pub returns-in_default : goal.returns-in_default
returns-in_default c =
    not-idled c.args.t.now c.args.p c.args.id c.load-c.result c.load-c.ensures c.args.state c.in-Some.i _ (c.in-Some.ensures.is ∙ ap (slot_of c.load-c.result.invocations) c.from-id.ensures) refl c.if-c-i.false

pub returns-in_default-2 : goal.returns-in_default-2
returns-in_default-2 c =
    let l : List Invocation = c.load-c.result.invocations in
    let z : (get_or l 8 no_invocation).state ≡ 0 = ap (λ (v : Invocation). v.state) (get_or-eq_default l no_invocation {n = 8} (omega (arith, c.in_default.ensures.eight))) in
    not-idled c.args.t.now c.args.p c.args.id c.load-c.result c.load-c.ensures c.args.state 8 _ (c.in_default.ensures.is ∙ ap (slot_of l) c.from-id.ensures) refl (λ q. omega (arith, c.requires.1, z, q))
