use Rattle.std.proofs.Common.{ℕ, ◌≡◌, ◌%◌, ◌<◌, take, get_or, ap, ◌∙◌, arith, length-take}
use lib.Seq.{get_or-take}
use Rattle.paper.specs.declared.Reject.{Reject}
use Rattle.paper.specs.Dialogues.{no_reject}
use Rattle.table_places.specs.Made.{made_reject}
use Rattle.table_places.proofs.Writing.{made_none, made_more, made_all}
use Rattle.table_places.proofs.reject_octets.Goals as goal

pub loop-i-init : goal.loop-i-init
loop-i-init c = made_none (λ r. r.id % 256) made_reject no_reject 8 _

pub loop-i-preserved : goal.loop-i-preserved
loop-i-preserved c =
    let n : ℕ = c.from.result in
    let long = length-take n c.args.l in
    let h : c.loop-i.i < n = omega (arith, long) in
    let e : get_or (take n c.args.l) c.loop-i.i no_reject ≡ get_or c.args.l c.loop-i.i no_reject = get_or-take n c.args.l c.loop-i.i no_reject h in
    made_more _ _ _ _ _ c.loop-i.invariant (omega arith) (c.low.ensures ∙ ap (λ (r : Reject). r.id % 256) e) (c.reject_mark.ensures ∙ ap made_reject e)

pub returns : goal.returns
returns c =
    let long = length-take c.from.result c.args.l in
    made_all _ _ _ _ _ c.loop-i.invariant (λ j h k. c.requires.1.rest j (omega (arith, long)) (omega arith))
