use mathlib.Core.Path.{sym, ap, ◌∙◌}
use Rattle.paper.specs.Dialogues.{Place}
use Rattle.paper.specs.Calls.{place_at, with_place}
use Rattle.paper.specs.Layout.{encode, view}
use Rattle.call_send.specs.declared.Sending.{Sending}
use Rattle.call_send.specs.Sendings.{place_after, state_refusal, begin-sendable, continue-sendable}
use Rattle.call_send.proofs.leave.Goals as goal

pub leave_at-requires : goal.leave_at-requires
leave_at-requires c =
    let x : Place = place_at (view c.args.t.now) c.args.p in
    (c.requires.0, begin-sendable x _ c.requires.0.control (c.requires.1 ∙ ap (λ (s : Sending). state_refusal s x) c.in-ABegin.is))

pub leave_at-requires-in-AContinue : goal.leave_at-requires-in-AContinue
leave_at-requires-in-AContinue c =
    let x : Place = place_at (view c.args.t.now) c.args.p in
    (c.requires.0, continue-sendable x _ c.requires.0.control (c.requires.1 ∙ ap (λ (s : Sending). state_refusal s x) c.in-AContinue.is))

pub returns-in-ABegin : goal.returns-in-ABegin
returns-in-ABegin c =
    c.leave_at.ensures ∙ ap (λ (k : Sending). encode (with_place (view c.args.t.now) c.args.p (place_after k (place_at (view c.args.t.now) c.args.p) c.args.fits))) (sym c.in-ABegin.is)

pub returns-in-AContinue : goal.returns-in-AContinue
returns-in-AContinue c =
    c.leave_at-in-AContinue.ensures ∙ ap (λ (k : Sending). encode (with_place (view c.args.t.now) c.args.p (place_after k (place_at (view c.args.t.now) c.args.p) c.args.fits))) (sym c.in-AContinue.is)

pub returns-in-AnEnd : goal.returns-in-AnEnd
returns-in-AnEnd c =
    c.free_at.ensures ∙ ap (λ (k : Sending). encode (with_place (view c.args.t.now) c.args.p (place_after k (place_at (view c.args.t.now) c.args.p) c.args.fits))) (sym c.in-AnEnd.is)

pub returns-in-AUnidirectional : goal.returns-in-AUnidirectional
returns-in-AUnidirectional c =
    c.free_at-in-AUnidirectional.ensures ∙ ap (λ (k : Sending). encode (with_place (view c.args.t.now) c.args.p (place_after k (place_at (view c.args.t.now) c.args.p) c.args.fits))) (sym c.in-AUnidirectional.is)
