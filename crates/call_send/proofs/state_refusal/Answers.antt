use mathlib.Core.Path.{sym, ap, ◌∙◌}
use Rattle.paper.specs.Dialogues.{Place}
use Rattle.paper.specs.Calls.{place_at}
use Rattle.paper.specs.Layout.{view}
use Rattle.call_send.specs.declared.Sending.{Sending}
use Rattle.call_send.specs.Sendings.{needs-open, needs-peer, state_refusal}
use Rattle.call_send.proofs.state_refusal.Goals as goal

pub returns-in-ABegin : goal.returns-in-ABegin
returns-in-ABegin c =
    let x : Place = place_at (view c.args.t.now) c.args.p in
    needs-open x c.args.c c.requires.control _ c.open_refusal.ensures ∙ ap (λ (k : Sending). state_refusal k x) (sym c.in-ABegin.is)

pub returns-in-AContinue : goal.returns-in-AContinue
returns-in-AContinue c =
    let x : Place = place_at (view c.args.t.now) c.args.p in
    needs-peer x c.args.c c.requires.control _ c.peer_refusal.ensures ∙ ap (λ (k : Sending). state_refusal k x) (sym c.in-AContinue.is)

pub returns-in-AnEnd : goal.returns-in-AnEnd
returns-in-AnEnd c =
    let x : Place = place_at (view c.args.t.now) c.args.p in
    needs-peer x c.args.c c.requires.control _ c.peer_refusal-in-AnEnd.ensures ∙ ap (λ (k : Sending). state_refusal k x) (sym c.in-AnEnd.is)

pub returns-in-AUnidirectional : goal.returns-in-AUnidirectional
returns-in-AUnidirectional c =
    c.uni_refusal.ensures ∙ ap (λ (k : Sending). state_refusal k (place_at (view c.args.t.now) c.args.p)) (sym c.in-AUnidirectional.is)
