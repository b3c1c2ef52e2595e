use mathlib.Core.Path.{ap, ◌∙◌}
use native.Mathlib.Omega.{arith}
use lib.ListN.{length}
use Rattle.paper.specs.declared.Control.{Control}
use Rattle.paper.specs.Dialogues.{Place, waiting_rejects}
use Rattle.paper.specs.Calls.{place_at}
use Rattle.paper.specs.Layout.{view}
use Rattle.call_send_parts.specs.Sent.{holds-fine, fits-is, fits_not}
use Rattle.call_send_parts.proofs.sent_of.Goals as goal

pub rejects_size-r-requires : goal.rejects_size-r-requires
rejects_size-r-requires c =
    holds-fine c.requires.0

pub returns-then-q-w-le-MOST_WAITING : goal.returns-then-q-w-le-MOST_WAITING
returns-then-q-w-le-MOST_WAITING c =
    let x : Place = place_at (view c.args.t.now) c.args.p in
    fits-is x c.args.q c.waiting_length-w.result c.rejects_size-r.result c.waiting_length-w.ensures.0
    (c.rejects_size-r.ensures.is ∙ ap (λ (k : Control). length (waiting_rejects k)) c.requires.0.control) (omega arith)

pub returns-else-q-w-le-MOST_WAITING : goal.returns-else-q-w-le-MOST_WAITING
returns-else-q-w-le-MOST_WAITING c =
    let x : Place = place_at (view c.args.t.now) c.args.p in
    fits_not x c.args.q c.waiting_length-w.result c.rejects_size-r.result c.waiting_length-w.ensures.0
    (c.rejects_size-r.ensures.is ∙ ap (λ (k : Control). length (waiting_rejects k)) c.requires.0.control) (omega arith) (omega arith)
