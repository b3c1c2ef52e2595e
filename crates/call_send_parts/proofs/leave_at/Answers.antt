use mathlib.Core.Path.{sym, ap, subst, ◌∙◌}
use mathlib.Core.List.{List, []}
use Prim.Native.Nat.{ℕ}
use Rattle.paper.specs.declared.Control.{Control}
use Rattle.paper.specs.Dialogues.{Place}
use Rattle.paper.specs.Calls.{with_place}
use Rattle.paper.specs.Layout.{encode, view}
use Rattle.table_places.specs.Storing.{Storing, with_waiting}
use Rattle.call_send_parts.specs.Sent.{after-storing, after_is}
use Rattle.call_send_parts.proofs.leave_at.Goals as goal

pub sent_at-requires : goal.sent_at-requires
sent_at-requires c =
    subst (Storing 0 c.args.t.now c.args.p) (sym c.control_after-d.ensures)
    (after-storing c.args.t.now c.args.p c.args.c c.requires.0 c.args.state c.args.fits c.requires.1)

pub returns : goal.returns
returns c =
    let t : List ℕ = c.args.t.now in
    c.sent_at.ensures
    ∙ ap (λ (d : Control). encode (with_place (view t) c.args.p (with_waiting d []))) c.control_after-d.ensures
    ∙ ap (λ (x : Place). encode (with_place (view t) c.args.p x)) (after_is t c.args.p c.args.c c.requires.0 c.args.state c.args.fits)
