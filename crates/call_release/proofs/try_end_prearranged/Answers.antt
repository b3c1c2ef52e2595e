use Rattle.call_entry.specs.Ends.{dialogue-entry, dialogue-changed}
use Rattle.call_entry.specs.Replies.{only}
use Rattle.paper.specs.Layout.{view}
use Rattle.paper.specs.Calls.{place_at}
use Rattle.paper.specs.Dialogues.Request.{Prearranged}
use Rattle.paper.specs.Dialogues.{freed, refusal, does}
use native.Mathlib.Omega.{arith}
use mathlib.Core.Path.{refl}
use Rattle.call_release.proofs.try_end_prearranged.Goals as goal

pub returns-in_err-place : goal.returns-in_err-place
returns-in_err-place c =
    dialogue-entry (only c.args.table.now) c.args.service c.args.dialogue Prearranged c.from_residual.result c.in_err-place.field-0.0 c.from_residual.ensures.1 c.in_err-place.ensures.is

pub free_at-requires : goal.free_at-requires
free_at-requires c =
    let u = c.in_ok-place.ensures.inside.used in
    (u.ready, u.small, u.told)

pub returns : goal.returns
unfolding refusal does
returns c =
    dialogue-changed (only c.args.table.now) c.args.service c.args.dialogue Prearranged c.in_ok-place.place c.in_ok-place.ensures.inside
    (freed (place_at (view c.args.table.now) c.in_ok-place.place)) refl refl refl c.free_at.ensures
