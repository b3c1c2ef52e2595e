use Rattle.call_entry.specs.Ends.{one-row, dialogue-entry, dialogue-no, dialogue-done}
use Rattle.call_entry.specs.Replies.{with_rows}
use Rattle.paper.specs.Layout.{view}
use Rattle.paper.specs.Calls.{place_at}
use Rattle.paper.specs.Dialogues.Request.{NoReaction}
use Rattle.paper.specs.Dialogues.{freed, refusal, does, needs_sent}
use Rattle.paper.specs.Kinds.{row_abort}
use Rattle.paper.specs.Rows.{dialogue_row, row_octets}
use Rattle.paper.specs.Messages.{no_run}
use Rattle.paper.specs.Problems.{no_problem}
use Rattle.paper.specs.declared.Row.{Row}
use Rattle.paper.specs.declared.Control.{Control}
use Rattle.laws.specs.If.{eq, ne}
use lib.Seq.{sets}
use native.Mathlib.Omega.{arith}
use mathlib.Core.List.{[], ◌∷◌}
use mathlib.Core.Path.{refl, sym, ap, ◌∙◌}
use Rattle.call_release.proofs.try_no_reaction.Goals as goal

pub returns-in_err-p : goal.returns-in_err-p
returns-in_err-p c =
    dialogue-entry (with_rows c.args.table.now c.args.rows.now) c.args.service c.args.dialogue NoReaction
    c.from_residual.result c.in_err-p.field-0.0 c.from_residual.ensures.1 c.in_err-p.ensures.is

pub load-c-requires : goal.load-c-requires
load-c-requires c =
    let u = c.in_ok-p.ensures.inside.used in
    (u.small, u.ready.long)

pub returns-then-state-ne-DIALOGUE_SENT : goal.returns-then-state-ne-DIALOGUE_SENT
unfolding refusal needs_sent
returns-then-state-ne-DIALOGUE_SENT c =
    dialogue-no (with_rows c.args.table.now c.args.rows.now) c.args.service c.args.dialogue NoReaction
    c.in_ok-p.p c.in_ok-p.ensures.inside 6 (ne _ _ _ _ (λ q. c.if-state-ne-DIALOGUE_SENT.true (ap (λ (k : Control). k.state) c.load-c.ensures ∙ q)) refl) (omega arith) refl

pub free_at-requires : goal.free_at-requires
free_at-requires c =
    let u = c.in_ok-p.ensures.inside.used in
    (u.ready, u.small, u.told)

pub write_row-requires : goal.write_row-requires
write_row-requires c =
    omega (arith, c.in_ok-p.ensures.inside.within.long.0)

pub returns : goal.returns
unfolding refusal does needs_sent
returns c =
    let w : Row = dialogue_row row_abort c.args.dialogue no_problem no_run 0 in
    dialogue-done (with_rows c.args.table.now c.args.rows.now) c.args.service c.args.dialogue NoReaction
    c.in_ok-p.p c.in_ok-p.ensures.inside (freed (place_at (view c.args.table.now) c.in_ok-p.p)) (w ∷ []) []
    (eq _ _ _ _ (ap (λ (k : Control). k.state) (sym c.load-c.ensures) ∙ c.if-state-ne-DIALOGUE_SENT.false) refl) refl refl c.free_at.ensures
    (c.write_row.ensures.is ∙ ap (λ (r : Row). sets c.args.rows.now 0 (row_octets r)) c.dialogue_row-row.ensures ∙ one-row c.args.rows.now w) refl
