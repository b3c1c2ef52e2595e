use mathlib.Core.Path.{refl, sym, ap, ◌∙◌}
use native.Mathlib.Omega.{arith}
use Rattle.laws.specs.If.{lt}
use Rattle.writing_portions.specs.Spans.{portion-length, name-over, information-over}
use Rattle.paper.specs.Refusals.{pdu_number}
use Rattle.writing_portions.specs.Forms.{not-four}
use Rattle.call_given.specs.Pieces.{over_by}
use Rattle.call_given.proofs.overfull_by.Goals.{then-given-gt-MOST_WAITING-via-then-given-gt-MOST_WAITING, then-given-gt-MOST_WAITING-via-else-given-gt-MOST_WAITING+then-given-gt-MOST_WAITING-2}
use Rattle.call_given.proofs.overfull_by.Goals as goal

pub returns-then-given-gt-MOST_WAITING : goal.returns-then-given-gt-MOST_WAITING
returns-then-given-gt-MOST_WAITING c = elim c.then-given-gt-MOST_WAITING.branch [
  | then-given-gt-MOST_WAITING-via-then-given-gt-MOST_WAITING w ↦
      lt _ _ _ _ (omega (arith, name-over (pdu_number c.args.kind) c.args.given.name.now c.args.given.information.now (not-four c.args.kind c.requires.1) w.if-given-gt-MOST_WAITING.true)) refl
  | then-given-gt-MOST_WAITING-via-else-given-gt-MOST_WAITING+then-given-gt-MOST_WAITING-2 w ↦
      lt _ _ _ _ (omega (arith, information-over (pdu_number c.args.kind) c.args.given.name.now c.args.given.information.now w.if-given-gt-MOST_WAITING-2.true)) refl
]

pub returns : goal.returns
returns c =
    c.over_by.ensures ∙ ap (over_by c.args.n) (c.portion_size-size.ensures.is ∙ sym (portion-length (pdu_number c.args.kind) c.args.given.name.now c.args.given.information.now))
