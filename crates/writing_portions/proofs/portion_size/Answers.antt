use mathlib.Core.Path.{ap, ◌∙◌}
use native.Mathlib.Omega.{arith}
use Rattle.writing_portions.specs.Forms.{around_size}
use Rattle.writing_portions.specs.Spans.{absent-size, present-size}
use Rattle.paper.specs.Refusals.{pdu_number}
use Rattle.writing_portions.proofs.portion_size.Goals as goal

pub returns-then-name-information-eq0 : goal.returns-then-name-information-eq0
returns-then-name-information-eq0 c =
    record { is = absent-size (pdu_number c.args.kind) c.args.name c.args.information c.if-name-information-eq0.true; within = omega arith }

pub returns : goal.returns
returns c =
    let n = c.around_size.ensures.is ∙ ap around_size c.pdu_size-n.ensures.is in
    record { is = n ∙ present-size (pdu_number c.args.kind) c.args.name c.args.information c.if-name-information-eq0.false; within = omega arith }
