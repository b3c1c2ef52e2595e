use mathlib.Core.Path.{ap, ◌∙◌}
use native.Mathlib.Omega.{arith}
use Rattle.paper.specs.Writing.{tlv}
use Rattle.paper.specs.Portions.{structured, unstructured}
use Rattle.paper.specs.Refusals.{pdu_number}
use Rattle.std.proofs.Common.{inl, inr}
use Rattle.writing_octets.specs.Lengths.{id-of}
use Rattle.writing_portions.specs.Forms.{for-audt, for-dialogue}
use Rattle.writing_portions.proofs.identifier.Goals as goal

pub returns-in-Unidirectional : goal.returns-in-Unidirectional
returns-in-Unidirectional c =
    id-of 6 unstructured (omega arith) ∙ ap (tlv 6) (for-audt (pdu_number c.args.kind) (ap pdu_number c.in-Unidirectional.is))

pub returns-in-Request : goal.returns-in-Request
returns-in-Request c =
    id-of 6 structured (omega arith)
    ∙ ap (tlv 6)
    (for-dialogue (pdu_number c.args.kind)
    (λ z. elim c.in-Request.is [
      | inl e ↦ omega (arith, z, ap pdu_number e)
      | inr f ↦ elim f [ inl e ↦ omega (arith, z, ap pdu_number e) | inr e ↦ omega (arith, z, ap pdu_number e) ]
    ]))
