use mathlib.Core.Path.{ap, ◌∙◌}
use mathlib.Core.List.{List}
use Prim.Native.Nat.{ℕ}
use Rattle.reading_portion.specs.Steps.{pdu_by, unstructured-octets}
use Rattle.reading_portion.proofs.unstructured.Goals as goal

pub returns : goal.returns
returns c =
    record { is = c.pdu_by.ensures.is ∙ ap (λ (v : List ℕ). pdu_by v c.args.tag c.args.l.now c.args.x) unstructured-octets; within = c.pdu_by.ensures.within }
