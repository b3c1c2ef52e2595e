use Rattle.std.proofs.Common.{refl, arith}
use Rattle.laws.specs.If.{lt, ge, eq, ne}
use Rattle.reading_reader.specs.Read.{piece_of, piece_in}
use Rattle.reading_reader.specs.Steps.{of-component}
use Rattle.reading_reader.proofs.piece_in.Goals.{then-s-gt-LONGEST_MESSAGE-via-then-s-gt-LONGEST_MESSAGE, then-s-gt-LONGEST_MESSAGE-via-else-s-gt-LONGEST_MESSAGE+then-s-lim, then-s-gt-LONGEST_MESSAGE-via-else-s-gt-LONGEST_MESSAGE+else-s-lim+then-at-lim}
use Rattle.reading_reader.proofs.piece_in.Goals as goal

pub returns-then-s-gt-LONGEST_MESSAGE : goal.returns-then-s-gt-LONGEST_MESSAGE
unfolding piece_in
returns-then-s-gt-LONGEST_MESSAGE c =
    elim c.then-s-gt-LONGEST_MESSAGE.branch [
      | then-s-gt-LONGEST_MESSAGE-via-then-s-gt-LONGEST_MESSAGE w ↦ lt _ _ _ _ (omega arith) refl
      | then-s-gt-LONGEST_MESSAGE-via-else-s-gt-LONGEST_MESSAGE+then-s-lim w ↦ ge _ _ _ _ (omega arith) (lt _ _ _ _ (omega arith) refl)
      | then-s-gt-LONGEST_MESSAGE-via-else-s-gt-LONGEST_MESSAGE+else-s-lim+then-at-lim w ↦ ge _ _ _ _ (omega arith) (ge _ _ _ _ (omega arith) (ge _ _ _ _ (omega arith) refl))
    ]

pub returns-then-component-ne-NO_FAULT : goal.returns-then-component-ne-NO_FAULT
unfolding piece_of
returns-then-component-ne-NO_FAULT c =
    of-component _ _ _ _ _ (omega arith) (omega arith) (omega arith) c.component_at-component.ensures.is (ne _ _ _ _ (λ h. omega arith) refl)

pub returns : goal.returns
unfolding piece_of
returns c =
    of-component _ _ _ _ _ (omega arith) (omega arith) (omega arith) c.component_at-component.ensures.is (eq _ _ _ _ (omega arith) refl)
