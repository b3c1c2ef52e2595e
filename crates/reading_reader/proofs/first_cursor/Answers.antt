use Rattle.std.proofs.Common.{refl, sym, ◌∙◌, arith, eqb-true}
use Rattle.std.proofs.lemmas.Bool.{eqb-false}
use Rattle.laws.specs.If.{lt, eq, ne}
use Rattle.reading_reader.specs.Read.{cursor_of, first_cursor}
use Rattle.reading_reader.specs.Steps.{of-message}
use Rattle.reading_reader.proofs.first_cursor.Goals.{then-is_empty-via-then-is_empty, then-is_empty-via-else-is_empty+then-s-gt-LONGEST_MESSAGE, then-m-via-then-m, then-m-via-else-m+then-m-eq0}
use Rattle.reading_reader.proofs.first_cursor.Goals as goal

pub returns-then-is_empty : goal.returns-then-is_empty
unfolding first_cursor
returns-then-is_empty c =
    elim c.then-is_empty.branch [
      | then-is_empty-via-then-is_empty w ↦ eq _ _ _ _ (eqb-true _ _ (sym c.is_empty.ensures ∙ w.if-is_empty.true)) refl
      | then-is_empty-via-else-is_empty+then-s-gt-LONGEST_MESSAGE w ↦ ne _ _ _ _ (eqb-false _ _ (sym c.is_empty.ensures ∙ w.if-is_empty.false)) (lt _ _ _ _ (omega arith) refl)
    ]

pub returns-then-m : goal.returns-then-m
unfolding cursor_of
returns-then-m c =
    of-message _ _ _ (eqb-false _ _ (sym c.is_empty.ensures ∙ c.if-is_empty.false)) (omega arith) c.message_of-m.ensures.is
    (elim c.then-m.branch [
      | then-m-via-then-m w ↦ ne _ _ _ _ (λ h. omega arith) refl
      | then-m-via-else-m+then-m-eq0 w ↦ eq _ _ _ _ (omega arith) (eq _ _ _ _ (omega arith) refl)
    ])

pub returns : goal.returns
unfolding cursor_of
returns c =
    of-message _ _ _ (eqb-false _ _ (sym c.is_empty.ensures ∙ c.if-is_empty.false)) (omega arith) c.message_of-m.ensures.is (eq _ _ _ _ (omega arith) (ne _ _ _ _ (λ h. omega arith) refl))
