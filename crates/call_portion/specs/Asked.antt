-- A portion asked for: refused, or one row. Assumes nothing.
use Rattle.std.specs.Prelude.{◌≡◌, List, [], ℕ, ◌<◌, ◌≤◌, length}
use Rattle.std.proofs.Math.Path.{refl, ap}
use Rattle.std.proofs.Common.{sym, ◌∙◌}
use Rattle.std.proofs.Math.Seq.{sets}
use Rattle.laws.specs.If.{lt, ge}
use Rattle.paper.specs.declared.Portion.{Portion}
use Rattle.paper.specs.declared.Row.{Row}
use Rattle.paper.specs.Sizes.{least_rows}
use Rattle.paper.specs.Portions.{portion_row, portion_at}
use Rattle.paper.specs.Rows.{row_octets}
use Rattle.paper.specs.Outcome.{Lent, Outcome, portion_outcome}
use Rattle.call_entry.specs.declared.Reply.{Reply}
use Rattle.call_entry.specs.Replies.{reply, Told, told}

-- what is lent where a call takes a row space alone
abbrev pub only_rows : List ℕ → Lent
only_rows rows = record { table = []; rows = rows; space = [] }

abbrev asked : List ℕ → Outcome
asked rows = record { answer = 0; rows = 1; length = 0; dialogue = 0; lent = only_rows rows }

module _ (rows s : List ℕ) (start len : ℕ) {r : Reply} where
  pub too_few : length rows < least_rows → r ≡ reply 1 0 0 0 → Told (portion_outcome rows s start len) r (only_rows rows)
  unfolding portion_outcome
  too_few h d = told (sym (lt _ _ _ _ h refl)) d refl

  pub one-row : (p : Portion) (w : Row) (after : List ℕ) → least_rows ≤ length rows → p ≡ portion_at s start len → w ≡ portion_row p → after ≡ sets rows 0 (row_octets w)
      → r ≡ reply 0 1 0 0 → Told (portion_outcome rows s start len) r (only_rows after)
  unfolding portion_outcome
  one-row p w after h is row held d =
      told (sym (ge _ _ _ _ h refl)) d
      (ap only_rows (held ∙ ap (λ (w : Row). sets rows 0 (row_octets w)) (row ∙ ap portion_row is)))
