use Rattle.program_text.specs.Said.{Said}
use Rattle.program_listing.specs.Rows.{numbers}
use Rattle.program_listing.proofs.row.Given as goal

abbrev pub invariant-loop-i : goal.invariant-loop-i
invariant-loop-i l = Said l.initial.out l.at (numbers l.i l.place l.rows) l.k l.out
