use Rattle.std.proofs.Common.{◌∙◌, sym, ap, subst, arith}
use Rattle.reading_reader.specs.Read.{piece_at}
use Rattle.reading_reader.specs.Whole.{PieceFits, piece-fits}
use Rattle.reading_reader.proofs.piece_at.Goals as goal

pub returns-clause-fits : goal.returns-clause-fits
returns-clause-fits c =
    let s = c.args.s.now in
    subst (PieceFits c.args.cursor) (sym (c.piece_in.ensures ∙ ap (piece_at s) (sym (c.in_ok-k.was)))) (piece-fits s (λ i. omega (arith, c.type_inv.s i)) c.args.cursor)
