use Rattle.reading_reader.proofs.ReaderIterator.next.Goals as goal

pub returns-clause-goes : goal.returns-clause-goes
returns-clause-goes c =
    record { on = λ f. (tt, tt, (c.piece_at.ensures.fits.lies c.in_ok-p.p c.in_ok-p.was).down); keeps = tt; rests = λ f. tt }
