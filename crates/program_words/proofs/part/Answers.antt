use mathlib.Core.Path.{◌∙◌, ap}
use Rattle.program_words.specs.Words.{cut_of}
use Rattle.program_words.specs.Steps.{word_cut}
use Rattle.program_words.specs.declared.Field.{Field}
use Rattle.program_words.proofs.part.Goals as goal

pub returns : goal.returns
returns c =
    c.cut.ensures ∙ ap (λ (f : Field). cut_of f c.args.line.now) c.nth.ensures ∙ word_cut c.args.separator c.args.k c.args.line.now
