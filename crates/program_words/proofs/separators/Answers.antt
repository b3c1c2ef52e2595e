use Rattle.std.proofs.Common.{rules, tests, ◌∙◌, eqb}
use Rattle.std.proofs.lemmas.Iterator.{YieldsList-from_slice}
use Rattle.std.proofs.lemmas.Iterator.Consumers.{YieldsList-from_filter, count_from_yields_List}
use Rattle.program_words.specs.Steps.{counted}
use Rattle.program_words.proofs.separators.Goals as goal

pub returns : goal.returns
returns c =
    count_from_yields_List c.filter.result _ c.count.ensures.ran
    (YieldsList-from_filter _ (λ y. eqb y c.args.separator) (YieldsList-from_slice c.args.line.now cc) c.filter.ensures.closure (λ x r q k. search (rules, tests)))
    ∙ counted c.args.separator c.args.line.now
