use Rattle.std.proofs.Common.{◌≡◌, ◌∙◌, sym, rules, length}
use borrow.Author.Tests.{tests}
use Rattle.std.specs.List.{list_all}
use Rattle.std.proofs.lemmas.Iterator.{YieldsList-from_slice}
use Rattle.std.proofs.lemmas.Iterator.Search.{all_from_yields_List}
use Rattle.paper.specs.Invocations.{is_idle}
use Rattle.dialogue_invocations.proofs.Laws.{none-open}
use Rattle.dialogue_invocations.proofs.all_idle.Goals as goal

pub returns : goal.returns
returns c =
    let e : c.all.result ≡ list_all is_idle c.args.l =
    all_from_yields_List is_idle _ _ c.all.result c.all.ensures.ran (YieldsList-from_slice c.args.l cc) (λ x b q k. search (rules, tests)) in
    let n : length c.args.l ≡ 8 = c.well_formed.0.1.0.1 in
    λ h id. none-open c.args.l (sym e ∙ h) id ∙ n
