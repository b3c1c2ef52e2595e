use Rattle.std.proofs.Common.{◌≡◌, ◌∙◌, sym, rules, not, eqb}
use borrow.Author.Tests.{tests}
use Rattle.std.specs.List.{list_all}
use Rattle.std.proofs.lemmas.Iterator.{YieldsList-from_slice}
use Rattle.std.proofs.lemmas.Iterator.Search.{all_from_yields_List}
use Rattle.paper.specs.declared.Invocation.{Invocation}
use Rattle.paper.specs.Invocations.{rejecting}
use Rattle.dialogue_invocations.proofs.Laws.{none-rejecting}
use Rattle.dialogue_invocations.proofs.none_rejecting.Goals as goal

pub returns : goal.returns
returns c =
    let e : c.all.result ≡ list_all (λ (v : Invocation). not (eqb v.state rejecting)) c.args.l =
    all_from_yields_List (λ (v : Invocation). not (eqb v.state rejecting)) _ _ c.all.result c.all.ensures.ran (YieldsList-from_slice c.args.l cc) (λ x b q k. search (rules, tests)) in
    λ h. none-rejecting c.args.l (sym e ∙ h)
