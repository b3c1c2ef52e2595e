use Rattle.std.proofs.Common.{◌≡◌, ◌∙◌, ap, ℕ, rules, length, Option, unwrap_or, arith}
use borrow.Author.Tests.{tests}
use Rattle.std.specs.List.{position}
use Rattle.std.proofs.lemmas.Iterator.{YieldsList-from_slice}
use Rattle.std.proofs.lemmas.Iterator.Search.{position_from_yields_List}
use Rattle.paper.specs.Invocations.{is_idle, idle_slot}
use Rattle.dialogue_invocations.proofs.Laws.{first-position}
use Rattle.dialogue_invocations.proofs.idle_slot.Goals as goal

pub returns-clause-is : goal.returns-clause-is
unfolding idle_slot
returns-clause-is c =
    let e : c.position.result ≡ position is_idle c.args.l =
    position_from_yields_List is_idle _ _ c.position.result c.position.ensures.ran (YieldsList-from_slice c.args.l cc) (λ x b q k. search (rules, tests)) in
    let n : 8 ≡ length c.args.l = omega (arith, c.well_formed.0.1.0.1) in
    ap (λ (r : Option ℕ). unwrap_or r 8) e ∙ ap (unwrap_or (position is_idle c.args.l)) n ∙ first-position is_idle c.args.l
