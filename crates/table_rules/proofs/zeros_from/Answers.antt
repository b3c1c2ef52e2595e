use Rattle.std.proofs.Common.{◌≡◌, ap, ◌∙◌, rules, bit_or, eqb, take, drop, take_all, length-drop, ◌-◌, ℕ, arith}
use borrow.Author.Tests.{tests}
use Rattle.std.proofs.lemmas.Iterator.{YieldsList-from_slice}
use Rattle.std.proofs.lemmas.Iterator.Consumers.{fold_from_yields_List}
use Rattle.std.specs.List.{fold}
use Rattle.laws.specs.Lists.{zeros}
use Rattle.paper.specs.Layout.{place_size}
use Rattle.table_rules.proofs.Laws.{zeros-or}
use Rattle.table_rules.proofs.zeros_from.Goals as goal

pub returns : goal.returns
returns c =
    let e : c.fold.result ≡ fold bit_or 0 (take (place_size - c.args.k) (drop c.args.k c.args.rec.now)) =
    fold_from_yields_List _ bit_or 0 c.fold.result c.fold.ensures.ran (YieldsList-from_slice (take (place_size - c.args.k) (drop c.args.k c.args.rec.now)) (cc)) (λ a x b q k. search (rules, tests)) in
    ap (λ (n : ℕ). eqb n 0) e ∙ zeros-or (take (place_size - c.args.k) (drop c.args.k c.args.rec.now)) ∙ ap zeros (take_all (place_size - c.args.k) (drop c.args.k c.args.rec.now) (omega (arith, length-drop c.args.k c.args.rec.now)))
