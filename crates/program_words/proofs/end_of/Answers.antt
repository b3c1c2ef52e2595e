use Rattle.std.proofs.Common.{arith, rules, tests, ap, ◌∙◌, ℕ, List, length, ◌-◌, drop, length-drop, take_all, take, ◌≡◌, eqb}
use Rattle.std.proofs.lemmas.Iterator.{YieldsList-from_slice}
use Rattle.std.proofs.lemmas.Iterator.Search.{position_from_yields_List}
use Rattle.program_words.specs.Words.{up_to}
use Rattle.program_words.specs.Steps.{sought, up-to-short}
use Rattle.program_words.proofs.end_of.Goals as goal

pub returns : goal.returns
returns c =
    let all : take (length c.args.line.now - c.args.from) (drop c.args.from c.args.line.now) ≡ drop c.args.from c.args.line.now = take_all _ _ (omega (arith, length-drop c.args.from c.args.line.now)) in
    let found = sought c.args.separator (take (length c.args.line.now - c.args.from) (drop c.args.from c.args.line.now)) {o = c.position.result} {r = c.unwrap_or.result}
    (position_from_yields_List (λ y. eqb y c.args.separator) _ _ c.position.result c.position.ensures.ran (YieldsList-from_slice _ c.iter.ensures.rest) (λ x b q k. search (rules, tests)))
    c.unwrap_or.ensures in
    let end : c.unwrap_or.result ≡ length (up_to c.args.separator (drop c.args.from c.args.line.now)) = found ∙ ap (λ (t : List ℕ). length (up_to c.args.separator t)) all in
    (omega arith, omega (arith, up-to-short c.args.separator (drop c.args.from c.args.line.now), length-drop c.args.from c.args.line.now))
