use Rattle.table_rules.proofs.Laws.{none-waiting, words-zero}
use Rattle.paper.specs.Sizes.{most_rejects}
use Rattle.paper.specs.Layout.{first_reject}
use Rattle.paper.specs.Rules.{rejects_kept}
use Rattle.table_rules.specs.Kinds.{rejects_from}
use Prim.Native.Nat.{ℕ}
use mathlib.Core.List.{List}
use mathlib.Core.Path.{sym, ap, ◌∙◌}
use Rattle.table_rules.proofs.rejects_kept.Goals as goal

pub returns-then-word-eq0-2 : goal.returns-then-word-eq0-2
returns-then-word-eq0-2 c =
    let s : List ℕ = c.args.rec.now in
    none-waiting s most_rejects first_reject (λ i h. words-zero s first_reject (sym c.word.ensures ∙ c.if-word-eq0.true) (sym c.word-then-word-eq0.ensures ∙ c.if-word-eq0-2.true) i h)
    ∙ ap (λ (k : ℕ). rejects_kept k (rejects_from 0 s)) (sym c.if-n-eq0.true)
