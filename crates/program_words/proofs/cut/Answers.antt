use Rattle.std.proofs.Common.{ap, ◌∙◌, refl, Bor, List, ℕ}
use Rattle.program_words.specs.Steps.{cut_is}
use Rattle.program_words.proofs.cut.Goals as goal

pub returns : goal.returns
returns c =
    ap (λ (b : Bor (List ℕ)). b.now) c.unwrap_or.ensures ∙ cut_is c.args.f c.args.line.now c.get.result _ c.get.ensures.lookup refl
