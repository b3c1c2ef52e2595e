use Rattle.std.proofs.Common.{refl, [], ◌∷◌, ◌≡◌, true, false}
use Rattle.laws.specs.If.{yes, no}
use Rattle.program_words.specs.Words.{same, cut_of, or_none, with_or_none}
use Rattle.program_words.specs.Steps.{same_is}
use Rattle.program_words.proofs.octets_or_none.Goals as goal

pub returns-then-eq : goal.returns-then-eq
unfolding or_none with_or_none
returns-then-eq c =
    let e : same (cut_of c.args.f c.args.line.now) (45 ∷ []) ≡ true = cc (same_is c.cut.result.now c.as_slice.result.now) in
    (yes _ _ _ e refl, yes _ _ _ e refl)

pub returns : goal.returns
unfolding or_none with_or_none
returns c =
    let e : same (cut_of c.args.f c.args.line.now) (45 ∷ []) ≡ false = cc (same_is c.cut.result.now c.as_slice.result.now) in
    (no _ _ _ e c.octets.ensures.0, no _ _ _ e c.octets.ensures.1)
