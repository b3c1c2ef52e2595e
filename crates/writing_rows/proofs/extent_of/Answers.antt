use Rattle.std.proofs.Common.{ℕ, ◌≡◌, ◌-◌, refl, sym, ◌∙◌, arith}
use Rattle.laws.specs.If.{if_lt, by-lt}
use Rattle.paper.specs.Rows.{extent_of}
use Rattle.writing_rows.proofs.extent_of.Goals as goal

gap : (at x : ℕ) → x - at ≡ if_lt at x (x - at) 0
gap at x = by-lt {r = if_lt at x (x - at) 0} at x (x - at) 0 refl (λ h e. sym e) (λ h e. omega (arith, e))

pub returns : goal.returns
unfolding extent_of
returns c = c.saturating_sub.ensures ∙ gap c.args.at c.args.x
