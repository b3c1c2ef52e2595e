-- What a call gives for the octet of a signed ID. Assumes nothing.
use mathlib.Core.Path.{◌≡◌, ap, subst, ◌∙◌}
use Prim.Native.Nat.{ℕ}
use lib.IntN.{ℤ}
use mir.Syntax.{w8}
use mir.Val.{SFits, to_z, of_z}
use mir.Facts.{to_z-of_z}
use Rattle.paper.specs.Sizes.{octet_of}
use Rattle.paper.specs.Calls.{Call}
use Rattle.paper.specs.Outcome.{Lent, Gives, outcome}

pub of-octet : {m : Lent} {a r n d x : ℕ} (l : Lent) (f : ℕ → Call) (id : ℤ) → SFits w8 id → x ≡ octet_of (to_z w8 (of_z w8 id))
    → Gives (outcome l (f x)) a r n d m → Gives (outcome l (f (octet_of id))) a r n d m
of-octet {m} {a} {r} {n} {d} l f id fits e g = subst (λ (z : ℕ). Gives (outcome l (f z)) a r n d m) (e ∙ ap octet_of (to_z-of_z fits)) g
