-- A component's pieces, read where they were written. Assumes nothing.
use Prim.Native.Nat.{ℕ, ◌+◌}
use Rattle.std.specs.Prelude.{◌≡◌, true, List, ◌++◌}
use Rattle.std.proofs.Math.ListN.{length}
use Rattle.paper.specs.declared.Component.{Component}
use Rattle.paper.specs.Elements.{constructor, is_element}
use Rattle.paper.specs.Components.{known_tag, pieces}
use Rattle.demand_readback.specs.Standing.{Has, ShortTag, Parts}
use Rattle.demand_readback.specs.Given.{Code}

-- AN OPERATION OR ERROR, AND A PARAMETER OR NONE: they stand from p to e, with d depths left
pub record Both (s : List ℕ) (p e d : ℕ) (op par : List ℕ) : Type 0 where
  pub has : Has s p (op ++ par)
  pub whole : p + length op + length par ≡ e
  pub code : Code op
  pub deep : d ≡ 0 → ⊥
  pub formed : (length par ≡ 0 → ⊥) → is_element d par ≡ true

-- octets from b to e that are elements, and as the pieces of a component with tag t are read as x
pub record Reads (s : List ℕ) (t b e : ℕ) (x : Component) : Type 0 where
  pub parts : Parts s 15 e b
  pub is : x ≡ pieces s t e e b

-- a component's tag
abbrev pub Tagged : ℕ → Type 0
Tagged t = ShortTag t × (constructor t ≡ 1) × (known_tag t ≡ true)
