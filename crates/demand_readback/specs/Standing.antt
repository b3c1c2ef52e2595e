-- Octets that stand in a list; written elements read where they stand. Assumes nothing.
use Rattle.std.specs.Prelude.{ℕ, ◌+◌, ◌%◌, ◌<◌, ◌≤◌, ◌≡◌, List, length}
use Rattle.std.proofs.Math.ListN.{get_or}
use Rattle.std.specs.Prelude.{Ok}
use Rattle.paper.specs.Elements.{element}
use Rattle.paper.specs.Writing.{length_octets, tlv}

-- s has the octets vs from at on
pub record Has (s : List ℕ) (at : ℕ) (vs : List ℕ) : Type 0 where
  pub octet : (i : ℕ) → i < length vs → get_or s (at + i) 0 ≡ get_or vs i 0

-- a tag of one octet
abbrev pub ShortTag : ℕ → Type 0
ShortTag t = (t ≡ 0 → ⊥) × (t % 32 ≡ 31 → ⊥)

-- elements one after another, from a position up to e
pub data Parts (s : List ℕ) (d e : ℕ) : ℕ → Type 0 where
  done : {p : ℕ} → p ≡ e → Parts s d e p
  more : {p q : ℕ} → Ok q ≡ element s d e p → Parts s d e q → Parts s d e p

-- AN ELEMENT that was written, where it stands: its contents, n octets, begin at `begins at n` and end at `ends at n`
abbrev pub begins : ℕ → ℕ → ℕ
begins at n = at + 1 + length (length_octets n)

abbrev pub ends : ℕ → ℕ → ℕ
ends at n = begins at n + n

pub record Stands (s : List ℕ) (lim at t : ℕ) (c : List ℕ) : Type 0 where
  pub has : Has s at (tlv t c)
  pub short : ShortTag t
  pub fits : length c < 65536
  pub room : ends at (length c) ≤ lim
