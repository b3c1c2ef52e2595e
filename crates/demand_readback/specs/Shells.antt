-- THE ELEMENTS AROUND A DIALOGUE PDU (02 a), read where they were written. Assumes nothing.
use Rattle.std.specs.Prelude.{ℕ, ◌≡◌, List, ◌++◌}
use Rattle.paper.specs.Elements.{constructor}
use Rattle.paper.specs.Writing.{tlv}
use Rattle.demand_readback.specs.Standing.{ShortTag}

-- THE SHELL: object identifier and A0, in the A0 the PDU
abbrev pub core : List ℕ → ℕ → List ℕ → List ℕ
core id tag c = tlv 6 id ++ tlv 0xA0 (tlv tag c)

-- a PDU's tag
abbrev pub Holding : ℕ → Type 0
Holding t = ShortTag t × (constructor t ≡ 1)
