-- Elements that were written one in another, up to one end. Assumes nothing.
use Rattle.std.specs.Prelude.{ℕ, ◌+◌, ◌<◌, ◌≤◌, ◌≡◌, length}
use mathlib.Core.List.{List}
use Rattle.paper.specs.declared.Frame.{Frame}
use Rattle.demand_readback.specs.Standing.{Has}

-- OCTETS THAT STAND IN l UP TO e
pub record Upto (l : List ℕ) (e at : ℕ) (vs : List ℕ) : Type 0 where
  pub has : Has l at vs
  pub whole : at + length vs ≡ e
  pub inside : e ≤ length l
  pub few : length l < 65536

-- the frame of a written constructor
abbrev pub around : ℕ → ℕ → Frame
around b e = record { from = b; to = e; stop = e }
