-- A PLACE AND ITS OCTETS: each is had back from the other. Assumes nothing.
use Rattle.std.specs.Prelude.{replicate}
use mathlib.Core.List.{List}
use Prim.Native.Nat.{ℕ, ◌+◌, ◌*◌, ◌<◌}
use Rattle.std.proofs.Math.ListN.{take}
use Rattle.laws.specs.Fields.{laid_out, offset}
use Rattle.paper.specs.declared.Reject.{Reject}
use Rattle.paper.specs.declared.Control.{Control}
use Rattle.paper.specs.Problems.{kind_of, code_of}
use Rattle.paper.specs.Dialogues.{Place}
use Rattle.paper.specs.Layout.{place_fields, waiting_field, place_size, waiting_start, fields_of_table}

-- ---- a reject's ID goes into nine bits, its problem into seven
abbrev pub SmallReject : Reject → Type 0
SmallReject r = (r.id < 512) × (kind_of r.problem < 16) × (code_of r.problem < 8)

-- all but the last: a control record, and how many octets wait
abbrev pub before_waiting : Place → List ℕ
before_waiting x = laid_out (take waiting_field place_fields) x

abbrev pub control_octets : Control → ℕ → List ℕ
control_octets c n = before_waiting (record { control = c; waiting = replicate n 0 })

-- where the waiting octets of place p begin in the table
abbrev pub waiting_from : ℕ → ℕ
waiting_from p = offset fields_of_table 3 + waiting_start + p * place_size
