-- THE PORTION THAT A SENDING WRITES (02 a), where it isn't refused: it fits, and is read as the name and information given. Assumes nothing.
use Rattle.std.specs.Prelude.{◌≡◌, true, List, ℕ, ◌≤◌, length}
use Rattle.std.proofs.Common.{arith}
use Rattle.paper.specs.Sizes.{most_waiting}
use Rattle.paper.specs.Portions.{Form, aarq, aare, audt, portion_by, spoken_in, spoken_by}
use Rattle.paper.specs.Dialogues.{Place, is_name, is_information, is_portion, portion_refusal}
use Rattle.demand_readback.proofs.Spoken.{ours-aarq, ours-aare, ours-audt, portion-formed, aarq-spoken, aare-spoken, audt-spoken}
use Rattle.demand_kept.proofs.Portions.{portion-told, named}
use Rattle.demand_ledger.specs.Portions.{Given}

-- of a form whose portions are so read
module _ (x : Place) (f : Form) (name info : List ℕ) where
  abbrev Fits : Type 0
  Fits = length (portion_by f name info) ≤ most_waiting

  abbrev Named : Type 0
  Named = length name ≡ 0 → length info ≡ 0

  given : (is_name name ≡ true → is_information info ≡ true → Fits → is_portion (portion_by f name info) ≡ true)
      → (is_name name ≡ true → is_information info ≡ true → Named → Fits → spoken_in (portion_by f name info) ≡ spoken_by f name info)
      → portion_refusal x f name info ≡ 0 → Given x f name info
  given formed spoken e =
      let (n, i, room, placed) = portion-told x f name info e in
      record {
        formed = formed n i (omega arith);
        says = spoken n i (named x.control.state name info placed) (omega arith);
        room = omega arith;
      }

module _ (x : Place) (name info : List ℕ) where
  pub aarq-given : portion_refusal x aarq name info ≡ 0 → Given x aarq name info
  aarq-given = given x aarq name info (portion-formed ours-aarq name info) (aarq-spoken name info)

  pub aare-given : portion_refusal x aare name info ≡ 0 → Given x aare name info
  aare-given = given x aare name info (portion-formed ours-aare name info) (aare-spoken name info)

  pub audt-given : portion_refusal x audt name info ≡ 0 → Given x audt name info
  audt-given = given x audt name info (portion-formed ours-audt name info) (audt-spoken name info)
