-- A DIALOGUE PDU'S PIECES (02 a), read where they were written. Assumes nothing.
use Prim.Native.Nat.{ℕ, ◌+◌, ◌/◌, ◌%◌, ◌≤◌}
use Rattle.std.specs.Prelude.{◌≡◌, true, ◌⊎◌}
use mathlib.Core.List.{List, [], ◌∷◌}
use Rattle.std.proofs.Math.ListN.{length, get_or}
use Rattle.laws.specs.If.{if_eq}
use Rattle.paper.specs.declared.Pdu.{Pdu}
use Rattle.paper.specs.Dialogues.{is_name, is_information}
use Rattle.paper.specs.Portions.{Parts, Piece, piece_octets, pieces_octets, piece, run_in}

-- what is read so far, the runs by their octets
abbrev pub seen : List ℕ → Pdu → Parts
seen l w = record { name = run_in l w.name; information = run_in l w.information; result = w.result; diagnostic = w.diagnostic; source = w.source }

-- that, and a piece of p; no information changes nothing
abbrev pub informed : Parts → Parts → Parts
informed p q = record { name = q.name; information = p.information; result = q.result; diagnostic = q.diagnostic; source = q.source }

unfoldable pub taking : Piece → Parts → Parts → Parts
taking Piece.Version p q = q
taking Piece.Name p q = record { name = p.name; information = q.information; result = q.result; diagnostic = q.diagnostic; source = q.source }
taking Piece.Result p q = record { name = q.name; information = q.information; result = p.result; diagnostic = q.diagnostic; source = q.source }
taking Piece.Diagnostic p q = record { name = q.name; information = q.information; result = q.result; diagnostic = p.diagnostic; source = q.source }
taking Piece.Source p q = record { name = q.name; information = q.information; result = q.result; diagnostic = q.diagnostic; source = p.source }
taking Piece.Information p q = if_eq (length p.information) 0 q (informed p q)

-- A PIECE WELL FORMED: a diagnostic is the user's or the provider's
abbrev pub Formed : Piece → Parts → Type 0
Formed Piece.Version p = Unit
Formed Piece.Name p = is_name p.name ≡ true
Formed Piece.Result p = Unit
Formed Piece.Diagnostic p = (p.diagnostic / 256 ≡ 1) ⊎ (p.diagnostic / 256 ≡ 2)
Formed Piece.Source p = Unit
Formed Piece.Information p = is_information p.information ≡ true

-- AND READ AS ITSELF, before these octets: a name is there; the values that 004 names; an absent piece isn't what follows
abbrev pub Told : Piece → Parts → List ℕ → Type 0
Told Piece.Version p rest = get_or rest 0 0 ≡ 0x80 → ⊥
Told Piece.Name p rest = length p.name ≡ 0 → ⊥
Told Piece.Result p rest = p.result ≤ 1
Told Piece.Diagnostic p rest = p.diagnostic % 256 ≤ 2
Told Piece.Source p rest = p.source ≤ 1
Told Piece.Information p rest = length p.information ≡ 0 → get_or rest 0 0 ≡ 0xBE → ⊥

-- A PIECE READ: where the next one begins, and what is read so far
pub record Took (l : List ℕ) (e : ℕ) (w : Pdu) (k : Piece) (p : Parts) : Type 0 where
  pub at : w.at + length (piece_octets k p) ≡ (piece l e w k).at
  pub said : taking k p (seen l w) ≡ seen l (piece l e w k)

-- ALL THE PIECES, one after another
abbrev pub AllFormed : List Piece → Parts → Type 0
AllFormed [] p = Unit
AllFormed (k ∷ ks) p = Formed k p × AllFormed ks p

abbrev pub AllTold : List Piece → Parts → Type 0
AllTold [] p = Unit
AllTold (k ∷ ks) p = Told k p (pieces_octets ks p) × AllTold ks p

unfoldable pub taking_all : List Piece → Parts → Parts → Parts
taking_all [] p q = q
taking_all (k ∷ ks) p q = taking_all ks p (taking k p q)
