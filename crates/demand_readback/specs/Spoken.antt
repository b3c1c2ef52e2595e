-- A DIALOGUE PORTION THAT WAS WRITTEN IS READ BACK as what was put in (02 a). Assumes nothing.
use Rattle.std.specs.Prelude.{◌≡◌, List, [], ℕ, length}
use Rattle.paper.specs.Portions.{no_value, Parts, plain}

-- THE PARTS THAT A FORM SHOWS: name and information; result and diagnostic too; information and source
abbrev pub addressed : Parts → Parts
addressed p = plain p.name p.information

abbrev pub answered : Parts → Parts
answered p = record { name = p.name; information = p.information; result = p.result; diagnostic = p.diagnostic; source = no_value }

abbrev pub aborted : Parts → Parts
aborted p = record { name = []; information = p.information; result = no_value; diagnostic = no_value; source = p.source }

-- A FORM OF OURS: it is found; it says those parts, and takes them from nothing on; a well-formed name and information make well-formed
-- pieces
abbrev pub blank : Parts
blank = plain [] []

-- user information only with a name
abbrev pub OnlyNamed : List ℕ → List ℕ → Type 0
OnlyNamed name info = length name ≡ 0 → length info ≡ 0
