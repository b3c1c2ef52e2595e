-- THE DEMANDS, on the outcomes that the contracts of the calls name. Assumes nothing.
-- A host's history of C calls is a list of `Made`: the call with its arguments, and the row and message spaces lent with it; each
-- is made on the octets that the call before left (`after`), the first on what a tcap_fresh answered 0 left. What a call gives is
-- `outcome`, which its contract names; nothing here speaks of another engine. Left to the host: that it hands the table on unaltered,
-- and that spaces don't overlap. That the lowest number is given, and what is left as it was, stands in proofs/Lowest.antt and proofs/Tails.antt.
use Rattle.std.specs.Prelude.{ℕ}
use mathlib.Core.List.{List, [], ◌∷◌}
use Rattle.std.specs.Prelude.{◌≡◌, false}
use Rattle.paper.specs.declared.Row.{Row}
use Rattle.paper.specs.Shares.{Resource, gives}
use Rattle.paper.specs.Portions.{Spoken}
use Rattle.paper.specs.Outcome.{Outcome}
use Rattle.paper.specs.Contents.{content_of}
use Rattle.paper.specs.Ledger.{aborting}
use Rattle.demands.specs.History.{Made, gave, after}
use Rattle.demands.specs.Booked.{message_out}
use Rattle.demands.specs.Replies.{asks}

-- the kind of the first row, 0 where there is none
abbrev pub row_kind : List Row → ℕ
row_kind [] = 0
row_kind (r ∷ rows) = r.kind

-- THE NEXT CALL, after a history that began with the octets `start`
module _ (start : List ℕ) (ms : List Made) where
  -- what the next open is answered
  unfoldable pub answer : ℕ → ℕ
  answer s = (gave (after start ms) (asks s)).answer

  -- what a partner's Begin is answered
  module _ (begins : Made) where
    abbrev pub reply : Outcome
    reply = gave (after start ms) begins

-- a Begin that gets no place has no row, and an Abort with cause 4 goes to its originating ID
pub record Refused (there : Resource) (s : ℕ) (reply : Outcome) (asker : List ℕ) : Type 0 where
  pub refused-aborts : gives there s ≡ false → content_of (message_out reply) ≡ aborting asker [] Spoken.Silent 4
