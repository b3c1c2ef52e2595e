-- The octets of a control record as the code makes them: what goes into some bits is taken by a remainder, so that no sum of
-- octets can wrap. Assumes nothing.
use Rattle.std.specs.Prelude.{ℕ, ◌+◌, ◌*◌, ◌/◌, ◌%◌, List, [], ◌∷◌, ◌++◌, get_or}
use Rattle.laws.specs.Lists.{tab, span}
use Rattle.laws.specs.Fields.{pairs}
use Rattle.paper.specs.declared.Invocation.{Invocation}
use Rattle.paper.specs.declared.Reject.{Reject}
use Rattle.paper.specs.declared.Control.{Control}
use Rattle.paper.specs.Sizes.{most_invocations, most_rejects, three}
use Rattle.paper.specs.Invocations.{no_invocation}
use Rattle.paper.specs.Dialogues.{no_reject}

-- the octets before the invocations, where the peer's are l and n octets wait
abbrev pub head_with : Control → List ℕ → ℕ → List ℕ
head_with c l n = three c.turn (c.state ∷ c.service ∷ c.peerlen ∷ (l ++ (n ∷ c.count ∷ [])))

abbrev pub head_octets : Control → ℕ → List ℕ
head_octets c n = head_with c (span 4 0 c.peer) n

abbrev pub made_invocation : Invocation → ℕ
made_invocation v = v.state % 8 + v.class % 8 * 8 + v.shown % 4 * 64

abbrev pub invocation_pairs : List Invocation → List ℕ
invocation_pairs l = pairs (λ v. v.id) made_invocation (tab most_invocations 0 (λ i. get_or l i no_invocation))

abbrev pub made_reject : Reject → ℕ
made_reject r = r.problem % 256 % 8 + r.problem / 256 % 16 * 8 + r.id / 256 % 2 * 128

abbrev pub reject_pairs : List Reject → List ℕ
reject_pairs l = pairs (λ r. r.id % 256) made_reject (tab most_rejects 0 (λ i. get_or l i no_reject))
