-- P1 TO P8 (01, "Octets to try") and the easy slips, computed as one list. Assumes nothing.
use Rattle.std.specs.Prelude.{◌≡◌, refl, List, [], ◌∷◌, map, ℕ, zero, suc, replicate}
use Rattle.paper.specs.declared.Row.{Row}
use Rattle.paper.specs.Invocations.{state_of, sent, wait}
use Rattle.paper.specs.Dialogues.{waiting_rejects, dialogue_active}
use Rattle.paper.specs.Dialogues.Request.{Invoke, Begin, Prearranged}
use Rattle.paper.specs.Calls.{Table, Out, fresh_table, place_at}
use Rattle.paper.specs.Calls.Call.{Open, OnDialogue, Receive}
use Rattle.paper.specs.Computing.{computed}

-- guarantees 4, limits 64, as in session
pub fresh : Table
unfolding computed
fresh = fresh_table (replicate 16 4) (replicate 16 64)

-- service 3 opens; invoke 5, class 1, `02 01 3B`; begin; then the messages of P3, P4, P5
pub p1 : Out
unfolding computed fresh
p1 = computed fresh (Open 3)

pub invoked : Out
unfolding computed p1
invoked = computed p1.table (OnDialogue 3 0 (Invoke 5 256 1 (0x02 ∷ 0x01 ∷ 0x3B ∷ []) []))

pub p2 : Out
unfolding computed invoked
p2 = computed invoked.table (OnDialogue 3 0 (Begin [] []))

pub p3 : Out
unfolding computed p2
p3 =
    computed p2.table
    (Receive 3
    (0x65 ∷ 0x16 ∷ 0x48 ∷ 0x01 ∷ 0x07 ∷ 0x49 ∷ 0x04 ∷ 0x00 ∷ 0x00 ∷ 0x00 ∷ 0x00 ∷ 0x6C ∷ 0x0B ∷ 0xA1 ∷ 0x09 ∷ 0x02 ∷ 0x01 ∷ 0x05
    ∷ 0x80 ∷ 0x01 ∷ 0x05 ∷ 0x02 ∷ 0x01 ∷ 0x3C ∷ []))

-- a Continue that holds `A2 03 02 01 05`
abbrev pub answer : List ℕ
answer = 0x65 ∷ 0x10 ∷ 0x48 ∷ 0x01 ∷ 0x07 ∷ 0x49 ∷ 0x04 ∷ 0x00 ∷ 0x00 ∷ 0x00 ∷ 0x00 ∷ 0x6C ∷ 0x05 ∷ 0xA2 ∷ 0x03 ∷ 0x02 ∷ 0x01 ∷ 0x05 ∷ []

pub p4 : Out
unfolding computed p3
p4 = computed p3.table (Receive 3 answer)

pub p5 : Out
unfolding computed p4
p5 = computed p4.table (Receive 3 answer)

pub p6 : Out
unfolding computed fresh
p6 = computed fresh (Receive 3 (0x65 ∷ 0x09 ∷ 0x48 ∷ 0x04 ∷ 0x01 ∷ 0x02 ∷ 0x03 ∷ 0x04 ∷ 0x49 ∷ 0x01 ∷ 0x09 ∷ []))

pub p7 : Out
unfolding computed fresh
p7 = computed fresh (Receive 3 (0x63 ∷ 0x03 ∷ 0x48 ∷ 0x01 ∷ 0x07 ∷ []))

pub p8 : Out
unfolding computed fresh
p8 = computed fresh (Receive 3 (0x62 ∷ 0x04 ∷ 0x48 ∷ 0x01 ∷ 0x07 ∷ []))

-- THE EASY SLIPS (01), one case for each, in the same list.
-- Linked by the linked ID alone: our 5 is Sent; the partner's 6 linked to 5 is shown, its 5 linked to 6 is rejected
pub linked : Out
unfolding computed p2
linked =
    computed p2.table
    (Receive 3
    (0x65 ∷ 0x21 ∷ 0x48 ∷ 0x01 ∷ 0x07 ∷ 0x49 ∷ 0x04 ∷ 0x00 ∷ 0x00 ∷ 0x00 ∷ 0x00 ∷ 0x6C ∷ 0x16 ∷ 0xA1 ∷ 0x09 ∷ 0x02 ∷ 0x01 ∷ 0x06
    ∷ 0x80 ∷ 0x01 ∷ 0x05 ∷ 0x02 ∷ 0x01 ∷ 0x3C ∷ 0xA1 ∷ 0x09 ∷ 0x02 ∷ 0x01 ∷ 0x05 ∷ 0x80 ∷ 0x01 ∷ 0x06 ∷ 0x02 ∷ 0x01 ∷ 0x3C ∷ []))

-- A dialogue is found by place and turn: the place is freed and taken again, the ID before names nobody
pub again : Out
unfolding computed p1
again = computed (computed p1.table (OnDialogue 3 0 Prearranged)).table (Open 3)

pub late : Out
unfolding computed again
late = computed again.table (OnDialogue 3 0 (Begin [] []))

-- Another service's unused guarantee is kept: guarantees 2 and 3, limits 128 and 3, service 0 alone gets 125
abbrev pub opens : ℕ → Table → Table
opens zero T = T
opens (suc n) T = opens n (computed T (Open 0)).table

pub crowd : Table
unfolding computed
crowd = fresh_table (2 ∷ 3 ∷ replicate 14 0) (128 ∷ 3 ∷ replicate 14 0)

pub last : Out
unfolding computed crowd
last = computed (opens 124 crowd) (Open 0)

pub refused : Out
unfolding computed last
refused = computed last.table (Open 0)

abbrev pub kinds : Out → List ℕ
kinds o = map (λ (r : Row). r.kind) o.rows

pub examples :
    (p1.answer ≡ 0)
    × (p1.dialogue ≡ 0)
    × (p2.message
    ≡ 0x62 ∷ 0x10 ∷ 0x48 ∷ 0x04 ∷ 0x00 ∷ 0x00 ∷ 0x00 ∷ 0x00 ∷ 0x6C ∷ 0x08 ∷ 0xA1 ∷ 0x06 ∷ 0x02 ∷ 0x01 ∷ 0x05 ∷ 0x02 ∷ 0x01 ∷ 0x3B ∷ [])
    × ((place_at p3.table 0).control.state ≡ dialogue_active)
    × (kinds p3 ≡ 3 ∷ 7 ∷ [])
    × (state_of (place_at p3.table 0).control 5 ≡ sent)
    × (state_of (place_at p4.table 0).control 5 ≡ wait)
    × (kinds p4 ≡ 3 ∷ 8 ∷ [])
    × (kinds p5 ≡ 3 ∷ 13 ∷ [])
    × (waiting_rejects (place_at p5.table 0).control ≡ 0xA4 ∷ 0x06 ∷ 0x02 ∷ 0x01 ∷ 0x05 ∷ 0x82 ∷ 0x01 ∷ 0x00 ∷ [])
    × (p6.message ≡ 0x67 ∷ 0x09 ∷ 0x49 ∷ 0x04 ∷ 0x01 ∷ 0x02 ∷ 0x03 ∷ 0x04 ∷ 0x4A ∷ 0x01 ∷ 0x01 ∷ [])
    × (p7.message ≡ 0x67 ∷ 0x06 ∷ 0x49 ∷ 0x01 ∷ 0x07 ∷ 0x4A ∷ 0x01 ∷ 0x00 ∷ [])
    × (p8.message ≡ 0x67 ∷ 0x06 ∷ 0x49 ∷ 0x01 ∷ 0x07 ∷ 0x4A ∷ 0x01 ∷ 0x02 ∷ [])
    × (kinds linked ≡ 3 ∷ 7 ∷ 13 ∷ [])
    × (again.dialogue ≡ 1)
    × (late.answer ≡ 5)
    × (last.answer ≡ 0)
    × (refused.answer ≡ 7)
unfolding computed p1 p2 p3 p4 p5 p6 p7 p8 linked again late last refused
examples = (refl, refl, refl, refl, refl, refl, refl, refl, refl, refl, refl, refl, refl, refl, refl, refl, refl, refl)
