-- THE READING BY PARTS AND THE LEDGER, on cases worked out by hand from 01, as one list. Assumes nothing.
use Rattle.std.specs.Prelude.{◌≡◌, refl, List, [], ◌∷◌, ℕ, replicate}
use Rattle.std.proofs.Math.Option.{some}
use Rattle.paper.specs.Components.{no_id}
use Rattle.paper.specs.Writing.{Written}
use Rattle.paper.specs.Portions.{Spoken}
use Rattle.paper.specs.Invocations.{wait}
use Rattle.paper.specs.Dialogues.{dialogue_received, dialogue_active}
use Rattle.paper.specs.Dialogues.Request.{Invoke, Result, Begin, Continue, Cancel, Prearranged}
use Rattle.paper.specs.Calls.{Table, Call, Out, fresh_table}
use Rattle.paper.specs.Calls.Call.{Open, OnDialogue, Receive}
use Rattle.paper.specs.Counting.{told_by}
use Rattle.paper.specs.Contents.{Wire}
use Rattle.paper.specs.Ledger.{Ledger, new_ledger}
use Rattle.paper.specs.Computing.{computed, booked, noted, heard, looked}
use Rattle.paper.specs.Examples.{answer}

-- READ BY PARTS. A Continue with an invoke linked to ours and with a parameter, results with and without operation, an error, a reject
-- without an ID
abbrev pub parts : List ℕ
parts =
    0x65 ∷ 0x41 ∷ 0x48 ∷ 0x01 ∷ 0x07 ∷ 0x49 ∷ 0x04 ∷ 0x00 ∷ 0x01 ∷ 0x02 ∷ 0x03 ∷ 0x6B ∷ 0x02 ∷ 0x28 ∷ 0x00 ∷ 0x6C ∷ 0x32
    ∷ 0xA1 ∷ 0x0D ∷ 0x02 ∷ 0x01 ∷ 0x80 ∷ 0x80 ∷ 0x01 ∷ 0x05 ∷ 0x02 ∷ 0x01 ∷ 0x3C ∷ 0x04 ∷ 0x02 ∷ 0xAA ∷ 0xBB
    ∷ 0xA2 ∷ 0x0D ∷ 0x02 ∷ 0x01 ∷ 0x05 ∷ 0x30 ∷ 0x08 ∷ 0x06 ∷ 0x02 ∷ 0x2A ∷ 0x03 ∷ 0x30 ∷ 0x02 ∷ 0x05 ∷ 0x00
    ∷ 0xA7 ∷ 0x03 ∷ 0x02 ∷ 0x01 ∷ 0x06
    ∷ 0xA3 ∷ 0x06 ∷ 0x02 ∷ 0x01 ∷ 0x7F ∷ 0x02 ∷ 0x01 ∷ 0x01
    ∷ 0xA4 ∷ 0x05 ∷ 0x05 ∷ 0x00 ∷ 0x80 ∷ 0x01 ∷ 0x02 ∷ []

-- a sound Begin whose one component lacks its ID, and an Abort with a cause
abbrev pub faulty : List ℕ
faulty = 0x62 ∷ 0x07 ∷ 0x48 ∷ 0x01 ∷ 0x07 ∷ 0x6C ∷ 0x02 ∷ 0xA1 ∷ 0x00 ∷ []

abbrev pub aborted : List ℕ
aborted = 0x67 ∷ 0x06 ∷ 0x49 ∷ 0x01 ∷ 0x07 ∷ 0x4A ∷ 0x01 ∷ 0x02 ∷ []

-- THE LEDGER beside a table, over calls from a fresh one (guarantees 4, limits 64)
pub record Both : Type 0 where
  pub table : Table
  pub ledger : Ledger

abbrev pub both_after : Both → Call → Out → Both
both_after b c o = record { table = o.table; ledger = noted b.ledger c (told_by o) }

abbrev pub start : Both
start = record { table = fresh_table (replicate 16 4) (replicate 16 64); ledger = new_ledger (replicate 16 4) (replicate 16 64) }

abbrev pub plays : Both → List Call → Both
plays b [] = b
plays b (c ∷ cs) = plays (both_after b c (computed b.table c)) cs

-- P1 to P5 with another invoke beside: service 3 opens, passes invokes 5 (class 1) and 6 (class 1), begins; the partner, 07, answers 5 twice
-- (then a reject of ours waits), and its third Continue comes from another ID; 6 is cancelled and a result for the partner's 9 passed
abbrev pub other : List ℕ
other = 0x65 ∷ 0x09 ∷ 0x48 ∷ 0x01 ∷ 0x08 ∷ 0x49 ∷ 0x04 ∷ 0x00 ∷ 0x00 ∷ 0x00 ∷ 0x00 ∷ []

abbrev pub calls : List Call
calls =
    Open 3
    ∷ OnDialogue 3 0 (Invoke 5 no_id 1 (0x02 ∷ 0x01 ∷ 0x3B ∷ []) [])
    ∷ OnDialogue 3 0 (Invoke 6 no_id 1 (0x02 ∷ 0x01 ∷ 0x3C ∷ []) [])
    ∷ OnDialogue 3 0 (Begin [] [])
    ∷ Receive 3 answer
    ∷ Receive 3 answer
    ∷ Receive 3 other
    ∷ OnDialogue 3 0 (Cancel 6)
    ∷ OnDialogue 3 0 (Result 0xA2 9 [] [])
    ∷ []

pub talked : Both
unfolding computed noted
talked = plays start calls

-- a partner's Begin to service 4, from 01 02, whose second component lacks its ID
pub asked : Both
unfolding computed noted talked
asked =
    plays talked
    (Receive 4
    (0x62 ∷ 0x10 ∷ 0x48 ∷ 0x02 ∷ 0x01 ∷ 0x02 ∷ 0x6C ∷ 0x0A ∷ 0xA1 ∷ 0x06 ∷ 0x02 ∷ 0x01 ∷ 0x05 ∷ 0x02 ∷ 0x01 ∷ 0x3B ∷ 0xA1 ∷ 0x00 ∷ [])
    ∷ [])

-- the first dialogue ended without a message
pub over : Both
unfolding computed noted asked
over = plays asked (OnDialogue 3 0 Prearranged ∷ [])

pub ledger_cases :
    (booked [] ≡ Wire.Nothing)
    × (booked (0x62 ∷ 0x04 ∷ 0x48 ∷ 0x01 ∷ 0x07 ∷ []) ≡ Wire.Garbled)
    × (booked faulty ≡ Wire.Garbled)
    × (booked aborted
    ≡ Wire.Holds (record { tag = 0x67; origin = []; destination = 0x07 ∷ []; portion = []; spoken = Spoken.Silent; cause = 2; components = [] }))
    × (booked parts
    ≡ Wire.Holds
    (record {
      tag = 0x65;
      origin = 0x07 ∷ [];
      destination = 0x00 ∷ 0x01 ∷ 0x02 ∷ 0x03 ∷ [];
      portion = 0x6B ∷ 0x02 ∷ 0x28 ∷ 0x00 ∷ [];
      spoken = Spoken.Other;
      cause = 65535;
      components =
          Written.Invoke 0x80 5 (0x02 ∷ 0x01 ∷ 0x3C ∷ []) (0x04 ∷ 0x02 ∷ 0xAA ∷ 0xBB ∷ [])
          ∷ Written.Result 0xA2 5 (0x06 ∷ 0x02 ∷ 0x2A ∷ 0x03 ∷ []) (0x30 ∷ 0x02 ∷ 0x05 ∷ 0x00 ∷ [])
          ∷ Written.Result 0xA7 6 [] []
          ∷ Written.Error 0x7F (0x02 ∷ 0x01 ∷ 0x01 ∷ []) []
          ∷ Written.Reject 256 2
          ∷ [];
    }))
    × (looked talked.ledger.dialogues 0
    ≡ some
    (record {
      id = 0;
      service = 3;
      state = dialogue_active;
      peer = 0x07 ∷ [];
      passed = Written.Result 0xA2 9 [] [] ∷ [];
      rejects = Written.Reject 5 512 ∷ [];
      invocations = record { id = 5; class = 1; state = wait; shown = 0 } ∷ [];
    }))
    × (heard talked.ledger (OnDialogue 3 0 (Continue [] []))
    ≡ Wire.Holds
    (record {
      tag = 0x65;
      origin = 0x00 ∷ 0x00 ∷ 0x00 ∷ 0x00 ∷ [];
      destination = 0x07 ∷ [];
      portion = [];
      spoken = Spoken.Silent;
      cause = 65535;
      components = Written.Result 0xA2 9 [] [] ∷ Written.Reject 5 512 ∷ [];
    }))
    × (looked asked.ledger.dialogues 0x01000000
    ≡ some
    (record {
      id = 0x01000000;
      service = 4;
      state = dialogue_received;
      peer = 0x01 ∷ 0x02 ∷ [];
      passed = [];
      rejects = Written.Reject 256 1 ∷ [];
      invocations = [];
    }))
    × (heard asked.ledger (Receive 3 other) ≡ Wire.Nothing)
    × (over.ledger.ended ≡ 0 ∷ [])
    × (heard over.ledger (Receive 3 other)
    ≡ Wire.Holds (record { tag = 0x67; origin = []; destination = 0x08 ∷ []; portion = []; spoken = Spoken.Silent; cause = 1; components = [] }))
unfolding booked looked heard talked asked over
ledger_cases = (refl, refl, refl, refl, refl, refl, refl, refl, refl, refl, refl)
