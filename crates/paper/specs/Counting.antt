-- COUNTED FOR DEMAND 3 (01, "A received message"): from the calls, their answers and rows alone, never from the table. Assumes nothing.
use Rattle.std.specs.Prelude.{cond, List, ℕ, zero, suc, ◌+◌}
use Rattle.laws.specs.If.{if_eq}
use Rattle.laws.specs.Sums.{sum_by}
use Rattle.paper.specs.declared.Row.{Row}
use Rattle.paper.specs.Kinds.{row_begin, row_end, row_user_abort, row_abort}
use Rattle.paper.specs.Dialogues.{Request, shape_of}
use Rattle.paper.specs.Calls.{Call, Out}
use Rattle.paper.specs.Calls.Call.{Open, OnDialogue, Receive}

-- WHAT A CALL TELLS a host, beside the message: its answer, the dialogue that an open gives, its rows
pub record Notice : Type 0 where
  pub answer : ℕ
  pub dialogue : ℕ
  pub rows : List Row

abbrev pub told_by : Out → Notice
told_by o = record { answer = o.answer; dialogue = o.dialogue; rows = o.rows }

-- "a BEGIN row"; "a row 4, 5 or 6"
unfoldable pub is_begun : Row → ℕ
is_begun r = if_eq r.kind row_begin 1 0

unfoldable pub is_ended : Row → ℕ
is_ended r = if_eq r.kind row_end 1 (if_eq r.kind row_user_abort 1 (if_eq r.kind row_abort 1 0))

abbrev pub begun_rows : List Row → ℕ
begun_rows rows = sum_by is_begun rows

abbrev pub ended_rows : List Row → ℕ
ended_rows rows = sum_by is_ended rows

-- "an end, user abort or Unidirectional request answered 0": each that frees its place, but the no-reaction timer, which has a row 6
abbrev pub ends_by : Request → ℕ → ℕ
ends_by r zero = cond (shape_of r).frees (cond (shape_of r).rows 0 1) 0
ends_by r (suc n) = 0

-- "an open answered 0"
abbrev pub opened_by : ℕ → ℕ
opened_by zero = 1
opened_by (suc n) = 0

-- the service of a call, and what it began and ended of it
abbrev pub service_of : Call → ℕ
service_of (Open service) = service
service_of (OnDialogue service dialogue r) = service
service_of (Receive service s) = service

abbrev pub begun_by : Call → Notice → ℕ
begun_by (Open service) t = begun_rows t.rows + opened_by t.answer
begun_by (OnDialogue service dialogue r) t = begun_rows t.rows
begun_by (Receive service s) t = begun_rows t.rows

abbrev pub ended_by : Call → Notice → ℕ
ended_by (Open service) t = ended_rows t.rows
ended_by (OnDialogue service dialogue r) t = ended_rows t.rows + ends_by r t.answer
ended_by (Receive service s) t = ended_rows t.rows
