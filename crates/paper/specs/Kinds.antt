-- KINDS OF ROWS (01, "Rows"). Assumes nothing.
use Rattle.std.specs.Prelude.{ℕ}

-- "Kinds 1 UNI, 2 BEGIN, 3 CONTINUE, 4 END, 5 U-ABORT, 6 P-ABORT": a dialogue's
abbrev pub row_uni : ℕ
row_uni = 1

abbrev pub row_begin : ℕ
row_begin = 2

abbrev pub row_continue : ℕ
row_continue = 3

abbrev pub row_end : ℕ
row_end = 4

abbrev pub row_user_abort : ℕ
row_user_abort = 5

abbrev pub row_abort : ℕ
row_abort = 6

-- "7 INVOKE, 8 RESULT-L, 9 RESULT-NL, 10 U-ERROR, 11 U-REJECT, 12 R-REJECT, 13 L-REJECT stored, 14 L-REJECT not stored, 15 L-CANCEL":
-- a component's
abbrev pub row_invoke : ℕ
row_invoke = 7

abbrev pub row_last : ℕ
row_last = 8

abbrev pub row_not_last : ℕ
row_not_last = 9

abbrev pub row_error : ℕ
row_error = 10

abbrev pub row_user_reject : ℕ
row_user_reject = 11

abbrev pub row_remote_reject : ℕ
row_remote_reject = 12

abbrev pub row_rejected : ℕ
row_rejected = 13

abbrev pub row_not_stored : ℕ
row_not_stored = 14

abbrev pub row_cancel : ℕ
row_cancel = 15
