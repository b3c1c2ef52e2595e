-- PROBLEM CODES, AND WHO SENDS THEM (01, "Coding"). A kind is the tag less 128: 0 general, 1 invoke, 2 result, 3 error. Assumes nothing.
use Rattle.std.specs.Prelude.{ℕ, ◌+◌, ◌*◌, ◌/◌, ◌%◌}
use Rattle.laws.specs.If.{if_lt, if_eq}

abbrev pub by_layer : ℕ
by_layer = 0

abbrev pub by_user : ℕ
by_user = 1

abbrev pub by_nobody : ℕ
by_nobody = 2

-- "general 0 to 2 component sub-layer; invoke 0 to 7, all user but 5; result 0 and 1 sub-layer, 2 user;
-- error 0 and 1 sub-layer, 2 to 4 user": nineteen; another code nobody sends
unfoldable pub sender_of : ℕ → ℕ → ℕ
sender_of kind code =
    if_eq kind 0 (if_lt code 3 by_layer by_nobody)
    (if_eq kind 1 (if_lt code 8 (if_eq code 5 by_layer by_user) by_nobody)
    (if_eq kind 2 (if_lt code 2 by_layer (if_lt code 3 by_user by_nobody))
    (if_eq kind 3 (if_lt code 2 by_layer (if_lt code 5 by_user by_nobody))
    by_nobody)))

-- a problem as in a row (01, "Rows"): "problem tag less 128, times 256, plus code"
abbrev pub problem : ℕ → ℕ → ℕ
problem kind code = kind * 256 + code

-- a general one is its code: its kind is 0
abbrev pub general : ℕ → ℕ
general code = code

abbrev pub kind_of : ℕ → ℕ
kind_of p = p / 256

abbrev pub code_of : ℕ → ℕ
code_of p = p % 256

abbrev pub sender_of_problem : ℕ → ℕ
sender_of_problem p = sender_of (kind_of p) (code_of p)

-- "65,535 none"
abbrev pub no_problem : ℕ
no_problem = 65535
