-- THE OUTCOME OF A CALL AT OCTETS: what a contract says. Assumes nothing.
use Rattle.std.specs.Prelude.{◌≡◌, cond, List, [], ℕ, zero, suc}
use Rattle.std.proofs.Common.{sym, ◌∙◌}
use lib.ListN.{length}
use Rattle.std.proofs.lemmas.List.Edits.{sets}
use Rattle.laws.specs.If.{if_lt, if_eq, if_b}
use Rattle.paper.specs.Sizes.{places_in_all, services, least_rows, least_space}
use Rattle.paper.specs.Portions.{portion_row, portion_at}
use Rattle.paper.specs.Rows.{row_octets, rows_octets}
use Rattle.paper.specs.Shares.{shared, shares_fit}
use Rattle.paper.specs.Dialogues.{Request, shape_of}
use Rattle.paper.specs.Calls.{Call, Out, step, fresh_table}
use Rattle.paper.specs.Calls.Call.{Open, OnDialogue, Receive}
use Rattle.paper.specs.Layout.{table_size, encode, view}
use Rattle.paper.specs.Rules.{rules}

-- what the host lends: the table, the row space, the message space; an empty one where a call takes none
pub record Lent : Type 0 where
  pub table : List ℕ
  pub rows : List ℕ
  pub space : List ℕ

-- the least octets of row space and message space, 0 where the call takes none: "only spaces that the call takes are judged"
pub record Spaces : Type 0 where
  pub rows : ℕ
  pub space : ℕ

abbrev pub no_space : Spaces
no_space = record { rows = 0; space = 0 }

abbrev pub message_space : Spaces
message_space = record { rows = 0; space = least_space }

abbrev pub spaces_of : Request → Spaces
spaces_of r = record { rows = cond (shape_of r).rows least_rows 0; space = cond (shape_of r).message least_space 0 }

abbrev pub spaces_for : Call → Spaces
spaces_for (Open service) = no_space
spaces_for (OnDialogue service dialogue r) = spaces_of r
spaces_for (Receive service s) = record { rows = least_rows; space = least_space }

-- "a lent space or table has the wrong size" (1), "the table breaks a table rule" (2), else 0
unfoldable pub standing : Lent → Spaces → ℕ
standing l n =
    if_eq (length l.table) table_size
    (if_lt (length l.rows) n.rows 1 (if_lt (length l.space) n.space 1 (if_b (rules l.table) 0 2)))
    1

-- WHAT THE HOST IS GIVEN: the reply's four numbers, and what it lent as it is afterwards
pub record Outcome : Type 0 where
  pub answer : ℕ
  pub rows : ℕ
  pub length : ℕ
  pub dialogue : ℕ
  pub lent : Lent

abbrev pub refused_by : ℕ → Lent → Outcome
refused_by n l = record { answer = n; rows = 0; length = 0; dialogue = 0; lent = l }

-- "At 0, row numbers after the last row and octets after the message written keep what they held."
abbrev pub given : Lent → Out → Outcome
given l o = record {
  answer = 0;
  rows = lib.ListN.length o.rows;
  length = lib.ListN.length o.message;
  dialogue = o.dialogue;
  lent = record { table = encode o.table; rows = sets l.rows 0 (rows_octets o.rows); space = sets l.space 0 o.message };
}

abbrev pub shown : ℕ → Lent → Out → Outcome
shown zero l o = if_eq o.answer 0 (given l o) (refused_by o.answer l)
shown (suc n) l o = refused_by (suc n) l

unfoldable pub outcome : Lent → Call → Outcome
outcome l c = shown (standing l (spaces_for c)) l (step (view l.table) c)

-- FRESH: "gives only 1, 13 or 0"; guarantees and limits are sixteen octets each
unfoldable pub fresh_answer : List ℕ → List ℕ → List ℕ → ℕ
fresh_answer t g l =
    if_eq (length t) table_size
    (if_eq (length g) services
    (if_eq (length l) services (if_b (shares_fit (shared places_in_all services g l (λ k. 0))) 0 13) 1)
    1)
    1

unfoldable pub fresh_outcome : List ℕ → List ℕ → List ℕ → Outcome
fresh_outcome t g l =
    if_eq (fresh_answer t g l) 0 (refused_by 0 (record { table = encode (fresh_table g l); rows = []; space = [] }))
    (refused_by (fresh_answer t g l) (record { table = t; rows = []; space = [] }))

-- A PORTION READ (02 a), at a run of a message: "writes one row of eight numbers", and takes no table
unfoldable pub portion_outcome : List ℕ → List ℕ → ℕ → ℕ → Outcome
portion_outcome rows s start len =
    if_lt (length rows) least_rows (refused_by 1 (record { table = []; rows = rows; space = [] }))
    (record {
      answer = 0;
      rows = 1;
      length = 0;
      dialogue = 0;
      lent = record { table = []; rows = sets rows 0 (row_octets (portion_row (portion_at s start len))); space = [] };
    })

-- THE CONTRACT OF EVERY CALL: the reply r and what was lent, afterwards
pub record Gives (o : Outcome) (answer rows length dialogue : ℕ) (lent : Lent) : Type 0 where
  pub answered : answer ≡ o.answer
  pub rowed : rows ≡ o.rows
  pub long : length ≡ o.length
  pub named : dialogue ≡ o.dialogue
  pub left : lent ≡ o.lent

-- any two outcomes that it allows are equal: once, for every call
pub one :
    {o : Outcome} {a b r q n m d e : ℕ} {l k : Lent} → Gives o a r n d l → Gives o b q m e k
    → (a ≡ b) × (r ≡ q) × (n ≡ m) × (d ≡ e) × (l ≡ k)
one p q =
    (p.answered ∙ sym q.answered, p.rowed ∙ sym q.rowed, p.long ∙ sym q.long, p.named ∙ sym q.named, p.left ∙ sym q.left)
