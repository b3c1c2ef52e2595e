-- What a received message needs, and what it leaves of the table, the rows and the message space. Assumes nothing.
use Rattle.std.specs.Prelude.{◌≡◌, Bool, true, List, [], ℕ, ◌<◌, ◌≤◌, length}
use Rattle.std.proofs.Common.{sym, ap, subst}
use Rattle.std.proofs.lemmas.List.Edits.{sets}
use Rattle.paper.specs.declared.Message.{Message}
use Rattle.paper.specs.declared.Control.{Control}
use Rattle.paper.specs.Sizes.{places_in_all, services, longest_message}
use Rattle.paper.specs.Rows.{all_acted, rows_octets}
use Rattle.paper.specs.Calls.{Out, place_at, may_begin, lowest_free, items_of, shown_rows}
use Rattle.paper.specs.Layout.{flag, encode, view}
use Rattle.table_laws.specs.Fine.{Octets}
use Rattle.table_laws.specs.Ready.{Ready}
use Rattle.reading_messages.specs.Bounds.{MessageIn}
use Rattle.call_receive_rows.specs.declared.Shown.{Shown}
use Rattle.call_receive_parts.specs.declared.Received.{Received}

-- a message of at most 512 octets, and what was read of it
pub record Read (s : List ℕ) (m : Message) : Type 0 where
  pub octets : Octets s
  pub few : length s ≤ longest_message
  pub lies : MessageIn (length s) m

-- the table keeps the rules, and place p is used (bit 0) or free (1)
pub record Standing (bit : ℕ) (t : List ℕ) (p : ℕ) : Type 0 where
  pub ready : Ready t
  pub small : p < places_in_all
  pub told : flag (place_at (view t) p) ≡ bit

-- what the prologue told of a service: whether the share rule gives it a place (demand 3), and that the lowest free one is then there
pub record Begins (t : List ℕ) (k : ℕ) (may : Bool) : Type 0 where
  pub ready : Ready t
  pub service : k < services
  pub is : may ≡ may_begin (view t) k
  pub there : may_begin (view t) k ≡ true → (lowest_free (view t) < places_in_all) × (flag (place_at (view t) (lowest_free (view t))) ≡ 1)

-- the dialogue's row and the components', and the control record after them
pub record Rowed (kind me room : ℕ) (c : Control) (s : List ℕ) (m : Message) (old : List ℕ) (r : Shown) (new : List ℕ) : Type 0 where
  pub control : r.control ≡ all_acted room c (items_of s m)
  pub count : r.count ≡ length (shown_rows kind me room c m (items_of s m))
  pub few : r.count ≤ 128
  pub holds : new ≡ sets old 0 (rows_octets (shown_rows kind me room c m (items_of s m)))
  pub long : length new ≡ length old

-- table and rows after a message that is answered by none
pub record Leaves (o : Out) (n : ℕ) (t old new : List ℕ) : Type 0 where
  pub answer : o.answer ≡ 0
  pub silent : o.message ≡ []
  pub table : t ≡ encode o.table
  pub count : n ≡ length o.rows
  pub holds : new ≡ sets old 0 (rows_octets o.rows)

-- WHAT A RECEIVED MESSAGE LEAVES: the outcome o in the lent table, row space and message space
pub record Receives (o : Out) (r : Received) (t old new before after : List ℕ) : Type 0 where
  pub answer : o.answer ≡ 0
  pub table : t ≡ encode o.table
  pub count : r.rows ≡ length o.rows
  pub holds : new ≡ sets old 0 (rows_octets o.rows)
  pub long : r.length ≡ length o.message
  pub writes : after ≡ sets before 0 o.message

pub receives-as : {o p : Out} {r : Received} {t old new before after : List ℕ} → o ≡ p → Receives o r t old new before after → Receives p r t old new before after
receives-as {r = r} {t} {old} {new} {before} {after} e l = subst (λ (x : Out). Receives x r t old new before after) e l

-- no message: the message space is as it was
pub leaves-receives : {o : Out} {n : ℕ} {t old new space : List ℕ} → Leaves o n t old new → Receives o (record { rows = n; length = 0 }) t old new space space
leaves-receives {space = space} l = record {
  answer = l.answer;
  table = l.table;
  count = l.count;
  holds = l.holds;
  long = ap length (sym l.silent);
  writes = ap (sets space 0) (sym l.silent);
}

-- the same octets of the table by another name
pub table-as : {o : Out} {r : Received} {t u old new before after : List ℕ} → t ≡ u → Receives o r t old new before after → Receives o r u old new before after
table-as {o = o} {r} {t} {u} {old} {new} {before} {after} e l = subst (λ (x : List ℕ). Receives o r x old new before after) e l
