-- ROWS (01, "Rows"). Assumes nothing.
use Rattle.std.specs.Prelude.{List, [], ◌∷◌, ◌++◌, ℕ, zero, suc, ◌+◌, ◌*◌, ◌-◌, ◌/◌, ◌%◌, get_or}
use Rattle.laws.specs.If.{if_lt}
use Rattle.paper.specs.declared.Component.{Component}
use Rattle.paper.specs.declared.Run.{Run}
use Rattle.paper.specs.declared.Control.{Control}
use Rattle.paper.specs.declared.Row.{Row}
use Rattle.paper.specs.Problems.{no_problem}
use Rattle.paper.specs.Components.{Item, no_id}
use Rattle.paper.specs.Kinds.{row_cancel}
use Rattle.paper.specs.Invocations.{act}

-- "invoke ID plus 128 (256 none)": the octet is the ID modulo 256
unfoldable pub signed : ℕ → ℕ
signed octet = if_lt octet 128 (octet + 128) (if_lt octet 256 (octet - 128) no_id)

-- the row of a dialogue: "start and length of the .. dialogue portion in the message (0, 0 none ..); component rows that follow"
abbrev pub dialogue_row : ℕ → ℕ → ℕ → Run → ℕ → Row
dialogue_row kind me cause portion follow = record {
  kind = kind;
  dialogue = me;
  invoke = no_id;
  linked = no_id;
  problem = cause;
  start = portion.start;
  length = portion.length;
  follow = follow;
}

-- L-CANCEL
abbrev pub cancel_row : ℕ → ℕ → Row
cancel_row me id = record {
  kind = row_cancel;
  dialogue = me;
  invoke = signed id;
  linked = no_id;
  problem = no_problem;
  start = 0;
  length = 0;
  follow = 0;
}

-- "start and length of the component ..(0, 0 none or no frame)", from at to x
unfoldable pub start_of : ℕ → ℕ → ℕ
start_of at x = if_lt at x at 0

unfoldable pub extent_of : ℕ → ℕ → ℕ
extent_of at x = if_lt at x (x - at) 0

-- the row of a component that starts at `at`, of the kind and problem that `act` gave
unfoldable pub component_row : ℕ → ℕ → ℕ → ℕ → Component → Row
component_row me at kind p c = record {
  kind = kind;
  dialogue = me;
  invoke = signed c.id;
  linked = signed c.linked;
  problem = p;
  start = start_of at c.stop;
  length = extent_of at c.stop;
  follow = 0;
}

abbrev pub row_by : ℕ → ℕ → Control → Item → Row
row_by me room c i = component_row me i.start (act room c i.part).kind (act room c i.part).problem i.part

-- every component in order acts, and is shown
unfoldable pub all_acted : ℕ → Control → List Item → Control
all_acted room c [] = c
all_acted room c (i ∷ is) = all_acted room (act room c i.part).control is

unfoldable pub component_rows : ℕ → ℕ → Control → List Item → List Row
component_rows me room c [] = []
component_rows me room c (i ∷ is) = row_by me room c i ∷ component_rows me room (act room c i.part).control is

-- "8 32-bit numbers (in C calls four octets, least significant first)"
abbrev pub four_octets : ℕ → List ℕ → List ℕ
four_octets n l = n % 256 ∷ (n / 256 % 256 ∷ (n / 65536 % 256 ∷ (n / 16777216 % 256 ∷ l)))

abbrev pub row_octets : Row → List ℕ
row_octets r =
    four_octets r.kind
    (four_octets r.dialogue
    (four_octets r.invoke
    (four_octets r.linked (four_octets r.problem (four_octets r.start (four_octets r.length (four_octets r.follow [])))))))

unfoldable pub rows_octets : List Row → List ℕ
rows_octets [] = []
rows_octets (r ∷ rs) = row_octets r ++ rows_octets rs

-- AS A HOST READS THEM: the number of four octets at a position; n rows of 32 octets from a position on
abbrev pub four_at : List ℕ → ℕ → ℕ
four_at l a = get_or l a 0 + get_or l (a + 1) 0 * 256 + get_or l (a + 2) 0 * 65536 + get_or l (a + 3) 0 * 16777216

unfoldable pub row_at : List ℕ → ℕ → Row
row_at l a = record {
  kind = four_at l a;
  dialogue = four_at l (a + 4);
  invoke = four_at l (a + 8);
  linked = four_at l (a + 12);
  problem = four_at l (a + 16);
  start = four_at l (a + 20);
  length = four_at l (a + 24);
  follow = four_at l (a + 28);
}

unfoldable pub rows_at : ℕ → ℕ → List ℕ → List Row
rows_at zero a l = []
rows_at (suc n) a l = row_at l a ∷ rows_at n (a + 32) l
