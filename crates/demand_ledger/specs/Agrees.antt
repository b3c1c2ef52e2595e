-- THE LEDGER AGREES WITH THE TABLE: the relation between the two, and one law for each way in which a table changes. Assumes nothing.
use Rattle.std.proofs.Common.{arith}
use Rattle.std.specs.Prelude.{◌≡◌, List, map, take}
use Rattle.std.proofs.Math.Option.{Option, none, some}
use Prim.Native.Nat.{ℕ, ◌%◌, ◌<◌}
use Rattle.paper.specs.declared.Reject.{Reject}
use Rattle.paper.specs.declared.Control.{Control}
use Rattle.paper.specs.Sizes.{place_of, turn_of, places_in_all}
use Rattle.paper.specs.Writing.{Written, joined}
use Rattle.paper.specs.Dialogues.{Place, peer_of}
use Rattle.paper.specs.Calls.{Table, place_at, held}
use Rattle.paper.specs.Ledger.{Entry, Ledger, ended_in, find, entries_of}
use Rattle.demand_readback.specs.Written.{AllAllowed}
use Rattle.demand_ledger.specs.Ours.{Ours}
use Rattle.demand_ledger.specs.Entries.{Distinct}

-- a waiting reject, as a component; those of a dialogue
abbrev pub reject_of : Reject → Written
reject_of r = Written.Reject r.id r.problem

abbrev pub waits : Control → List Written
waits c = map reject_of (take c.count c.rejects)

-- AN ENTRY IS WHAT A PLACE HOLDS
pub record Is (e : Entry) (x : Place) : Type 0 where
  pub state : x.control.state ≡ e.state
  pub service : x.control.service ≡ e.service
  pub peer : peer_of x.control ≡ e.peer
  pub passed : x.waiting ≡ joined e.passed
  pub allowed : AllAllowed e.passed
  pub rejects : waits x.control ≡ e.rejects
  pub ours : Ours x.control.invocations e.invocations

-- under its ID: the place holds the dialogue of that turn, or no such dialogue where the ledger has none
pub record Holds (x : Place) (d : ℕ) (e : Entry) : Type 0 where
  pub small : place_of d < places_in_all
  pub used : x.control.state ≡ 0 → ⊥
  pub turn : x.control.turn ≡ turn_of d
  pub is : Is e x

abbrev pub At : Place → ℕ → Option Entry → Type 0
At x d none = place_of d < places_in_all → (x.control.state ≡ 0 → ⊥) → x.control.turn ≡ turn_of d → ⊥
At x d (some e) = Holds x d e

-- THE RELATION
pub record Agrees (T : Table) (L : Ledger) : Type 0 where
  pub guarantees : T.guarantees ≡ L.guarantees
  pub limits : T.limits ≡ L.limits
  pub each : (d : ℕ) → At (place_at T (place_of d)) d (find L.dialogues d)
  pub differ : Distinct L.dialogues
  pub counts : (s : ℕ) → entries_of L.dialogues s ≡ held T.places s
  pub turns : (p : ℕ) → p < places_in_all → (place_at T p).control.turn ≡ ended_in p L.ended % 16777216

-- an ID is its place and turn
pub id-is : (k d : ℕ) → place_of k ≡ place_of d → turn_of k ≡ turn_of d → k ≡ d
id-is k d p t = omega arith
