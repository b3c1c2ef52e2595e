-- WHAT IS PASSED, by its kind: its request and octets, the control record after it, and what stands where it isn't refused. Assumes nothing.
use Rattle.std.specs.Prelude.{◌≡◌, ℕ, ◌+◌, ◌<◌, ◌≤◌, length, get_or, set}
use Rattle.std.proofs.Math.Path.{refl, ap, subst}
use Rattle.std.proofs.Common.{sym, ◌∙◌, arith}
use mathlib.Core.List.{List, [], ◌∷◌, ◌++◌}
use Rattle.laws.specs.If.{if_eq, eq, ne, by-eq}
use Rattle.paper.specs.declared.Invocation.{Invocation}
use Rattle.paper.specs.declared.Control.{Control}
use Rattle.paper.specs.Sizes.{most_invocations, most_waiting}
use Rattle.paper.specs.Components.{no_id}
use Rattle.paper.specs.Problems.{kind_of, code_of}
use Rattle.paper.specs.Writing.{invoke_octets, result_octets, error_octets, reject_octets}
use Rattle.paper.specs.Invocations.{rejecting, no_invocation, new_one, slot_of, idle_slot, invocation_of, in_state, with_invocations, to_state, passed}
use Rattle.paper.specs.Dialogues.{Place, Request, done, refusal, does, rejected_by}
use Rattle.paper.specs.Dialogues.Request.{Invoke, Result, Error, UserReject}
use Rattle.paper.specs.Calls.{place_at, with_place}
use Rattle.paper.specs.Calls.Call.{OnDialogue}
use Rattle.paper.specs.Layout.{encode, view}
use Rattle.paper.specs.Outcome.{no_space, spaces_of, outcome}
use Rattle.writing_octets.specs.Lengths.{Room, invoke_size, result_size, error_size, reject_size, invoke-length, result-length, error-length, reject-length}
use Rattle.table_places.specs.Storing.{Storing, with_waiting}
use Rattle.call_entry.specs.declared.Reply.{Reply}
use Rattle.call_entry.specs.Replies.{reply, Told, only}
use Rattle.call_entry.specs.Prologue.{Used, InDialogue}
use Rattle.call_entry.specs.Ends.{dialogue-changed}
use Rattle.call_pass.specs.Appending.{Appending}
use Rattle.call_pass.specs.Refusing.{invoke-in, result-in, error-in, reject-in, user-small, slot-there, rejectable, plain-storing, passed-storing, rejected-storing}
use Rattle.call_pass.specs.declared.Passing.{Passing}
use Rattle.call_pass.specs.declared.Passing.TheVariants.{AnInvoke, AResult, AnError, AReject}

abbrev pub passing : Passing → List ℕ → List ℕ → Request
passing (AnInvoke id linked class) code par = Invoke id linked class code par
passing (AResult tag id) code par = Result tag id code par
passing (AnError id) code par = Error id code par
passing (AReject id p) code par = UserReject id p

abbrev pub octets_of : Passing → List ℕ → List ℕ → List ℕ
octets_of (AnInvoke id linked class) code par = invoke_octets id linked code par
octets_of (AResult tag id) code par = result_octets tag id code par
octets_of (AnError id) code par = error_octets id code par
octets_of (AReject id p) code par = reject_octets id p

-- our invocations after it: a new one; one that goes to Rejecting, where an invoke's reject changes none
abbrev pub with_new : List Invocation → ℕ → ℕ → List Invocation
with_new l id class = set l (idle_slot l) (new_one id class)

abbrev pub with_rejected : List Invocation → ℕ → ℕ → List Invocation
with_rejected l id p = if_eq (kind_of p) 1 l (set l (slot_of l id) (in_state (invocation_of l id) rejecting))

abbrev pub invocations_after : List Invocation → Passing → List Invocation
invocations_after l (AnInvoke id linked class) = with_new l id class
invocations_after l (AResult tag id) = l
invocations_after l (AnError id) = l
invocations_after l (AReject id p) = with_rejected l id p

-- l is m where slot `at` holds v
pub record Leaves (l : List Invocation) (at : ℕ) (v : Invocation) (m : List Invocation) : Type 0 where
  pub slot : at < most_invocations
  pub is : set l at v ≡ m

pub same_first : (l : List Invocation) → set l 0 (get_or l 0 no_invocation) ≡ l
same_first [] = refl
same_first (v ∷ l) = refl

abbrev pub control_after : Passing → Control → Control
control_after what c = with_invocations c (invocations_after c.invocations what)

rejected-is : (c : Control) (id p : ℕ) → rejected_by c id p ≡ with_invocations c (with_rejected c.invocations id p)
unfolding rejected_by to_state
rejected-is c id p =
    by-eq {r = rejected_by c id p} (kind_of p) 1 _ _ refl (λ h e. e ∙ ap (with_invocations c) (eq (kind_of p) 1 _ _ h refl)) (λ h e. e ∙ ap (with_invocations c) (ne (kind_of p) 1 _ _ h refl))

-- the linked ID, 256 where there is none
abbrev pub linked_of : Passing → ℕ
linked_of (AnInvoke id linked class) = linked
linked_of (AResult tag id) = no_id
linked_of (AnError id) = no_id
linked_of (AReject id p) = no_id

-- what can be written: a linked ID or none, a problem of one of the four kinds; and with so many octets, what its writer asks
abbrev pub Writes : Passing → Type 0
Writes (AnInvoke id linked class) = linked ≤ no_id
Writes (AResult tag id) = Unit
Writes (AnError id) = Unit
Writes (AReject id p) = kind_of p < 4

abbrev pub Writing : List ℕ → List ℕ → List ℕ → ℕ → Passing → Type 0
Writing code par t at (AnInvoke id linked class) = (linked ≤ no_id) × Room t at (invoke_size linked code par)
Writing code par t at (AResult tag id) = Room t at (result_size code par)
Writing code par t at (AnError id) = Room t at (error_size code par)
Writing code par t at (AReject id p) = (kind_of p < 4) × (at + reject_size id ≤ length t)

-- what its act asks of our invocations: a slot for an invoke, the slot of what is rejected
abbrev pub Acts : List Invocation → Passing → Type 0
Acts l (AnInvoke id linked class) = (class ≤ 4) × (idle_slot l ≡ most_invocations → ⊥)
Acts l (AResult tag id) = Unit
Acts l (AnError id) = Unit
Acts l (AReject id p) = (kind_of p ≡ 1 → ⊥) → slot_of l id < most_invocations

module _ (code par : List ℕ) where
  pub passing-spaces : (what : Passing) → no_space ≡ spaces_of (passing what code par)
  passing-spaces (AnInvoke id linked class) = refl
  passing-spaces (AResult tag id) = refl
  passing-spaces (AnError id) = refl
  passing-spaces (AReject id p) = refl

  pub writing : (what : Passing) (t : List ℕ) (at : ℕ) → Writes what → length (octets_of what code par) ≤ most_waiting → at + length (octets_of what code par) ≤ length t
      → Writing code par t at what
  writing (AnInvoke id linked class) t at w h g = let e = invoke-length code par id linked in (w, (omega arith, omega arith))
  writing (AResult tag id) t at w h g = let e = result-length code par tag id in (omega arith, omega arith)
  writing (AnError id) t at w h g = let e = error-length code par id in (omega arith, omega arith)
  writing (AReject id p) t at w h g = (w, omega (arith, reject-length id p))

  -- ---- not refused
  module _ (x : Place) where
    room_for : (what : Passing) → 0 ≡ refusal x (passing what code par) → length x.waiting + length (octets_of what code par) ≤ most_waiting
    unfolding refusal
    room_for (AnInvoke id linked class) e = (invoke-in x id linked class code par e).2
    room_for (AResult tag id) e = result-in x tag id code par e
    room_for (AnError id) e = error-in x id code par e
    room_for (AReject id p) e = (reject-in x id p e).2

    pub writes : (what : Passing) → linked_of what ≤ no_id → 0 ≡ refusal x (passing what code par) → Writes what
    unfolding refusal
    writes (AnInvoke id linked class) h e = h
    writes (AResult tag id) h e = tt
    writes (AnError id) h e = tt
    writes (AReject id p) h e = user-small (kind_of p) (code_of p) (reject-in x id p e).0

    pub acts : (what : Passing) → length x.control.invocations ≡ 8 → 0 ≡ refusal x (passing what code par) → Acts x.control.invocations what
    unfolding refusal
    acts (AnInvoke id linked class) h e = let i = invoke-in x id linked class code par e in (i.0, i.1)
    acts (AResult tag id) h e = tt
    acts (AnError id) h e = tt
    acts (AReject id p) h e = λ k. slot-there x.control.invocations id h (rejectable (kind_of p) (invocation_of x.control.invocations id) (reject-in x id p e).1 k)

    pub passing-does : (what : Passing) (me : ℕ) → does me x (passing what code par) ≡ done (with_waiting (control_after what x.control) (x.waiting ++ octets_of what code par)) [] []
    unfolding does passed
    passing-does (AnInvoke id linked class) me = refl
    passing-does (AResult tag id) me = refl
    passing-does (AnError id) me = refl
    passing-does (AReject id p) me = ap (λ (k : Control). done (with_waiting k (x.waiting ++ reject_octets id p)) [] []) (rejected-is x.control id p)

  module _ {t : List ℕ} {p : ℕ} where
    -- what it leaves can be stored
    stores : (what : Passing) → Used t p → 0 ≡ refusal (place_at (view t) p) (passing what code par) → Storing 0 t p (control_after what (place_at (view t) p).control)
    unfolding refusal passed
    stores (AnInvoke id linked class) u e =
        let i = invoke-in (place_at (view t) p) id linked class code par e in passed-storing u id class i.4 i.3 i.0
    stores (AResult tag id) u e = plain-storing u
    stores (AnError id) u e = plain-storing u
    stores (AReject id q) u e =
        subst (Storing 0 t p) (rejected-is (place_at (view t) p).control id q) (rejected-storing u id q (reject-in (place_at (view t) p) id q e).1)

    pub appends : (what : Passing) {c d : Control} {n : ℕ} → Used t p → c ≡ (place_at (view t) p).control → n ≡ length (place_at (view t) p).waiting
        → 0 ≡ refusal (place_at (view t) p) (passing what code par) → d ≡ control_after what c → Appending t p d n (octets_of what code par)
    appends what u a b e f = record {
      storing = subst (Storing 0 t p) (sym (f ∙ ap (control_after what) a)) (stores what u e);
      waits = b;
      room = omega (arith, room_for (place_at (view t) p) what e);
    }

-- ---- THE END of a call that passes one
pub pass-done : (t : List ℕ) (s d : ℕ) (what : Passing) (code par : List ℕ) (p : ℕ) → InDialogue t no_space (spaces_of (passing what code par)) s d p → {c : Control}
    → 0 ≡ refusal (place_at (view t) p) (passing what code par) → c ≡ control_after what (place_at (view t) p).control
    → {r : Reply} {u : List ℕ} → r ≡ reply 0 0 0 0 → u ≡ encode (with_place (view t) p (with_waiting c ((place_at (view t) p).waiting ++ octets_of what code par)))
    → Told (outcome (only t) (OnDialogue s d (passing what code par))) r (only u)
pass-done t s d what code par p i a e g h =
    let x : Place = place_at (view t) p in
    dialogue-changed (only t) s d (passing what code par) p i (with_waiting (control_after what x.control) (x.waiting ++ octets_of what code par)) a (passing-does code par x what d) g
    (h ∙ ap (λ (k : Control). encode (with_place (view t) p (with_waiting k (x.waiting ++ octets_of what code par)))) e)
