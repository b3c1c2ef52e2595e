-- An invocation that goes to Idle, as a timer or a cancel asks (01, "Invocation states"). Assumes nothing.
use Rattle.std.specs.Prelude.{◌≡◌, List, [], ◌∷◌, ℕ, ◌<◌, get_or, Result, Ok, Err, OnOk, OnErr}
use Rattle.std.proofs.Math.Path.{refl, sym, ap, subst}
use Rattle.std.proofs.Common.{◌∙◌, arith}
use Rattle.laws.specs.If.{eq, ne}
use Rattle.paper.specs.declared.Control.{Control}
use Rattle.paper.specs.declared.Refusal.{Refusal}
use Rattle.paper.specs.declared.Refusal.TheVariants.{WrongInvocation}
use Rattle.paper.specs.Refusals.{answer_of}
use Rattle.paper.specs.Invocations.{sent, wait, no_invocation, slot_of, invocation_of, state_of, to_idle}
use Rattle.paper.specs.Rows.{cancel_row}
use Rattle.paper.specs.Dialogues.{Place, Request, with_control, needs, refusal, does, done, timeout_rows}
use Rattle.paper.specs.Dialogues.Request.{Cancel, RejectTimeout}
use Rattle.paper.specs.Outcome.{no_space, spaces_of}
use Rattle.call_release.specs.declared.Idler.{Idler}
use Rattle.call_release.specs.declared.Idler.TheVariants.{User, RejectTimer}
use Rattle.paper.specs.Calls.{place_at, with_place}
use Rattle.paper.specs.Layout.{encode, view}
use Rattle.table_laws.proofs.Keeps.{to-idle-fine}
use Rattle.table_places.specs.Storing.{Storing}
use Rattle.call_entry.specs.Prologue.{Used, used-storing}

-- the requests that do nothing else, and the state that each needs
abbrev pub from_state : Idler → ℕ
from_state User = sent
from_state RejectTimer = wait

pub from-positive : (by : Idler) {n : ℕ} → n ≡ from_state by → 0 < n
from-positive User e = omega (arith, e)
from-positive RejectTimer e = omega (arith, e)

abbrev pub idling : Idler → ℕ → Request
idling User id = Cancel id
idling RejectTimer id = RejectTimeout id

module _ (id : ℕ) where
  pub idling-spaces : (by : Idler) → no_space ≡ spaces_of (idling by id)
  idling-spaces User = refl
  idling-spaces RejectTimer = refl

  pub idling-refusal : (by : Idler) (x : Place) → needs x id (from_state by) ≡ refusal x (idling by id)
  unfolding refusal
  idling-refusal User x = refl
  idling-refusal RejectTimer x = refl

  pub idling-does : (by : Idler) (me : ℕ) (x : Place) → does me x (idling by id) ≡ done (with_control x (to_idle x.control id)) [] []
  unfolding does
  idling-does User me x = refl
  idling-does RejectTimer me x = refl

-- done, or 9 and nothing changed
pub record Idled (t : List ℕ) (p id state : ℕ) (r : Result (Unit {0}) Refusal) (u : List ℕ) : Type 0 where
  pub is : answer_of r ≡ needs (place_at (view t) p) id state
  pub same : OnErr r (u ≡ t)
  pub changed : OnOk r (u ≡ encode (with_place (view t) p (with_control (place_at (view t) p) (to_idle (place_at (view t) p).control id))))

module _ (t : List ℕ) (p id : ℕ) (c : Control) (e : c ≡ (place_at (view t) p).control) where
  -- our invocation of that ID, found by its slot
  pub found : (i : ℕ) (n : ℕ) → i ≡ slot_of c.invocations id → n ≡ (get_or c.invocations i no_invocation).state → n ≡ state_of (place_at (view t) p).control id
  unfolding invocation_of
  found i n a b = b ∙ ap (λ (k : ℕ). (get_or c.invocations k no_invocation).state) a ∙ ap (λ (x : Control). (invocation_of x.invocations id).state) e

  pub storing-idle : Used t p → (d : Control) → d ≡ to_idle c id → Storing 0 t p d
  unfolding to_idle
  storing-idle u d f =
      let x : Control = (place_at (view t) p).control in
      subst (Storing 0 t p) (sym (f ∙ ap (λ (k : Control). to_idle k id) e)) (used-storing u (to-idle-fine x u.fine.control id) u.state)

  module _ (state i n : ℕ) (a : i ≡ slot_of c.invocations id) (b : n ≡ (get_or c.invocations i no_invocation).state) where
    pub not-idled : (n ≡ state → ⊥) → Idled t p id state (Err WrongInvocation) t
    unfolding needs
    not-idled m = record { is = ne _ _ _ _ (λ q. m (found i n a b ∙ q)) refl; same = refl; changed = tt }

    pub idled : n ≡ state → (d : Control) → d ≡ to_idle c id → (u : List ℕ) → u ≡ encode (with_place (view t) p (with_control (place_at (view t) p) d)) → Idled t p id state (Ok tt) u
    unfolding needs
    idled m d f u g = record {
      is = eq _ _ _ _ (sym (found i n a b) ∙ m) refl;
      same = tt;
      changed = g ∙ ap (λ (k : Control). encode (with_place (view t) p (with_control (place_at (view t) p) k))) (f ∙ ap (λ (k : Control). to_idle k id) e);
    }

-- "Timeout gives L-CANCEL but in class 4."
module _ (me : ℕ) (x : Place) (id class : ℕ) (e : class ≡ (invocation_of x.control.invocations id).class) where
  pub no-cancel-row : class ≡ 4 → timeout_rows me x id ≡ []
  unfolding timeout_rows
  no-cancel-row h = sym (eq _ _ _ _ (sym e ∙ h) refl)

  pub cancel-rows : (class ≡ 4 → ⊥) → timeout_rows me x id ≡ cancel_row me id ∷ []
  unfolding timeout_rows
  cancel-rows h = sym (ne _ _ _ _ (λ q. h (e ∙ q)) refl)
