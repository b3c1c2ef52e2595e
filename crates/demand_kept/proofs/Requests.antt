-- WHAT A REQUEST OR TIMER DOES TO ITS DIALOGUE KEEPS THE RULES (01, "Dialogue states"). Assumes nothing.
use Rattle.std.specs.Prelude.{◌≡◌, Bool, true, ℕ, ◌≤◌, ◌<◌}
use Rattle.std.proofs.Math.Path.{refl, sym, ap, subst}
use Rattle.std.proofs.Common.{◌∙◌, arith, length-append}
use mathlib.Core.List.{List, [], ◌++◌}
use Rattle.laws.specs.If.{by-eq, was-ge, was-eq, was-yes, by-b, true-false}
use Rattle.paper.specs.declared.Control.{Control}
use Rattle.paper.specs.Problems.{kind_of}
use Rattle.paper.specs.Components.{no_id}
use Rattle.paper.specs.Writing.{invoke_octets, result_octets, error_octets, reject_octets, Written, octets_of}
use Rattle.paper.specs.Invocations.{invocation_of, state_of, to_state, to_idle, passed, all_transmitted, may_reject}
use Rattle.paper.specs.Dialogues.{Place, Request, Invoke, Result, Error, UserReject, Cancel, Begin, Continue, End, Prearranged, Abort, Unidirectional, Timeout, RejectTimeout, NoReaction, has_peer, with_control, with_state, without_rejects, overfull, invoke_refusal, result_refusal, error_refusal, reject_refusal, rejected_by, after_sending, needs_open, needs_peer, refusal, does}
use Rattle.demand_readback.specs.Written.{ResultTag, Allowed}
use Rattle.table_laws.specs.Fine.{FineControl, FinePlace}
use Rattle.table_laws.proofs.Keeps.{begin-peer, continue-peer, passed-fine, to-state-fine, to-idle-fine, transmitted-fine, sent-only, with-state-fine, without-rejects-fine}
use Rattle.demand_kept.specs.Acts.{Stays}
use Rattle.demand_kept.proofs.Acts.{unchanged}
use Rattle.demand_kept.proofs.Waiting.{kept-none, waiting-append, written-kept}
use Rattle.demand_kept.proofs.Portions.{first-none, room-told}
use Rattle.demand_kept.specs.Requests.{GoesOn, Formed, request_of, frees, Leaves}

-- a place with a dialogue and no waiting octets is fine where its control record is
pub place-fine : (c : Control) → FineControl c → (c.state ≡ 0 → ⊥) → FinePlace (record { control = c; waiting = [] })
place-fine c f n = record { control = f; room = omega arith; whole = kept-none [] refl; free = λ e. absurd (n e) }

-- WHAT A COMPONENT THAT ISN'T REFUSED IS: one whose parts the rules allow, with room for it
module _ (x : Place) where
  abbrev Taken : Written → Type 0
  Taken v = Allowed v × (overfull x (octets_of v) ≡ 0)

  pub invoke-told : (id linked class : ℕ) (op par : List ℕ) → id < 256 → linked ≤ no_id → invoke_refusal x id linked class op par ≡ 0
      → (1 ≤ class) × (class ≤ 4) × (state_of x.control id ≡ 0) × Taken (Written.Invoke id linked op par)
  unfolding invoke_refusal octets_of
  invoke-told id linked class op par h g e =
      let a = was-ge _ _ _ _ (sym e) (λ z. omega arith) in
      let b = was-ge _ _ _ _ a.1 (λ z. omega arith) in
      let c = was-eq _ _ _ _ b.1 (λ z. omega arith) in
      by-eq _ _ _ _ c.1 (λ z w. absurd (omega arith))
      (λ z w.
      let k = was-yes _ _ _ w (λ z. omega arith) in
      let p = was-yes _ _ _ k.1 (λ z. omega arith) in
      (a.0, b.0, c.0, ((h, g, k.0, p.0), sym p.1)))

  result-told : (tag id : ℕ) (op par : List ℕ) → ResultTag tag → id < 256 → result_refusal x tag id op par ≡ 0 → Taken (Written.Result tag id op par)
  unfolding result_refusal octets_of
  result-told tag id op par t h e =
      by-eq _ _ _ _ (sym e) (λ z w. absurd (omega arith)) (λ z w. let k = was-yes _ _ _ w (λ z. omega arith) in ((t, h, k.0), sym k.1))

  error-told : (id : ℕ) (err par : List ℕ) → id < 256 → error_refusal x id err par ≡ 0 → Taken (Written.Error id err par)
  unfolding error_refusal octets_of
  error-told id err par h e =
      by-eq _ _ _ _ (sym e) (λ z w. absurd (omega arith))
      (λ z w.
      let k = was-yes _ _ _ w (λ z. omega arith) in
      let p = was-yes _ _ _ k.1 (λ z. omega arith) in
      ((h, k.0, p.0), sym p.1))

  pub reject-told : (id p : ℕ) → id ≤ no_id → reject_refusal x id p ≡ 0
      → (may_reject (kind_of p) (invocation_of x.control.invocations id) ≡ true) × Taken (Written.Reject id p)
  unfolding reject_refusal octets_of
  reject-told id p h e =
      by-eq _ _ _ _ (sym e) (λ z w. absurd (omega arith))
      (λ z w.
      let s = was-eq _ _ _ _ w (λ z. omega arith) in
      let k = was-yes _ _ _ s.1 (λ z. omega arith) in
      (k.0, ((h, λ z. omega (arith, s.0)), sym k.1)))

module _ (x : Place) (f : FinePlace x) (used : x.control.state ≡ 0 → ⊥) where
  -- ITS CONTROL RECORD CHANGED
  pub control-goes-on : (c : Control) → FineControl c → (c.state ≡ 0 → ⊥) → c.service ≡ x.control.service → GoesOn x (with_control x c)
  control-goes-on c g n e = record {
    fine = record { control = g; room = f.room; whole = f.whole; free = λ e. absurd (n e) };
    state = n;
    service = e;
  }

  -- A COMPONENT PASSED
  pass-goes-on : (c : Control) → Stays x.control c → (w : Written) → Allowed w → overfull x (octets_of w) ≡ 0
      → GoesOn x (record { control = c; waiting = x.waiting ++ octets_of w })
  pass-goes-on c s w a e =
      let n = room-told x (octets_of w) e in
      record {
        fine = record {
          control = s.fine;
          room = omega (arith, length-append x.waiting (octets_of w));
          whole = waiting-append x.waiting (octets_of w) f.whole (written-kept w a (omega arith));
          free = λ e. absurd (used (sym s.state ∙ e));
        };
        state = λ e. used (sym s.state ∙ e);
        service = s.service;
      }

  idle-goes-on : (id : ℕ) → GoesOn x (with_control x (to_idle x.control id))
  unfolding to_idle
  idle-goes-on id = control-goes-on (to_idle x.control id) (to-idle-fine x.control f.control id) used refl

  invoke-goes-on : (id linked class : ℕ) (op par : List ℕ) → id < 256 → linked ≤ no_id → invoke_refusal x id linked class op par ≡ 0
      → GoesOn x (record { control = passed x.control id class; waiting = x.waiting ++ invoke_octets id linked op par })
  unfolding passed octets_of
  invoke-goes-on id linked class op par h g e =
      let (least, most, idle, parts) = invoke-told x id linked class op par h g e in
      pass-goes-on (passed x.control id class) (record { fine = passed-fine x.control f.control id class idle least most; state = refl; service = refl })
      (Written.Invoke id linked op par) parts.0 parts.1

  result-goes-on : (tag id : ℕ) (op par : List ℕ) → ResultTag tag → id < 256 → result_refusal x tag id op par ≡ 0
      → GoesOn x (record { control = x.control; waiting = x.waiting ++ result_octets tag id op par })
  unfolding octets_of
  result-goes-on tag id op par t h e =
      let parts = result-told x tag id op par t h e in
      pass-goes-on x.control (unchanged x.control f.control) (Written.Result tag id op par) parts.0 parts.1

  error-goes-on : (id : ℕ) (err par : List ℕ) → id < 256 → error_refusal x id err par ≡ 0
      → GoesOn x (record { control = x.control; waiting = x.waiting ++ error_octets id err par })
  unfolding octets_of
  error-goes-on id err par h e =
      let parts = error-told x id err par h e in
      pass-goes-on x.control (unchanged x.control f.control) (Written.Error id err par) parts.0 parts.1

  -- one that may be rejected is in use, but an invoke's reject needs none
  may-used : (id kind : ℕ) → (kind ≡ 1 → ⊥) → may_reject kind (invocation_of x.control.invocations id) ≡ true → state_of x.control id ≡ 0 → ⊥
  unfolding may_reject
  may-used id kind n e z =
      by-eq _ _ _ _ (sym e) (λ a w. n a)
      (λ a w. by-eq _ _ _ _ w (λ b w. omega arith)
      (λ b w. by-eq _ _ _ _ w (λ c w. let d = was-eq _ _ _ _ w true-false in omega arith) (λ c w. true-false w)))

  pub rejected-by-stays : (id p : ℕ) → may_reject (kind_of p) (invocation_of x.control.invocations id) ≡ true → Stays x.control (rejected_by x.control id p)
  unfolding rejected_by to_state
  rejected-by-stays id p e =
      by-eq {r = rejected_by x.control id p} _ _ _ _ refl (λ a z. subst (Stays x.control) (sym z) (unchanged x.control f.control))
      (λ a z. subst (Stays x.control) (sym z)
      (record { fine = to-state-fine x.control f.control id 4 (may-used id (kind_of p) a e) (omega arith) (omega arith); state = refl; service = refl }))

  reject-goes-on : (id p : ℕ) → id ≤ no_id → reject_refusal x id p ≡ 0
      → GoesOn x (record { control = rejected_by x.control id p; waiting = x.waiting ++ reject_octets id p })
  unfolding octets_of
  reject-goes-on id p h e =
      let (may, parts) = reject-told x id p h e in
      pass-goes-on (rejected_by x.control id p) (rejected-by-stays id p may) (Written.Reject id p) parts.0 parts.1

  -- A SENDING, with or without the rejects, to a state with a peer as before
  sent-goes-on : (fits : Bool) (state : ℕ) → 0 < state → state < 5 → has_peer state ≡ has_peer x.control.state → GoesOn x (after_sending x fits state)
  unfolding after_sending
  sent-goes-on fits state a b e =
      let c : Control = all_transmitted (with_state x.control state) in
      let g : FineControl c = transmitted-fine (with_state x.control state) (with-state-fine x.control f.control state b e) in
      let o = sent-only x.control state in
      let n : 0 < c.state = omega (arith, ap (λ (d : Control). d.state) o) in
      let s : c.service ≡ x.control.service = ap (λ (d : Control). d.service) o in
      by-b {r = (after_sending x fits state).control} _ _ _ refl
      (λ h z. left (without_rejects c) z (without-rejects-fine c g) n s) (λ h z. left c z g n s)
    where
      left : (c : Control) → (after_sending x fits state).control ≡ c → FineControl c → 0 < c.state → c.service ≡ x.control.service → GoesOn x (after_sending x fits state)
      left c z g a s = subst (λ (d : Control). GoesOn x (record { control = d; waiting = [] })) (sym z)
          (record { fine = place-fine c g (λ e. omega arith); state = λ e. omega arith; service = s })

  begin-goes-on : (fits : Bool) → needs_open x ≡ 0 → GoesOn x (after_sending x fits 2)
  unfolding needs_open
  begin-goes-on fits e = sent-goes-on fits 2 (omega arith) (omega arith) (begin-peer x.control.state (sym e))

  continue-goes-on : (fits : Bool) → needs_peer x ≡ 0 → GoesOn x (after_sending x fits 4)
  unfolding needs_peer
  continue-goes-on fits e = sent-goes-on fits 4 (omega arith) (omega arith) (continue-peer x.control.state (sym e))

pub passed-taken : (x : Place) (class : ℕ) (v : Written) → Formed (request_of class v) → refusal x (request_of class v) ≡ 0 → Allowed v × (overfull x (octets_of v) ≡ 0)
unfolding refusal
passed-taken x class (Written.Invoke id linked op par) w e = (invoke-told x id linked class op par w.0 w.1 e).3
passed-taken x class (Written.Result tag id op par) w e = result-told x tag id op par w.0 w.1 e
passed-taken x class (Written.Error id err par) w e = error-told x id err par w e
passed-taken x class (Written.Reject id p) w e = (reject-told x id p (omega arith) e).1

pub does-kept : (x : Place) → FinePlace x → (x.control.state ≡ 0 → ⊥) → (me : ℕ) (r : Request) → Formed r → refusal x r ≡ 0 → Leaves (frees r) x (does me x r).place
unfolding does refusal
does-kept x f u me (Invoke id linked class op par) w e = invoke-goes-on x f u id linked class op par w.0 w.1 e
does-kept x f u me (Result tag id op par) w e = result-goes-on x f u tag id op par w.0 w.1 e
does-kept x f u me (Error id err par) w e = error-goes-on x f u id err par w e
does-kept x f u me (UserReject id p) w e = reject-goes-on x f u id p (omega arith) e
does-kept x f u me (Cancel id) w e = idle-goes-on x f u id
does-kept x f u me (Begin name info) w e = begin-goes-on x f u _ (first-none _ _ e).0
does-kept x f u me (Continue name info) w e = continue-goes-on x f u _ (first-none _ _ e).0
does-kept x f u me (End name info) w e = refl
does-kept x f u me Prearranged w e = refl
does-kept x f u me (Abort given) w e = refl
does-kept x f u me (Unidirectional name info) w e = refl
does-kept x f u me (Timeout id) w e = idle-goes-on x f u id
does-kept x f u me (RejectTimeout id) w e = idle-goes-on x f u id
does-kept x f u me NoReaction w e = refl
