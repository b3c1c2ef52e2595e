-- WHAT A DIALOGUE SENDS is what its entry says. Assumes nothing.
use Rattle.std.specs.Prelude.{◌≡◌, Bool, ℕ, zero, suc, ◌+◌, ◌≤◌, ◌<◌, get_or, take}
use Rattle.std.proofs.Math.Path.{refl, sym, ap, subst}
use Rattle.std.proofs.Common.{◌∙◌}
use mathlib.Core.List.{List, [], ◌∷◌, ◌++◌, map, append-nil, append_assoc}
use native.Mathlib.Omega.{arith}
use Rattle.std.proofs.Math.Dec.{leb}
use Rattle.std.proofs.Math.ListN.{length, length-append}
use borrow.Author.Tests.{leb-true}
use Rattle.laws.specs.If.{yes, no, by-b}
use Rattle.paper.specs.Sizes.{most_waiting}
use Rattle.paper.specs.declared.Reject.{Reject}
use Rattle.paper.specs.declared.Control.{Control}
use Rattle.paper.specs.Writing.{Written, octets_of, joined}
use Rattle.paper.specs.Dialogues.{Place, no_reject, all_rejects, waiting_rejects, rejects_fit, sent_components, after_sending, fits_with, without_rejects, peer_of}
use Rattle.paper.specs.Asked.{all_sent}
use Rattle.paper.specs.Ledger.{Entry, fit, goes, stays, sends}
use Rattle.demand_readback.specs.Written.{AllAllowed}
use Rattle.table_laws.specs.Fine.{FineReject, FinePlace}
use Rattle.table_laws.proofs.Keeps.{sent-only}
use Rattle.demand_ledger.specs.Ours.{Ours}
use Rattle.demand_ledger.proofs.Ours.{ours-sent}
use Rattle.demand_ledger.specs.Agrees.{reject_of, waits, Is}

-- one after another
pub joined-append : (a b : List Written) → joined (a ++ b) ≡ joined a ++ joined b
unfolding joined
joined-append [] b = refl
joined-append (w ∷ a) b = ap (λ (l : List ℕ). octets_of w ++ l) (joined-append a b) ∙ sym (append_assoc (octets_of w) (joined a) (joined b))

pub joined-more : (a : List Written) (w : Written) → joined (a ++ (w ∷ [])) ≡ joined a ++ octets_of w
unfolding joined
joined-more a w = joined-append a (w ∷ []) ∙ ap (λ (l : List ℕ). joined a ++ l) (append-nil (octets_of w))

pub allowed-append : (a b : List Written) → AllAllowed a → AllAllowed b → AllAllowed (a ++ b)
allowed-append [] b p q = q
allowed-append (w ∷ a) b p q = (p.0, allowed-append a b p.1 q)

rejects-joined : (rs : List Reject) → all_rejects rs ≡ joined (map reject_of rs)
unfolding all_rejects joined octets_of
rejects-joined [] = refl
rejects-joined (r ∷ rs) = ap (λ (l : List ℕ). octets_of (reject_of r) ++ l) (rejects-joined rs)

-- "waiting rejects are ones the component sub-layer sends"
rejects-allowed : (n : ℕ) (l : List Reject) → ((i : ℕ) → i < n → i < length l → FineReject (get_or l i no_reject)) → AllAllowed (map reject_of (take n l))
rejects-allowed zero l f = tt
rejects-allowed (suc n) [] f = tt
rejects-allowed (suc n) (r ∷ l) f =
    let w : FineReject r = f 0 (omega arith) (omega arith) in
    ((w.id, λ z. omega (arith, w.sender)), rejects-allowed n l (λ i h g. f (suc i) (omega arith) (omega arith)))

module _ (e : Entry) (x : Place) (w : Is e x) where
  rejects-are : waiting_rejects x.control ≡ joined e.rejects
  unfolding waiting_rejects
  rejects-are = rejects-joined (take x.control.count x.control.rejects) ∙ ap joined w.rejects

  -- n octets of the 240 are the portion's (02 a)
  fit_is : (n : ℕ) → rejects_fit x n ≡ fit e n
  unfolding rejects_fit fit
  fit_is n =
      ap (λ (l : List ℕ). leb (n + (length l + length (waiting_rejects x.control))) most_waiting) w.passed
      ∙ ap (λ (l : List ℕ). leb (n + (length (joined e.passed) + length l)) most_waiting) rejects-are

  pub goes-is : (n : ℕ) → sent_components x (rejects_fit x n) ≡ joined (goes e (fit e n))
  unfolding sent_components goes
  goes-is n =
      by-b {r = sent_components x (rejects_fit x n)} _ _ _ refl
      (λ b z. z ∙ ap (λ (l : List ℕ). l ++ waiting_rejects x.control) w.passed ∙ ap (λ (l : List ℕ). joined e.passed ++ l) rejects-are
      ∙ sym (joined-append e.passed e.rejects) ∙ ap joined (yes _ _ _ (sym (fit_is n) ∙ b) refl))
      (λ b z. z ∙ w.passed ∙ ap joined (no _ _ _ (sym (fit_is n) ∙ b) refl))

  -- its entry afterwards
  pub sent_is : FinePlace x → (state : ℕ) (portion : List ℕ) → Is (sends state portion e) (after_sending x (fits_with x portion) state)
  unfolding after_sending stays joined
  sent_is f state portion =
      let ours = ours-sent x.control f.control e.invocations w.ours in
      let fits = fit_is (length portion) in
      let o = sent-only x.control state in
      by-b {r = (after_sending x (fits_with x portion) state).control} _ _ _ refl
      (λ b z. left _ (z ∙ ap without_rejects o) refl refl refl (yes _ _ _ (sym fits ∙ b) refl) ours)
      (λ b z. left _ (z ∙ o) refl refl refl (w.rejects ∙ no _ _ _ (sym fits ∙ b) refl) ours)
    where
      left : (c : Control) → (after_sending x (fits_with x portion) state).control ≡ c → c.state ≡ state → c.service ≡ x.control.service → peer_of c ≡ peer_of x.control
          → waits c ≡ stays e (fit e (length portion)) → Ours c.invocations (all_sent e.invocations) → Is (sends state portion e) (after_sending x (fits_with x portion) state)
      left c z a b p q ours = subst (λ (d : Control). Is (sends state portion e) (record { control = d; waiting = [] })) (sym z)
          (record { state = a; service = b ∙ w.service; peer = p ∙ w.peer; passed = refl; allowed = tt; rejects = q; ours = ours })

  pub sent-turn : (fits : Bool) (state : ℕ) → (after_sending x fits state).control.turn ≡ x.control.turn
  unfolding after_sending
  sent-turn fits state =
      let o = ap (λ (c : Control). c.turn) (sent-only x.control state) in
      by-b {r = (after_sending x fits state).control} _ _ _ refl (λ b z. ap (λ (c : Control). c.turn) z ∙ o) (λ b z. ap (λ (c : Control). c.turn) z ∙ o)

  -- at most 240 octets with the portion, where it and the waiting components have no more
  pub goes-few : (n : ℕ) → n + length x.waiting ≤ most_waiting → n + length (joined (goes e (fit e n))) ≤ most_waiting
  unfolding goes fit
  goes-few n room =
      by-b {r = goes e (fit e n)} _ _ _ refl
      (λ b z. omega (
        arith,
        ap (λ (l : List Written). length (joined l)) z,
        ap length (joined-append e.passed e.rejects),
        length-append (joined e.passed) (joined e.rejects),
        leb-true (n + (length (joined e.passed) + length (joined e.rejects))) most_waiting b,
      ))
      (λ b z. omega (arith, ap (λ (l : List Written). length (joined l)) z, ap length w.passed))

  module _ (f : FinePlace x) where
    rejects-fine : AllAllowed e.rejects
    rejects-fine = subst AllAllowed w.rejects (rejects-allowed x.control.count x.control.rejects f.control.rejects.each)

    pub goes-allowed : (fits : Bool) → AllAllowed (goes e fits)
    unfolding goes
    goes-allowed fits =
        by-b {r = goes e fits} _ _ _ refl
        (λ b z. subst AllAllowed (sym z) (allowed-append e.passed e.rejects w.allowed rejects-fine)) (λ b z. subst AllAllowed (sym z) w.allowed)
