-- WHAT A SENDING WRITES AND LEAVES: the waiting components and rejects, and the control record after it. Assumes nothing.
use Rattle.std.specs.Prelude.{◌≡◌, Bool, ℕ, zero, suc, ◌+◌, ◌/◌, ◌%◌, ◌<◌, ◌≤◌, get_or}
use Rattle.std.proofs.Math.Path.{refl, sym, ap}
use Rattle.std.proofs.Common.{subst, ◌∙◌, add-one, arith, take-suc, le-leb}
use Rattle.std.proofs.Math.Bool.{true, false}
use mathlib.Core.List.{List, [], ◌∷◌, ◌++◌, append_assoc, append-nil}
use Rattle.std.proofs.Math.ListN.{length, take, length-append}
use Rattle.std.proofs.lemmas.Bool.{lt-leb}
use Rattle.laws.specs.If.{if_b, yes, no}
use Rattle.paper.specs.Sizes.{most_waiting, places_in_all}
use Rattle.paper.specs.declared.Reject.{Reject}
use Rattle.paper.specs.declared.Control.{Control}
use Rattle.paper.specs.Writing.{reject_octets}
use Rattle.paper.specs.Invocations.{all_transmitted}
use Rattle.paper.specs.Dialogues.{Place, no_reject, with_state, without_rejects, all_rejects, waiting_rejects, rejects_fit, sent_components, after_sending, has_peer}
use Rattle.paper.specs.Calls.{place_at}
use Rattle.paper.specs.Layout.{flag, view}
use Rattle.table_laws.specs.Fine.{FineControl, FinePlace}
use Rattle.table_laws.proofs.Kept.{layer-small}
use Rattle.table_laws.specs.Ready.{Ready}
use Rattle.table_laws.proofs.Keeps.{with-state-fine, without-rejects-fine, transmitted-fine, sent-only}
use Rattle.table_places.specs.Storing.{Storing, with_waiting}
use Rattle.writing_octets.specs.Lengths.{reject_size, reject-length}

-- place p of a table that keeps the rules has a dialogue, and c is its control record
pub record Holds (t : List ℕ) (p : ℕ) (c : Control) : Type 0 where
  pub ready : Ready t
  pub small : p < places_in_all
  pub told : flag (place_at (view t) p) ≡ 0
  pub fine : FinePlace (place_at (view t) p)
  pub control : c ≡ (place_at (view t) p).control

pub holds-fine : {t : List ℕ} {p : ℕ} {c : Control} → Holds t p c → FineControl c
holds-fine h = subst FineControl (sym h.control) h.fine.control

-- whether the waiting rejects go too where q octets are the dialogue portion's, and how many octets of components are sent
pub record Sends (x : Place) (q : ℕ) (fits : Bool) (n : ℕ) : Type 0 where
  pub fit : fits ≡ rejects_fit x q
  pub long : n ≡ length (sent_components x fits)
  pub most : q + n ≤ most_waiting

-- a dialogue's state that has a peer where the one before had
abbrev pub Sendable : Control → ℕ → Type 0
Sendable c state = (0 < state) × (state < 5) × (has_peer state ≡ has_peer c.state)

abbrev pub control_after : Control → ℕ → Bool → Control
control_after c state fits = if_b fits (without_rejects (all_transmitted (with_state c state))) (all_transmitted (with_state c state))

-- ---- the waiting rejects, one more
abbrev pub first_rejects : List Reject → ℕ → List ℕ
first_rejects l i = all_rejects (take i l)

rejects-append : (l m : List Reject) → all_rejects (l ++ m) ≡ all_rejects l ++ all_rejects m
unfolding all_rejects
rejects-append [] m = refl
rejects-append (r ∷ l) m = ap (λ (k : List ℕ). reject_octets r.id r.problem ++ k) (rejects-append l m) ∙ sym (append_assoc (reject_octets r.id r.problem) (all_rejects l) (all_rejects m))

module _ (l : List Reject) (i : ℕ) (h : i < length l) where
  abbrev at : Reject
  at = get_or l i no_reject

  pub rejects-more : first_rejects l i ++ reject_octets at.id at.problem ≡ first_rejects l (i + 1)
  unfolding all_rejects
  rejects-more =
      ap (λ (k : List ℕ). first_rejects l i ++ k) (sym (append-nil (reject_octets at.id at.problem)))
      ∙ sym (rejects-append (take i l) (at ∷ []))
      ∙ ap all_rejects (sym (take-suc l i no_reject h) ∙ ap (λ (k : ℕ). take k l) (sym (add-one i)))

  pub size-more : (n m : ℕ) → n ≡ length (first_rejects l i) → m ≡ reject_size at.id → n + m ≡ length (first_rejects l (i + 1))
  size-more n m a b =
      omega (arith, length-append (first_rejects l i) (reject_octets at.id at.problem), reject-length at.id at.problem, ap length rejects-more)

pub none_yet : (l : List Reject) → [] ≡ first_rejects l 0
unfolding all_rejects
none_yet l = refl

-- the i-th goes into what they take together
pub reject-room : (l : List Reject) (i n : ℕ) → i < n → i < length l → length (first_rejects l i) + reject_size (get_or l i no_reject).id ≤ length (first_rejects l n)
unfolding all_rejects
reject-room [] i n h g = absurd (omega arith)
reject-room (r ∷ l) zero zero h g = absurd (omega arith)
reject-room (r ∷ l) zero (suc n) h g = omega (arith, reject-length r.id r.problem, length-append (reject_octets r.id r.problem) (all_rejects (take n l)))
reject-room (r ∷ l) (suc i) zero h g = absurd (omega arith)
reject-room (r ∷ l) (suc i) (suc n) h g =
    omega (
      arith,
      reject-room l i n (omega arith) (omega arith),
      length-append (reject_octets r.id r.problem) (all_rejects (take n l)),
      length-append (reject_octets r.id r.problem) (all_rejects (take i l)),
    )

-- what the writing of the i-th asks
pub reject-asks : (c : Control) (i at e n : ℕ) → FineControl c → i < c.count → e ≡ at + length (first_rejects c.rejects i)
    → at + length (waiting_rejects c) ≤ n
    → ((get_or c.rejects i no_reject).id ≤ 256) × ((get_or c.rejects i no_reject).problem < 1024) × (e + reject_size (get_or c.rejects i no_reject).id ≤ n)
unfolding waiting_rejects
reject-asks c i at e n f h q g =
    let l : i < length c.rejects = omega (arith, f.eights, f.count) in
    let r = f.rejects.each i h l in
    let w : Reject = get_or c.rejects i no_reject in
    (r.id, omega (arith, layer-small (w.problem / 256) (w.problem % 256) r.sender), omega (arith, reject-room c.rejects i c.count h l))

-- ---- what is sent
module _ (x : Place) where
  pub sent-all : (fits : Bool) → fits ≡ true → x.waiting ++ waiting_rejects x.control ≡ sent_components x fits
  unfolding sent_components
  sent-all fits e = yes fits (x.waiting ++ waiting_rejects x.control) x.waiting e refl

  pub sent-none : (fits : Bool) → fits ≡ false → x.waiting ≡ sent_components x fits
  unfolding sent_components
  sent-none fits e = no fits (x.waiting ++ waiting_rejects x.control) x.waiting e refl

  module _ (q w n : ℕ) (a : w ≡ length x.waiting) (b : n ≡ length (waiting_rejects x.control)) where
    pub fits-is : q + w + n ≤ most_waiting → Sends x q true (w + n)
    unfolding rejects_fit
    fits-is h = record {
      fit = sym (le-leb (q + (length x.waiting + length (waiting_rejects x.control))) most_waiting (omega arith));
      long = omega (arith, length-append x.waiting (waiting_rejects x.control), ap length (sent-all true refl));
      most = omega arith;
    }

    pub fits_not : most_waiting < q + w + n → q + w ≤ most_waiting → Sends x q false w
    unfolding rejects_fit
    fits_not h g = record {
      fit = sym (lt-leb (q + (length x.waiting + length (waiting_rejects x.control))) most_waiting (omega arith));
      long = a ∙ ap length (sent-none false refl);
      most = g;
    }

  -- the waiting octets are sent in any case
  pub sent-least : (fits : Bool) → length x.waiting ≤ length (sent_components x fits)
  sent-least true = omega (arith, ap length (sent-all true refl), length-append x.waiting (waiting_rejects x.control))
  sent-least false = omega (arith, ap length (sent-none false refl))

  -- room for both is room for the one after the other
  pub sent-room : (fits : Bool) (c : Control) (w : List ℕ) (at e n : ℕ) → fits ≡ true → c ≡ x.control → w ≡ x.waiting → e ≡ at + length w
      → at + length (sent_components x fits) ≤ n → e + length (waiting_rejects c) ≤ n
  sent-room fits c w at e n f a b d h =
      omega (arith, ap length b, ap (λ (k : Control). length (waiting_rejects k)) a, ap length (sent-all fits f), length-append x.waiting (waiting_rejects x.control))

-- ---- what is left
module _ (t : List ℕ) (p : ℕ) (c : Control) (h : Holds t p c) (state : ℕ) (fits : Bool) where
  abbrev after : Control
  after = all_transmitted (with_state c state)

  pub after-storing : Sendable c state → Storing 0 t p (control_after c state fits)
  unfolding if_b
  after-storing (g, m, e) = go fits
    where
      stored : FineControl after
      stored = transmitted-fine (with_state c state) (with-state-fine c (holds-fine h) state m e)

      used : after.state ≡ 0 → ⊥
      used z = omega (arith, z, ap (λ (d : Control). d.state) (sent-only c state))

      go : (b : Bool) → Storing 0 t p (control_after c state b)
      go true = record { ready = h.ready; small = h.small; told = h.told; control = without-rejects-fine after stored; state = used }
      go false = record { ready = h.ready; small = h.small; told = h.told; control = stored; state = used }

  pub after_is : with_waiting (control_after c state fits) [] ≡ after_sending (place_at (view t) p) fits state
  unfolding after_sending
  after_is = ap (λ (d : Control). with_waiting (control_after d state fits) []) h.control
