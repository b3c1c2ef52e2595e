-- A CALL THAT SENDS, by the kind of its message: what refuses it, what is written, what it leaves; and its ends. Assumes nothing.
use Rattle.std.specs.Prelude.{◌≡◌, Bool, ℕ, length, eqb}
use Rattle.std.proofs.Math.Path.{refl, ap}
use Rattle.std.proofs.Common.{sym, ◌∙◌}
use Rattle.std.proofs.Math.Bool.{true, false, cond}
use mathlib.Core.List.{List, [], ◌++◌}
use native.Mathlib.Omega.{arith}
use Rattle.laws.specs.If.{if_eq, if_b}
use Rattle.laws.specs.Runs.{Wrote}
use Rattle.paper.specs.declared.Control.{Control}
use Rattle.paper.specs.declared.PduKind.{PduKind}
use Rattle.paper.specs.Refusals.{pdu_number}
use Rattle.paper.specs.Sizes.{id_octets}
use Rattle.paper.specs.Messages.{begin_tag, continue_tag, end_tag, uni_tag}
use Rattle.paper.specs.Portions.{Form}
use Rattle.paper.specs.Dialogues.{Place, Request, done, dialogue_open, dialogue_sent, dialogue_received, dialogue_active, has_peer, refusal, does, peer_of, first, needs_open, needs_peer, uni_refusal, portion_refusal, sent_components, after_sending, freed, abort_portion, abort_message}
use Rattle.paper.specs.Writing.{tlv, begin_octets, continue_octets, end_octets, uni_octets, user_abort_octets}
use Rattle.paper.specs.Dialogues.Request.{Begin, Continue, End, Unidirectional}
use Rattle.paper.specs.Calls.{place_at, with_place}
use Rattle.paper.specs.Calls.Call.{OnDialogue}
use Rattle.paper.specs.Layout.{encode, view}
use Rattle.paper.specs.Outcome.{Spaces, outcome, spaces_of, message_space}
use Rattle.call_entry.specs.declared.Reply.{Reply}
use Rattle.call_entry.specs.Replies.{reply, Told, with_space}
use Rattle.call_entry.specs.Prologue.{InDialogue}
use Rattle.call_entry.specs.Ends.{has, no_rows, dialogue-done}
use Rattle.writing_portions.specs.Forms.{form_for, form-2, form-3, form-5}
use Rattle.table_laws.proofs.Keeps.{begin-peer, continue-peer}
use Rattle.call_send_parts.specs.Sent.{Holds, Sendable}
use Rattle.call_send.specs.declared.Sending.{Sending}
use Rattle.call_send.specs.declared.Sending.TheVariants.{ABegin, AContinue, AnEnd, AUnidirectional}

pub inside-holds : {t : List ℕ} {lent least : Spaces} {s d p : ℕ} {c : Control} → InDialogue t lent least s d p → c ≡ (place_at (view t) p).control → Holds t p c
inside-holds i e = record { ready = i.used.ready; small = i.used.small; told = i.used.told; fine = i.used.fine; control = e }

-- done: the message is written, no row is, and the place is y
pub send-done : (t m : List ℕ) (s d : ℕ) (q : Request) (p : ℕ) → InDialogue t (has (with_space t m)) (spaces_of q) s d p → (y : Place) (ms : List ℕ)
    → 0 ≡ refusal (place_at (view t) p) q → does d (place_at (view t) p) q ≡ done y [] ms
    → (e : ℕ) (u v : List ℕ) → u ≡ encode (with_place (view t) p y) → Wrote m 0 ms e v → {r : Reply} → r ≡ reply 0 0 e 0
    → Told (outcome (with_space t m) (OnDialogue s d q)) r (with_space u v)
send-done t m s d q p i y ms a b e u v g h {r} k =
    let x : e ≡ length ms = omega (arith, h.past) in
    dialogue-done (with_space t m) s d q p i y [] ms a b (k ∙ ap (λ (i : ℕ). reply 0 0 i 0) x) g (no_rows []) h.holds

-- ---- the states that the requests need
abbrev pub open_refusal : ℕ → ℕ
open_refusal state = if_eq state dialogue_open 0 6

abbrev pub peer_refusal : ℕ → ℕ
peer_refusal state = if_b (has_peer state) 0 6

pub peer-tests : (state : ℕ) → if_eq state dialogue_received 0 (if_eq state dialogue_active 0 6) ≡ peer_refusal state
unfolding has_peer if_eq if_b
peer-tests state = go (eqb state dialogue_received) (eqb state dialogue_active)
  where
    go : (a b : Bool) → cond {A = ℕ} a 0 (cond b 0 6) ≡ cond (cond a true b) 0 6
    go true b = refl
    go false true = refl
    go false false = refl

-- what an abort writes, by the control record
abbrev pub abort_by : Control → List ℕ → List ℕ
abort_by c given = if_eq (peer_refusal c.state) 0 (user_abort_octets (peer_of c) (abort_portion given)) []

module _ (x : Place) (c : Control) (e : c ≡ x.control) where
  pub needs-open : (n : ℕ) → n ≡ open_refusal c.state → n ≡ needs_open x
  unfolding needs_open
  needs-open n h = h ∙ ap (λ (k : Control). open_refusal k.state) e

  pub needs-peer : (n : ℕ) → n ≡ peer_refusal c.state → n ≡ needs_peer x
  unfolding needs_peer
  needs-peer n h = h ∙ ap (λ (k : Control). peer_refusal k.state) e

  pub abort-is : (given : List ℕ) → abort_by c given ≡ abort_message x given
  unfolding abort_message if_eq if_b
  abort-is given = ap (λ (k : Control). abort_by k given) e ∙ go (has_peer x.control.state) (user_abort_octets (peer_of x.control) (abort_portion given))
    where
      go : (b : Bool) (m : List ℕ) → cond (eqb (cond {A = ℕ} b 0 6) 0) m [] ≡ cond b m []
      go true m = refl
      go false m = refl

  -- the state that a sending leads to has a peer where the one before had
  pub begin-sendable : 0 ≡ needs_open x → Sendable c dialogue_sent
  unfolding needs_open
  begin-sendable h = (omega arith, omega arith, begin-peer c.state (h ∙ ap (λ (k : Control). open_refusal k.state) (sym e)))

  pub continue-sendable : 0 ≡ needs_peer x → Sendable c dialogue_active
  unfolding needs_peer
  continue-sendable h = (omega arith, omega arith, continue-peer c.state (h ∙ ap (λ (k : Control). peer_refusal k.state) (sym e)))

-- ---- BY THE KIND: the request; its portion's kind; the state's refusal; tag and IDs; the message; the place afterwards
abbrev pub sending : Sending → List ℕ → List ℕ → Request
sending ABegin name info = Begin name info
sending AContinue name info = Continue name info
sending AnEnd name info = End name info
sending AUnidirectional name info = Unidirectional name info

abbrev pub portion_kind : Sending → PduKind
portion_kind ABegin = PduKind.Request
portion_kind AContinue = PduKind.Response
portion_kind AnEnd = PduKind.Response
portion_kind AUnidirectional = PduKind.Unidirectional

abbrev pub state_refusal : Sending → Place → ℕ
state_refusal ABegin x = needs_open x
state_refusal AContinue x = needs_peer x
state_refusal AnEnd x = needs_peer x
state_refusal AUnidirectional x = uni_refusal x

abbrev pub tag_for : Sending → ℕ
tag_for ABegin = begin_tag
tag_for AContinue = continue_tag
tag_for AnEnd = end_tag
tag_for AUnidirectional = uni_tag

abbrev pub ids_for : Sending → ℕ → Control → List ℕ
ids_for ABegin d c = tlv 0x48 (id_octets d)
ids_for AContinue d c = tlv 0x48 (id_octets d) ++ tlv 0x49 (peer_of c)
ids_for AnEnd d c = tlv 0x49 (peer_of c)
ids_for AUnidirectional d c = []

abbrev pub message_for : Sending → ℕ → Place → List ℕ → Bool → List ℕ
message_for ABegin d x portion fits = begin_octets (id_octets d) portion (sent_components x fits)
message_for AContinue d x portion fits = continue_octets (id_octets d) (peer_of x.control) portion (sent_components x fits)
message_for AnEnd d x portion fits = end_octets (peer_of x.control) portion (sent_components x fits)
message_for AUnidirectional d x portion fits = uni_octets portion (sent_components x fits)

abbrev pub place_after : Sending → Place → Bool → Place
place_after ABegin x fits = after_sending x fits dialogue_sent
place_after AContinue x fits = after_sending x fits dialogue_active
place_after AnEnd x fits = freed x
place_after AUnidirectional x fits = freed x

pub sending-spaces : (k : Sending) (name info : List ℕ) → message_space ≡ spaces_of (sending k name info)
sending-spaces ABegin name info = refl
sending-spaces AContinue name info = refl
sending-spaces AnEnd name info = refl
sending-spaces AUnidirectional name info = refl

-- no message has an ABRT
pub not-abrt : (k : Sending) {kind : PduKind} → kind ≡ portion_kind k → kind ≡ PduKind.Abort → ⊥
not-abrt ABegin e z = omega (arith, ap pdu_number (sym e ∙ z))
not-abrt AContinue e z = omega (arith, ap pdu_number (sym e ∙ z))
not-abrt AnEnd e z = omega (arith, ap pdu_number (sym e ∙ z))
not-abrt AUnidirectional e z = omega (arith, ap pdu_number (sym e ∙ z))

-- the state's number, else the portion's
module _ (x : Place) (name info : List ℕ) where
  as-refusal : (k : Sending) → first (state_refusal k x) (portion_refusal x (form_for (pdu_number (portion_kind k))) name info) ≡ refusal x (sending k name info)
  unfolding refusal
  as-refusal ABegin = ap (λ (f : Form). first (needs_open x) (portion_refusal x f name info)) form-2
  as-refusal AContinue = ap (λ (f : Form). first (needs_peer x) (portion_refusal x f name info)) form-3
  as-refusal AnEnd = ap (λ (f : Form). first (needs_peer x) (portion_refusal x f name info)) form-3
  as-refusal AUnidirectional = ap (λ (f : Form). first (uni_refusal x) (portion_refusal x f name info)) form-5

  pub sending-refusal : (k : Sending) (kind a r : ℕ) → kind ≡ pdu_number (portion_kind k) → a ≡ state_refusal k x → r ≡ first a (portion_refusal x (form_for kind) name info)
      → r ≡ refusal x (sending k name info)
  sending-refusal k kind a r e h g =
      g ∙ ap (λ (n : ℕ). first n (portion_refusal x (form_for kind) name info)) h
      ∙ ap (λ (n : ℕ). first (state_refusal k x) (portion_refusal x (form_for n) name info)) e ∙ as-refusal k
