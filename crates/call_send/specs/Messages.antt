-- A MESSAGE AS IT IS WRITTEN: up to its IDs, then its dialogue portion and what is sent. Assumes nothing.
use Rattle.std.specs.Prelude.{◌≡◌, refl, Bool, ℕ, ◌+◌, ◌<◌, ◌≤◌, length}
use Rattle.std.proofs.Common.{sym, ap, ◌∙◌, arith, length-append}
use mathlib.Core.List.{List, [], ◌++◌}
use Rattle.laws.specs.Runs.{Wrote, wrote-more, wrote_as}
use Rattle.paper.specs.declared.Control.{Control}
use Rattle.paper.specs.Sizes.{most_waiting, least_space, id_octets}
use Rattle.paper.specs.Refusals.{pdu_number}
use Rattle.paper.specs.Messages.{abort_tag}
use Rattle.paper.specs.Writing.{tlv, continue_octets, end_octets, user_abort_octets}
use Rattle.paper.specs.Portions.{Form, aarq, aare, audt, portion_by}
use Rattle.paper.specs.Dialogues.{Place, Done, done, peer_of, sent_components, rejects_fit, fits_with, portion_refusal, does}
use Rattle.table_laws.specs.Fine.{FineControl}
use Rattle.writing_octets.specs.Heads.{components_head, front_head, begin-joined, continue-joined, end-joined, uni-joined, abort-joined}
use Rattle.writing_octets.specs.Lengths.{element_size, element-small, components-small, front_length, id-length, peer-length}
use Rattle.writing_portions.specs.Forms.{form_for, form-2, form-3, form-5}
use Rattle.writing_portions.specs.Spans.{both-within, portion-length}
use Rattle.call_given.specs.Portion.{portion-fits}
use Rattle.call_send_parts.specs.Sent.{Sends}
use Rattle.call_send.specs.declared.Sending.{Sending}
use Rattle.call_send.specs.declared.Sending.TheVariants.{ABegin, AContinue, AnEnd, AUnidirectional}
use Rattle.call_send.specs.Sendings.{sending, portion_kind, tag_for, ids_for, message_for, place_after}

-- what follows the IDs: the dialogue portion of a kind, of q octets, and n octets of components
pub record Follows (x : Place) (kind : ℕ) (name info : List ℕ) (q : ℕ) (fits : Bool) (n : ℕ) : Type 0 where
  pub short : (length name ≤ most_waiting) × (length info ≤ most_waiting)
  pub portion : q ≡ length (portion_by (form_for kind) name info)
  pub sends : Sends x q fits n

abbrev pub rest : List ℕ → List ℕ → List ℕ
rest portion cs = portion ++ (components_head (length cs) ++ cs)

-- its octets, the 6C's head counted
abbrev pub rest_size : ℕ → ℕ → ℕ
rest_size q n = q + (length (components_head n) + n)

module _ (x : Place) (kind : ℕ) (name info : List ℕ) (h : 0 ≡ portion_refusal x (form_for kind) name info) where
  pub portion-room : length (portion_by (form_for kind) name info) + length x.waiting ≤ most_waiting
  portion-room = omega (arith, portion-fits x (form_for kind) name info h)

  pub given-short : (kind ≡ 4 → ⊥) → (length name ≤ most_waiting) × (length info ≤ most_waiting)
  given-short g =
      let a : length name + length info ≤ most_waiting = omega (arith, portion-room, portion-length kind name info, both-within kind (length name) (length info) g) in
      (omega (arith, a), omega (arith, a))

pub rest-length : (portion cs : List ℕ) → length (rest portion cs) ≡ rest_size (length portion) (length cs)
rest-length portion cs =
    let c : List ℕ = components_head (length cs) in
    omega (arith, length-append portion (c ++ cs), length-append c cs)

-- a message whose IDs take at most 12 octets, its portion and components 240
pub rest-small : (q n m : ℕ) → q + n ≤ most_waiting → m ≡ rest_size q n → m ≤ 244
rest-small q n m h e = omega (arith, components-small n)

pub front-room : (ids m k : ℕ) → ids ≤ 12 → m ≤ 244 → least_space ≤ k → (element_size (ids + m) < 65536) × (0 + element_size (ids + m) ≤ k)
front-room ids m k h g l = (omega (arith, element-small (ids + m)), omega (arith, element-small (ids + m)))

-- has room after its IDs for what follows them
module _ {l o : List ℕ} {a : ℕ} (tag q n m : ℕ) (ids : List ℕ) (h : length ids ≤ 12) (g : q + n ≤ most_waiting) (e : m ≡ rest_size q n) (w : Wrote l 0 (front_head tag ids m) a o) where
  pub rest-room : least_space ≤ length l → a + rest_size q n ≤ length o
  rest-room k = omega (arith, w.past, w.long, front_length tag ids m, element-small (length ids + m), components-small n)

  pub message-wrote : {r : ℕ} {z ms : List ℕ} (portion cs : List ℕ) → q ≡ length portion → n ≡ length cs → Wrote o a (rest portion cs) r z
      → (m ≡ rest_size (length portion) (length cs) → front_head tag ids m ++ rest portion cs ≡ ms) → Wrote l 0 ms r z × (r ≤ least_space)
  message-wrote portion cs i j v f =
      let s : rest_size q n ≡ rest_size (length portion) (length cs) = ap (λ (k : ℕ). rest_size k n) i ∙ ap (rest_size (length portion)) j in (
        wrote_as (wrote-more w refl v) (f (e ∙ s)),
        omega (arith, w.past, v.past, rest-length portion cs, s, e, front_length tag ids m, element-small (length ids + m), components-small n),
      )

pub rest-wrote : {l m o z : List ℕ} {at a b r : ℕ} (n : ℕ) (portion cs : List ℕ) → n ≡ length cs → Wrote l at portion a m → Wrote m a (components_head n) b o
    → Wrote o b cs r z → Wrote l at (rest portion cs) r z
rest-wrote n portion cs e u v w =
    wrote_as (wrote-more u refl (wrote-more v refl w)) (ap (λ (k : ℕ). portion ++ (components_head k ++ cs)) e)

-- ---- what is sent, by the form of its PDU
module _ (x : Place) (kind : ℕ) (f : Form) (e : form_for kind ≡ f) (name info : List ℕ) where
  as-sent : {q n : ℕ} {fits : Bool} → Follows x kind name info q fits n → (k : List ℕ → Bool → Done)
      → k (portion_by f name info) (fits_with x (portion_by f name info)) ≡ k (portion_by (form_for kind) name info) fits
  as-sent w k =
      ap (λ (g : Form). k (portion_by g name info) (fits_with x (portion_by g name info))) (sym e)
      ∙ ap (k (portion_by (form_for kind) name info)) (ap (rejects_fit x) (sym w.portion) ∙ sym w.sends.fit)

module _ (d : ℕ) (x : Place) (name info : List ℕ) {q n : ℕ} {fits : Bool} where
  pub sending-does : (k : Sending) (kind : ℕ) → kind ≡ pdu_number (portion_kind k) → Follows x kind name info q fits n
      → does d x (sending k name info) ≡ done (place_after k x fits) [] (message_for k d x (portion_by (form_for kind) name info) fits)
  unfolding does
  sending-does ABegin kind e w =
      as-sent x kind aarq (ap form_for e ∙ form-2) name info w (λ l b. done (place_after ABegin x b) [] (message_for ABegin d x l b))
  sending-does AContinue kind e w =
      as-sent x kind aare (ap form_for e ∙ form-3) name info w (λ l b. done (place_after AContinue x b) [] (message_for AContinue d x l b))
  sending-does AnEnd kind e w =
      as-sent x kind aare (ap form_for e ∙ form-3) name info w (λ l b. done (place_after AnEnd x b) [] (message_for AnEnd d x l b))
  sending-does AUnidirectional kind e w =
      as-sent x kind audt (ap form_for e ∙ form-5) name info w (λ l b. done (place_after AUnidirectional x b) [] (message_for AUnidirectional d x l b))

-- the front, then what follows it, is the message
pub joined : (k : Sending) (d : ℕ) (x : Place) (c : Control) → c ≡ x.control → (portion : List ℕ) (fits : Bool) (m : ℕ)
    → m ≡ rest_size (length portion) (length (sent_components x fits)) → front_head (tag_for k) (ids_for k d c) m ++ rest portion (sent_components x fits) ≡ message_for k d x portion fits
joined ABegin d x c e portion fits m h = begin-joined (id_octets d) portion (sent_components x fits) m h
joined AContinue d x c e portion fits m h =
    continue-joined (id_octets d) (peer_of c) portion (sent_components x fits) m h ∙ ap (λ (k : Control). continue_octets (id_octets d) (peer_of k) portion (sent_components x fits)) e
joined AnEnd d x c e portion fits m h =
    end-joined (peer_of c) portion (sent_components x fits) m h ∙ ap (λ (k : Control). end_octets (peer_of k) portion (sent_components x fits)) e
joined AUnidirectional d x c e portion fits m h = uni-joined portion (sent_components x fits) m h

-- ---- the octets of the IDs
pub own-length : (d : ℕ) → length (tlv 0x48 (id_octets d)) ≡ 6
own-length d = id-length 0x48 (id_octets d) (omega arith)

module _ (c : Control) (f : FineControl c) where
  pub peer-is : length (tlv 0x49 (peer_of c)) ≡ 2 + c.peerlen
  peer-is = peer-length c.peerlen c.peer (omega (arith, f.four, f.peer.most)) (omega (arith, f.peer.most))

  pub both-are : (d : ℕ) → length (tlv 0x48 (id_octets d) ++ tlv 0x49 (peer_of c)) ≡ 8 + c.peerlen
  both-are d = omega (arith, length-append (tlv 0x48 (id_octets d)) (tlv 0x49 (peer_of c)), own-length d, peer-is)

  pub ids-few : (k : Sending) (d : ℕ) → length (ids_for k d c) ≤ 12
  ids-few ABegin d = omega (arith, own-length d)
  ids-few AContinue d = omega (arith, both-are d, f.peer.most)
  ids-few AnEnd d = omega (arith, peer-is, f.peer.most)
  ids-few AUnidirectional d = omega arith

  -- ---- a user's Abort
  module _ {l o : List ℕ} {a : ℕ} (portion : List ℕ) (m : ℕ) (e : m ≡ length portion) (g : m ≤ most_waiting) (w : Wrote l 0 (front_head abort_tag (tlv 0x49 (peer_of c)) m) a o) where
    pub abort-rest : least_space ≤ length l → (length portion < 65536) × (a + length portion ≤ length o)
    abort-rest k =
        let ids : List ℕ = tlv 0x49 (peer_of c) in
        (omega arith, omega (arith, w.past, w.long, peer-is, f.peer.most, front_length abort_tag ids m, element-small (length ids + m)))

    pub abort-wrote : {r : ℕ} {z : List ℕ} → Wrote o a portion r z → Wrote l 0 (user_abort_octets (peer_of c) portion) r z × (r ≤ least_space)
    abort-wrote v =
        let ids : List ℕ = tlv 0x49 (peer_of c) in (
          wrote_as (wrote-more w refl v) (abort-joined (peer_of c) portion m e),
          omega (arith, w.past, v.past, peer-is, f.peer.most, front_length abort_tag ids m, element-small (length ids + m)),
        )

pub abort-room : (peer m k : ℕ) → peer ≤ 4 → m ≤ most_waiting → least_space ≤ k → (element_size (2 + peer + m) < 65536) × (0 + element_size (2 + peer + m) ≤ k)
abort-room peer m k h g l = (omega (arith, element-small (2 + peer + m)), omega (arith, element-small (2 + peer + m)))
