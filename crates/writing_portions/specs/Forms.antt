-- Dialogue portions by the number of their PDU, as what is written one after another (02 a; 004, 4.2.3). Assumes nothing.
use Rattle.std.specs.Prelude.{◌≡◌, length}
use Rattle.std.proofs.Math.Path.{refl, sym, ap}
use Rattle.std.proofs.Common.{◌∙◌, arith}
use mathlib.Core.List.{List, [], ◌∷◌, ◌++◌, append_assoc, append-nil}
use Prim.Native.Nat.{ℕ, ◌+◌, ◌≤◌}
use Rattle.std.proofs.Math.ListN.{length-append}
use Rattle.laws.specs.If.{if_lt, if_eq, eq, ne, by-eq}
use Rattle.paper.specs.declared.PduKind.{PduKind}
use Rattle.paper.specs.Refusals.{pdu_number}
use Rattle.paper.specs.Writing.{length_octets, tlv}
use Rattle.paper.specs.Portions.{Form, structured, unstructured, aarq, aare, abrt, audt, piece_octets, pieces_octets}
use Rattle.writing_octets.specs.Heads.{element_head}
use Rattle.writing_octets.specs.Lengths.{element_size, element-of, element-length, element-small, id-length}

-- 2 AARQ, 3 AARE, 4 ABRT, 5 AUDT, as in a row
unfoldable pub form_for : ℕ → Form
form_for kind = if_eq kind 3 aare (if_eq kind 4 abrt (if_eq kind 5 audt aarq))

pub form-2 : form_for 2 ≡ aarq
unfolding form_for if_eq
form-2 = refl

pub form-3 : form_for 3 ≡ aare
unfolding form_for if_eq
form-3 = refl

pub form-4 : form_for 4 ≡ abrt
unfolding form_for if_eq
form-4 = refl

pub form-5 : form_for 5 ≡ audt
unfolding form_for if_eq
form-5 = refl

-- no ABRT by its name, none by its number
pub not-four : (kind : PduKind) → (kind ≡ PduKind.Abort → ⊥) → pdu_number kind ≡ 4 → ⊥
not-four PduKind.Request g h = omega arith
not-four PduKind.Response g h = omega arith
not-four PduKind.Abort g h = g refl
not-four PduKind.Unidirectional g h = omega arith

-- WHAT STANDS IN A PDU: the A1 with the name, where one is given and the PDU has one
abbrev pub named : List ℕ → List ℕ
named name = if_eq (length name) 0 [] (tlv 0xA1 name)

unfoldable pub name_octets : ℕ → List ℕ → List ℕ
name_octets kind name = if_eq kind 4 [] (named name)

-- then, fixed for a PDU, "AARE: accepted, user, null": the A2 and the A3; "ABRT: user": the 80
abbrev pub accepted : List ℕ
accepted = 0xA2 ∷ 3 ∷ 2 ∷ 1 ∷ 0 ∷ 0xA3 ∷ 5 ∷ 0xA1 ∷ 3 ∷ 2 ∷ 1 ∷ 0 ∷ []

abbrev pub by_user : List ℕ
by_user = 0x80 ∷ 1 ∷ 0 ∷ []

unfoldable pub between : ℕ → List ℕ
between kind = if_eq kind 3 accepted (if_eq kind 4 by_user [])

-- then the user information: all of them, as the paper has them
abbrev pub pdu_octets : Form → List ℕ → List ℕ → List ℕ
pdu_octets f name info = pieces_octets f.pieces (f.puts name info)

-- each of these by the number
module _ (kind : ℕ) where
  pub as-aare : kind ≡ 3 → aare ≡ form_for kind
  unfolding form_for
  as-aare h = eq kind 3 aare (if_eq kind 4 abrt (if_eq kind 5 audt aarq)) h refl

  pub as-abrt : kind ≡ 4 → abrt ≡ form_for kind
  unfolding form_for
  as-abrt h =
      ne kind 3 aare (if_eq kind 4 abrt (if_eq kind 5 audt aarq)) (λ g. omega arith)
      (eq kind 4 abrt (if_eq kind 5 audt aarq) h refl)

  pub as-audt : kind ≡ 5 → audt ≡ form_for kind
  unfolding form_for
  as-audt h =
      ne kind 3 aare (if_eq kind 4 abrt (if_eq kind 5 audt aarq)) (λ g. omega arith)
      (ne kind 4 abrt (if_eq kind 5 audt aarq) (λ g. omega arith) (eq kind 5 audt aarq h refl))

  pub as-aarq : (kind ≡ 3 → ⊥) → (kind ≡ 4 → ⊥) → (kind ≡ 5 → ⊥) → aarq ≡ form_for kind
  unfolding form_for
  as-aarq a b c =
      ne kind 3 aare (if_eq kind 4 abrt (if_eq kind 5 audt aarq)) a
      (ne kind 4 abrt (if_eq kind 5 audt aarq) b (ne kind 5 audt aarq c refl))

  pub between-aare : kind ≡ 3 → accepted ≡ between kind
  unfolding between
  between-aare h = eq kind 3 accepted (if_eq kind 4 by_user []) h refl

  pub between-abrt : kind ≡ 4 → by_user ≡ between kind
  unfolding between
  between-abrt h = ne kind 3 accepted (if_eq kind 4 by_user []) (λ g. omega arith) (eq kind 4 by_user [] h refl)

  pub between-plain : (kind ≡ 3 → ⊥) → (kind ≡ 4 → ⊥) → [] ≡ between kind
  unfolding between
  between-plain a b = ne kind 3 accepted (if_eq kind 4 by_user []) a (ne kind 4 by_user [] b refl)

  module _ (name : List ℕ) where
    pub no_name : kind ≡ 4 → [] ≡ name_octets kind name
    unfolding name_octets
    no_name h = eq kind 4 [] (named name) h refl

    pub with-name : (kind ≡ 4 → ⊥) → named name ≡ name_octets kind name
    unfolding name_octets
    with-name g = ne kind 4 [] (named name) g refl

    pub none_named : (kind ≡ 4 → ⊥) → length name ≡ 0 → [] ≡ name_octets kind name
    none_named g h = eq (length name) 0 [] (tlv 0xA1 name) h refl ∙ with-name g

    pub some-named : (kind ≡ 4 → ⊥) → (length name ≡ 0 → ⊥) → tlv 0xA1 name ≡ name_octets kind name
    some-named g h = ne (length name) 0 [] (tlv 0xA1 name) h refl ∙ with-name g

  -- what a number says of its form
  pub tag-plain : (kind ≡ 3 → ⊥) → (kind ≡ 4 → ⊥) → 0x60 ≡ (form_for kind).tag
  tag-plain a b =
      by-eq {A = ℕ} kind 5 0 0 refl (λ h _. ap (λ (f : Form). f.tag) (as-audt h)) (λ c _. ap (λ (f : Form). f.tag) (as-aarq a b c))

  pub for-audt : kind ≡ 5 → unstructured ≡ (form_for kind).identifier
  for-audt h = ap (λ (f : Form). f.identifier) (as-audt h)

  pub for-dialogue : (kind ≡ 5 → ⊥) → structured ≡ (form_for kind).identifier
  for-dialogue c =
      by-eq {A = ℕ} kind 3 0 0 refl (λ h _. ap (λ (f : Form). f.identifier) (as-aare h))
      (λ a _. by-eq {A = ℕ} kind 4 0 0 refl (λ h _. ap (λ (f : Form). f.identifier) (as-abrt h))
      (λ b _. ap (λ (f : Form). f.identifier) (as-aarq a b c)))

  pub identifier-length : length (form_for kind).identifier ≡ 7
  identifier-length = by-eq {A = ℕ} kind 5 0 0 refl (λ h _. ap length (sym (for-audt h))) (λ c _. ap length (sym (for-dialogue c)))

-- THE PIECES IN ORDER are the PDU's
module _ (name info : List ℕ) where
  in-plain : named name ++ ([] ++ info) ≡ pdu_octets aarq name info
  unfolding pieces_octets piece_octets
  in-plain = ap (λ (i : List ℕ). named name ++ i) (sym (append-nil info))

  in-aare : named name ++ (accepted ++ info) ≡ pdu_octets aare name info
  unfolding pieces_octets piece_octets tlv length_octets if_lt
  in-aare = ap (λ (i : List ℕ). named name ++ (accepted ++ i)) (sym (append-nil info))

  in-abrt : [] ++ (by_user ++ info) ≡ pdu_octets abrt name info
  unfolding pieces_octets piece_octets
  in-abrt = ap (λ (i : List ℕ). by_user ++ i) (sym (append-nil info))

  joined_as : {f : Form} {a b : List ℕ} (kind : ℕ) → a ≡ name_octets kind name → b ≡ between kind → f ≡ form_for kind
      → a ++ (b ++ info) ≡ pdu_octets f name info → name_octets kind name ++ (between kind ++ info) ≡ pdu_octets (form_for kind) name info
  joined_as {f} {a} {b} kind p q g e =
      ap (λ (l : List ℕ). l ++ (between kind ++ info)) (sym p) ∙ ap (λ (l : List ℕ). a ++ (l ++ info)) (sym q) ∙ e
      ∙ ap (λ (f : Form). pdu_octets f name info) g

  pub pieces-joined : (kind : ℕ) → name_octets kind name ++ (between kind ++ info) ≡ pdu_octets (form_for kind) name info
  pieces-joined kind =
      by-eq {A = ℕ} kind 3 0 0 refl (λ h _. joined_as kind (with-name kind name (λ g. omega arith)) (between-aare kind h) (as-aare kind h) in-aare)
      (λ a _. by-eq {A = ℕ} kind 4 0 0 refl (λ h _. joined_as kind (no_name kind name h) (between-abrt kind h) (as-abrt kind h) in-abrt)
      (λ b _. by-eq {A = ℕ} kind 5 0 0 refl (λ h _. joined_as kind (with-name kind name b) (between-plain kind a b) (as-audt kind h) in-plain)
      (λ c _. joined_as kind (with-name kind name b) (between-plain kind a b) (as-aarq kind a b c) in-plain)))

-- WHAT STANDS AROUND n octets of pieces: 6B, 28, the object identifier, A0, the PDU's tag and length; the 28 holds so much
abbrev pub held_size : ℕ → ℕ
held_size n = 9 + element_size (element_size n)

unfoldable pub around_size : ℕ → ℕ
around_size n = element_size (element_size (held_size n))

unfoldable pub around_head : Form → ℕ → List ℕ
around_head f n =
    element_head 0x6B (element_size (held_size n))
    ++ (element_head 0x28 (held_size n) ++ (tlv 6 f.identifier ++ (element_head 0xA0 (element_size n) ++ element_head f.tag n)))

pub around-small : (n : ℕ) → (n + 17 ≤ around_size n) × (around_size n ≤ n + 25)
unfolding around_size
around-small n =
    let a = element-small n in
    let b = element-small (element_size n) in
    let c = element-small (held_size n) in
    let d = element-small (element_size (held_size n)) in
    (omega (arith, a, b, c, d), omega (arith, a, b, c, d))

-- by lengths that were counted
module _ (n held external : ℕ) (q : held ≡ held_size n) (r : external ≡ element_size held) where
  pub around-size : element_size external ≡ around_size n
  unfolding around_size
  around-size = ap element_size (r ∙ ap element_size q)

  pub around-head : (f : Form) {object : List ℕ} {pdu tag : ℕ} → object ≡ tlv 6 f.identifier → pdu ≡ element_size n → tag ≡ f.tag
      → element_head 0x6B external ++ (element_head 0x28 held ++ (object ++ (element_head 0xA0 pdu ++ element_head tag n))) ≡ around_head f n
  unfolding around_head
  around-head f {object} {pdu} {tag} o p t =
      let i : List ℕ = tlv 6 f.identifier in
      let x : List ℕ = element_head 0x6B (element_size (held_size n)) in
      let y : List ℕ = element_head 0x28 (held_size n) in
      ap (λ (m : ℕ). element_head 0x6B m ++ (element_head 0x28 held ++ (object ++ (element_head 0xA0 pdu ++ element_head tag n)))) (r ∙ ap element_size q)
      ∙ ap (λ (m : ℕ). x ++ (element_head 0x28 m ++ (object ++ (element_head 0xA0 pdu ++ element_head tag n)))) q
      ∙ ap (λ (l : List ℕ). x ++ (y ++ (l ++ (element_head 0xA0 pdu ++ element_head tag n)))) o
      ∙ ap (λ (m : ℕ). x ++ (y ++ (i ++ (element_head 0xA0 m ++ element_head tag n)))) p
      ∙ ap (λ (m : ℕ). x ++ (y ++ (i ++ (element_head 0xA0 (element_size n) ++ element_head m n)))) t

module _ (f : Form) (k : length f.identifier ≡ 7) where
  nine : length (tlv 6 f.identifier) ≡ 9
  nine = id-length 6 f.identifier (omega arith) ∙ ap (λ (n : ℕ). 2 + n) k

  pub around-length : (n : ℕ) → length (around_head f n) + n ≡ around_size n
  unfolding around_head around_size
  around-length n =
      let o : List ℕ = tlv 6 f.identifier in
      let p : List ℕ = element_head f.tag n in
      let q : List ℕ = element_head 0xA0 (element_size n) in
      let x : List ℕ = element_head 0x28 (held_size n) in
      let y : List ℕ = element_head 0x6B (element_size (held_size n)) in
      omega (arith, nine, length-append y (x ++ (o ++ (q ++ p))), length-append x (o ++ (q ++ p)), length-append o (q ++ p), length-append q p)

  -- the octets, from the inside out
  module _ (c : List ℕ) where
    held-length : held_size (length c) ≡ length (tlv 6 f.identifier ++ tlv 0xA0 (tlv f.tag c))
    held-length =
        let p : List ℕ = tlv f.tag c in
        let e : element_size (length p) ≡ element_size (element_size (length c)) = ap element_size (element-length f.tag c) in
        omega (arith, length-append (tlv 6 f.identifier) (tlv 0xA0 p), nine, element-length 0xA0 p, e)

    pub around-of : length (tlv 0x6B (tlv 0x28 (tlv 6 f.identifier ++ tlv 0xA0 (tlv f.tag c)))) ≡ around_size (length c)
    unfolding around_size
    around-of =
        let b : List ℕ = tlv 6 f.identifier ++ tlv 0xA0 (tlv f.tag c) in
        element-length 0x6B (tlv 0x28 b) ∙ ap element_size (element-length 0x28 b) ∙ ap (λ (n : ℕ). element_size (element_size n)) (sym held-length)

    pub around-joined : (n : ℕ) → n ≡ length c → around_head f n ++ c ≡ tlv 0x6B (tlv 0x28 (tlv 6 f.identifier ++ tlv 0xA0 (tlv f.tag c)))
    unfolding around_head
    around-joined n h =
        let o : List ℕ = tlv 6 f.identifier in
        let p : List ℕ = tlv f.tag c in
        let b : List ℕ = o ++ tlv 0xA0 p in
        let m : ℕ = held_size (length c) in
        let q : List ℕ = element_head 0xA0 (element_size (length c)) in
        let t : List ℕ = element_head f.tag (length c) in
        let j : around_head f (length c) ++ c ≡ element_head 0x6B (element_size m) ++ (element_head 0x28 m ++ (o ++ (q ++ (t ++ c)))) = simp append_assoc in
        ap (λ (n : ℕ). around_head f n ++ c) h
        ∙ j
        ∙ ap (λ (l : List ℕ). element_head 0x6B (element_size m) ++ (element_head 0x28 m ++ (o ++ (q ++ l))))
        (element-of f.tag (length c) c refl)
        ∙ ap (λ (l : List ℕ). element_head 0x6B (element_size m) ++ (element_head 0x28 m ++ (o ++ l)))
        (element-of 0xA0 (element_size (length c)) p (sym (element-length f.tag c)))
        ∙ ap (λ (l : List ℕ). element_head 0x6B (element_size m) ++ l) (element-of 0x28 m b held-length)
        ∙ element-of 0x6B (element_size m) (tlv 0x28 b) (ap element_size held-length ∙ sym (element-length 0x28 b))
