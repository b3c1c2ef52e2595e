-- How long a dialogue portion is (02 a). Assumes nothing.
use Rattle.std.specs.Prelude.{◌≡◌, ℕ, ◌+◌, ◌<◌, ◌≤◌}
use Rattle.std.proofs.Math.Path.{refl}
use Rattle.std.proofs.Common.{sym, ap, ◌∙◌, arith, length-append}
use mathlib.Core.List.{List, [], ◌++◌}
use Rattle.std.proofs.Math.ListN.{length}
use Rattle.laws.specs.If.{if_eq, eq, ne, by-eq}
use Rattle.paper.specs.Sizes.{most_waiting}
use Rattle.paper.specs.Writing.{tlv}
use Rattle.paper.specs.Portions.{portion_octets, portion_by}
use Rattle.writing_octets.specs.Lengths.{element_size, element-length, element-small}
use Rattle.writing_portions.specs.Forms.{form_for, name_octets, between, pdu_octets, no_name, none_named, some-named, identifier-length, pieces-joined, around_size, around_head, around-small, around-of, around-joined}

unfoldable pub name_size : ℕ → ℕ → ℕ
name_size kind n = if_eq kind 4 0 (if_eq n 0 0 (element_size n))

abbrev pub pdu_size : ℕ → ℕ → ℕ → ℕ
pdu_size kind name info = name_size kind name + (length (between kind) + info)

-- no octet where neither is given
unfoldable pub portion_size : ℕ → ℕ → ℕ → ℕ
portion_size kind name info = if_eq (name + info) 0 0 (around_size (pdu_size kind name info))

module _ (kind n : ℕ) where
  pub no_size : kind ≡ 4 → 0 ≡ name_size kind n
  unfolding name_size
  no_size h = eq kind 4 0 (if_eq n 0 0 (element_size n)) h refl

  pub none-size : (kind ≡ 4 → ⊥) → n ≡ 0 → 0 ≡ name_size kind n
  unfolding name_size
  none-size g h = ne kind 4 0 (if_eq n 0 0 (element_size n)) g (eq n 0 0 (element_size n) h refl)

  pub some_size : (kind ≡ 4 → ⊥) → (n ≡ 0 → ⊥) → element_size n ≡ name_size kind n
  unfolding name_size
  some_size g h = ne kind 4 0 (if_eq n 0 0 (element_size n)) g (ne n 0 0 (element_size n) h refl)

  pub name-held : (kind ≡ 4 → ⊥) → n ≤ name_size kind n
  name-held g = by-eq {A = ℕ} n 0 0 0 refl (λ h _. omega arith) (λ h _. omega (arith, some_size g h, element-small n))

module _ (kind name info : ℕ) where
  pub absent-size : name + info ≡ 0 → 0 ≡ portion_size kind name info
  unfolding portion_size
  absent-size h = eq (name + info) 0 0 (around_size (pdu_size kind name info)) h refl

  pub present-size : (name + info ≡ 0 → ⊥) → around_size (pdu_size kind name info) ≡ portion_size kind name info
  unfolding portion_size
  present-size h = ne (name + info) 0 0 (around_size (pdu_size kind name info)) h refl

  -- it is longer than what it holds, so what is too long for a message by itself makes a portion that is
  pub information-within : info ≤ portion_size kind name info
  information-within =
      by-eq {A = ℕ} (name + info) 0 0 0 refl (λ h _. omega arith) (λ h _. omega (arith, present-size h, around-small (pdu_size kind name info)))

  pub both-within : (kind ≡ 4 → ⊥) → name + info ≤ portion_size kind name info
  both-within g =
      by-eq {A = ℕ} (name + info) 0 0 0 refl (λ h _. omega arith)
      (λ h _. omega (arith, present-size h, around-small (pdu_size kind name info), name-held kind name g))

-- THE LENGTHS
module _ (kind : ℕ) (name : List ℕ) where
  pub name-length : length (name_octets kind name) ≡ name_size kind (length name)
  name-length =
      by-eq {A = ℕ} kind 4 0 0 refl (λ h _. ap length (sym (no_name kind name h)) ∙ no_size kind (length name) h)
      (λ g _. by-eq {A = ℕ} (length name) 0 0 0 refl
      (λ h _. ap length (sym (none_named kind name g h)) ∙ none-size kind (length name) g h)
      (λ h _. ap length (sym (some-named kind name g h)) ∙ element-length 0xA1 name ∙ some_size kind (length name) g h))

module _ (kind : ℕ) (name info : List ℕ) where
  pub pdu-length : length (pdu_octets (form_for kind) name info) ≡ pdu_size kind (length name) (length info)
  pdu-length =
      ap length (sym (pieces-joined name info kind))
      ∙ omega (arith, name-length kind name, length-append (name_octets kind name) (between kind ++ info), length-append (between kind) info)

  pub absent : length name + length info ≡ 0 → [] ≡ portion_by (form_for kind) name info
  unfolding portion_by
  absent h = eq (length name + length info) 0 [] (portion_octets (form_for kind) ((form_for kind).puts name info)) h refl

  pub present : (length name + length info ≡ 0 → ⊥)
      → tlv 0x6B (tlv 0x28 (tlv 6 (form_for kind).identifier ++ tlv 0xA0 (tlv (form_for kind).tag (pdu_octets (form_for kind) name info)))) ≡ portion_by (form_for kind) name info
  unfolding portion_by portion_octets
  present h = ne (length name + length info) 0 [] (portion_octets (form_for kind) ((form_for kind).puts name info)) h refl

  pub portion-length : length (portion_by (form_for kind) name info) ≡ portion_size kind (length name) (length info)
  portion-length =
      by-eq {A = ℕ} (length name + length info) 0 0 0 refl
      (λ h _. ap length (sym (absent h)) ∙ absent-size kind (length name) (length info) h)
      (λ h _. ap length (sym (present h))
      ∙ around-of (form_for kind) (identifier-length kind) (pdu_octets (form_for kind) name info)
      ∙ ap around_size pdu-length ∙ present-size kind (length name) (length info) h)

  -- a name or information over 240 octets makes a portion over 240 (12); an ABRT has no name
  pub information-over : most_waiting < length info → most_waiting < length (portion_by (form_for kind) name info)
  information-over h = omega (arith, portion-length, information-within kind (length name) (length info))

  pub name-over : (kind ≡ 4 → ⊥) → most_waiting < length name → most_waiting < length (portion_by (form_for kind) name info)
  name-over g h = omega (arith, portion-length, both-within kind (length name) (length info) g)

  -- as it is written: what stands around the PDU's pieces, then those
  module _ (h : length name + length info ≡ 0 → ⊥) (n : ℕ) (e : n ≡ pdu_size kind (length name) (length info)) where
    pub portion-around : around_size n ≡ length (portion_by (form_for kind) name info)
    portion-around = ap around_size e ∙ present-size kind (length name) (length info) h ∙ sym portion-length

    pub portion-joined : around_head (form_for kind) n ++ pdu_octets (form_for kind) name info ≡ portion_by (form_for kind) name info
    portion-joined = around-joined (form_for kind) (identifier-length kind) (pdu_octets (form_for kind) name info) n (e ∙ sym pdu-length) ∙ present h
