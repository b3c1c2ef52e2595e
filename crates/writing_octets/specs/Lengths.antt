-- How long each thing written is. Assumes nothing.
use Rattle.std.specs.Prelude.{◌≡◌, ℕ, ◌+◌, ◌/◌, ◌%◌, ◌<◌, ◌≤◌, take}
use Rattle.std.proofs.Math.Path.{refl, ap}
use Rattle.std.proofs.Common.{sym, ◌∙◌, arith, length-take-le}
use mathlib.Core.List.{List, [], ◌∷◌, ◌++◌}
use Rattle.std.proofs.Math.ListN.{length, length-append}
use Rattle.laws.specs.If.{if_lt, if_eq, by-lt, by-eq, lt, ge, eq, ne}
use Rattle.laws.specs.Runs.{Wrote, wrote-more, wrote_as}
use Rattle.paper.specs.Problems.{sender_of, sender_of_problem, by_nobody}
use Rattle.paper.specs.Components.{invoke_tag, error_tag, reject_tag, no_id}
use Rattle.paper.specs.Writing.{length_octets, tlv, id_then, linked_then, invoke_octets, result_octets, error_octets, problem_octets, reject_octets}
use Rattle.writing_octets.specs.Heads.{element_head, components_head, front_head}

-- a space has room for so many octets at a position, and a length can say how many
abbrev pub Room : List ℕ → ℕ → ℕ → Type 0
Room space at n = (n < 65536) × (at + n ≤ length space)

-- an element whose contents are n octets
abbrev pub element_size : ℕ → ℕ
element_size n = 1 + length (length_octets n) + n

unfoldable pub invoke_size : ℕ → List ℕ → List ℕ → ℕ
invoke_size linked op par = if_eq linked no_id (element_size (3 + length op + length par)) (element_size (6 + length op + length par))

unfoldable pub result_size : List ℕ → List ℕ → ℕ
result_size op par = if_eq (length op) 0 5 (element_size (3 + element_size (length op + length par)))

abbrev pub error_size : List ℕ → List ℕ → ℕ
error_size err par = element_size (3 + length err + length par)

unfoldable pub reject_size : ℕ → ℕ
reject_size id = if_eq id no_id 7 8

-- the three forms of a length
module _ (n : ℕ) where
  long : List ℕ
  long = 0x82 ∷ n / 256 ∷ n % 256 ∷ []

  middle : List ℕ
  middle = 0x81 ∷ n ∷ []

  pub length-one : n < 128 → n ∷ [] ≡ length_octets n
  unfolding length_octets long middle
  length-one h = lt n 128 (n ∷ []) (if_lt n 256 middle long) h refl

  pub length_two : 128 ≤ n → n < 256 → 0x81 ∷ n ∷ [] ≡ length_octets n
  unfolding length_octets long middle
  length_two g h = ge n 128 (n ∷ []) (if_lt n 256 middle long) g (lt n 256 middle long h refl)

  pub length_three : 256 ≤ n → 0x82 ∷ n / 256 ∷ n % 256 ∷ [] ≡ length_octets n
  unfolding length_octets long middle
  length_three g = ge n 128 (n ∷ []) (if_lt n 256 middle long) (omega arith) (ge n 256 middle long g refl)

  pub length-small : (1 ≤ length (length_octets n)) × (length (length_octets n) ≤ 3)
  length-small =
      by-lt {A = ℕ} n 128 0 0 refl (λ h _. omega (arith, ap length (length-one h)))
      (λ g _. by-lt {A = ℕ} n 256 0 0 refl (λ h _. omega (arith, ap length (length_two g h))) (λ h _. omega (arith, ap length (length_three h))))

  pub element-small : (n + 2 ≤ element_size n) × (element_size n ≤ n + 4)
  element-small = (omega (arith, length-small), omega (arith, length-small))

  pub short-size : n < 128 → element_size n ≡ 2 + n
  short-size h = omega (arith, ap length (length-one h))

pub element-length : (tag : ℕ) (c : List ℕ) → length (tlv tag c) ≡ element_size (length c)
unfolding tlv
element-length tag c = omega (arith, length-append (length_octets (length c)) c)

-- a head that says how long what follows it is
pub element-of : (tag n : ℕ) (c : List ℕ) → n ≡ length c → element_head tag n ++ c ≡ tlv tag c
unfolding tlv
element-of tag n c h = ap (λ (k : ℕ). element_head tag k ++ c) h

-- the 6C's head
module _ (n : ℕ) where
  pub no-components : n ≡ 0 → [] ≡ components_head n
  unfolding components_head
  no-components h = eq n 0 [] (element_head 0x6C n) h refl

  pub some-components : (n ≡ 0 → ⊥) → element_head 0x6C n ≡ components_head n
  unfolding components_head
  some-components h = ne n 0 [] (element_head 0x6C n) h refl

  pub components-small : length (components_head n) ≤ 4
  components-small =
      by-eq {A = ℕ} n 0 0 0 refl (λ h _. omega (arith, ap length (no-components h))) (λ h _. omega (arith, ap length (some-components h), length-small n))

-- a message's front: tag and length, then the IDs
pub front-wrote : {l x o : List ℕ} {at p q : ℕ} {ids : List ℕ} (tag k m : ℕ) → Wrote l at (element_head tag (k + m)) p x → Wrote x p ids q o
    → k ≡ length ids → Wrote l at (front_head tag ids m) q o
unfolding front_head
front-wrote {ids = ids} tag k m a b h = wrote_as (wrote-more a refl b) (ap (λ (k : ℕ). element_head tag (k + m) ++ ids) h)

pub front_length : (tag : ℕ) (ids : List ℕ) (m : ℕ) → length (front_head tag ids m) + m ≡ element_size (length ids + m)
unfolding front_head
front_length tag ids m = omega (arith, length-append (element_head tag (length ids + m)) ids)

pub id-length : (tag : ℕ) (id : List ℕ) → length id < 128 → length (tlv tag id) ≡ 2 + length id
id-length tag id h = element-length tag id ∙ short-size (length id) h

pub peer-length : (n : ℕ) (peer : List ℕ) → n ≤ length peer → n < 128 → length (tlv 0x49 (take n peer)) ≡ 2 + n
peer-length n peer h g = let e : length (take n peer) ≡ n = length-take-le n peer h in omega (arith, id-length 0x49 (take n peer) (omega arith))

pub id-of : (tag : ℕ) (id : List ℕ) → length id < 128 → tag ∷ length id ∷ id ≡ tlv tag id
unfolding tlv
id-of tag id h = ap (λ (l : List ℕ). tag ∷ (l ++ id)) (length-one (length id) h)

pub both_of : (tag id m n : ℕ) (op par : List ℕ) → m ≡ element_size (length op + length par) → n ≡ length op + length par
    → element_head tag (3 + m) ++ (2 ∷ 1 ∷ id ∷ (element_head 0x30 n ++ (op ++ par))) ≡ tlv tag (id_then id (tlv 0x30 (op ++ par)))
both_of tag id m n op par h g =
    let l : length (op ++ par) ≡ length op + length par = length-append op par in
    ap (λ (c : List ℕ). element_head tag (3 + m) ++ id_then id c) (element-of 0x30 n (op ++ par) (g ∙ sym l))
    ∙ element-of tag (3 + m) (id_then id (tlv 0x30 (op ++ par))) (omega (arith, element-length 0x30 (op ++ par), ap element_size l))

-- what stands in a component, and how long it is, by the tests of its definition
module _ (op par : List ℕ) where
  both : ℕ
  both = element_size (3 + element_size (length op + length par))

  pub none-size : length op ≡ 0 → 5 ≡ result_size op par
  unfolding result_size both
  none-size h = eq (length op) 0 5 both h refl

  pub both-size : (length op ≡ 0 → ⊥) → element_size (3 + element_size (length op + length par)) ≡ result_size op par
  unfolding result_size both
  both-size h = ne (length op) 0 5 both h refl

  module _ (linked : ℕ) where
    pub plain_size : linked ≡ no_id → element_size (3 + length op + length par) ≡ invoke_size linked op par
    unfolding invoke_size
    plain_size h = eq linked no_id (element_size (3 + length op + length par)) (element_size (6 + length op + length par)) h refl

    pub linked-size : (linked ≡ no_id → ⊥) → element_size (6 + length op + length par) ≡ invoke_size linked op par
    unfolding invoke_size
    linked-size h = ne linked no_id (element_size (3 + length op + length par)) (element_size (6 + length op + length par)) h refl

  module _ (id linked : ℕ) where
    rest : List ℕ
    rest = 0x80 ∷ 1 ∷ linked ∷ (op ++ par)

    pub invoke-plain : linked ≡ no_id → tlv invoke_tag (id_then id (op ++ par)) ≡ invoke_octets id linked op par
    unfolding invoke_octets linked_then rest
    invoke-plain h = ap (λ (c : List ℕ). tlv invoke_tag (id_then id c)) (eq linked no_id (op ++ par) rest h refl)

    pub invoke-linked : (linked ≡ no_id → ⊥) → tlv invoke_tag (id_then id (0x80 ∷ 1 ∷ linked ∷ (op ++ par))) ≡ invoke_octets id linked op par
    unfolding invoke_octets linked_then rest
    invoke-linked h = ap (λ (c : List ℕ). tlv invoke_tag (id_then id c)) (ne linked no_id (op ++ par) rest h refl)

    pub invoke-length : length (invoke_octets id linked op par) ≡ invoke_size linked op par
    unfolding rest
    invoke-length =
        by-eq {A = ℕ} linked no_id 0 0 refl
        (λ h _. ap length (sym (invoke-plain h)) ∙ element-length invoke_tag (id_then id (op ++ par))
        ∙ ap element_size (omega (arith, length-append op par)) ∙ plain_size linked h)
        (λ h _. ap length (sym (invoke-linked h)) ∙ element-length invoke_tag (id_then id rest)
        ∙ ap element_size (omega (arith, length-append op par)) ∙ linked-size linked h)

  module _ (tag id : ℕ) where
    full : List ℕ
    full = tlv 0x30 (op ++ par)

    pub result-none : length op ≡ 0 → tlv tag (id_then id []) ≡ result_octets tag id op par
    unfolding result_octets full
    result-none h = ap (λ (c : List ℕ). tlv tag (id_then id c)) (eq (length op) 0 [] full h refl)

    pub result-both : (length op ≡ 0 → ⊥) → tlv tag (id_then id (tlv 0x30 (op ++ par))) ≡ result_octets tag id op par
    unfolding result_octets full
    result-both h = ap (λ (c : List ℕ). tlv tag (id_then id c)) (ne (length op) 0 [] full h refl)

    pub result-length : length (result_octets tag id op par) ≡ result_size op par
    unfolding full
    result-length =
        by-eq {A = ℕ} (length op) 0 0 0 refl
        (λ h _. ap length (sym (result-none h)) ∙ element-length tag (id_then id []) ∙ short-size 3 (omega arith) ∙ none-size h)
        (λ h _. ap length (sym (result-both h)) ∙ element-length tag (id_then id full)
        ∙ ap element_size (omega (arith, element-length 0x30 (op ++ par), ap element_size (length-append op par))) ∙ both-size h)

  pub error-length : (id : ℕ) → length (error_octets id op par) ≡ error_size op par
  unfolding error_octets
  error-length id = element-length error_tag (id_then id (op ++ par)) ∙ ap element_size (omega (arith, length-append op par))

module _ (id : ℕ) where
  pub null_size : id ≡ no_id → 7 ≡ reject_size id
  unfolding reject_size
  null_size h = eq id no_id 7 8 h refl

  pub some_size : (id ≡ no_id → ⊥) → 8 ≡ reject_size id
  unfolding reject_size
  some_size h = ne id no_id 7 8 h refl

  module _ (p : ℕ) where
    pub reject-none : id ≡ no_id → tlv reject_tag (5 ∷ 0 ∷ problem_octets p) ≡ reject_octets id p
    unfolding reject_octets
    reject-none h = ap (tlv reject_tag) (eq id no_id (5 ∷ 0 ∷ problem_octets p) (id_then id (problem_octets p)) h refl)

    pub reject-some : (id ≡ no_id → ⊥) → tlv reject_tag (id_then id (problem_octets p)) ≡ reject_octets id p
    unfolding reject_octets
    reject-some h = ap (tlv reject_tag) (ne id no_id (5 ∷ 0 ∷ problem_octets p) (id_then id (problem_octets p)) h refl)

    pub reject-length : length (reject_octets id p) ≡ reject_size id
    unfolding problem_octets
    reject-length =
        by-eq {A = ℕ} id no_id 0 0 refl
        (λ h _. ap length (sym (reject-none h)) ∙ element-length reject_tag (5 ∷ 0 ∷ problem_octets p) ∙ short-size 5 (omega arith) ∙ null_size h)
        (λ h _. ap length (sym (reject-some h)) ∙ element-length reject_tag (id_then id (problem_octets p)) ∙ short-size 6 (omega arith) ∙ some_size h)

-- one of the nineteen problems is below 1024, as write_reject asks
pub problem-small : (p : ℕ) → (sender_of_problem p ≡ by_nobody → ⊥) → p < 1024
unfolding sender_of
problem-small p by = go (sender_of_problem p) refl by
  where
    go : (r : ℕ) → r ≡ sender_of_problem p → (r ≡ by_nobody → ⊥) → p < 1024
    go r e n =
        by-eq _ _ _ _ e (λ z _. omega arith)
        (λ y e. by-eq _ _ _ _ e (λ z _. omega arith)
        (λ y e. by-eq _ _ _ _ e (λ z _. omega arith)
        (λ y e. by-eq _ _ _ _ e (λ z _. omega arith) (λ y e. absurd (n e)))))
