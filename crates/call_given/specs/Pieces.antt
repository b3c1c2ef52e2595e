-- OCTETS GIVEN (answers 11 and 12): operation or error, and parameter. Assumes nothing.
use Rattle.std.specs.Prelude.{◌≡◌, Bool, true, false, List, ℕ, ◌+◌, ◌<◌, ◌≤◌, eqb, length, get_or}
use Rattle.std.proofs.Math.Path.{refl}
use Rattle.std.proofs.Common.{ap, ◌∙◌, arith, eqb-true}
use Rattle.laws.specs.If.{if_lt, if_eq, if_b, lt, ge, eq, yes, no, by-eq}
use Rattle.paper.specs.Sizes.{most_waiting}
use Rattle.paper.specs.Dialogues.{is_code, is_parameter, is_result}
use Rattle.paper.specs.Elements.{Reading}
use Rattle.paper.specs.Elements.{element, ends_at, is_element}
use Rattle.writing_octets.specs.Lengths.{element_size, result_size, length-small, none-size, both-size}

-- one element of that tag
unfoldable pub is_tagged : ℕ → ℕ → List ℕ → Bool
is_tagged tag left l = if_eq (length l) 0 false (if_eq (get_or l 0 0) tag (is_element left l) false)

-- what is over 240 octets where n wait
abbrev pub over_by : ℕ → ℕ → ℕ
over_by n size = if_lt most_waiting (n + size) 12 0

-- of an invoke or an error, with so many octets before the operation or error
unfoldable pub pieces_refusal : ℕ → ℕ → List ℕ → List ℕ → ℕ
pieces_refusal n front code par = if_b (is_code code) (if_b (is_parameter par) (over_by n (element_size (front + length code + length par))) 11) 11

unfoldable pub both_refusal : ℕ → List ℕ → List ℕ → ℕ
both_refusal n op par = if_b (is_result op par) (over_by n (result_size op par)) 11

-- without an operation there is no parameter
pub none-given : (op par : List ℕ) → length op ≡ 0 → is_result op par ≡ true → length par ≡ 0
unfolding is_result
none-given op par z e = eqb-true (length par) 0 (eq {r = eqb (length par) 0} (length op) 0 (eqb (length par) 0) (if_b (is_code op) (is_element 14 par) false) z refl ∙ e)

module _ (n : ℕ) (op par : List ℕ) where
  module _ (e : is_result op par ≡ true) where
    pub both-over : most_waiting < n + result_size op par → 12 ≡ both_refusal n op par
    unfolding both_refusal
    both-over h = yes _ _ _ e (lt _ _ _ _ h refl)

    pub both_long : most_waiting < length op + length par → 12 ≡ both_refusal n op par
    both_long h = both-over (by-eq {A = ℕ} (length op) 0 0 0 refl (λ z _. absurd (omega (arith, none-given op par z e))) (λ z _. omega (arith, both-size op par z)))

-- by how it is read
pub element-is : (l : List ℕ) (d : ℕ) (x : Reading) → x ≡ element l d (length l) 0 → ends_at (length l) x ≡ is_element d l
unfolding is_element
element-is l d x e = ap (ends_at (length l)) e
