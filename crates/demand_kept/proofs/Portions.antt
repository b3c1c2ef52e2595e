-- WHAT A SENDING THAT ISN'T REFUSED IS GIVEN (02 a): a name and information that a portion can hold, with room for it. Assumes nothing.
use Rattle.std.specs.Prelude.{◌≡◌, true, List, ℕ, ◌+◌, ◌≤◌, length}
use Rattle.std.proofs.Common.{sym, arith}
use Rattle.laws.specs.If.{by-eq, was-ge, was-eq, was-yes}
use Rattle.paper.specs.Sizes.{most_waiting}
use Rattle.paper.specs.Portions.{Form, portion_by}
use Rattle.paper.specs.Dialogues.{Place, is_name, is_information, overfull, first, unplaced, portion_refusal}

-- none of two refusals
pub first-none : (n m : ℕ) → first n m ≡ 0 → (n ≡ 0) × (m ≡ 0)
unfolding first
first-none n m e = by-eq _ _ _ _ (sym e) (λ a z. (a, sym z)) (λ a z. absurd (a (sym z)))

-- not 12
pub room-told : (x : Place) (l : List ℕ) → overfull x l ≡ 0 → length x.waiting + length l ≤ most_waiting
unfolding overfull
room-told x l e = (was-ge _ _ _ _ (sym e) (λ z. omega arith)).0

-- not 14: "user information without a name"
pub named : (state : ℕ) (name info : List ℕ) → unplaced state name info ≡ 0 → length name ≡ 0 → length info ≡ 0
unfolding unplaced
named state name info e h = by-eq _ _ _ _ (sym e) (λ a z. (was-eq _ _ _ _ z (λ w. omega arith)).0) (λ a z. absurd (a h))

-- not 11, 12 or 14
pub portion-told : (x : Place) (f : Form) (name info : List ℕ) → portion_refusal x f name info ≡ 0
    → (is_name name ≡ true) × (is_information info ≡ true) × (length x.waiting + length (portion_by f name info) ≤ most_waiting)
    × (unplaced x.control.state name info ≡ 0)
unfolding portion_refusal
portion-told x f name info e =
    let a = was-yes _ _ _ (sym e) (λ z. omega arith) in
    let b = was-yes _ _ _ a.1 (λ z. omega arith) in
    let c = first-none _ _ (sym b.1) in
    (a.0, b.0, room-told x (portion_by f name info) c.0, c.1)
