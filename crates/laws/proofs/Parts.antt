-- A part of a list replaced inside a part that holds it. Assumes nothing.
use Rattle.std.specs.Prelude.{ℕ, ◌+◌, ◌≤◌, ◌≡◌, List, ◌++◌, length, take, drop}
use Rattle.std.proofs.Common.{sym, ap, ◌∙◌, arith, take-append-drop, length-take-le, drop-drop}
use Rattle.laws.specs.Parts.{part, over, part_length, over-length, shift, stay}

-- the whole, its part with v put in at k, and what was put in the whole at a + k
pub over-in : (t : List ℕ) (a n k : ℕ) (v : List ℕ) → a + n ≤ length t → k + length v ≤ n → over t (a + k) v ≡ over t a (over (part a n t) k v)
unfolding over part
over-in t a n k v h l =
    let x : List ℕ = take a t in
    let y : List ℕ = part a n t in
    let z : List ℕ = drop n (drop a t) in
    let w : List ℕ = over y k v in
    let ex : length x ≡ a = length-take-le a t (omega arith) in
    let ey : length y ≡ n = part_length a n t h in
    let fits : k + length v ≤ length y = omega (arith, ey) in
    let ew : length w ≡ n = over-length y k v fits ∙ ey in
    let s : t ≡ x ++ (y ++ z) = sym (ap (λ (r : List ℕ). x ++ r) (take-append-drop n (drop a t)) ∙ take-append-drop a t) in
    ap (λ (i : ℕ). over t (i + k) v) (sym ex)
    ∙ ap (λ (r : List ℕ). over r (length x + k) v) s
    ∙ shift x (y ++ z) k v
    ∙ ap (λ (r : List ℕ). x ++ r) (stay y z k v fits)
    ∙ ap (λ (r : List ℕ). x ++ (w ++ r)) (drop-drop n a t ∙ ap (λ (i : ℕ). drop (a + i) t) (sym ew))
