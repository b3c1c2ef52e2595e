-- A part of a list, and a list with a part replaced: over any offset and size. Assumes nothing.
--     part_left     a part of x ++ y that lies in x
--     over-same     what was put is what is there
--     over-before   a part before it is as it was
use Rattle.std.specs.Prelude.{ℕ, ◌+◌, ◌≤◌, ◌≡◌, List, ◌++◌, length, take, drop}
use Rattle.std.proofs.Common.{sym, ap, ◌∙◌, append_assoc, arith, length-append, length-take, length-drop, take-append-drop, length-take-le, drop_at, drop-drop}
use borrow.Rule.Slice.PartMut.{put_mid}
use Rattle.std.proofs.lemmas.List.{take-append-le, drop-append-le}
use Rattle.std.proofs.Math.Seq.{take-append_seam, take-append-add, drop-append-add}

-- the n octets at a
unfoldable pub part : ℕ → ℕ → List ℕ → List ℕ
part a n t = take n (drop a t)

-- t with v in the place of what stood at a
unfoldable pub over : List ℕ → ℕ → List ℕ → List ℕ
over t a v = take a t ++ (v ++ drop (a + length v) t)

pub part_length : (a n : ℕ) (t : List ℕ) → a + n ≤ length t → length (part a n t) ≡ n
unfolding part
part_length a n t h = simp (length-take, length-drop) (omega arith)

pub over-length : (t : List ℕ) (a : ℕ) (v : List ℕ) → a + length v ≤ length t → length (over t a v) ≡ length t
unfolding over
over-length t a v h = simp (length-append, length-take, length-drop) (omega arith)

pub part_left : (x y : List ℕ) (b n : ℕ) → b + n ≤ length x → part b n (x ++ y) ≡ part b n x
unfolding part
part_left x y b n h =
    ap (take n) (drop-append-le b x y (omega arith)) ∙ take-append-le n (drop b x) y (simp length-drop (omega arith))

pub over-same : (t : List ℕ) (a : ℕ) (v : List ℕ) → a ≤ length t → part a (length v) (over t a v) ≡ v
unfolding part over
over-same t a v h =
    ap (take (length v)) (drop_at (take a t) (v ++ drop (a + length v) t) a (length-take-le a t h)) ∙ take-append_seam v (drop (a + length v) t)

pub over-before : (t : List ℕ) (a : ℕ) (v : List ℕ) (b n : ℕ) → a ≤ length t → b + n ≤ a → part b n (over t a v) ≡ part b n t
unfolding over
over-before t a v b n h l =
    let e : b + n ≤ length (take a t) = simp length-take (omega arith) in
    part_left (take a t) (v ++ drop (a + length v) t) b n e ∙ sym (part_left (take a t) (drop a t) b n e) ∙ ap (part b n) (take-append-drop a t)

pub shift : (x l : List ℕ) (k : ℕ) (v : List ℕ) → over (x ++ l) (length x + k) v ≡ x ++ over l k v
unfolding over
shift x l k v =
    let e : length x + k + length v ≡ length x + (k + length v) = omega arith in
    ap (λ (y : List ℕ). y ++ (v ++ drop (length x + k + length v) (x ++ l))) (take-append-add x l k)
    ∙ ap (λ (i : ℕ). (x ++ take k l) ++ (v ++ drop i (x ++ l))) e
    ∙ ap (λ (y : List ℕ). (x ++ take k l) ++ (v ++ y)) (drop-append-add x l (k + length v))
    ∙ append_assoc x (take k l) (v ++ drop (k + length v) l)

pub stay : (y z : List ℕ) (k : ℕ) (v : List ℕ) → k + length v ≤ length y → over (y ++ z) k v ≡ over y k v ++ z
unfolding over
stay y z k v h =
    ap (λ (w : List ℕ). w ++ (v ++ drop (k + length v) (y ++ z))) (take-append-le k y z (omega arith))
    ∙ ap (λ (w : List ℕ). take k y ++ (v ++ w)) (drop-append-le (k + length v) y z h)
    ∙ sym (append_assoc (take k y) (v ++ drop (k + length v) y) z ∙ ap (λ (w : List ℕ). take k y ++ w) (append_assoc v (drop (k + length v) y) z))

-- what a part that was lent leaves, as the checker has it
pub put-over : (a k : ℕ) (t v : List ℕ) → length v ≡ k → put_mid a k t v ≡ over t a v
unfolding over
put-over a k t v e = ap (λ (r : List ℕ). take a t ++ (v ++ r)) (drop-drop k a t ∙ ap (λ (i : ℕ). drop (a + i) t) (sym e))
