-- The definitions' steps, as the code takes them: a count that is no 0 is one more than the count less one. Assumes nothing.
use Rattle.std.specs.Prelude.{◌≡◌, refl, Bool, true, false, List, get_or}
use Rattle.std.proofs.Common.{sym, ◌∙◌, sub-one, arith}
use Rattle.std.proofs.Math.Path.{ap}
use Prim.Native.Nat.{ℕ, zero, suc, ◌+◌, ◌-◌, ◌<◌, ◌≤◌}
use Rattle.laws.specs.If.{if_lt, if_eq, eq, ne, ge, was-lt, true-false}
use Rattle.paper.specs.declared.Length.{Length}
use Rattle.paper.specs.declared.Head.{Head}
use Rattle.paper.specs.declared.Head.TheVariants.{Bad}
use Rattle.paper.specs.Elements.{Reading}
use Rattle.std.specs.Prelude.{Ok, Err}
use Rattle.paper.specs.declared.Frame.{Frame}
use Rattle.paper.specs.Elements.{tag_more, tag_end, length_at, constructor, head_by, head_at, ended, end_at, onwards, or_next, contents, by_head, element, frame_by, frame_at}
use Rattle.reading_elements.specs.Nested.{frame_of, is_sound, Stands, nesting_by, framed-by, stands-by}
use Rattle.reading_elements.specs.Bounds.{HeadIn, ReadingIn, FrameIn, nested, head_in, element-in, frame-in}

-- one further octet of a long tag more
pub tag-on : (s : List ℕ) (lim n at : ℕ) → (n ≡ 0 → ⊥) → if_lt at lim (if_lt (get_or s at 0) 128 (at + 1) (tag_more s lim (n - 1) (at + 1))) 0 ≡ tag_more s lim n at
unfolding tag_more
tag-on s lim zero at h = absurd (h refl)
tag-on s lim (suc n) at h = ap (λ (k : ℕ). if_lt at lim (if_lt (get_or s at 0) 128 (at + 1) (tag_more s lim k (at + 1))) 0) (sub-one (suc n))

-- with no octet left, of the tag or up to the limit
pub tag-over : (s : List ℕ) (lim n at : ℕ) → (0 < n → lim ≤ at) → 0 ≡ tag_more s lim n at
unfolding tag_more
tag-over s lim zero at h = refl
tag-over s lim (suc n) at h = ge _ _ _ _ (h (omega arith)) refl

-- the head, of a malformed tag and of a sound one
pub no-tag : (s : List ℕ) (lim at p : ℕ) → p ≡ tag_end s lim at → p ≡ 0 → Bad ≡ head_at s lim at
unfolding head_at
no-tag s lim at p e z = eq _ _ _ _ (sym e ∙ z) refl

pub after_tag : (s : List ℕ) (lim at p : ℕ) (l : Length) → p ≡ tag_end s lim at → (p ≡ 0 → ⊥) → l ≡ length_at s lim p → head_by lim (constructor (get_or s at 0)) l ≡ head_at s lim at
unfolding head_at
after_tag s lim at p l e some f =
    ne _ _ _ _ (λ z. some (e ∙ z)) (ap (head_by lim (constructor (get_or s at 0))) (f ∙ ap (length_at s lim) e))

-- an element, from its head
pub by-head : (s : List ℕ) (d lim at : ℕ) (h : Head) → (d ≡ 0 → ⊥) → h ≡ head_at s lim at
    → by_head h lim at (λ o e b. contents (element s (d - 1)) s o e at (suc e) b) ≡ element s d lim at
unfolding element
by-head s zero lim at h some e = absurd (some refl)
by-head s (suc d) lim at h some e =
    ap (λ (k : ℕ). by_head h lim at (λ o e b. contents (element s k) s o e at (suc e) b)) (sub-one (suc d))
    ∙ ap (λ (g : Head). by_head g lim at (λ o e b. contents (element s d) s o e at (suc e) b)) e

pub no-depth : (s : List ℕ) (d lim at : ℕ) → d ≡ 0 → Err at ≡ element s d lim at
unfolding element
no-depth s zero lim at z = refl
no-depth s (suc d) lim at z = absurd (omega arith)

-- what contents from p come to, contents from `at` come to
abbrev pub From : (ℕ → ℕ → Reading) → List ℕ → Bool → ℕ → ℕ → ℕ → ℕ → Type 0
From el s o lim outer at p =
    (x : Reading) → ((n : ℕ) → lim - p < n → x ≡ contents el s o lim outer n p) → (n : ℕ) → lim - at < n → x ≡ contents el s o lim outer n at

-- contents at a position: their end, no more octets, and an element
module _ (el : ℕ → ℕ → Reading) (s : List ℕ) (o : Bool) (lim outer n at : ℕ) (enough : lim - at < n) where
  after : (e : Bool) → e ≡ ended s o lim at → (x : Reading) → x ≡ or_next e (end_at o at) (λ _. if_eq at lim (Err outer) (onwards (el lim at) (λ e. contents el s o lim outer (n - 1) e)))
      → x ≡ contents el s o lim outer n at
  unfolding contents
  after e i x q = go n enough q
    where
      go : (n : ℕ) → lim - at < n → x ≡ or_next e (end_at o at) (λ _. if_eq at lim (Err outer) (onwards (el lim at) (λ e. contents el s o lim outer (n - 1) e))) → x ≡ contents el s o lim outer n at
      go zero h q = absurd (omega arith)
      go (suc n) h q =
          q
          ∙ ap (λ (k : ℕ). or_next e (end_at o at) (λ _. if_eq at lim (Err outer) (onwards (el lim at) (λ e. contents el s o lim outer k e)))) (sub-one (suc n))
          ∙ ap (λ (t : Bool). or_next t (end_at o at) (λ _. if_eq at lim (Err outer) (onwards (el lim at) (λ e. contents el s o lim outer n e)))) i

  pub at-end : (b : Bool) → o ≡ b → true ≡ ended s o lim at → Ok (end_at b at) ≡ contents el s o lim outer n at
  at-end b i e = ap (λ (b : Bool). Ok (end_at b at)) (sym i) ∙ after true e (Ok (end_at o at)) refl

  pub no_more : false ≡ ended s o lim at → at ≡ lim → Err outer ≡ contents el s o lim outer n at
  no_more e h = after false e (Err outer) (eq _ _ _ _ h refl)

  pub next : (x r : Reading) → false ≡ ended s o lim at → (at ≡ lim → ⊥) → x ≡ el lim at → r ≡ onwards x (λ e. contents el s o lim outer (n - 1) e) → r ≡ contents el s o lim outer n at
  next x r e h i q = after false e r (ne _ _ _ _ h (q ∙ ap (λ (x : Reading). onwards x (λ e. contents el s o lim outer (n - 1) e)) i))

-- 00 00 lies within the limit
pub room : (s : List ℕ) (lim at : ℕ) (o : Bool) → o ≡ true → true ≡ ended s o lim at → at + 1 < lim
unfolding ended
room s lim at false i e = absurd (true-false (sym i))
room s lim at true i e = (was-lt _ _ _ _ e true-false).0

-- a head and an element, with where they lie
pub head-told : (s : List ℕ) (lim at : ℕ) {r : Head} → r ≡ head_at s lim at → (r ≡ head_at s lim at) × HeadIn at lim r
head-told s lim at {r} e = (e, head_in s lim at r e)

pub element-told : (s : List ℕ) (d lim at : ℕ) {r : Reading} → r ≡ element s d lim at → (r ≡ element s d lim at) × ReadingIn at lim r
element-told s d lim at {r} e = (e, element-in s d lim at r e)

pub frame-told : (s : List ℕ) (d lim at : ℕ) {r : Frame} (h : Head) → h ≡ head_at s lim at → r ≡ frame_by h (λ _. element s d lim at)
    → (r ≡ frame_at s d lim at) × FrameIn at lim r
unfolding frame_at
frame-told s d lim at {r} h i q =
    let e : r ≡ frame_at s d lim at = q ∙ ap (λ (g : Head). frame_by g (λ _. element s d lim at)) i in (e, frame-in s d lim at r e)

-- frame and reading, from the head and what the element comes to
pub nesting-told : (s : List ℕ) (d lim at : ℕ) (h : Head) (x : Reading) → h ≡ head_at s lim at → x ≡ element s d lim at → is_sound (nesting_by h x) ≡ nested x
    → (frame_of (nesting_by h x) ≡ frame_at s d lim at)
    × (FrameIn at lim (frame_of (nesting_by h x)) × ((is_sound (nesting_by h x) ≡ nested (element s d lim at)) × Stands (nesting_by h x)))
nesting-told s d lim at h x i j q =
    let w = frame-told s d lim at {r = frame_of (nesting_by h x)} h i (framed-by h x ∙ ap (λ (x : Reading). frame_by h (λ _. x)) j) in
    (w.0, (w.1, (q ∙ ap nested j, stands-by at lim h x (head_in s lim at h i) (element-in s d lim at x j))))
