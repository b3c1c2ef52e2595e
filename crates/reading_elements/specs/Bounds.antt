-- WHERE WHAT IS READ LIES: after its position, and by its limit. Assumes nothing.
use Rattle.std.specs.Prelude.{◌≡◌, refl, Bool, true, false, List, ℕ, zero, suc, ◌+◌, ◌-◌, ◌<◌, ◌≤◌, get_or}
use Rattle.std.proofs.Common.{sym, ◌∙◌, ap, subst, arith, eqb-true}
use Rattle.laws.specs.If.{if_eq, was-lt, by-lt, by-eq, true-false}
use Rattle.paper.specs.declared.Length.{Length}
use Rattle.paper.specs.declared.Length.TheVariants.{Wrong, Given, Until}
use Rattle.paper.specs.declared.Head.{Head}
use Rattle.paper.specs.declared.Head.TheVariants.{Bad, Whole, Holds, Opens}
use Rattle.paper.specs.Elements.{Reading}
use Rattle.std.specs.Prelude.{Ok, Err}
use Rattle.paper.specs.declared.Frame.{Frame}
use Rattle.paper.specs.Elements.{tag_more, tag_end, length_at, constructor, head_by, head_at, ended, end_at, onwards, or_next, contents, by_head, element, frame_to, frame_by, frame_at}

-- an end: 0, or after at and at most lim
abbrev pub Past : ℕ → ℕ → ℕ → Type 0
Past at lim r = 0 < r → (at < r) × (r ≤ lim)

abbrev pub LengthIn : ℕ → ℕ → Length → Type 0
LengthIn at lim Wrong = Unit
LengthIn at lim (Given b n) = (at < b) × (b ≤ lim)
LengthIn at lim (Until b) = (at < b) × (b ≤ lim)

abbrev pub HeadIn : ℕ → ℕ → Head → Type 0
HeadIn at lim Bad = Unit
HeadIn at lim (Whole e) = (at + 1 < e) × (e ≤ lim)
HeadIn at lim (Holds b e) = (at + 1 < b) × (b ≤ e) × (e ≤ lim)
HeadIn at lim (Opens b) = (at + 1 < b) × (b ≤ lim)

-- an element has at least two octets; its fault lies in it: before lim, or at the position itself
abbrev pub ReadingIn : ℕ → ℕ → Reading → Type 0
ReadingIn at lim (Ok e) = (at + 1 < e) × (e ≤ lim)
ReadingIn at lim (Err f) = (at ≤ f) × (f ≤ at + (lim - at - 1))

-- whether a reading ends
abbrev pub nested : Reading → Bool
nested (Ok e) = true
nested (Err f) = false

-- a frame's places, in order; where there is none, all are 0
pub record FrameIn (at lim : ℕ) (f : Frame) : Type 0 where
  pub ordered : f.from ≤ f.to
  pub inside : f.to ≤ f.stop
  pub ends : f.stop ≤ lim
  pub past : 0 < f.stop → at + 1 < f.from

-- a tag
pub more-in : (s : List ℕ) (lim n at r : ℕ) → r ≡ tag_more s lim n at → Past at lim r
unfolding tag_more
more-in s lim zero at r e h = absurd (omega arith)
more-in s lim (suc n) at r e h =
    by-lt _ _ _ _ e
    (λ a e. by-lt _ _ _ _ e (λ b e. omega arith) (λ b e. let p = more-in s lim n (at + 1) r e h in omega arith))
    (λ a e. absurd (omega arith))

pub tag_in : (s : List ℕ) (lim at r : ℕ) → r ≡ tag_end s lim at → Past at lim r
unfolding tag_end
tag_in s lim at r e h =
    by-lt _ _ _ _ e
    (λ a e. by-eq _ _ _ _ e (λ b e. absurd (omega arith)) (λ b e. by-eq _ _ _ _ e
    (λ c e. by-lt _ _ _ _ e (λ d e. by-lt _ _ _ _ e (λ f e. absurd (omega arith)) (λ f e. by-eq _ _ _ _ e (λ g e. absurd (omega arith))
    (λ g e. let p = more-in s lim 4 (at + 1) r e h in omega arith))) (λ d e. absurd (omega arith)))
    (λ c e. omega arith)))
    (λ a e. absurd (omega arith))

-- a length
pub length-in : (s : List ℕ) (lim at : ℕ) (r : Length) → r ≡ length_at s lim at → LengthIn at lim r
unfolding length_at
length-in s lim at r e =
    by-lt _ _ _ _ e
    (λ a e. by-lt _ _ _ _ e (λ b e. is e (omega arith))
    (λ b e. by-eq _ _ _ _ e (λ c e. is e (omega arith))
    (λ c e. by-eq _ _ _ _ e
    (λ d e. by-lt _ _ _ _ e (λ f e. by-lt _ _ _ _ e (λ g e. is e tt) (λ g e. is e (omega arith))) (λ f e. is e tt))
    (λ d e. by-eq _ _ _ _ e
    (λ f e. by-lt _ _ _ _ e (λ g e. by-lt _ _ _ _ e (λ h e. is e tt) (λ h e. is e (omega arith))) (λ g e. is e tt))
    (λ f e. is e tt)))))
    (λ a e. is e tt)
  where
    is : {x : Length} → r ≡ x → LengthIn at lim x → LengthIn at lim r
    is e i = subst (LengthIn at lim) (sym e) i

-- a head
pub head_in : (s : List ℕ) (lim at : ℕ) (r : Head) → r ≡ head_at s lim at → HeadIn at lim r
unfolding head_at head_by
head_in s lim at r e =
    by-eq _ _ _ _ e (λ a e. is e tt)
    (λ a e. go (tag_end s lim at) (length_at s lim (tag_end s lim at)) (tag_in s lim at (tag_end s lim at) refl (omega arith))
    (length-in s lim (tag_end s lim at) (length_at s lim (tag_end s lim at)) refl) e)
  where
    is : {x : Head} → r ≡ x → HeadIn at lim x → HeadIn at lim r
    is e i = subst (HeadIn at lim) (sym e) i

    go : (p : ℕ) (l : Length) → (at < p) × (p ≤ lim) → LengthIn p lim l → r ≡ head_by lim (constructor (get_or s at 0)) l → HeadIn at lim r
    go p Wrong t i e = is e tt
    go p (Until b) t i e = by-eq _ _ _ _ e (λ c e. is e (omega arith)) (λ c e. is e tt)
    go p (Given b n) t i e =
        by-lt _ _ _ _ e (λ c e. is e tt) (λ c e. by-eq _ _ _ _ e (λ d e. is e (omega arith)) (λ d e. is e (omega arith)))

-- contents: definite ones end at their limit
abbrev pub ContentsIn : Bool → ℕ → ℕ → ℕ → Reading → Type 0
ContentsIn o lim outer at (Ok e) = (end_at o at ≤ e) × (e ≤ lim) × (o ≡ false → e ≡ lim)
ContentsIn o lim outer at (Err f) = (outer ≤ f) × (f < lim)

-- contents from further on
contents-from : (o : Bool) (lim outer at e : ℕ) (r : Reading) → at ≤ e → ContentsIn o lim outer e r → ContentsIn o lim outer at r
contents-from o lim outer at e (Err f) h i = i
contents-from true lim outer at e (Ok x) h i = (omega arith, i.1, i.2)
contents-from false lim outer at e (Ok x) h i = (omega arith, i.1, i.2)

end-in : (s : List ℕ) (o : Bool) (lim outer at : ℕ) → at ≤ lim → true ≡ ended s o lim at → ContentsIn o lim outer at (Ok (end_at o at))
unfolding ended
end-in s true lim outer at h e = let w = (was-lt _ _ _ _ e true-false).0 in (omega arith, omega arith, λ z. absurd (true-false z))
end-in s false lim outer at h e = let w = eqb-true at lim (sym e) in (omega arith, omega arith, λ z. w)

pub contents-in : (el : ℕ → ℕ → Reading) (s : List ℕ) → ((lim at : ℕ) (r : Reading) → r ≡ el lim at → ReadingIn at lim r)
    → (o : Bool) (lim outer n at : ℕ) (r : Reading) → outer < at → at ≤ lim → r ≡ contents el s o lim outer n at → ContentsIn o lim outer at r
unfolding contents
contents-in el s each o lim outer zero at r h l e = subst (ContentsIn o lim outer at) (sym e) (omega arith)
contents-in el s each o lim outer (suc n) at r h l e = go (contents-in el s each o lim outer n) (ended s o lim at) refl e
  where
    Rest : Type 0
    Rest = (at : ℕ) (r : Reading) → outer < at → at ≤ lim → r ≡ contents el s o lim outer n at → ContentsIn o lim outer at r

    is : {x : Reading} → r ≡ x → ContentsIn o lim outer at x → ContentsIn o lim outer at r
    is e i = subst (ContentsIn o lim outer at) (sym e) i

    on : Rest → (x : Reading) → ReadingIn at lim x → (at ≡ lim → ⊥) → r ≡ onwards x (λ e. contents el s o lim outer n e) → ContentsIn o lim outer at r
    on rest (Err f) i b e = is e (omega arith)
    on rest (Ok x) i b e = contents-from o lim outer at x r (omega arith) (rest x r (omega arith) (omega arith) e)

    go : Rest → (t : Bool) → t ≡ ended s o lim at → r ≡ or_next t (end_at o at) (λ _. if_eq at lim (Err outer) (onwards (el lim at) (λ e. contents el s o lim outer n e)))
        → ContentsIn o lim outer at r
    go rest true t e = is e (end-in s o lim outer at l t)
    go rest false t e = by-eq _ _ _ _ e (λ a e. is e (omega arith)) (λ a e. on rest (el lim at) (each lim at (el lim at) refl) a e)

-- an element
pub element-in : (s : List ℕ) (d lim at : ℕ) (r : Reading) → r ≡ element s d lim at → ReadingIn at lim r
unfolding element
element-in s zero lim at r e = subst (ReadingIn at lim) (sym e) (omega arith)
element-in s (suc d) lim at r e = go (head_at s lim at) (head_in s lim at (head_at s lim at) refl) (element-in s d) e
  where
    in-lim : (o : Bool) (b c : ℕ) (r : Reading) → at + 1 < b → c ≤ lim → ContentsIn o c at b r → ReadingIn at lim r
    in-lim o b c (Err f) h l i = omega arith
    in-lim true b c (Ok e) h l i = omega arith
    in-lim false b c (Ok e) h l i = omega arith

    go : (g : Head) → HeadIn at lim g → ((lim at : ℕ) (r : Reading) → r ≡ element s d lim at → ReadingIn at lim r)
        → r ≡ by_head g lim at (λ o e b. contents (element s d) s o e at (suc e) b) → ReadingIn at lim r
    go Bad i each e = subst (ReadingIn at lim) (sym e) (omega arith)
    go (Whole c) i each e = subst (ReadingIn at lim) (sym e) i
    go (Holds b c) i each e = in-lim false b c r (omega arith) (omega arith) (contents-in (element s d) s each false c at (suc c) b r (omega arith) (omega arith) e)
    go (Opens b) i each e = in-lim true b lim r (omega arith) (omega arith) (contents-in (element s d) s each true lim at (suc lim) b r (omega arith) (omega arith) e)

-- an indefinite one ends with 00 00 after its contents' start
pub opens_in : (s : List ℕ) (d lim at b : ℕ) (r : Reading) → Opens b ≡ head_at s lim at → r ≡ element s d lim at → (e : ℕ) → r ≡ Ok e → b + 2 ≤ e
unfolding element
opens_in s zero lim at b r h q e i = absurd (let z : ◌≡◌ {A = ℕ} 0 1 = cc in omega arith)
opens_in s (suc d) lim at b r h q e i =
    let w = head_in s lim at (Opens b) h in
    (subst (ContentsIn true lim at b) i
    (contents-in (element s d) s (element-in s d) true lim at (suc lim) b r (omega arith) (omega arith)
    (q ∙ ap (λ (g : Head). by_head g lim at (λ o e b. contents (element s d) s o e at (suc e) b)) (sym h)))).0

-- a frame
pub frame-in : (s : List ℕ) (d lim at : ℕ) (r : Frame) → r ≡ frame_at s d lim at → FrameIn at lim r
unfolding frame_at
frame-in s d lim at r e = subst (FrameIn at lim) (sym e) (go (head_at s lim at) refl (head_in s lim at (head_at s lim at) refl))
  where
    to : (b : ℕ) (x : Reading) → at + 1 < b → ((e : ℕ) → x ≡ Ok e → b + 2 ≤ e) → ReadingIn at lim x → FrameIn at lim (frame_to b x)
    to b (Err f) h o i = record { ordered = omega arith; inside = omega arith; ends = omega arith; past = λ z. absurd (omega arith) }
    to b (Ok x) h o i = let w = o x refl in record { ordered = omega arith; inside = omega arith; ends = omega arith; past = λ z. h }

    go : (g : Head) → g ≡ head_at s lim at → HeadIn at lim g → FrameIn at lim (frame_by g (λ _. element s d lim at))
    go Bad q i = record { ordered = omega arith; inside = omega arith; ends = omega arith; past = λ z. absurd (omega arith) }
    go (Whole c) q i = record { ordered = omega arith; inside = omega arith; ends = omega arith; past = λ z. omega arith }
    go (Holds b c) q i = record { ordered = omega arith; inside = omega arith; ends = omega arith; past = λ z. omega arith }
    go (Opens b) q i = to b (element s d lim at) (omega arith) (opens_in s d lim at b (element s d lim at) q refl) (element-in s d lim at (element s d lim at) refl)
