-- WHAT IS READ IS READ AGAIN where its octets are copied k further, inside any limit that holds it and with at least as many
-- depths left: only the octets up to its end are looked at. Assumes nothing.
use Rattle.std.specs.Prelude.{◌≡◌, Bool, List, get_or}
use Rattle.std.proofs.Math.Path.{refl, sym, ap, subst}
use Rattle.std.proofs.Common.{◌∙◌, arith}
use Rattle.std.proofs.Math.Bool.{true, false}
use Prim.Native.Nat.{ℕ, zero, suc, ◌+◌, ◌-◌, ◌<◌, ◌≤◌}
use Rattle.std.proofs.Math.Dec.{eqb}
use borrow.Author.Tests.{eqb-true, eqb-false, eq-eqb, ne_eqb}
use Rattle.laws.specs.If.{if_eq, lt, ge, eq, ne, was-lt, was-eq, by-lt, by-eq, either_lt, true-false}
use Rattle.paper.specs.declared.Length.{Length}
use Rattle.paper.specs.declared.Length.TheVariants.{Wrong, Given, Until}
use Rattle.paper.specs.declared.Head.{Head}
use Rattle.paper.specs.declared.Head.TheVariants.{Bad, Whole, Holds, Opens}
use Rattle.paper.specs.Elements.{Reading}
use Rattle.std.specs.Prelude.{Ok, Err}
use Rattle.paper.specs.declared.Frame.{Frame}
use Rattle.paper.specs.Elements.{tag_more, tag_end, length_at, constructor, head_by, head_at, ended, end_at, onwards, or_next, contents, by_head, element, frame_to, frame_by, frame_at}
use Rattle.reading_elements.specs.Bounds.{LengthIn, HeadIn, ContentsIn, more-in, tag_in, length-in, head_in, contents-in, element-in, opens_in}
use Rattle.reading_elements.specs.Steps.{at-end, next}

-- the octets from at up to e stand k further in t
abbrev pub Same : List ℕ → List ℕ → ℕ → ℕ → ℕ → Type 0
Same s t k at e = (i : ℕ) → at ≤ i → i < e → get_or t (k + i) 0 ≡ get_or s i 0

-- an octet of them, by its place in t
octet : (s t : List ℕ) (k at e i p : ℕ) → Same s t k at e → at ≤ i → i < e → p ≡ k + i → get_or t p 0 ≡ get_or s i 0
octet s t k at e i p same l h q = ap (λ (j : ℕ). get_or t j 0) q ∙ same i l h

-- ---- a tag
more-carry : (s t : List ℕ) (k lim lim' n at p r : ℕ) → r ≡ tag_more s lim n at → 0 < r → p ≡ k + at → k + r ≤ lim' → Same s t k at r → k + r ≡ tag_more t lim' n p
unfolding tag_more
more-carry s t k lim lim' zero at p r e h ep room same = absurd (omega arith)
more-carry s t k lim lim' (suc n) at p r e h ep room same =
    let w = more-in s lim (suc n) at r e h in
    let x = octet s t k at r at p same (omega arith) (omega arith) ep in
    by-lt _ _ _ _ e
    (λ a e. by-lt _ _ _ _ e
    (λ b e. lt _ _ _ _ (omega arith) (lt _ _ _ _ (omega arith) (omega arith)))
    (λ b e. lt _ _ _ _ (omega arith) (ge _ _ _ _ (omega arith)
    (more-carry s t k lim lim' n (at + 1) (p + 1) r e h (omega arith) room (λ i l u. same i (omega arith) u)))))
    (λ a e. absurd (omega arith))

pub tag-carry : (s t : List ℕ) (k lim lim' at p r : ℕ) → r ≡ tag_end s lim at → 0 < r → p ≡ k + at → k + r ≤ lim' → Same s t k at r → k + r ≡ tag_end t lim' p
unfolding tag_end
tag-carry s t k lim lim' at p r e h ep room same =
    let w = tag_in s lim at r e h in
    let x = octet s t k at r at p same (omega arith) (omega arith) ep in
    by-lt _ _ _ _ e
    (λ a e. by-eq _ _ _ _ e (λ b e. absurd (omega arith)) (λ b e. by-eq _ _ _ _ e
    (λ c e. by-lt _ _ _ _ e (λ d e. by-lt _ _ _ _ e (λ f e. absurd (omega arith)) (λ f e. by-eq _ _ _ _ e (λ g e. absurd (omega arith))
    (λ g e.
    let v = more-in s lim 4 (at + 1) r e h in
    let y = octet s t k at r (at + 1) (p + 1) same (omega arith) (omega arith) (omega arith) in
    lt _ _ _ _ (omega arith) (ne _ _ _ _ (λ z. omega arith) (eq _ _ _ _ (omega arith) (lt _ _ _ _ (omega arith) (ge _ _ _ _ (omega arith) (ne _ _ _ _ (λ z. omega arith)
    (more-carry s t k lim lim' 4 (at + 1) (p + 1) r e h (omega arith) room (λ i l u. same i (omega arith) u)))))))))
    ) (λ d e. absurd (omega arith)))
    (λ c e. lt _ _ _ _ (omega arith) (ne _ _ _ _ (λ z. omega arith) (ne _ _ _ _ (λ z. omega arith) (omega arith))))))
    (λ a e. absurd (omega arith))

-- ---- a length
abbrev pub up_length : ℕ → Length → Length
up_length k Wrong = Wrong
up_length k (Given b n) = Given (k + b) n
up_length k (Until b) = Until (k + b)

-- a length that ends by e
abbrev pub LengthBy : ℕ → Length → Type 0
LengthBy e Wrong = ⊥
LengthBy e (Given b n) = b ≤ e
LengthBy e (Until b) = b ≤ e

pub length-carry : (s t : List ℕ) (k lim lim' at p end : ℕ) (r : Length) → r ≡ length_at s lim at → LengthBy end r → p ≡ k + at → k + end ≤ lim' → Same s t k at end
    → up_length k r ≡ length_at t lim' p
unfolding length_at
length-carry s t k lim lim' at p end r e good ep room same =
    by-lt _ _ _ _ e
    (λ a e. by-lt _ _ _ _ e
    (λ b e. leaf e (λ g. let x = o at p (omega arith) (omega arith) ep in lt _ _ _ _ (omega arith) (lt _ _ _ _ (omega arith) (given (at + 1) (p + 1) _ _ (omega arith) (omega arith)))))
    (λ b e. by-eq _ _ _ _ e
    (λ c e. leaf e (λ g. let x = o at p (omega arith) (omega arith) ep in
    let q : k + (at + 1) ≡ p + 1 = omega arith in lt _ _ _ _ (omega arith) (ge _ _ _ _ (omega arith) (eq _ _ _ _ (omega arith) (ap Until q)))))
    (λ c e. by-eq _ _ _ _ e
    (λ d e. by-lt _ _ _ _ e (λ f e. by-lt _ _ _ _ e (λ h e. bad e)
    (λ h e. leaf e (λ g. let x = o at p (omega arith) (omega arith) ep in let y = o (at + 1) (p + 1) (omega arith) (omega arith) (omega arith) in
    lt _ _ _ _ (omega arith) (ge _ _ _ _ (omega arith) (ne _ _ _ _ (λ z. omega arith) (eq _ _ _ _ (omega arith) (lt _ _ _ _ (omega arith) (ge _ _ _ _ (omega arith)
    (given (at + 2) (p + 2) _ _ (omega arith) (omega arith))))))))))
    (λ f e. bad e))
    (λ d e. by-eq _ _ _ _ e
    (λ f e. by-lt _ _ _ _ e (λ h e. by-lt _ _ _ _ e (λ i e. bad e)
    (λ i e. leaf e (λ g. let x = o at p (omega arith) (omega arith) ep in let y = o (at + 1) (p + 1) (omega arith) (omega arith) (omega arith) in let w = o (at + 2) (p + 2) (omega arith) (omega arith) (omega arith) in
    lt _ _ _ _ (omega arith) (ge _ _ _ _ (omega arith) (ne _ _ _ _ (λ z. omega arith) (ne _ _ _ _ (λ z. omega arith) (eq _ _ _ _ (omega arith) (lt _ _ _ _ (omega arith) (ge _ _ _ _ (omega arith)
    (given (at + 3) (p + 3) _ _ (omega arith) (omega arith)))))))))))
    (λ h e. bad e))
    (λ f e. bad e)))))
    (λ a e. bad e)
  where
    o : (i q : ℕ) → at ≤ i → i < end → q ≡ k + i → get_or t q 0 ≡ get_or s i 0
    o i q l h z = octet s t k at end i q same l h z

    given : (b q n m : ℕ) → k + b ≡ q → n ≡ m → Given (k + b) n ≡ Given q m
    given b q n m x y = ap (λ (j : ℕ). Given j n) x ∙ ap (Given q) y

    leaf : {x goal : Length} → r ≡ x → (LengthBy end x → up_length k x ≡ goal) → up_length k r ≡ goal
    leaf {x} {goal} q f = subst (λ (z : Length). up_length k z ≡ goal) (sym q) (f (subst (LengthBy end) q good))

    bad : {P : Type 0} → r ≡ Wrong → P
    bad e = absurd (subst (LengthBy end) e good)

-- ---- a head
abbrev pub up_head : ℕ → Head → Head
up_head k Bad = Bad
up_head k (Whole e) = Whole (k + e)
up_head k (Holds b e) = Holds (k + b) (k + e)
up_head k (Opens b) = Opens (k + b)

-- a head of an element that ends at e
abbrev pub HeadBy : ℕ → Head → Type 0
HeadBy e Bad = ⊥
HeadBy e (Whole c) = c ≡ e
HeadBy e (Holds b c) = c ≡ e
HeadBy e (Opens b) = b ≤ e

length-end : (m lim end : ℕ) (l : Length) → LengthIn m lim l → LengthBy end l → m ≤ end
length-end m lim end Wrong i b = absurd b
length-end m lim end (Given c n) i b = omega arith
length-end m lim end (Until c) i b = omega arith

module _ (s t : List ℕ) (k lim lim' at p end : ℕ) (ep : p ≡ k + at) (fits : k + end ≤ lim') (same : Same s t k at end) where
  -- the head in t, where the length ends by the end
  there : (l : Length) → (tag_end s lim at ≡ 0 → ⊥) → l ≡ length_at s lim (tag_end s lim at) → LengthBy end l
      → head_by lim' (constructor (get_or s at 0)) (up_length k l) ≡ head_at t lim' p
  unfolding head_at
  there l some el by_end =
      let m : ℕ = tag_end s lim at in
      let w = tag_in s lim at m refl (omega arith) in
      let b = length-end m lim end l (length-in s lim m l el) by_end in
      let tc : k + m ≡ tag_end t lim' p = tag-carry s t k lim lim' at p m refl (omega arith) ep (omega arith) (λ i h u. same i h (omega arith)) in
      let lc : up_length k l ≡ length_at t lim' (k + m) = length-carry s t k lim lim' m (k + m) end l el by_end refl fits (λ i h u. same i (omega arith) u) in
      let x = octet s t k at end at p same (omega arith) (omega arith) ep in
      ap (λ (o : ℕ). head_by lim' (constructor o) (up_length k l)) (sym x)
      ∙ ne _ _ _ _ (λ z. omega arith) (ap (head_by lim' (constructor (get_or t p 0))) (lc ∙ ap (length_at t lim') tc))

  pub head-carry : (r : Head) → r ≡ head_at s lim at → HeadBy end r → up_head k r ≡ head_at t lim' p
  unfolding head_at head_by
  head-carry r e good =
      by-eq _ _ _ _ e (λ a e. bad e) (λ a e. go (length_at s lim (tag_end s lim at)) a refl e)
    where
      leaf : {x goal : Head} → r ≡ x → (HeadBy end x → up_head k x ≡ goal) → up_head k r ≡ goal
      leaf {x} {goal} q f = subst (λ (z : Head). up_head k z ≡ goal) (sym q) (f (subst (HeadBy end) q good))

      bad : {P : Type 0} → r ≡ Bad → P
      bad e = absurd (subst (HeadBy end) e good)

      go : (l : Length) → (tag_end s lim at ≡ 0 → ⊥) → l ≡ length_at s lim (tag_end s lim at) → r ≡ head_by lim (constructor (get_or s at 0)) l → up_head k r ≡ head_at t lim' p
      go Wrong some el e = bad e
      go (Until b) some el e = by-eq _ _ _ _ e (λ c e. leaf e (λ g. eq _ _ _ _ c refl ∙ there (Until b) some el g)) (λ c e. bad e)
      go (Given b n) some el e =
          let q : k + (b + n) ≡ k + b + n = omega arith in
          by-lt _ _ _ _ e (λ c e. bad e)
          (λ c e. by-eq _ _ _ _ e
          (λ d e. leaf e (λ g. ge _ _ _ _ (omega arith) (eq _ _ _ _ d (ap (Holds (k + b)) q)) ∙ there (Given b n) some el (omega arith)))
          (λ d e. leaf e (λ g. ge _ _ _ _ (omega arith) (ne _ _ _ _ d (ap Whole q)) ∙ there (Given b n) some el (omega arith))))

-- ---- contents and elements
ends_is : (a b : ℕ) → ◌≡◌ {A = Reading} (Ok a) (Ok b) → a ≡ b
ends_is a b e = cc

ends-never : {P : Type 0} (a b : ℕ) → ◌≡◌ {A = Reading} (Ok a) (Err b) → P
ends-never a b e = absurd (let z : ◌≡◌ {A = ℕ} 0 1 = cc in omega arith)

-- an element's first octet is no 0
pub first_some : (s : List ℕ) (d lim at e : ℕ) → Ok e ≡ element s d lim at → get_or s at 0 ≡ 0 → ⊥
unfolding element head_at tag_end
first_some s zero lim at e q z = ends-never e at q
first_some s (suc d) lim at e q z =
    let tag : 0 ≡ tag_end s lim at = either_lt _ _ _ _ (eq _ _ _ _ z refl) refl in
    let head : Bad ≡ head_at s lim at = eq _ _ _ _ (sym tag) refl in
    ends-never e at (q ∙ ap (λ (g : Head). by_head g lim at (λ o e b. contents (element s d) s o e at (suc e) b)) (sym head))

not-ended : (t : List ℕ) (lim p : ℕ) → (get_or t p 0 ≡ 0 → ⊥) → false ≡ ended t true lim p
unfolding ended
not-ended t lim p some = either_lt _ _ _ _ (ne _ _ _ _ some refl) refl

module _ (s t : List ℕ) (k lim lim' at p e : ℕ) (ep : p ≡ k + at) (fits : k + e ≤ lim') (same : Same s t k at e) where
  -- contents that end in s end in t, and those that go on go on
  still-ended : (o : Bool) → (o ≡ false → lim' ≡ k + lim) → e ≡ end_at o at → true ≡ ended s o lim at → true ≡ ended t o lim' p
  unfolding ended
  still-ended true fit h q =
      let a = was-lt _ _ _ _ q true-false in
      let b = was-eq _ _ _ _ a.1 true-false in
      let x = octet s t k at e at p same (omega arith) (omega arith) ep in
      let y = octet s t k at e (at + 1) (p + 1) same (omega arith) (omega arith) (omega arith) in
      lt _ _ _ _ (omega arith) (eq _ _ _ _ (omega arith) (b.1 ∙ ap (λ (j : ℕ). eqb j 0) (sym y)))
  still-ended false fit h q = let a = eqb-true at lim (sym q) in let f = fit refl in sym (eq-eqb p lim' (omega arith))

  still-on : (o : Bool) → (o ≡ false → lim' ≡ k + lim) → at < e → (get_or s at 0 ≡ 0 → ⊥) → false ≡ ended s o lim at → false ≡ ended t o lim' p
  unfolding ended
  still-on true fit h some q = not-ended t lim' p (λ z. some (sym (octet s t k at e at p same (omega arith) h ep) ∙ z))
  still-on false fit h some q = let f = fit refl in sym (ne_eqb p lim' (λ z. eqb-false at lim (sym q) (omega arith)))

contents-by : (o : Bool) (lim outer at e : ℕ) → ContentsIn o lim outer at (Ok e) → at ≤ e
contents-by true lim outer at e i = omega arith
contents-by false lim outer at e i = omega arith

-- an element of at most d depths in s is one of at most d' in t
abbrev pub Carries : List ℕ → List ℕ → ℕ → ℕ → ℕ → Type 0
Carries s t k d d' =
    (lim lim' at p e : ℕ) → Ok e ≡ element s d lim at → p ≡ k + at → k + e ≤ lim' → Same s t k at e → Ok (k + e) ≡ element t d' lim' p

module _ (s t : List ℕ) (k d d' : ℕ) (carry : Carries s t k d d') (o : Bool) (lim lim' outer outer' e : ℕ) (fit : o ≡ false → lim' ≡ k + lim) (fits : k + e ≤ lim') where
  pub contents-carry : (n at p n' : ℕ) → Ok e ≡ contents (element s d) s o lim outer n at → outer < at → at ≤ lim → p ≡ k + at → Same s t k at e → lim' - p < n'
      → Ok (k + e) ≡ contents (element t d') t o lim' outer' n' p
  unfolding contents
  contents-carry zero at p n' q h l ep same enough = ends-never e outer q
  contents-carry (suc n) at p n' q h l ep same enough = go (contents-carry n) (ended s o lim at) refl q
    where
      Rest : Type 0
      Rest = (at p n' : ℕ) → Ok e ≡ contents (element s d) s o lim outer n at → outer < at → at ≤ lim → p ≡ k + at → Same s t k at e → lim' - p < n'
          → Ok (k + e) ≡ contents (element t d') t o lim' outer' n' p

      end : (o : Bool) → e ≡ end_at o at → ◌≡◌ {A = Reading} (Ok (k + e)) (Ok (end_at o p))
      end true h = let z : k + e ≡ p + 2 = omega arith in ap Ok z
      end false h = let z : k + e ≡ p = omega arith in ap Ok z

      on : Rest → (x : Reading) → x ≡ element s d lim at → false ≡ ended s o lim at → Ok e ≡ onwards x (λ e. contents (element s d) s o lim outer n e)
          → Ok (k + e) ≡ contents (element t d') t o lim' outer' n' p
      on rest (Err f) i te q = ends-never e f q
      on rest (Ok x) i te q =
          let w = element-in s d lim at (Ok x) i in
          let v = contents-by o lim outer x e (contents-in (element s d) s (element-in s d) o lim outer n x (Ok e) (omega arith) (omega arith) q) in
          next (element t d') t o lim' outer' n' p enough (Ok (k + x)) (Ok (k + e))
          (still-on s t k lim lim' at p e ep fits same o fit (omega arith) (first_some s d lim at x i) te) (λ z. omega arith)
          (carry lim lim' at p x i ep (omega arith) (λ j a b. same j a (omega arith)))
          (rest x (k + x) (n' - 1) q (omega arith) (omega arith) refl (λ j a b. same j (omega arith) b) (omega arith))

      go : Rest → (b : Bool) → b ≡ ended s o lim at → Ok e ≡ or_next b (end_at o at) (λ _. if_eq at lim (Err outer) (onwards (element s d lim at) (λ e. contents (element s d) s o lim outer n e)))
          → Ok (k + e) ≡ contents (element t d') t o lim' outer' n' p
      go rest true te q =
          let z = ends_is e (end_at o at) q in
          end o z ∙ at-end (element t d') t o lim' outer' n' p enough o refl (still-ended s t k lim lim' at p e ep fits same o fit z te)
      go rest false te q = by-eq _ _ _ _ q (λ a q. ends-never e outer q) (λ a q. on rest (element s d lim at) refl te q)

pub element-carry : (s t : List ℕ) (k d d' : ℕ) → d ≤ d' → Carries s t k d d'
unfolding element
element-carry s t k zero d' m lim lim' at p e q ep fits same = ends-never e at q
element-carry s t k (suc d) zero m lim lim' at p e q ep fits same = absurd (omega arith)
element-carry s t k (suc d) (suc d') m lim lim' at p e q ep fits same =
    go (element-carry s t k d d' (omega arith)) (head_at s lim at) refl (head_in s lim at (head_at s lim at) refl) q
  where
    in-t : (g : Head) → g ≡ head_at s lim at → HeadBy e g → by_head (up_head k g) lim' p (λ o e b. contents (element t d') t o e p (suc e) b) ≡ element t (suc d') lim' p
    in-t g i b = ap (λ (g : Head). by_head g lim' p (λ o e b. contents (element t d') t o e p (suc e) b)) (head-carry s t k lim lim' at p e ep fits same g i b)

    go : Carries s t k d d' → (g : Head) → g ≡ head_at s lim at → HeadIn at lim g → Ok e ≡ by_head g lim at (λ o e b. contents (element s d) s o e at (suc e) b)
        → Ok (k + e) ≡ element t (suc d') lim' p
    go carry Bad i w q = ends-never e at q
    go carry (Whole c) i w q = let z = ends_is e c q in ap (λ (j : ℕ). Ok (k + j)) z ∙ in-t (Whole c) i (sym z)
    go carry (Holds b c) i w q =
        let v = contents-in (element s d) s (element-in s d) false c at (suc c) b (Ok e) (omega arith) (omega arith) q in
        let z = v.2 refl in
        contents-carry s t k d d' carry false c (k + c) at p e (λ _. refl) (omega arith) (suc c) b (k + b) (suc (k + c)) q (omega arith) (omega arith) refl
        (λ j a u. same j (omega arith) u) (omega arith)
        ∙ in-t (Holds b c) i (sym z)
    go carry (Opens b) i w q =
        let v = contents-in (element s d) s (element-in s d) true lim at (suc lim) b (Ok e) (omega arith) (omega arith) q in
        contents-carry s t k d d' carry true lim lim' at p e (λ z. absurd (true-false z)) fits (suc lim) b (k + b) (suc lim') q (omega arith) (omega arith) refl
        (λ j a u. same j (omega arith) u) (omega arith)
        ∙ in-t (Opens b) i (omega arith)

-- ---- a frame
abbrev pub up_frame : ℕ → Frame → Frame
up_frame k f = record { from = k + f.from; to = k + f.to; stop = k + f.stop }

pub frame-carry : (s t : List ℕ) (k d d' lim lim' at p : ℕ) → d ≤ d' → (f : Frame) → f ≡ frame_at s d lim at → 0 < f.stop → p ≡ k + at → k + f.stop ≤ lim' → Same s t k at f.stop
    → up_frame k f ≡ frame_at t d' lim' p
unfolding frame_at
frame-carry s t k d d' lim lim' at p m f q some ep fits same = go (head_at s lim at) refl (head_in s lim at (head_at s lim at) refl) q
  where
    in-t : (g : Head) → g ≡ head_at s lim at → HeadBy f.stop g → frame_by (up_head k g) (λ _. element t d' lim' p) ≡ frame_at t d' lim' p
    in-t g i b = ap (λ (g : Head). frame_by g (λ _. element t d' lim' p)) (head-carry s t k lim lim' at p f.stop ep fits same g i b)

    to : (b : ℕ) (r : Reading) → Opens b ≡ head_at s lim at → r ≡ element s d lim at → f ≡ frame_to b r → up_frame k f ≡ frame_at t d' lim' p
    to b (Err x) i j q = let z = ap (λ (f : Frame). f.stop) q in absurd (omega arith)
    to b (Ok x) i j q =
        let z : f.stop ≡ x = ap (λ (f : Frame). f.stop) q in
        let w = opens_in s d lim at b (Ok x) i j x refl in
        let y : k + (x - 2) ≡ k + x - 2 = omega arith in
        let c = element-carry s t k d d' m lim lim' at p x j ep (omega arith) (λ i l u. same i l (omega arith)) in
        ap (up_frame k) q ∙ ap (λ (n : ℕ). record { from = k + b; to = n; stop = k + x }) y ∙ ap (frame_to (k + b)) c ∙ in-t (Opens b) i (omega arith)

    go : (g : Head) → g ≡ head_at s lim at → HeadIn at lim g → f ≡ frame_by g (λ _. element s d lim at) → up_frame k f ≡ frame_at t d' lim' p
    go Bad i w q = let z = ap (λ (f : Frame). f.stop) q in absurd (omega arith)
    go (Whole c) i w q = ap (up_frame k) q ∙ in-t (Whole c) i (sym (ap (λ (f : Frame). f.stop) q))
    go (Holds b c) i w q = ap (up_frame k) q ∙ in-t (Holds b c) i (sym (ap (λ (f : Frame). f.stop) q))
    go (Opens b) i w q = to b (element s d lim at) i refl q
