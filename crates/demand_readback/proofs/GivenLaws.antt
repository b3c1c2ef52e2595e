-- Given octets (operation, error, parameter, dialogue portion) where they are copied to. Assumes nothing.
use Rattle.std.proofs.Common.{arith, add-zero, sym, ◌∙◌, inl, inr, ⊎_elim, eqb-true}
use Rattle.std.specs.Prelude.{ℕ, zero, suc, ◌+◌, ◌<◌, ◌≤◌, ◌≡◌, refl, true, false, ◌⊎◌, List, length, get_or}
use Rattle.std.proofs.Math.Path.{ap}
use Rattle.laws.specs.If.{lt, ge, eq, ne, by-lt, by-eq, true-false}
use Rattle.paper.specs.declared.Length.{Length}
use Rattle.paper.specs.declared.Length.TheVariants.{Wrong, Given, Until}
use Rattle.paper.specs.declared.Head.{Head}
use Rattle.paper.specs.declared.Head.TheVariants.{Bad, Whole, Holds, Opens}
use Rattle.paper.specs.Elements.{Reading}
use Rattle.std.specs.Prelude.{Ok, Err}
use Rattle.paper.specs.Elements.{constructor, length_at, head_at, contents, by_head, element, frame_to, frame_by, frame_at, ends_at, is_element}
use Rattle.paper.specs.Components.{some_end, code_end}
use Rattle.paper.specs.Dialogues.{is_code}
use Rattle.reading_elements.specs.Bounds.{length-in, head_in, contents-in, element-in}
use Rattle.reading_elements.specs.Steps.{by-head}
use Rattle.reading_elements.specs.Carry.{element-carry, length-carry}
use Rattle.demand_readback.specs.Standing.{Has, ShortTag}
use Rattle.demand_readback.proofs.Standing.{has_same, whole-head}
use Rattle.demand_readback.specs.Given.{Code}

-- AN ELEMENT BY ITSELF stays one wherever it stands, with as many depths left
pub ended_at : (n : ℕ) (r : Reading) → ends_at n r ≡ true → Ok n ≡ r
ended_at n (Ok e) h = ap Ok (sym (eqb-true e n h))
ended_at n (Err f) h = absurd (true-false (sym h))

module _ {s l : List ℕ} {p : ℕ} (has : Has s p l) (lim : ℕ) (room : p + length l ≤ lim) where
  pub element-copied : (d : ℕ) → is_element d l ≡ true → Ok (p + length l) ≡ element s d lim p
  unfolding is_element
  element-copied d h =
      element-carry l s p d d (omega arith) (length l) lim 0 p (length l) (ended_at (length l) (element l d (length l) 0) h) (sym (add-zero p)) room (has_same has)

-- where a well-formed element's frame ends
pub ends-frame : (s : List ℕ) (d lim at x : ℕ) → Ok x ≡ element s d lim at → (frame_at s d lim at).stop ≡ x
unfolding frame_at element
ends-frame s zero lim at x h = absurd (let z : ◌≡◌ {A = ℕ} 0 1 = cc in omega arith)
ends-frame s (suc d) lim at x h = go (head_at s lim at) refl h
  where
    to : (b : ℕ) (r : Reading) → Ok x ≡ r → (frame_to b r).stop ≡ x
    to b (Ok y) q = cc
    to b (Err y) q = absurd (let z : ◌≡◌ {A = ℕ} 0 1 = cc in omega arith)

    go : (g : Head) → g ≡ head_at s lim at → Ok x ≡ by_head g lim at (λ o e b. contents (element s d) s o e at (suc e) b)
        → (frame_by g (λ _. element s (suc d) lim at)).stop ≡ x
    go Bad i q = absurd (let z : ◌≡◌ {A = ℕ} 0 1 = cc in omega arith)
    go (Whole e) i q = cc
    go (Holds b e) i q =
        let w = head_in s lim at (Holds b e) i in
        let v = contents-in (element s d) s (element-in s d) false e at (suc e) b (Ok x) (omega arith) (omega arith) q in
        sym (v.2 refl)
    go (Opens b) i q = to b (element s (suc d) lim at) (q ∙ ap (λ (g : Head). by_head g lim at (λ o e b. contents (element s d) s o e at (suc e) b)) i)

some-told : (n r : ℕ) (x : Length) → r ≡ some_end n x → 0 < r → (P : Type 0) → ((b m : ℕ) → Given b m ≡ x → 1 ≤ m → b + m ≡ r → P) → P
unfolding some_end
some-told n r Wrong e h P k = absurd (omega arith)
some-told n r (Until b) e h P k = absurd (omega arith)
some-told n r (Given b m) e h P k =
    by-lt _ _ _ _ e (λ a e. absurd (omega arith)) (λ a e. by-lt _ _ _ _ e (λ c e. absurd (omega arith)) (λ c e. k b m refl a (sym e)))

pub code-told : (l : List ℕ) → is_code l ≡ true → Code l
unfolding is_code code_end
code-told l h =
    by-eq _ _ _ _ (sym h) (λ z e. absurd (true-false e))
    (λ z e. let q = sym (eqb-true (code_end l (length l) 0) (length l) (sym e)) in
    by-lt _ _ _ _ q
    (λ a q. by-eq _ _ _ _ q
    (λ t q. by-lt _ _ _ _ q
    (λ b q. by-lt _ _ _ _ q (λ c q. absurd (omega arith)) (λ c q. is a (inl (t, c)) q)) (λ b q. absurd (omega arith)))
    (λ t q. by-eq _ _ _ _ q (λ u q. is a (inr u) q) (λ u q. absurd (omega arith))))
    (λ a q. absurd (omega arith)))
  where
    is : 0 < length l → ((get_or l 0 0 ≡ 2) × (get_or l 1 0 ≤ 4)) ⊎ (get_or l 0 0 ≡ 6) → length l ≡ some_end (length l) (length_at l (length l) 1) → Code l
    is a t q =
        some-told (length l) (length l) (length_at l (length l) 1) q a (Code l)
        (λ b m g u v. record { tag = t; start = b; count = m; given = g; least = u; whole = v })

module _ {s l : List ℕ} {p : ℕ} (has : Has s p l) (lim : ℕ) (room : p + length l ≤ lim) (code : Code l) where
  in-l : (1 < code.start) × (code.start ≤ length l)
  in-l = length-in l (length l) 1 (Given code.start code.count) code.given

  first : get_or s p 0 ≡ get_or l 0 0
  first = ap (λ (k : ℕ). get_or s k 0) (sym (add-zero p)) ∙ has.octet 0 (let w = in-l in omega arith)

  second : get_or s (p + 1) 0 ≡ get_or l 1 0
  second = has.octet 1 (let w = in-l in omega arith)

  given-copied : Given (p + code.start) code.count ≡ length_at s lim (p + 1)
  given-copied =
      let w = in-l in
      length-carry l s p (length l) lim 1 (p + 1) code.start (Given code.start code.count) code.given (omega arith) refl (omega (arith, code.whole))
      (λ i u v. has.octet i (omega arith))

  some-copied : p + length l ≡ some_end lim (length_at s lim (p + 1))
  unfolding some_end
  some-copied =
      (ge _ _ _ _ code.least (ge _ _ _ _ (omega (arith, code.whole)) (omega (arith, code.whole))))
      ∙ ap (some_end lim) given-copied

  -- it is read as one
  pub code-copied : p + length l ≡ code_end s lim p
  unfolding code_end
  code-copied =
      let w = in-l in
      lt _ _ _ _ (omega (arith, code.whole, code.least))
      (⊎_elim
      (λ t. eq _ _ _ _ (first ∙ t.0) (lt _ _ _ _ (omega (arith, code.whole, code.least)) (ge _ _ _ _ (omega (arith, second, t.1)) some-copied)))
      (λ t. ne _ _ _ _ (λ z. omega (arith, first, t)) (eq _ _ _ _ (first ∙ t) some-copied))
      code.tag)

  -- and is an element
  pub code-element : (d : ℕ) → (d ≡ 0 → ⊥) → Ok (p + length l) ≡ element s d lim p
  code-element d deep =
      ⊎_elim (λ t. is 2 ((λ z. omega arith), (λ z. omega arith)) (first ∙ t.0) refl) (λ t. is 6 ((λ z. omega arith), (λ z. omega arith)) (first ∙ t) refl) code.tag
    where
      is : (t : ℕ) → ShortTag t → get_or s p 0 ≡ t → constructor t ≡ 0 → Ok (p + length l) ≡ element s d lim p
      is t short octet k =
          let w = in-l in
          let z : p + length l ≡ p + code.start + code.count = omega (arith, code.whole) in
          ap Ok z ∙ by-head s d lim p (Whole (p + code.start + code.count)) deep
          (whole-head s lim p t (p + code.start) code.count short octet (omega (arith, code.whole, code.least)) given-copied (omega (arith, code.whole)) k)

  -- it begins with neither 80 nor another tag of a context
  pub code-first : get_or s p 0 < 7
  code-first = ⊎_elim (λ t. omega (arith, first, t.0)) (λ t. omega (arith, first, t)) code.tag
