-- Octets that stand in a list; written elements read where they stand. Assumes nothing.
use Rattle.std.proofs.Common.{arith, add-zero, add_assoc, zero-add, sym, ◌∙◌, length-append, get_or-append-add, eq-eqb, ne_eqb}
use Rattle.std.specs.Prelude.{ℕ, suc, ◌+◌, ◌-◌, ◌/◌, ◌%◌, ◌<◌, ◌≤◌, ◌≡◌, false, List, [], ◌∷◌, ◌++◌, length}
use Rattle.std.proofs.Math.Path.{refl, ap, subst}
use Rattle.std.proofs.Math.ListN.{get_or, get_or-append}
use Rattle.laws.specs.If.{lt, ge, eq, ne, by-lt}
use Rattle.paper.specs.declared.Length.TheVariants.{Given}
use Rattle.paper.specs.declared.Head.{Head}
use Rattle.paper.specs.declared.Head.TheVariants.{Whole, Holds}
use Rattle.std.specs.Prelude.{Ok}
use Rattle.paper.specs.Elements.{tag_end, length_at, constructor, head_by, head_at, ended, contents, element, frame_by, frame_at}
use Rattle.paper.specs.Writing.{length_octets, tlv}
use Rattle.reading_elements.specs.Bounds.{element-in}
use Rattle.reading_elements.specs.Steps.{after_tag, by-head, at-end, next}
use Rattle.reading_elements.specs.Carry.{Same}
use Rattle.writing_octets.specs.Lengths.{length-one, length_two, length_three}
use Rattle.demand_readback.specs.Standing.{Has, ShortTag, Parts, done, more, begins, ends, Stands}

pub has_all : (s : List ℕ) → Has s 0 s
has_all s = record { octet = λ i h. ap (λ (k : ℕ). get_or s k 0) (zero-add i) }

module _ {s : List ℕ} {at : ℕ} where
  pub has_first : (xs ys : List ℕ) → Has s at (xs ++ ys) → Has s at xs
  has_first xs ys a = record { octet = λ i h. a.octet i (omega (arith, length-append xs ys)) ∙ get_or-append xs ys 0 i h }

  pub has_rest : (xs ys : List ℕ) → Has s at (xs ++ ys) → Has s (at + length xs) ys
  has_rest xs ys a = record {
    octet = λ i h.
        ap (λ (k : ℕ). get_or s k 0) (add_assoc at (length xs) i)
        ∙ a.octet (length xs + i) (omega (arith, length-append xs ys)) ∙ get_or-append-add xs ys i 0;
  }

  -- the octet at the run's start, and the octets after it
  pub has-head : {v : ℕ} {vs : List ℕ} → Has s at (v ∷ vs) → get_or s at 0 ≡ v
  has-head a = ap (λ (k : ℕ). get_or s k 0) (sym (add-zero at)) ∙ a.octet 0 (omega arith)

  pub has-tail : {v : ℕ} {vs : List ℕ} → Has s at (v ∷ vs) → Has s (at + 1) vs
  has-tail {v} {vs} a = has_rest (v ∷ []) vs a

  pub has-as : {xs ys : List ℕ} → Has s at xs → xs ≡ ys → Has s at ys
  has-as a e = subst (Has s at) e a

  pub has-at : {vs : List ℕ} {p : ℕ} → Has s at vs → at ≡ p → Has s p vs
  has-at {vs} a e = subst (λ (p : ℕ). Has s p vs) e a

  pub has_same : {vs : List ℕ} → Has s at vs → Same vs s at 0 (length vs)
  has_same a i l h = a.octet i h

-- A LENGTH that was written is read
module _ (s : List ℕ) (lim at n : ℕ) (fits : n < 65536) where
  Reads : List ℕ → Type 0
  Reads vs = Has s at vs → at + length vs ≤ lim → Given (at + length vs) n ≡ length_at s lim at

  one : n < 128 → Reads (n ∷ [])
  unfolding Reads length_at
  one h a room =
      let f = has-head a in
      lt _ _ _ _ (omega arith) (lt _ _ _ _ (omega arith) (ap (Given (at + 1)) (sym f)))

  two : 128 ≤ n → n < 256 → Reads (0x81 ∷ n ∷ [])
  unfolding Reads length_at
  two g h a room =
      let f = has-head a in
      let e = has-head (has-tail a) in
      lt _ _ _ _ (omega arith) (ge _ _ _ _ (omega arith) (ne _ _ _ _ (λ z. omega arith) (eq _ _ _ _ (omega arith)
      (lt _ _ _ _ (omega arith) (ge _ _ _ _ (omega arith) (ap (Given (at + 2)) (sym e)))))))

  three : 256 ≤ n → Reads (0x82 ∷ n / 256 ∷ n % 256 ∷ [])
  unfolding Reads length_at
  three g a room =
      let f = has-head a in
      let d : get_or s (at + 1) 0 ≡ n / 256 = a.octet 1 (omega arith) in
      let e : get_or s (at + 2) 0 ≡ n % 256 = a.octet 2 (omega arith) in
      lt _ _ _ _ (omega arith) (ge _ _ _ _ (omega arith) (ne _ _ _ _ (λ z. omega arith) (ne _ _ _ _ (λ z. omega arith) (eq _ _ _ _ (omega arith)
      (lt _ _ _ _ (omega arith) (ge _ _ _ _ (omega arith) (ap (Given (at + 3)) (omega arith))))))))

  pub length_back : Has s at (length_octets n) → at + length (length_octets n) ≤ lim → Given (at + length (length_octets n)) n ≡ length_at s lim at
  unfolding Reads
  length_back =
      by-lt {A = ℕ} n 128 0 0 refl
      (λ h _. subst Reads (length-one n h) (one h))
      (λ g _. by-lt {A = ℕ} n 256 0 0 refl (λ h _. subst Reads (length_two n g h) (two g h)) (λ k _. subst Reads (length_three n k) (three k)))

pub tag_back : (s : List ℕ) (lim at t : ℕ) → ShortTag t → get_or s at 0 ≡ t → at < lim → at + 1 ≡ tag_end s lim at
unfolding tag_end
tag_back s lim at t short octet room =
    lt _ _ _ _ room (ne _ _ _ _ (λ z. short.0 (sym octet ∙ z)) (ne _ _ _ _ (λ z. short.1 (ap (λ (k : ℕ). k % 32) (sym octet) ∙ z)) refl))

-- THE HEAD of a given length that stands inside its limit
module _ (s : List ℕ) (lim at t b n : ℕ) (short : ShortTag t) (octet : get_or s at 0 ≡ t) (before : at < lim)
    (given : Given b n ≡ length_at s lim (at + 1)) (room : b + n ≤ lim) where
  by-given : head_by lim (constructor t) (Given b n) ≡ head_at s lim at
  by-given =
      ap (λ (k : ℕ). head_by lim (constructor k) (Given b n)) (sym octet)
      ∙ after_tag s lim at (at + 1) (Given b n) (tag_back s lim at t short octet before) (λ z. omega arith) given

  pub whole-head : constructor t ≡ 0 → Whole (b + n) ≡ head_at s lim at
  unfolding head_by
  whole-head k = ge _ _ _ _ (omega arith) (ne _ _ _ _ (λ z. omega arith) refl) ∙ by-given

  pub holds-head : constructor t ≡ 1 → Holds b (b + n) ≡ head_at s lim at
  unfolding head_by
  holds-head k = ge _ _ _ _ (omega arith) (eq _ _ _ _ k refl) ∙ by-given

-- a primitive of few octets
pub short-element : (s : List ℕ) (lim at t n : ℕ) → ShortTag t → get_or s at 0 ≡ t → get_or s (at + 1) 0 ≡ n → n < 128 → at + 1 + 1 + n ≤ lim
    → (d : ℕ) → (d ≡ 0 → ⊥) → constructor t ≡ 0 → Ok (at + 1 + 1 + n) ≡ element s d lim at
unfolding length_at
short-element s lim at t n short octet count few room d deep k =
    by-head s d lim at (Whole (at + 1 + 1 + n)) deep
    (whole-head s lim at t (at + 1 + 1) n short octet (omega arith)
    (lt _ _ _ _ (omega arith) (lt _ _ _ _ (omega arith) (ap (Given (at + 1 + 1)) (sym count)))) room k)

-- are contents
pub parts-back : {s : List ℕ} {d e p : ℕ} → Parts s d e p → (outer n : ℕ) → e - p < n → Ok e ≡ contents (element s d) s false e outer n p
unfolding ended
parts-back {s} {d} {e} {p} (done z) outer n h = ap Ok (sym z) ∙ at-end (element s d) s false e outer n p h false refl (sym (eq-eqb p e z))
parts-back {s} {d} {e} {p} (more {q = q} c r) outer n h =
    let w = element-in s d e p (Ok q) c in
    next (element s d) s false e outer n p h (Ok q) (Ok e) (sym (ne_eqb p e (λ z. omega arith))) (λ z. omega arith) c (parts-back r outer (n - 1) (omega arith))

module _ {s : List ℕ} {lim at t : ℕ} {c : List ℕ} (w : Stands s lim at t c) where
  pub octet-back : get_or s at 0 ≡ t
  unfolding tlv
  octet-back = has-head w.has

  pub given_back : Given (begins at (length c)) (length c) ≡ length_at s lim (at + 1)
  unfolding tlv
  given_back = length_back s lim (at + 1) (length c) w.fits (has_first (length_octets (length c)) c (has-tail w.has)) (omega arith)

  pub contents-back : Has s (begins at (length c)) c
  unfolding tlv
  contents-back = has_rest (length_octets (length c)) c (has-tail w.has)

  -- a constructor, whose contents are elements
  module _ (cons : constructor t ≡ 1) where
    head-back : Holds (begins at (length c)) (ends at (length c)) ≡ head_at s lim at
    head-back = holds-head s lim at t (begins at (length c)) (length c) w.short octet-back (omega arith) given_back w.room cons

    pub holds-back : (d : ℕ) → (d ≡ 0 → ⊥) → Parts s (d - 1) (ends at (length c)) (begins at (length c)) → Ok (ends at (length c)) ≡ element s d lim at
    holds-back d deep parts =
        parts-back parts at (suc (ends at (length c))) (omega arith) ∙ by-head s d lim at (Holds (begins at (length c)) (ends at (length c))) deep head-back

    pub frame_back : (d : ℕ) → record { from = begins at (length c); to = ends at (length c); stop = ends at (length c) } ≡ frame_at s d lim at
    unfolding frame_at
    frame_back d = ap (λ (g : Head). frame_by g (λ _. element s d lim at)) head-back
