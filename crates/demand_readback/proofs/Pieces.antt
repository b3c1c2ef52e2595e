-- A component's pieces, read where they were written. Assumes nothing.
use Rattle.std.proofs.Common.{arith, sym, ◌∙◌, eq-eqb}
use Prim.Native.Nat.{ℕ, ◌+◌, ◌-◌, ◌<◌, ◌≤◌}
use Rattle.std.specs.Prelude.{◌≡◌, true, List, ◌∷◌, get_or}
use Rattle.std.proofs.Math.Path.{refl, ap}
use Rattle.std.proofs.Math.ListN.{length}
use Rattle.laws.specs.If.{if_lt, if_eq, lt, ge, eq, ne, yes, by-eq}
use Rattle.paper.specs.Elements.{Reading}
use Rattle.std.specs.Prelude.{Ok}
use Rattle.paper.specs.declared.Frame.{Frame}
use Rattle.paper.specs.declared.Component.{Component}
use Rattle.paper.specs.Sizes.{depths}
use Rattle.paper.specs.Elements.{constructor, element, frame_at}
use Rattle.paper.specs.Problems.{no_problem}
use Rattle.paper.specs.Components.{known_tag, sound, faulty, single, code_end, frame_ends, last_piece, pieces_after, pieces, read_problem, if_nested, framed, tag_at, component_at}
use Rattle.paper.specs.Writing.{tlv}
use Rattle.writing_octets.specs.Lengths.{element_size, element-length}
use Rattle.demand_readback.specs.Standing.{Has, Stands, ShortTag, Parts, done, more, begins, ends}
use Rattle.demand_readback.proofs.Standing.{short-element, has-head, has_first, has_rest, octet-back, contents-back, holds-back, frame_back}
use Rattle.demand_readback.specs.Written.{placed}
use Rattle.demand_readback.proofs.GivenLaws.{element-copied, ends-frame, code-copied, code-element}
use Rattle.demand_readback.specs.Pieces.{Both, Reads, Tagged}

-- AN ELEMENT OF ONE OCTET, `t 01 v`
module _ {s : List ℕ} {p t v : ℕ} {rest : List ℕ} (has : Has s p (t ∷ 1 ∷ v ∷ rest)) (e : ℕ) (room : p + 3 ≤ e) where
  pub single-back : v ≡ single s t e p
  unfolding single
  single-back =
      ge _ _ _ _ room (eq _ _ _ _ (has-head has) (eq _ _ _ _ (has.octet 1 (omega arith)) (sym (has.octet 2 (omega arith)))))

  pub single-element : (d : ℕ) → (d ≡ 0 → ⊥) → ShortTag t → constructor t ≡ 0 → Ok (p + 3) ≡ element s d e p
  single-element d deep short k =
      let z : p + 3 ≡ p + 1 + 1 + 1 = omega arith in
      ap Ok z ∙ short-element s e p t 1 short (has-head has) (has.octet 1 (omega arith)) (omega arith) (omega arith) d deep k

-- `05 00`
pub null-element : (s : List ℕ) (e p : ℕ) {rest : List ℕ} → Has s p (5 ∷ 0 ∷ rest) → p + 2 ≤ e → (d : ℕ) → (d ≡ 0 → ⊥) → Ok (p + 2) ≡ element s d e p
null-element s e p has room d deep =
    let z : p + 2 ≡ p + 1 + 1 + 0 = omega arith in
    ap Ok z ∙ short-element s e p 5 0 ((λ z. omega arith), (λ z. omega arith)) (has-head has) (has.octet 1 (omega arith)) (omega arith) (omega arith) d deep refl

module _ {s : List ℕ} {p e d : ℕ} {op par : List ℕ} (g : Both s p e d op par) where
  par-element : (length par ≡ 0 → ⊥) → Ok (p + length op + length par) ≡ element s d e (p + length op)
  par-element some = element-copied (has_rest op par g.has) e (omega arith) d (g.formed some)

  pub both-parts : Parts s d e p
  both-parts =
      more (code-element (has_first op par g.has) e (omega arith) g.code d g.deep)
      (by-eq {A = ℕ} (length par) 0 0 0 refl (λ z _. done (omega arith)) (λ z _. more (par-element z) (done g.whole)))

  pub both_code : p + length op ≡ code_end s e p
  both_code = code-copied (has_first op par g.has) e (omega arith) g.code

  pub both_some : 0 < p + length op
  both_some = omega (arith, g.code.least, g.code.whole)

  pub both-par : (length par ≡ 0 → ⊥) → frame_ends s d e (p + length op) ≡ true
  both-par some = eq-eqb (frame_at s d e (p + length op)).stop e (ends-frame s d e (p + length op) (p + length op + length par) (par-element some) ∙ g.whole)

-- a parameter's place
module _ (t id linked p x n : ℕ) where
  pub placed-none : n ≡ 0 → placed t id linked p x n ≡ sound t id linked p x 0 0
  placed-none h =
      ap (λ (a : ℕ). sound t id linked p x a (if_eq n 0 0 x)) (sym (eq n 0 0 (x - n) h refl)) ∙ ap (sound t id linked p x 0) (sym (eq n 0 0 x h refl))

  pub placed-some : (n ≡ 0 → ⊥) → (q : ℕ) → q + n ≡ x → placed t id linked p x n ≡ sound t id linked p x q x
  placed-some h q e =
      let z : x - n ≡ q = omega arith in
      ap (λ (a : ℕ). sound t id linked p x a (if_eq n 0 0 x)) (sym (ne n 0 0 (x - n) h refl) ∙ z) ∙ ap (sound t id linked p x q) (sym (ne n 0 0 x h refl))

-- the last pieces of an invoke or error
module _ {s : List ℕ} {p e : ℕ} {op par : List ℕ} (g : Both s p e 15 op par) (t id linked : ℕ) where
  pub last-back : placed t id linked no_problem e (length par) ≡ last_piece s t id linked e e (code_end s e p)
  unfolding last_piece
  last-back =
      let w = both_some g in
      ne (p + length op) 0 _ _ (λ z. omega arith)
      (by-eq {A = ℕ} (length par) 0 0 0 refl
      (λ z _. eq (p + length op) e _ _ (omega arith) (placed-none t id linked no_problem e (length par) z))
      (λ z _. ne (p + length op) e _ _ (λ y. omega arith) (yes _ _ _ (both-par g z) (placed-some t id linked no_problem e (length par) z (p + length op) g.whole))))
      ∙ ap (last_piece s t id linked e e) (both_code g)

-- THE COMPONENT, of its pieces
module _ {s : List ℕ} {lim at t : ℕ} {c : List ℕ} (w : Stands s lim at t c) where
  component-element : constructor t ≡ 1 → {x : Component} → Reads s t (begins at (length c)) (ends at (length c)) x → Ok (ends at (length c)) ≡ element s depths lim at
  component-element cons r = holds-back w cons depths (λ z. omega arith) r.parts

  pub component-back : constructor t ≡ 1 → known_tag t ≡ true → {x : Component} → Reads s t (begins at (length c)) (ends at (length c)) x → x ≡ component_at s lim at
  unfolding component_at framed tag_at
  component-back cons known r =
      let b : ℕ = begins at (length c) in
      let e : ℕ = ends at (length c) in
      let f : Frame = record { from = b; to = e; stop = e } in
      let frame : f ≡ frame_at s depths lim at = frame_back w cons depths in
      let stop : e ≡ (frame_at s depths lim at).stop = ap (λ (f : Frame). f.stop) frame in
      let tag : t ≡ if_lt at lim (get_or s at 0) 0 = lt _ _ _ _ (omega arith) (sym (octet-back w)) in
      r.is ∙ ne _ _ _ _ (λ z. omega arith)
      (yes (known_tag t) _ _ known
      (ap (λ (r : Reading). if_nested r (pieces s t e e b) (faulty t (single s 2 e b) (read_problem s t e b) 2 e)) (component-element cons r))
      ∙ ap (λ (g : Frame). framed s lim at t g) frame
      ∙ ap (λ (k : ℕ). framed s lim at k (frame_at s depths lim at)) tag)

-- its invoke ID first, then pieces that are read as x
pub id-reads : {s : List ℕ} {t b e id : ℕ} {rest : List ℕ} {x : Component} → Has s b (2 ∷ 1 ∷ id ∷ rest) → b + 3 ≤ e → id < 256
    → Parts s 15 e (b + 3) → x ≡ pieces_after s t id e e (b + 3) → Reads s t b e x
unfolding pieces
id-reads {s} {t} {b} {e} {id} {rest} has room small parts is =
    let i = single-back has e room in
    record {
      parts = more (single-element has e room 15 (λ z. omega arith) ((λ z. omega arith), (λ z. omega arith)) refl) parts;
      is = is ∙ ne _ _ _ _ (λ z. omega arith) (ap (λ (i : ℕ). pieces_after s t i e e (b + 3)) i);
    }

-- THE COMPONENT, of the octets that it was written as
pub glue : {s : List ℕ} {lim at : ℕ} (t : ℕ) (c : List ℕ) (f : ℕ → Component) → Tagged t → Has s at (tlv t c) → length (tlv t c) < 65536 → at + length (tlv t c) ≤ lim
    → ((b e : ℕ) → Has s b c → b + length c ≡ e → Reads s t b e (f e))
    → f (at + length (tlv t c)) ≡ component_at s lim at
glue {s} {lim} {at} t c f g has fits room reads =
    let size : length (tlv t c) ≡ element_size (length c) = element-length t c in
    let w : Stands s lim at t c = record { has = has; short = g.0; fits = omega arith; room = omega arith } in
    let z : at + length (tlv t c) ≡ ends at (length c) = omega arith in
    ap f z ∙ component-back w g.1 g.2 (reads (begins at (length c)) (ends at (length c)) (contents-back w) refl)
