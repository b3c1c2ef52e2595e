-- A SOUND COMPONENT IS THE SAME COMPONENT where its octets are copied k further, inside any limit that holds it. Assumes nothing.
use Rattle.std.specs.Prelude.{◌≡◌, true, List, get_or}
use Rattle.std.proofs.Math.Path.{refl, ap}
use Rattle.std.proofs.Common.{sym, ◌∙◌, arith}
use Prim.Native.Nat.{ℕ, ◌+◌, ◌≤◌, ◌<◌}
use borrow.Author.Tests.{eqb-true, eq-eqb}
use Rattle.laws.specs.If.{if_eq, eq, ne, lt, ge, yes, by-eq, by-lt, by-b}
use Rattle.paper.specs.declared.Length.{Length}
use Rattle.paper.specs.declared.Length.TheVariants.{Wrong, Given, Until}
use Rattle.paper.specs.Elements.{Reading}
use Rattle.std.specs.Prelude.{Ok, Err}
use Rattle.paper.specs.declared.Frame.{Frame}
use Rattle.paper.specs.declared.Component.{Component}
use Rattle.paper.specs.Elements.{length_at, element, frame_at}
use Rattle.paper.specs.Problems.{no_problem}
use Rattle.paper.specs.Components.{invoke_tag, error_tag, reject_tag, no_id, sound, faulty, single, some_end, code_end, frame_ends, last_piece, invoke_pieces, result_both, result_pieces, problem_at, reject_pieces, null_pieces, pieces_after, pieces, known_tag, read_problem, if_nested, framed, tag_at, component_at}
use Rattle.reading_elements.specs.Bounds.{frame-in}
use Rattle.reading_elements.specs.Carry.{Same, length-carry, element-carry, up_frame, frame-carry}
use Rattle.reading_components.specs.Bounds.{code_in}
use Rattle.demand_readback.proofs.GivenLaws.{ends-frame}
use Rattle.demand_kept.proofs.Leaves.{pieces-stop}
use Rattle.demand_kept.specs.Carried.{further}

-- its pieces, from p in s and from q, which is k + p, in t
module _ (s t : List ℕ) (k : ℕ) where
  octet : (e p i q : ℕ) → Same s t k p e → p ≤ i → i < e → q ≡ k + i → get_or t q 0 ≡ get_or s i 0
  octet e p i q same l h z = ap (λ (j : ℕ). get_or t j 0) z ∙ same i l h

  module _ (e p q : ℕ) (eq-q : q ≡ k + p) (same : Same s t k p e) where
    single-carry : (tag : ℕ) → single s tag e p ≡ single t tag (k + e) q
    unfolding single
    single-carry tag =
        by-lt {r = single s tag e p} _ _ _ _ refl (λ a z. lt _ _ _ _ (omega arith) z)
        (λ a z.
        let x = octet e p p q same (omega arith) (omega arith) eq-q in
        let y = octet e p (p + 1) (q + 1) same (omega arith) (omega arith) (omega arith) in
        let w = octet e p (p + 2) (q + 2) same (omega arith) (omega arith) (omega arith) in
        ge _ _ _ _ (omega arith) (z ∙ cc))

    problem-carry : (problem_at s e p ≡ no_problem → ⊥) → problem_at s e p ≡ problem_at t (k + e) q
    unfolding problem_at
    problem-carry some =
        by-eq {r = problem_at s e p} _ _ _ _ refl
        (λ a z.
        let x = octet e p p q same (omega arith) (omega arith) eq-q in
        let y = octet e p (p + 1) (q + 1) same (omega arith) (omega arith) (omega arith) in
        let w = octet e p (p + 2) (q + 2) same (omega arith) (omega arith) (omega arith) in
        eq _ _ _ _ (omega arith) (z ∙ cc))
        (λ a z. absurd (some z))

    some-carry : (r : ℕ) → (l : Length) → l ≡ length_at s e p → r ≡ some_end e l → 0 < r → k + r ≡ some_end (k + e) (length_at t (k + e) q)
    unfolding some_end
    some-carry r Wrong i z h = absurd (omega arith)
    some-carry r (Until b) i z h = absurd (omega arith)
    some-carry r (Given b n) i z h =
        by-lt _ _ _ _ z (λ a z. absurd (omega arith))
        (λ a z. by-lt _ _ _ _ z (λ c z. absurd (omega arith))
        (λ c z. ge _ _ _ _ a (ge _ _ _ _ (omega arith) (omega arith)) ∙ ap (some_end (k + e)) (length-carry s t k e (k + e) p q e (Given b n) i (omega arith) eq-q (omega arith) same)))

    one-carry : (d : ℕ) → 0 < e → frame_ends s d e p ≡ true → up_frame k (frame_at s d e p) ≡ frame_at t d (k + e) q
    one-carry d h o =
        let z = eqb-true (frame_at s d e p).stop e o in
        frame-carry s t k d d e (k + e) p q (omega arith) (frame_at s d e p) refl (omega arith) eq-q (omega arith) (λ i l u. same i l (omega arith))

    one-there : (d : ℕ) → 0 < e → frame_ends s d e p ≡ true → frame_ends t d (k + e) q ≡ true
    one-there d h o =
        let z = eqb-true (frame_at s d e p).stop e o in
        eq-eqb (frame_at t d (k + e) q).stop (k + e) (omega (arith, ap (λ (f : Frame). f.stop) (one-carry d h o)))

  code-carry : (e p q r : ℕ) → q ≡ k + p → Same s t k p e → r ≡ code_end s e p → 0 < r → k + r ≡ code_end t (k + e) q
  unfolding code_end
  code-carry e p q r eq-q same z h =
      by-lt _ _ _ _ z
      (λ a z. let x = octet e p p q same (omega arith) (omega arith) eq-q in
      by-eq _ _ _ _ z
      (λ b z. by-lt _ _ _ _ z
      (λ c z. by-lt _ _ _ _ z (λ d z. absurd (omega arith))
      (λ d z. let y = octet e p (p + 1) (q + 1) same (omega arith) (omega arith) (omega arith) in
      lt _ _ _ _ (omega arith) (eq _ _ _ _ (omega arith) (lt _ _ _ _ (omega arith) (ge _ _ _ _ (omega arith) (ends z))))))
      (λ c z. absurd (omega arith)))
      (λ b z. by-eq _ _ _ _ z (λ c z. lt _ _ _ _ (omega arith) (ne _ _ _ _ (λ w. omega arith) (eq _ _ _ _ (omega arith) (ends z)))) (λ c z. absurd (omega arith))))
      (λ a z. absurd (omega arith))
    where
      ends : r ≡ some_end e (length_at s e (p + 1)) → k + r ≡ some_end (k + e) (length_at t (k + e) (q + 1))
      ends z = some-carry e (p + 1) (q + 1) (omega arith) (λ i l u. same i (omega arith) u) r (length_at s e (p + 1)) refl z h

  -- THE PIECES of a sound component
  module _ (x : ℕ) (r : Component) (good : r.fault ≡ 3) where
    never : {A : Type 0} {tag id p code : ℕ} → code < 3 → r ≡ faulty tag id p code x → A
    never h z = absurd (omega (arith, ap (λ (c : Component). c.fault) z))

    none : {tag id l p : ℕ} → r ≡ sound tag id l p x 0 0 → further k r ≡ sound tag id l p (k + x) 0 0
    none {tag} {id} {l} {p} z =
        let w : ◌≡◌ {A = ℕ} 0 (if_eq 0 0 0 (k + 0)) = eq 0 0 0 (k + 0) refl refl in
        ap (further k) z ∙ ap (λ (a : ℕ). sound tag id l p (k + x) a a) (sym w)

    some : {tag id l p a b : ℕ} → 0 < b → r ≡ sound tag id l p x a b → further k r ≡ sound tag id l p (k + x) (k + a) (k + b)
    some {tag} {id} {l} {p} {a} {b} h z =
        let v : k + a ≡ if_eq b 0 0 (k + a) = ne b 0 0 (k + a) (λ w. omega arith) refl in
        let w : k + b ≡ if_eq b 0 0 (k + b) = ne b 0 0 (k + b) (λ w. omega arith) refl in
        ap (further k) z ∙ ap (λ (c : ℕ). sound tag id l p (k + x) c (if_eq b 0 0 (k + b))) (sym v) ∙ ap (sound tag id l p (k + x) (k + a)) (sym w)

    module _ (e p q : ℕ) (eq-q : q ≡ k + p) (same : Same s t k p e) where
      last-carry : (tag id l : ℕ) → r ≡ last_piece s tag id l x e (code_end s e p) → further k r ≡ last_piece t tag id l (k + x) (k + e) (code_end t (k + e) q)
      unfolding last_piece
      last-carry tag id l z =
          let y : ℕ = code_end s e p in
          by-eq _ _ _ _ z (λ a z. never (omega arith) z)
          (λ a z.
          let w = code_in s e p y refl (omega arith) in
          ne (k + y) 0 _ _ (λ v. omega arith)
          (by-eq _ _ _ _ z (λ b z. eq (k + y) (k + e) _ _ (omega arith) (none z))
          (λ b z. by-b _ _ _ z
          (λ o z. ne (k + y) (k + e) _ _ (λ v. omega arith)
          (yes _ _ _ (one-there e y (k + y) refl (λ i l u. same i (omega arith) u) 15 (omega arith) o) (some (omega arith) z)))
          (λ o z. never (omega arith) z)))
          ∙ ap (last_piece t tag id l (k + x) (k + e)) (code-carry e p q y eq-q same refl (omega arith)))

      both-carry : (tag id : ℕ) → r ≡ result_both s tag id x e (code_end s e p) → further k r ≡ result_both t tag id (k + x) (k + e) (code_end t (k + e) q)
      unfolding result_both
      both-carry tag id z =
          let y : ℕ = code_end s e p in
          by-eq _ _ _ _ z (λ a z. never (omega arith) z)
          (λ a z.
          let w = code_in s e p y refl (omega arith) in
          ne (k + y) 0 _ _ (λ v. omega arith)
          (by-b _ _ _ z
          (λ o z. yes _ _ _ (one-there e y (k + y) refl (λ i l u. same i (omega arith) u) 14 (omega arith) o) (some (omega arith) z))
          (λ o z. never (omega arith) z))
          ∙ ap (result_both t tag id (k + x) (k + e)) (code-carry e p q y eq-q same refl (omega arith)))

      reject-carry : (id : ℕ) → r ≡ reject_pieces s id x e p → further k r ≡ reject_pieces t id (k + x) (k + e) q
      unfolding reject_pieces
      reject-carry id z =
          by-eq _ _ _ _ z (λ a z. never (omega arith) z)
          (λ a z. let w = problem-carry e p q eq-q same a in
          ne _ _ _ _ (λ v. a (w ∙ v)) (none z ∙ ap (λ (n : ℕ). sound reject_tag id no_id n (k + x) 0 0) w))

    module _ (e p q : ℕ) (eq-q : q ≡ k + p) (same : Same s t k p e) where
      result-carry : (tag id : ℕ) → 0 < e → r ≡ result_pieces s tag id x e p → further k r ≡ result_pieces t tag id (k + x) (k + e) q
      unfolding result_pieces
      result-carry tag id h z =
          by-eq _ _ _ _ z (λ a z. eq _ _ _ _ (omega arith) (none z))
          (λ a z. by-eq _ _ _ _ z
          (λ b z. by-b _ _ _ z
          (λ o z.
          let f : Frame = frame_at s 15 e p in
          let w = frame-in s 15 e p f refl in
          let stop = eqb-true f.stop e o in
          let past = w.past (omega arith) in
          let u = octet e p p q same (omega arith) (omega arith) eq-q in
          ne _ _ _ _ (λ v. omega arith) (eq _ _ _ _ (omega arith) (yes _ _ _ (one-there e p q eq-q same 15 h o)
          (both-carry f.to f.from (k + f.from) refl (λ i l u. same i (omega arith) (omega arith)) tag id z
          ∙ ap (λ (g : Frame). result_both t tag id (k + x) g.to (code_end t g.to g.from)) (one-carry e p q eq-q same 15 h o)))))
          (λ o z. never (omega arith) z))
          (λ b z. never (omega arith) z))

      null-carry : r ≡ null_pieces s x e p → further k r ≡ null_pieces t (k + x) (k + e) q
      unfolding null_pieces
      null-carry z =
          by-lt _ _ _ _ z (λ a z. never (omega arith) z)
          (λ a z.
          let u = octet e p p q same (omega arith) (omega arith) eq-q in
          let v = octet e p (p + 1) (q + 1) same (omega arith) (omega arith) (omega arith) in
          by-eq _ _ _ _ z
          (λ b z. by-eq _ _ _ _ z
          (λ c z. ge _ _ _ _ (omega arith) (eq _ _ _ _ (omega arith) (eq _ _ _ _ (omega arith)
          (reject-carry e (p + 2) (q + 2) (omega arith) (λ i l u. same i (omega arith) u) no_id z))))
          (λ c z. never (omega arith) z))
          (λ b z. never (omega arith) z))

      invoke-carry : (id : ℕ) → r ≡ invoke_pieces s id x e p → further k r ≡ invoke_pieces t id (k + x) (k + e) q
      unfolding invoke_pieces
      invoke-carry id z =
          let w = single-carry e p q eq-q same 0x80 in
          by-eq _ _ _ _ z (λ a z. eq _ _ _ _ (sym w ∙ a) (last-carry e p q eq-q same invoke_tag id no_id z))
          (λ a z. ne _ _ _ _ (λ v. a (w ∙ v))
          (last-carry e (p + 3) (q + 3) (omega arith) (λ i l u. same i (omega arith) u) invoke_tag id (single s 0x80 e p) z
          ∙ ap (λ (l : ℕ). last_piece t invoke_tag id l (k + x) (k + e) (code_end t (k + e) (q + 3))) w))

      after-carry : (tag id : ℕ) → 0 < e → r ≡ pieces_after s tag id x e p → further k r ≡ pieces_after t tag id (k + x) (k + e) q
      unfolding pieces_after
      after-carry tag id h z =
          by-eq _ _ _ _ z (λ a z. eq _ _ _ _ a (invoke-carry id z))
          (λ a z. ne _ _ _ _ a (by-eq _ _ _ _ z (λ b z. eq _ _ _ _ b (last-carry e p q eq-q same error_tag id no_id z))
          (λ b z. ne _ _ _ _ b (by-eq _ _ _ _ z (λ c z. eq _ _ _ _ c (reject-carry e p q eq-q same id z))
          (λ c z. ne _ _ _ _ c (result-carry tag id h z))))))

    pieces-carry : (e b q : ℕ) → q ≡ k + b → Same s t k b e → 0 < e → (tag : ℕ) → r ≡ pieces s tag x e b → further k r ≡ pieces t tag (k + x) (k + e) q
    unfolding pieces
    pieces-carry e b q eq-q same h tag z =
        let w = single-carry e b q eq-q same 2 in
        by-eq _ _ _ _ z
        (λ a z. eq _ _ _ _ (sym w ∙ a) (by-eq _ _ _ _ z (λ c z. eq _ _ _ _ c (null-carry e b q eq-q same z)) (λ c z. never (omega arith) z)))
        (λ a z. ne _ _ _ _ (λ v. a (w ∙ v))
        (after-carry e (b + 3) (q + 3) (omega arith) (λ i l u. same i (omega arith) u) tag (single s 2 e b) h z
        ∙ ap (λ (i : ℕ). pieces_after t tag i (k + x) (k + e) (q + 3)) w))

-- THE COMPONENT: it ends where its frame does
pub component-stop : (s : List ℕ) (lim at : ℕ) (r : Component) → r ≡ component_at s lim at → r.stop ≡ (frame_at s 16 lim at).stop
unfolding component_at framed
component-stop s lim at r z =
    by-eq _ _ _ _ z (λ a z. ap (λ (c : Component). c.stop) z ∙ sym a)
    (λ a z. by-b _ _ _ z (λ b z. go (element s 16 lim at) z) (λ b z. ap (λ (c : Component). c.stop) z))
  where
    f : Frame
    f = frame_at s 16 lim at

    go : (y : Reading) → r ≡ if_nested y (pieces s (tag_at s lim at) f.stop f.to f.from)
        (faulty (tag_at s lim at) (single s 2 f.to f.from) (read_problem s (tag_at s lim at) f.to f.from) 2 f.stop) → r.stop ≡ f.stop
    go (Ok y) z = ap (λ (c : Component). c.stop) z ∙ pieces-stop s (tag_at s lim at) f.stop f.to f.from
    go (Err y) z = ap (λ (c : Component). c.stop) z

pub component-framed : (s : List ℕ) (lim at : ℕ) (r : Component) → r ≡ component_at s lim at → r.fault ≡ 3 → 0 < r.stop
unfolding component_at
component-framed s lim at r is good =
    by-eq _ _ _ _ is (λ a z. absurd (omega (arith, ap (λ (c : Component). c.fault) z))) (λ a z. omega (arith, component-stop s lim at r is))

-- and only the octets up to there are looked at
pub component-carry : (s t : List ℕ) (k lim lim' at q : ℕ) → q ≡ k + at → (r : Component) → r ≡ component_at s lim at → r.fault ≡ 3 → k + r.stop ≤ lim' → Same s t k at r.stop
    → further k r ≡ component_at t lim' q
unfolding component_at framed tag_at
component-carry s t k lim lim' at q eq-q r is good fits same =
    by-eq _ _ _ _ is (λ a z. never s t k 0 r good (omega arith) z)
    (λ a z. by-b _ _ _ z (λ known z. go a known (element s 16 lim at) refl z) (λ b z. never s t k f.stop r good (omega arith) z))
  where
    f : Frame
    f = frame_at s 16 lim at

    g : Frame
    g = frame_at t 16 lim' q

    go : (f.stop ≡ 0 → ⊥) → known_tag (tag_at s lim at) ≡ true → (y : Reading) → y ≡ element s 16 lim at
        → r ≡ if_nested y (pieces s (tag_at s lim at) f.stop f.to f.from)
        (faulty (tag_at s lim at) (single s 2 f.to f.from) (read_problem s (tag_at s lim at) f.to f.from) 2 f.stop)
        → further k r ≡ if_eq g.stop 0 (faulty (tag_at t lim' q) no_id no_problem 2 0) (framed t lim' q (tag_at t lim' q) g)
    go a known (Err y) i z = never s t k f.stop r good (omega arith) z
    go a known (Ok y) i z =
        let ends : r.stop ≡ f.stop = component-stop s lim at r is in
        let w = frame-in s 16 lim at f refl in
        let past = w.past (omega arith) in
        let end : f.stop ≡ y = ends-frame s 16 lim at y i in
        let m : ℕ = tag_at s lim at in
        let fc : up_frame k f ≡ g = frame-carry s t k 16 16 lim lim' at q (omega arith) f refl (omega arith) eq-q (omega arith) (λ i l u. same i l (omega arith)) in
        let ec : Ok (k + y) ≡ element t 16 lim' q = element-carry s t k 16 16 (omega arith) lim lim' at q y i eq-q (omega arith) (λ i l u. same i l (omega arith)) in
        let o : get_or t q 0 ≡ get_or s at 0 = octet s t k r.stop at at q same (omega arith) (omega arith) eq-q in
        let here : get_or s at 0 ≡ m = lt _ _ _ _ (omega arith) refl in
        let there : get_or t q 0 ≡ tag_at t lim' q = lt _ _ _ _ (omega arith) refl in
        let pc : further k r ≡ pieces t m (k + f.stop) (k + f.to) (k + f.from) =
        pieces-carry s t k f.stop r good f.to f.from (k + f.from) refl (λ i l u. same i (omega arith) (omega arith)) (omega arith) m z in
        ne _ _ _ _ (λ v. omega (arith, ap (λ (f : Frame). f.stop) fc))
        (yes (known_tag m) _ _ known
        (pc ∙ ap (λ (y : Reading). if_nested y (pieces t m (k + f.stop) (k + f.to) (k + f.from))
        (faulty m (single t 2 (k + f.to) (k + f.from)) (read_problem t m (k + f.to) (k + f.from)) 2 (k + f.stop))) ec)
        ∙ ap (λ (f : Frame). framed t lim' q m f) fc
        ∙ ap (λ (n : ℕ). framed t lim' q n g) (sym here ∙ sym o ∙ there))
