-- WHERE A COMPONENT THAT IS READ LIES, and how large its numbers are. Assumes nothing.
use Rattle.std.specs.Prelude.{◌≡◌, true, List, ℕ, ◌+◌, ◌<◌, ◌≤◌, get_or}
use Rattle.std.proofs.Math.Path.{refl}
use Rattle.std.proofs.Common.{sym, subst, eqb-true}
use native.Mathlib.Omega.{arith}
use Rattle.laws.specs.If.{by-lt, by-eq, by-b}
use Rattle.paper.specs.declared.Length.{Length}
use Rattle.paper.specs.declared.Length.TheVariants.{Wrong, Given, Until}
use Rattle.paper.specs.Elements.{Reading}
use Rattle.std.specs.Prelude.{Ok, Err}
use Rattle.paper.specs.declared.Frame.{Frame}
use Rattle.paper.specs.declared.Component.{Component}
use Rattle.paper.specs.Sizes.{depths, depths_from}
use Rattle.paper.specs.Elements.{length_at, element, frame_at}
use Rattle.paper.specs.Problems.{no_problem}
use Rattle.paper.specs.Components.{no_id, no_fault, reject_tag, mistyped, badly_structured, sound, faulty, single, some_end, code_end, frame_ends, last_piece, invoke_pieces, result_both, result_pieces, problem_at, tag81, reject_pieces, null_pieces, pieces_after, pieces, read_problem, if_nested, framed, tag_at, component_at}
use Rattle.reading_elements.specs.Bounds.{LengthIn, FrameIn, length-in, frame-in}

-- it ends by lim, and a sound one not before `least`; its parameter lies inside it
pub record ComponentIn (least lim : ℕ) (c : Component) : Type 0 where
  pub ends : c.stop ≤ lim
  pub long : c.fault ≡ no_fault → least ≤ c.stop
  pub order : c.par ≤ c.parstop
  pub inside : c.parstop ≤ c.stop
  pub code : c.fault ≤ no_fault
  pub invoke : c.id ≤ 256
  pub link : c.linked ≤ 256
  pub told : c.problem ≤ no_problem

-- an ID lies inside, and is an octet or 256
pub single-in : (s : List ℕ) (tag e p r : ℕ) → r ≡ single s tag e p → (r ≡ no_id → ⊥) → p + 3 ≤ e
unfolding single
single-in s tag e p r q some = by-lt _ _ _ _ q (λ h q. absurd (some q)) (λ h q. h)

-- where an operation or error ends
some_in : (e m lim : ℕ) (l : Length) (r : ℕ) → LengthIn m lim l → r ≡ some_end e l → 0 < r → (m < r) × (r ≤ e)
unfolding some_end
some_in e m lim Wrong r i q h = absurd (omega arith)
some_in e m lim (Until b) r i q h = absurd (omega arith)
some_in e m lim (Given b n) r i q h =
    by-lt _ _ _ _ q (λ a q. absurd (omega arith)) (λ a q. by-lt _ _ _ _ q (λ c q. absurd (omega arith)) (λ c q. omega arith))

pub code_in : (s : List ℕ) (e p r : ℕ) → r ≡ code_end s e p → 0 < r → (p < r) × (r ≤ e)
unfolding code_end
code_in s e p r q h =
    by-lt _ _ _ _ q
    (λ a q. by-eq _ _ _ _ q
    (λ b q. by-lt _ _ _ _ q (λ c q. by-lt _ _ _ _ q (λ d q. absurd (omega arith)) (λ d q. ends q)) (λ c q. absurd (omega arith)))
    (λ b q. by-eq _ _ _ _ q (λ c q. ends q) (λ c q. absurd (omega arith))))
    (λ a q. absurd (omega arith))
  where
    ends : r ≡ some_end e (length_at s e (p + 1)) → (p < r) × (r ≤ e)
    ends q = let w = some_in e (p + 1) e (length_at s e (p + 1)) r (length-in s e (p + 1) (length_at s e (p + 1)) refl) q h in omega arith

-- one element up to e begins before it
one_in : (s : List ℕ) (d e p : ℕ) → 0 < e → frame_ends s d e p ≡ true → p < e
one_in s d e p h q =
    let z = eqb-true (frame_at s d e p).stop e q in
    let w = frame-in s d e p (frame_at s d e p) refl in
    omega (arith, w.past (omega arith), w.ordered, w.inside)

module _ (least lim x : ℕ) (ends : x ≤ lim) where
  -- the leaves
  bad-in : (t id p code : ℕ) (r : Component) → id ≤ 256 → p ≤ no_problem → code < no_fault → r ≡ faulty t id p code x → ComponentIn least lim r
  bad-in t id p code r i j k q = subst (ComponentIn least lim) (sym q) (record {
    ends = ends;
    long = λ h. absurd (omega arith);
    order = omega arith;
    inside = omega arith;
    code = omega arith;
    invoke = i;
    link = omega arith;
    told = j;
  })

  good-in : (t id l p a b : ℕ) (r : Component) → id ≤ 256 → l ≤ 256 → p ≤ no_problem → a ≤ b → b ≤ x → least ≤ x → r ≡ sound t id l p x a b → ComponentIn least lim r
  good-in t id l p a b r i j k h g m q = subst (ComponentIn least lim) (sym q) (record {
    ends = ends;
    long = λ h. m;
    order = h;
    inside = g;
    code = omega arith;
    invoke = i;
    link = j;
    told = k;
  })

  module _ (s : List ℕ) (octets : (i : ℕ) → get_or s i 0 < 256) (e : ℕ) (within : e ≤ x) where
    id-in : (tag p r : ℕ) → r ≡ single s tag e p → r ≤ 256
    unfolding single
    id-in tag p r q =
        by-lt _ _ _ _ q (λ a q. omega arith)
        (λ a q. by-eq _ _ _ _ q (λ b q. by-eq _ _ _ _ q (λ c q. omega (arith, octets (p + 2))) (λ c q. omega arith)) (λ b q. omega arith))

    last-in : (t id l q : ℕ) (r : Component) → id ≤ 256 → l ≤ 256 → least ≤ x → 0 < e → r ≡ last_piece s t id l x e q → ComponentIn least lim r
    unfolding last_piece
    last-in t id l q r i j m some z =
        by-eq _ _ _ _ z (λ a z. bad-in t id no_problem 1 r i (omega arith) (omega arith) z)
        (λ a z. by-eq _ _ _ _ z (λ b z. good-in t id l no_problem 0 0 r i j (omega arith) (omega arith) (omega arith) m z)
        (λ b z. by-b _ _ _ z
        (λ o z. let w = one_in s (depths_from 2) e q some o in good-in t id l no_problem q e r i j (omega arith) (omega arith) within m z)
        (λ o z. bad-in t id no_problem 1 r i (omega arith) (omega arith) z)))

    invoke-in : (id p : ℕ) (r : Component) → id ≤ 256 → least ≤ x → 0 < e → r ≡ invoke_pieces s id x e p → ComponentIn least lim r
    unfolding invoke_pieces
    invoke-in id p r i m some z =
        by-eq _ _ _ _ z (λ a z. last-in 0xA1 id no_id (code_end s e p) r i (omega arith) m some z)
        (λ a z. last-in 0xA1 id (single s 0x80 e p) (code_end s e (p + 3)) r i (id-in 0x80 p (single s 0x80 e p) refl) m some z)

    both-in : (t id p : ℕ) (r : Component) → id ≤ 256 → least ≤ x → r ≡ result_both s t id x e (code_end s e p) → ComponentIn least lim r
    unfolding result_both
    both-in t id p r i m z =
        by-eq _ _ _ _ z (λ a z. bad-in t id no_problem 1 r i (omega arith) (omega arith) z)
        (λ a z.
        let v = code_in s e p (code_end s e p) refl (omega arith) in
        by-b _ _ _ z
        (λ o z. let w = one_in s (depths_from 3) e (code_end s e p) (omega arith) o in good-in t id no_id no_problem (code_end s e p) e r i (omega arith) (omega arith) (omega arith) within m z)
        (λ o z. bad-in t id no_problem 1 r i (omega arith) (omega arith) z))

    problem-in : (p r : ℕ) → r ≡ problem_at s e p → (r ≤ no_problem) × ((r ≡ no_problem → ⊥) → p + 3 ≤ e)
    unfolding problem_at
    problem-in p r z =
        by-eq _ _ _ _ z
        (λ a z. by-lt _ _ _ _ z (λ b z. (omega arith, λ h. omega arith))
        (λ b z. by-eq _ _ _ _ z (λ c z. by-eq _ _ _ _ z (λ d z. (omega arith, λ h. omega arith)) (λ d z. (omega (arith, octets p, octets (p + 2)), λ h. omega arith)))
        (λ c z. (omega arith, λ h. omega arith))))
        (λ a z. (omega arith, λ h. absurd (h z)))

    tag_in : (id p r : ℕ) → r ≡ tag81 s id e p → r ≤ no_problem
    unfolding tag81
    tag_in id p r z =
        by-eq _ _ _ _ z (λ a z. omega arith)
        (λ a z. by-lt _ _ _ _ z (λ b z. by-eq _ _ _ _ z (λ c z. omega arith) (λ c z. omega arith)) (λ b z. omega arith))

    read-in : (t b r : ℕ) → r ≡ read_problem s t e b → r ≤ no_problem
    unfolding read_problem
    read-in t b r z = by-eq _ _ _ _ z (λ a z. tag_in (single s 2 e b) (b + 3) r z) (λ a z. omega arith)

    reject-in : (id p : ℕ) (r : Component) → id ≤ 256 → least ≤ p + 3 → r ≡ reject_pieces s id x e p → ComponentIn least lim r
    unfolding reject_pieces
    reject-in id p r i m z =
        let w = problem-in p (problem_at s e p) refl in
        by-eq _ _ _ _ z
        (λ a z. bad-in reject_tag id (tag81 s id e p) mistyped r i (tag_in id p (tag81 s id e p) refl) (omega arith) z)
        (λ a z. let v = w.1 a in good-in reject_tag id no_id (problem_at s e p) 0 0 r i (omega arith) w.0 (omega arith) (omega arith) (omega arith) z)

    null-in : (b : ℕ) (r : Component) → least ≤ b + 5 → r ≡ null_pieces s x e b → ComponentIn least lim r
    unfolding null_pieces
    null-in b r m z =
        by-lt _ _ _ _ z (λ a z. bad z)
        (λ a z. by-eq _ _ _ _ z (λ c z. by-eq _ _ _ _ z (λ d z. reject-in no_id (b + 2) r (omega arith) (omega arith) z) (λ d z. bad z)) (λ c z. bad z))
      where
        bad : r ≡ faulty 0xA4 no_id no_problem 1 x → ComponentIn least lim r
        bad z = bad-in 0xA4 no_id no_problem 1 r (omega arith) (omega arith) (omega arith) z

-- a result, whose 30 ends before it does
result-in : (least lim x : ℕ) → x ≤ lim → (s : List ℕ) → ((i : ℕ) → get_or s i 0 < 256) → (e : ℕ) → e ≤ x → (t id p : ℕ) (r : Component) → id ≤ 256 → least ≤ x
    → r ≡ result_pieces s t id x e p → ComponentIn least lim r
unfolding result_pieces
result-in least lim x ends s octets e within t id p r i m z =
    by-eq _ _ _ _ z (λ a z. good-in least lim x ends t id no_id no_problem 0 0 r i (omega arith) (omega arith) (omega arith) (omega arith) m z)
    (λ a z. by-eq _ _ _ _ z
    (λ b z. by-b _ _ _ z
    (λ o z.
    let w = frame-in s (depths_from 2) e p (frame_at s (depths_from 2) e p) refl in
    both-in least lim x ends s octets (frame_at s (depths_from 2) e p).to (omega arith) t id (frame_at s (depths_from 2) e p).from r i m z)
    (λ o z. bad z))
    (λ b z. bad z))
  where
    bad : r ≡ faulty t id no_problem 1 x → ComponentIn least lim r
    bad z = bad-in least lim x ends t id no_problem 1 r i (omega arith) (omega arith) z

module _ (lim x : ℕ) (ends : x ≤ lim) (s : List ℕ) (octets : (i : ℕ) → get_or s i 0 < 256) (e : ℕ) (within : e ≤ x) (b : ℕ) where
  after-in : (t id : ℕ) (r : Component) → id ≤ 256 → b + 3 ≤ e → r ≡ pieces_after s t id x e (b + 3) → ComponentIn (b + 3) lim r
  unfolding pieces_after
  after-in t id r i m z =
      by-eq _ _ _ _ z (λ a z. invoke-in (b + 3) lim x ends s octets e within id (b + 3) r i (omega arith) (omega arith) z)
      (λ a z. by-eq _ _ _ _ z
      (λ c z. last-in (b + 3) lim x ends s octets e within 0xA3 id no_id (code_end s e (b + 3)) r i (omega arith) (omega arith) (omega arith) z)
      (λ c z. by-eq _ _ _ _ z
      (λ d z. reject-in (b + 3) lim x ends s octets e within id (b + 3) r i (omega arith) z)
      (λ d z. result-in (b + 3) lim x ends s octets e within t id (b + 3) r i (omega arith) z)))

  pieces-in : (t : ℕ) (r : Component) → r ≡ pieces s t x e b → ComponentIn (b + 3) lim r
  unfolding pieces
  pieces-in t r z =
      by-eq _ _ _ _ z
      (λ a z. by-eq _ _ _ _ z (λ c z. null-in (b + 3) lim x ends s octets e within b r (omega arith) z)
      (λ c z. bad-in (b + 3) lim x ends t no_id no_problem 1 r (omega arith) (omega arith) (omega arith) z))
      (λ a z. after-in t (single s 2 e b) r (id-in (b + 3) lim x ends s octets e within 2 b (single s 2 e b) refl) (single-in s 2 e b (single s 2 e b) refl a) z)

-- the component: a sound one has at least five octets
longer : (a b lim : ℕ) (r : Component) → a ≤ b → ComponentIn b lim r → ComponentIn a lim r
longer a b lim r h w = record {
  ends = w.ends;
  long = λ g. omega (arith, w.long g);
  order = w.order;
  inside = w.inside;
  code = w.code;
  invoke = w.invoke;
  link = w.link;
  told = w.told;
}

pub component-in : (s : List ℕ) → ((i : ℕ) → get_or s i 0 < 256) → (lim at : ℕ) (r : Component) → r ≡ component_at s lim at → ComponentIn (at + 5) lim r
unfolding component_at framed
component-in s octets lim at r z =
    by-eq _ _ _ _ z (λ a z. bad-in (at + 5) lim 0 (omega arith) (tag_at s lim at) no_id no_problem 2 r (omega arith) (omega arith) (omega arith) z)
    (λ a z. by-b _ _ _ z
    (λ k z. go a (element s depths lim at) z)
    (λ k z. bad-in (at + 5) lim f.stop w.ends (tag_at s lim at) (single s 2 f.to f.from) no_problem 0 r id (omega arith) (omega arith) z))
  where
    f : Frame
    f = frame_at s depths lim at

    w : FrameIn at lim f
    w = frame-in s depths lim at f refl

    id : single s 2 f.to f.from ≤ 256
    id = id-in (at + 5) lim f.stop w.ends s octets f.to w.inside 2 f.from (single s 2 f.to f.from) refl

    go : (f.stop ≡ 0 → ⊥) → (x : Reading) → r ≡ if_nested x (pieces s (tag_at s lim at) f.stop f.to f.from)
        (faulty (tag_at s lim at) (single s 2 f.to f.from) (read_problem s (tag_at s lim at) f.to f.from) badly_structured f.stop) → ComponentIn (at + 5) lim r
    go some (Err y) z =
        bad-in (at + 5) lim f.stop w.ends (tag_at s lim at) (single s 2 f.to f.from) _ badly_structured r id
        (read-in (at + 5) lim f.stop w.ends s octets f.to w.inside (tag_at s lim at) f.from _ refl) (omega arith) z
    go some (Ok y) z =
        longer (at + 5) (f.from + 3) lim r (omega (arith, w.past (omega arith))) (pieces-in lim f.stop w.ends s octets f.to w.inside f.from (tag_at s lim at) r z)
