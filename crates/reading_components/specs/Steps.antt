-- The definitions' steps, as the code takes them: with what it has at hand in the place of what the definition names. Assumes nothing.
use Rattle.std.specs.Prelude.{◌≡◌, List, ℕ, ◌+◌, ◌*◌, ◌-◌, ◌<◌, ◌≤◌, get_or}
use Rattle.std.proofs.Common.{sym, ◌∙◌, arith}
use Rattle.std.proofs.Math.Path.{ap}
use Rattle.std.proofs.Math.Bool.{true, false}
use Rattle.std.proofs.Math.Dec.{eqb}
use borrow.Author.Tests.{eq-eqb, ne_eqb}
use Rattle.laws.specs.If.{if_eq, ge, eq, ne, yes, no, true-false}
use Rattle.paper.specs.Elements.{Reading}
use Rattle.std.specs.Prelude.{Ok, Err}
use Rattle.paper.specs.declared.Frame.{Frame}
use Rattle.paper.specs.declared.Component.{Component}
use Rattle.paper.specs.Sizes.{depths, depths_from}
use Rattle.paper.specs.Elements.{element, frame_at}
use Rattle.paper.specs.Problems.{sender_of, no_problem}
use Rattle.paper.specs.Components.{no_id, reject_tag, mistyped, badly_structured, faulty, single, code_end, result_both, result_pieces, problem_at, tag81, reject_pieces, known_tag, pieces, read_problem, if_nested, framed, tag_at, component_at}
use Rattle.reading_elements.specs.Bounds.{nested}
use Rattle.reading_components.specs.Bounds.{ComponentIn, component-in}

-- a problem, of its tag and code
pub problem-by : (s : List ℕ) (e p t code sender r : ℕ) → e - p ≡ 3 → t ≡ get_or s p 0 → 128 ≤ t → get_or s (p + 1) 0 ≡ 1 → code ≡ get_or s (p + 2) 0
    → sender ≡ sender_of (t - 128) code → r ≡ if_eq sender 2 no_problem ((t - 128) * 256 + code) → r ≡ problem_at s e p
unfolding problem_at
problem-by s e p t code sender r three is high one then by q =
    eq _ _ _ _ three (ge _ _ _ _ (omega arith) (eq _ _ _ _ one
    (q ∙ ap (λ (n : ℕ). if_eq n 2 no_problem ((t - 128) * 256 + code)) by
    ∙ ap (λ (n : ℕ). if_eq (sender_of (n - 128) code) 2 no_problem ((n - 128) * 256 + code)) is
    ∙ ap (λ (n : ℕ). if_eq (sender_of (get_or s p 0 - 128) n) 2 no_problem ((get_or s p 0 - 128) * 256 + n)) then)))

-- a faulty reject, with what of its problem could be read
pub reject-faulty : (s : List ℕ) (id x e p n : ℕ) (r : Component) → problem_at s e p ≡ no_problem → n ≡ tag81 s id e p
    → r ≡ faulty reject_tag id n mistyped x → r ≡ reject_pieces s id x e p
unfolding reject_pieces
reject-faulty s id x e p n r none read q = eq _ _ _ _ none (q ∙ ap (λ (n : ℕ). faulty reject_tag id n mistyped x) read)

-- one with bad nesting, with what of a reject's problem could be read
pub misnested-by : (s : List ℕ) (t id n e b x : ℕ) (r : Component) → id ≡ single s 2 e b → n ≡ if_eq t reject_tag (tag81 s id e (b + 3)) no_problem
    → r ≡ faulty t id n badly_structured x → r ≡ faulty t (single s 2 e b) (read_problem s t e b) badly_structured x
unfolding read_problem
misnested-by s t id n e b x r is read q =
    q ∙ ap (λ (n : ℕ). faulty t id n badly_structured x) read
    ∙ ap (λ (i : ℕ). faulty t i (if_eq t reject_tag (tag81 s i e (b + 3)) no_problem) badly_structured x) is

-- a result's 30, by its frame
module _ (s : List ℕ) (t id x e p : ℕ) (f : Frame) (r : Component) (some : p ≡ e → ⊥) (is : get_or s p 0 ≡ 0x30) (frame : f ≡ frame_at s (depths_from 2) e p) where
  pub result-framed : (q : ℕ) → f.stop ≡ e → q ≡ code_end s f.to f.from → r ≡ result_both s t id x f.to q → r ≡ result_pieces s t id x e p
  unfolding result_pieces
  result-framed q ends code is-both =
      ne _ _ _ _ some (eq _ _ _ _ is (yes _ _ _ (ap (λ (f : Frame). eqb f.stop e) (sym frame) ∙ eq-eqb f.stop e ends)
      (is-both ∙ ap (result_both s t id x f.to) code ∙ ap (λ (f : Frame). result_both s t id x f.to (code_end s f.to f.from)) frame)))

  pub result-long : (f.stop ≡ e → ⊥) → r ≡ faulty t id no_problem mistyped x → r ≡ result_pieces s t id x e p
  unfolding result_pieces
  result-long ends q =
      ne _ _ _ _ some (eq _ _ _ _ is (no _ _ _ (ap (λ (f : Frame). eqb f.stop e) (sym frame) ∙ ne_eqb f.stop e ends) q))

-- one that has a frame: well formed, or not
abbrev bad-nesting : List ℕ → ℕ → Frame → Component
bad-nesting s t f = faulty t (single s 2 f.to f.from) (read_problem s t f.to f.from) badly_structured f.stop

module _ (s : List ℕ) (lim at t : ℕ) (f : Frame) (r : Component) (known : known_tag t ≡ true) where
  pub framed-nested : nested (element s depths lim at) ≡ true → r ≡ pieces s t f.stop f.to f.from → r ≡ framed s lim at t f
  unfolding framed
  framed-nested n q = yes _ _ _ known (go (element s depths lim at) n)
    where
      go : (x : Reading) → nested x ≡ true → r ≡ if_nested x (pieces s t f.stop f.to f.from) (bad-nesting s t f)
      go (Ok e) n = q
      go (Err e) n = absurd (true-false (sym n))

  pub framed-bad : nested (element s depths lim at) ≡ false → r ≡ bad-nesting s t f → r ≡ framed s lim at t f
  unfolding framed
  framed-bad bad q = yes _ _ _ known (go (element s depths lim at) bad)
    where
      go : (x : Reading) → nested x ≡ false → r ≡ if_nested x (pieces s t f.stop f.to f.from) (bad-nesting s t f)
      go (Ok e) n = absurd (true-false n)
      go (Err e) b = q

-- the component, by its frame, with where it lies
module _ (s : List ℕ) (octets : (i : ℕ) → get_or s i 0 < 256) (lim at t : ℕ) (f : Frame) (r : Component) (tag : t ≡ tag_at s lim at) (frame : f ≡ frame_at s depths lim at) where
  told : r ≡ component_at s lim at → (r ≡ component_at s lim at) × ComponentIn (at + 5) lim r
  told q = (q, component-in s octets lim at r q)

  pub component-none : f.stop ≡ 0 → r ≡ faulty t no_id no_problem badly_structured 0 → (r ≡ component_at s lim at) × ComponentIn (at + 5) lim r
  unfolding component_at
  component-none z q = told (eq _ _ _ _ (ap (λ (f : Frame). f.stop) (sym frame) ∙ z) (q ∙ ap (λ (t : ℕ). faulty t no_id no_problem badly_structured 0) tag))

  pub component-framed : (f.stop ≡ 0 → ⊥) → r ≡ framed s lim at t f → (r ≡ component_at s lim at) × ComponentIn (at + 5) lim r
  unfolding component_at
  component-framed some q =
      told (ne _ _ _ _ (λ z. some (ap (λ (f : Frame). f.stop) frame ∙ z))
      (q ∙ ap (λ (t : ℕ). framed s lim at t f) tag ∙ ap (framed s lim at (tag_at s lim at)) frame))
