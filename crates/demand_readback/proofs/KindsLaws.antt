-- Each kind of component, read where it was written. Assumes nothing.
use native.Mathlib.Omega.{arith}
use Prim.Native.Nat.{ℕ, ◌+◌, ◌-◌, ◌<◌}
use Rattle.std.specs.Prelude.{◌≡◌, true, List, [], ◌∷◌, ◌++◌}
use Rattle.std.proofs.Math.Path.{refl, ap}
use Rattle.std.proofs.Common.{sym, ◌∙◌, ⊎_elim, eq-eqb}
use Rattle.std.proofs.Math.ListN.{length, get_or, length-append}
use Rattle.laws.specs.If.{if_eq, lt, ge, eq, ne, yes, by-lt}
use Rattle.std.specs.Prelude.{Ok}
use Rattle.paper.specs.declared.Frame.{Frame}
use Rattle.paper.specs.Elements.{element, frame_at, is_element}
use Rattle.paper.specs.Problems.{sender_of, sender_of_problem, by_nobody, kind_of, code_of, no_problem}
use Rattle.paper.specs.Components.{invoke_tag, error_tag, reject_tag, no_id, sound, single, code_end, last_piece, invoke_pieces, result_both, result_pieces, problem_at, reject_pieces, null_pieces, pieces_after, pieces}
use Rattle.paper.specs.Writing.{tlv, id_then, problem_octets}
use Rattle.writing_octets.specs.Lengths.{problem-small}
use Rattle.demand_readback.specs.Standing.{Has, Stands, done, more, begins, ends}
use Rattle.demand_readback.proofs.Standing.{has-head, has_first, has_rest, octet-back, contents-back, holds-back, frame_back}
use Rattle.demand_readback.specs.Written.{ResultTag, placed}
use Rattle.demand_readback.specs.Given.{Code}
use Rattle.demand_readback.proofs.GivenLaws.{code-first}
use Rattle.demand_readback.specs.Pieces.{Both, Reads}
use Rattle.demand_readback.proofs.Pieces.{both-parts, both_code, both_some, both-par, placed-some, last-back, id-reads, single-back, single-element, null-element}

-- no element of one octet with that tag begins there
no-single : (s : List ℕ) (t e p : ℕ) → (get_or s p 0 ≡ t → ⊥) → no_id ≡ single s t e p
unfolding single
no-single s t e p other = by-lt {A = ℕ} e (p + 3) 0 0 refl (λ h _. lt _ _ _ _ h refl) (λ h _. ge _ _ _ _ h (ne _ _ _ _ other refl))

-- after an invoke ID: the operation or error, and the parameter
module _ {s : List ℕ} {b e : ℕ} (id : ℕ) (op par : List ℕ) (small : id < 256) (code : Code op) where
  pub error-reads : ((length par ≡ 0 → ⊥) → is_element 15 par ≡ true) → Has s b (id_then id (op ++ par)) → b + 3 + length op + length par ≡ e
      → Reads s error_tag b e (placed error_tag id no_id no_problem e (length par))
  unfolding pieces_after
  error-reads formed has whole =
      let g : Both s (b + 3) e 15 op par = record { has = has_rest (2 ∷ 1 ∷ id ∷ []) (op ++ par) has; whole = whole; code = code; deep = λ z. omega arith; formed = formed } in
      id-reads has (omega arith) small (both-parts g)
      (last-back g error_tag id no_id ∙ ne _ _ _ _ (λ z. omega arith) (eq _ _ _ _ refl refl))

  pub invoke-reads : ((length par ≡ 0 → ⊥) → is_element 15 par ≡ true) → Has s b (id_then id (op ++ par)) → b + 3 + length op + length par ≡ e
      → Reads s invoke_tag b e (placed invoke_tag id no_id no_problem e (length par))
  unfolding pieces_after invoke_pieces
  invoke-reads formed has whole =
      let g : Both s (b + 3) e 15 op par = record { has = has_rest (2 ∷ 1 ∷ id ∷ []) (op ++ par) has; whole = whole; code = code; deep = λ z. omega arith; formed = formed } in
      let f = code-first (has_first op par g.has) e (omega arith) code in
      id-reads has (omega arith) small (both-parts g)
      (last-back g invoke_tag id no_id ∙ eq _ _ _ _ refl (eq _ _ _ _ (sym (no-single s 0x80 e (b + 3) (λ z. omega arith))) refl))

  pub linked-reads : ((length par ≡ 0 → ⊥) → is_element 15 par ≡ true) → (linked : ℕ) → linked < 256
      → Has s b (id_then id (0x80 ∷ 1 ∷ linked ∷ (op ++ par))) → b + 6 + length op + length par ≡ e
      → Reads s invoke_tag b e (placed invoke_tag id linked no_problem e (length par))
  unfolding pieces_after invoke_pieces
  linked-reads formed linked less has whole =
      let h3 : Has s (b + 3) (0x80 ∷ 1 ∷ linked ∷ (op ++ par)) = has_rest (2 ∷ 1 ∷ id ∷ []) (0x80 ∷ 1 ∷ linked ∷ (op ++ par)) has in
      let g : Both s (b + 3 + 3) e 15 op par =
      record { has = has_rest (0x80 ∷ 1 ∷ linked ∷ []) (op ++ par) h3; whole = omega arith; code = code; deep = λ z. omega arith; formed = formed } in
      let i = single-back h3 e (omega arith) in
      id-reads has (omega arith) small
      (more (single-element h3 e (omega arith) 15 (λ z. omega arith) ((λ z. omega arith), (λ z. omega arith)) refl) (both-parts g))
      (last-back g invoke_tag id linked ∙ eq _ _ _ _ refl (ne _ _ _ _ (λ z. omega arith) (ap (λ (l : ℕ). last_piece s invoke_tag id l e e (code_end s e (b + 3 + 3))) i)))

-- A RESULT, last or not last
pub result-other : {A : Type 0} {r : A} (t : ℕ) (i e j x : A) → ResultTag t → r ≡ x → r ≡ if_eq t invoke_tag i (if_eq t error_tag e (if_eq t reject_tag j x))
result-other t i e j x tag is =
    ⊎_elim (λ z. ne _ _ _ _ (λ y. omega arith) (ne _ _ _ _ (λ y. omega arith) (ne _ _ _ _ (λ y. omega arith) is)))
    (λ z. ne _ _ _ _ (λ y. omega arith) (ne _ _ _ _ (λ y. omega arith) (ne _ _ _ _ (λ y. omega arith) is))) tag

result-pieces : (s : List ℕ) (t id x e p : ℕ) → ResultTag t → result_pieces s t id x e p ≡ pieces_after s t id x e p
unfolding pieces_after
result-pieces s t id x e p tag = result-other t _ _ _ _ tag refl

module _ {s : List ℕ} {b e : ℕ} (t id : ℕ) (tag : ResultTag t) (small : id < 256) where
  pub none_reads : Has s b (id_then id []) → b + 3 ≡ e → Reads s t b e (sound t id no_id no_problem e 0 0)
  unfolding result_pieces
  none_reads has whole = id-reads has (omega arith) small (done whole) (eq _ _ _ _ whole refl ∙ result-pieces s t id e e (b + 3) tag)

  pub both-reads : (op par : List ℕ) → Code op → is_element 14 par ≡ true → (length par ≡ 0 → ⊥) → length (op ++ par) < 65536
      → Has s b (id_then id (tlv 0x30 (op ++ par))) → ends (b + 3) (length (op ++ par)) ≡ e → Reads s t b e (placed t id no_id no_problem e (length par))
  unfolding result_pieces result_both
  both-reads op par code formed some fits has whole =
      let p : ℕ = b + 3 in
      let n : ℕ = length (op ++ par) in
      let w : Stands s e p 0x30 (op ++ par) =
      record { has = has_rest (2 ∷ 1 ∷ id ∷ []) (tlv 0x30 (op ++ par)) has; short = ((λ z. omega arith), (λ z. omega arith)); fits = fits; room = omega arith } in
      let g : Both s (begins p n) (ends p n) 14 op par =
      record { has = contents-back w; whole = omega (arith, length-append op par); code = code; deep = λ z. omega arith; formed = λ _. formed } in
      let inner : Ok (ends p n) ≡ element s 15 e p = holds-back w refl 15 (λ z. omega arith) (both-parts g) in
      let frame = frame_back w refl 15 in
      let f : Frame = record { from = begins p n; to = ends p n; stop = ends p n } in
      let stop : ends p n ≡ (frame_at s 15 e p).stop = ap (λ (f : Frame). f.stop) frame in
      let q : ℕ = begins p n + length op in
      let sm = both_some g in
      let last : sound t id no_id no_problem e q (ends p n) ≡ result_both s t id e (ends p n) q =
      ne q 0 _ _ (λ z. omega arith) (yes _ _ _ (both-par g some) refl) in
      id-reads has (omega arith) small (more inner (done whole))
      (placed-some t id no_id no_problem e (length par) some q (g.whole ∙ whole)
      ∙ ap (sound t id no_id no_problem e q) (sym whole)
      ∙ last
      ∙ ap (result_both s t id e (ends p n)) (both_code g)
      ∙ ap (λ (f : Frame). result_both s t id e f.to (code_end s f.to f.from)) frame
      ∙ ne p e _ _ (λ z. omega arith) (eq _ _ _ _ (octet-back w) (yes _ _ _ (eq-eqb (frame_at s 15 e p).stop e (sym stop ∙ whole)) refl))
      ∙ result-pieces s t id e e p tag)

-- A REJECT, with one of the nineteen problems
nobody : sender_of_problem no_problem ≡ by_nobody
unfolding sender_of if_eq
nobody = refl

module _ {s : List ℕ} {q e : ℕ} (p : ℕ) (by : sender_of_problem p ≡ by_nobody → ⊥) (has : Has s q (problem_octets p)) (whole : q + 3 ≡ e) where
  pub problem-back : p ≡ problem_at s e q
  unfolding problem_at problem_octets
  problem-back =
      let k : get_or s q 0 ≡ 0x80 + kind_of p = has-head has in
      let one : get_or s (q + 1) 0 ≡ 1 = has.octet 1 (omega arith) in
      let c : get_or s (q + 2) 0 ≡ code_of p = has.octet 2 (omega arith) in
      let kind : get_or s q 0 - 0x80 ≡ kind_of p = omega arith in
      let same : sender_of (get_or s q 0 - 0x80) (get_or s (q + 2) 0) ≡ sender_of_problem p = cc in
      eq _ _ _ _ (omega arith) (ge _ _ _ _ (omega arith) (eq _ _ _ _ one (ne _ _ _ _ (λ z. by (sym same ∙ z)) (omega arith))))

  pub problem-element : Ok (q + 3) ≡ element s 15 e q
  unfolding problem_octets
  problem-element =
      let k : p < 1024 = problem-small p by in
      single-element has e (omega arith) 15 (λ z. omega arith) ((λ z. omega arith), (λ z. omega arith)) (omega arith)

  pub reject-pieces : (id : ℕ) → sound reject_tag id no_id p e 0 0 ≡ reject_pieces s id e e q
  unfolding reject_pieces
  reject-pieces id =
      ne _ _ _ _ (λ z. by (ap sender_of_problem (problem-back ∙ z) ∙ nobody)) (ap (λ (k : ℕ). sound reject_tag id no_id k e 0 0) problem-back)

module _ {s : List ℕ} {b e : ℕ} (p : ℕ) (by : sender_of_problem p ≡ by_nobody → ⊥) where
  pub reject-reads : (id : ℕ) → id < 256 → Has s b (id_then id (problem_octets p)) → b + 6 ≡ e → Reads s reject_tag b e (sound reject_tag id no_id p e 0 0)
  unfolding pieces_after
  reject-reads id small has whole =
      let h3 : Has s (b + 3) (problem_octets p) = has_rest (2 ∷ 1 ∷ id ∷ []) (problem_octets p) has in
      let z : b + 3 + 3 ≡ e = omega arith in
      id-reads has (omega arith) small (more (problem-element p by h3 z) (done z))
      (reject-pieces p by h3 z id ∙ ne _ _ _ _ (λ z. omega arith) (ne _ _ _ _ (λ z. omega arith) (eq _ _ _ _ refl refl)))

  pub null-reads : Has s b (5 ∷ 0 ∷ problem_octets p) → b + 5 ≡ e → Reads s reject_tag b e (sound reject_tag no_id no_id p e 0 0)
  unfolding pieces null_pieces
  null-reads has whole =
      let h2 : Has s (b + 2) (problem_octets p) = has_rest (5 ∷ 0 ∷ []) (problem_octets p) has in
      let z : b + 2 + 3 ≡ e = omega arith in
      let five = has-head has in
      record {
        parts = more (null-element s e b has (omega arith) 15 (λ z. omega arith)) (more (problem-element p by h2 z) (done z));
        is = reject-pieces p by h2 z no_id
            ∙ eq _ _ _ _ (sym (no-single s 2 e b (λ z. omega arith))) (eq _ _ _ _ refl
            (ge _ _ _ _ (omega arith) (eq _ _ _ _ five (eq _ _ _ _ (has.octet 1 (omega arith)) refl))));
      }
