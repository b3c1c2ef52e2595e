-- A PORTION READ AT ITS RUN IN A MESSAGE says what its own octets say (02 a). Assumes nothing.
use Rattle.std.specs.Prelude.{◌≡◌, refl, List, ℕ, ◌+◌, ◌≤◌, length, get_or, take, drop}
use Rattle.std.proofs.Common.{sym, ap, subst, ◌∙◌, add_assoc, arith, length-take, length-drop, ext_get_or, get_or-take, get_or-drop}
use Rattle.laws.specs.If.{ge, by-eq}
use Rattle.paper.specs.declared.Run.{Run}
use Rattle.paper.specs.declared.Portion.{Portion}
use Rattle.paper.specs.declared.Portion.TheVariants.{Absent, Opaque, Aarq, Aare, Abrt, Audt}
use Rattle.paper.specs.Portions.{run_in, parts_in, spoken_in, portion_of, run_from, from_start, portion_at}
use Rattle.reading_portion.specs.Bounds.{RunIn, PortionIn, portion-in}

module _ (s : List ℕ) (k len : ℕ) (room : k + len ≤ length s) where
  abbrev own : List ℕ
  own = take len (drop k s)

  own-length : length own ≡ len
  own-length = simp (length-take, length-drop) (omega arith)

  -- a run of the portion's octets is, moved, the same octets of the message
  moved-run : (r : Run) → RunIn len r → run_in s (record { start = k + r.start; length = r.length }) ≡ run_in own r
  moved-run r h =
      let n : length (take r.length (drop (k + r.start) s)) ≡ r.length = simp (length-take, length-drop) (omega arith) in
      let m : length (run_in own r) ≡ r.length = simp (length-take, length-drop) (omega (arith, own-length)) in
      ext_get_or 0 (take r.length (drop (k + r.start) s)) (run_in own r) (n ∙ sym m)
      (λ i g.
      get_or-take r.length (drop (k + r.start) s) i 0 (omega arith) ∙ get_or-drop (k + r.start) s i 0
      ∙ ap (λ (j : ℕ). get_or s j 0) (add_assoc k r.start i) ∙ sym (get_or-drop k s (r.start + i) 0)
      ∙ sym (get_or-take len (drop k s) (r.start + i) 0 (omega arith)) ∙ sym (get_or-drop r.start own i 0)
      ∙ sym (get_or-take r.length (drop r.start own) i 0 (omega arith)))

  run-told : (r : Run) → RunIn len r → run_in s (run_from k r) ≡ run_in own r
  run-told r h =
      by-eq {r = run_from k r} _ _ _ _ refl
      (λ z e. ap (run_in s) e ∙ ap (λ (n : ℕ). take n (drop r.start own)) (sym z))
      (λ z e. ap (run_in s) e ∙ moved-run r h)

  told : (p : Portion) → PortionIn len p → parts_in s (from_start k p) ≡ parts_in own p
  told Absent h = refl
  told Opaque h = refl
  told (Aarq n i) h = let a = run-told n h.0 in let b = run-told i h.1 in cc
  told (Aare n i r d) h = let a = run-told n h.0 in let b = run-told i h.1 in cc
  told (Abrt s i) h = let b = run-told i h in cc
  told (Audt n i) h = let a = run-told n h.0 in let b = run-told i h.1 in cc

-- THE READER AT A RUN gives kind, name, user information, result, diagnostic and source as the octets there say them
pub told-in-place : (s : List ℕ) (start len : ℕ) → start + len ≤ length s → start + len ≤ 0xFFFFFFFF
    → parts_in s (portion_at s start len) ≡ spoken_in (take len (drop start s))
unfolding portion_at spoken_in
told-in-place s start len room small =
    let l : List ℕ = take len (drop start s) in
    let is : from_start start (portion_of l) ≡ portion_at s start len = ge _ _ _ _ room (ge _ _ _ _ small refl) in
    let n : length l ≡ len = own-length s start len room in
    ap (parts_in s) (sym is)
    ∙ told s start len room (portion_of l) (let i = portion-in l (portion_of l) refl in subst (λ (k : ℕ). PortionIn k (portion_of l)) n i)
