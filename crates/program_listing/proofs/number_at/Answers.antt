use Rattle.std.proofs.Common.{◌≡◌, ◌∙◌, ℕ, ◌+◌, ◌-◌, ◌*◌, ◌<◌, ◌≤◌, List, length, get_or, refl, ap, get_or-take, get_or-drop, inl, inr, arith}
use Rattle.std.specs.List.{slice_range}
use Rattle.laws.specs.If.{lt, ge}
use Rattle.paper.specs.Rows.{four_at}
use Rattle.program_listing.specs.Rows.{number_at}
use Rattle.program_listing.proofs.number_at.Goals as goal

module _ (l m : List ℕ) (at : ℕ) (e : m ≡ slice_range l at (length l)) (fits : at + 4 ≤ length l) where
  octet : (i j : ℕ) → i < 4 → j ≡ at + i → get_or m i 0 ≡ get_or l j 0
  octet i j h q =
      ap (λ (m : List ℕ). get_or m i 0) e ∙ (let g : i < length l - at = omega arith in rw (get_or-take, get_or-drop, q) refl)

  four : get_or m 0 0 + get_or m 1 0 * 256 + get_or m 2 0 * 65536 + get_or m 3 0 * 16777216 ≡ four_at l at
  four = omega (arith, octet 0 at (omega arith) (omega arith), octet 1 (at + 1) (omega arith) refl, octet 2 (at + 2) (omega arith) refl, octet 3 (at + 3) (omega arith) refl)

pub returns-in_default : goal.returns-in_default
unfolding number_at
returns-in_default c =
    let k = c.in_default.ensures.lookup in
    lt _ _ _ _ (elim k.0 [ inl h ↦ omega arith | inr h ↦ omega arith ]) refl

pub returns-in_default-rest : goal.returns-in_default-rest
unfolding number_at
returns-in_default-rest c =
    let k = c.in-Some.ensures.lookup in
    lt _ _ _ _ (omega (arith, k.0.3)) refl

pub returns-in-len4-up : goal.returns-in-len4-up
unfolding number_at
returns-in-len4-up c =
    let k = c.in-Some.ensures.lookup in
    let fits : c.args.at + 4 ≤ length c.args.rows.now = omega (arith, k.0.3) in
    ge _ _ _ _ fits (c.from_le_bytes.ensures ∙ four c.args.rows.now c.in-Some.rest.now c.args.at k.0.2 fits)
