-- AN ABORT'S PORTION, read back: user information, or a whole portion. Assumes nothing.
use Rattle.std.proofs.Common.{arith, ◌∙◌}
use Rattle.std.specs.Prelude.{ℕ, ◌≤◌, ◌≡◌, true, List, [], length, get_or}
use Rattle.std.proofs.Math.Path.{refl, sym, ap}
use Rattle.laws.specs.If.{eq, ne, by-eq}
use Rattle.paper.specs.Sizes.{most_waiting}
use Rattle.paper.specs.Dialogues.{is_block, is_portion, is_abort, abort_portion}
use Rattle.paper.specs.Ledger.{abort_spoken}
use Rattle.paper.specs.Portions.{abrt, portion_by, spoken_in, spoken_by}
use Rattle.demand_readback.proofs.Spoken.{ours-abrt, portion-formed, no_name, block-information, abrt-spoken}

-- or a whole portion, which says what it says
module _ (given : List ℕ) (h : is_abort given ≡ true) (few : length (abort_portion given) ≤ most_waiting) where
  abort-block : get_or given 0 0 ≡ 0xBE → (portion_by abrt [] given ≡ abort_portion given) × ((spoken_by abrt [] given ≡ abort_spoken given) × (is_block given ≡ true))
  unfolding abort_portion abort_spoken is_abort
  abort-block z = (eq _ _ _ _ z refl, (eq _ _ _ _ z refl, eq _ _ _ _ z refl ∙ h))

  abort-whole : (get_or given 0 0 ≡ 0xBE → ⊥) → (given ≡ abort_portion given) × ((spoken_in given ≡ abort_spoken given) × (is_portion given ≡ true))
  unfolding abort_portion abort_spoken is_abort
  abort-whole z = (ne _ _ _ _ z refl, (ne _ _ _ _ z refl, ne _ _ _ _ z refl ∙ h))

  pub abort-formed : is_portion (abort_portion given) ≡ true
  abort-formed =
      by-eq {A = ℕ} (get_or given 0 0) 0xBE 0 0 refl
      (λ z _. let w = abort-block z in
      sym (ap is_portion w.0) ∙ portion-formed ours-abrt [] given no_name (block-information given w.1.1) (omega (arith, few, ap length w.0)))
      (λ z _. let w = abort-whole z in sym (ap is_portion w.0) ∙ w.1.1)

  pub abort-spoken : spoken_in (abort_portion given) ≡ abort_spoken given
  abort-spoken =
      by-eq {A = ℕ} (get_or given 0 0) 0xBE 0 0 refl
      (λ z _. let w = abort-block z in sym (ap spoken_in w.0) ∙ abrt-spoken given w.1.1 (omega (arith, few, ap length w.0)) ∙ w.1.0)
      (λ z _. let w = abort-whole z in sym (ap spoken_in w.0) ∙ w.1.0)
