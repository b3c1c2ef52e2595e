use Rattle.std.proofs.Common.{◌≡◌, refl, sym, ap, ◌∙◌, arith, add-one, ℕ, suc, ◌≤◌, ◌<◌, ◌+◌, List, length, get_or, drop, drop_of_length-le, drop-cons}
use Rattle.laws.specs.If.{if_eq, by-eq, eq, ne}
use Rattle.paper.specs.declared.Control.{Control}
use Rattle.paper.specs.declared.Invocation.{Invocation}
use Rattle.paper.specs.Invocations.{rejecting, no_invocation, to_idle, all_idle, rejecting_ids}
use Rattle.dialogue_invocations.proofs.settle_all.Goals as goal
use Rattle.dialogue_invocations.proofs.settle_all.Goals.{then-v-eq-REJECTING, else-v-eq-REJECTING}

module _ (l : List Invocation) (i : ℕ) where
  abbrev v : Invocation
  v = get_or l i no_invocation

  more : (c d : Control) → i < length l → d ≡ if_eq v.state rejecting (to_idle c v.id) c → all_idle d (rejecting_ids (drop (i + 1) l)) ≡ all_idle c (rejecting_ids (drop i l))
  unfolding all_idle rejecting_ids
  more c d h e =
      ap (λ (k : ℕ). all_idle d (rejecting_ids (drop k l))) (add-one i)
      ∙ ap (λ (x : Control). all_idle x (rejecting_ids (drop (suc i) l))) e
      ∙ by-eq {r = if_eq v.state rejecting (to_idle c v.id) c} _ _ _ _ refl
      (λ a z. ap (λ (x : Control). all_idle x (rejecting_ids (drop (suc i) l))) z ∙ ap (all_idle c) (eq _ _ _ _ a refl))
      (λ a z. ap (λ (x : Control). all_idle x (rejecting_ids (drop (suc i) l))) z ∙ ap (all_idle c) (ne _ _ _ _ a refl))
      ∙ ap (λ (m : List Invocation). all_idle c (rejecting_ids m)) (sym (drop-cons l i no_invocation h))

  none : (c : Control) → length l ≤ i → c ≡ all_idle c (rejecting_ids (drop i l))
  unfolding all_idle rejecting_ids
  none c h = ap (λ (m : List Invocation). all_idle c (rejecting_ids m)) (sym (drop_of_length-le l {i = i} h))

pub loop-v-preserved : goal.loop-v-preserved
loop-v-preserved c =
    let e : c.if-v-eq-REJECTING.c ≡ if_eq (v c.args.l c.loop-v.v-index).state rejecting (to_idle c.loop-v.c (v c.args.l c.loop-v.v-index).id) c.loop-v.c =
    elim c.if-v-eq-REJECTING.branch [
      | then-v-eq-REJECTING w ↦ eq _ _ _ _ w.if-v-eq-REJECTING.true (w.c-is ∙ w.release-c.ensures ∙ ap (to_idle c.loop-v.c) w.from.ensures)
      | else-v-eq-REJECTING w ↦ ne _ _ _ _ w.if-v-eq-REJECTING.false w.c-is
    ] in
    more c.args.l c.loop-v.v-index c.loop-v.c c.if-v-eq-REJECTING.c (omega arith) e ∙ c.loop-v.invariant

pub returns : goal.returns
returns c = none c.args.l c.loop-v.v-index c.loop-v.c (omega arith) ∙ c.loop-v.invariant
