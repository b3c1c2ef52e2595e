use Rattle.std.proofs.Common.{◌≡◌, ap, ◌∙◌, ℕ, length, get_or, List, arith}
use Rattle.std.proofs.Math.ListN.{get_or-eq_default}
use Rattle.paper.specs.declared.Invocation.{Invocation}
use Rattle.paper.specs.Invocations.{invocation_of, no_invocation, slot_of, sent}
use Rattle.dialogue_acts.proofs.sent_slot.Goals as goal

none : (l : List Invocation) (id : ℕ) → 8 ≡ slot_of l id → length l ≡ 8 → (invocation_of l id).state ≡ sent → ⊥
unfolding invocation_of
none l id e n h =
    let z : (get_or l 8 no_invocation).state ≡ 0 = ap (λ (v : Invocation). v.state) (get_or-eq_default l no_invocation {n = 8} (omega arith)) in
    let w : (get_or l 8 no_invocation).state ≡ sent = ap (λ (i : ℕ). (get_or l i no_invocation).state) e ∙ h in
    absurd (omega (arith, z, w))

pub returns-in_err-i-clause-none : goal.returns-in_err-i-clause-none
returns-in_err-i-clause-none c = rw c.from_residual.ensures (none c.args.l c.args.id c.in_err-i.ensures.is c.in_err-i.ensures.eight)

pub returns-else-l-i-eq-SENT-clause-none : goal.returns-else-l-i-eq-SENT-clause-none
unfolding invocation_of
returns-else-l-i-eq-SENT-clause-none c =
    λ h. c.if-l-i-eq-SENT.false (ap (λ (i : ℕ). (get_or c.args.l i no_invocation).state) c.in_ok-i.ensures.is ∙ h)
