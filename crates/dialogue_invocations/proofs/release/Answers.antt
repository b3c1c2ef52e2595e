use Rattle.std.proofs.Common.{◌≡◌, sym, ap, ◌∙◌, ℕ, ◌≤◌, length, arith}
use Rattle.std.proofs.Math.ListN.{set}
use Rattle.std.proofs.Math.Seq.{set_out}
use Rattle.paper.specs.declared.Control.{Control}
use Rattle.paper.specs.Invocations.{no_invocation, slot_of, with_invocations, to_idle}
use Rattle.dialogue_invocations.proofs.release.Goals as goal

none : (c : Control) (id i : ℕ) → i ≡ slot_of c.invocations id → length c.invocations ≤ i → c ≡ to_idle c id
unfolding to_idle
none c id i e h = ap (with_invocations c) (sym (set_out c.invocations i no_invocation h) ∙ ap (λ (j : ℕ). set c.invocations j no_invocation) e)

pub returns-in-None : goal.returns-in-None
returns-in-None c = none _ _ 8 c.in-None.ensures.is (omega arith)
