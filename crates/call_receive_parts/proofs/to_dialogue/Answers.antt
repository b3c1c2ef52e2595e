use native.Mathlib.Omega.{arith}
use mathlib.Core.Path.{refl}
use Rattle.laws.specs.If.{eq, ne}
use Rattle.paper.specs.Calls.{to_dialogue}
use Rattle.call_receive_parts.specs.Receives.{receives-as, leaves-receives}
use Rattle.call_receive_parts.proofs.Laws.{drop-receives}
use Rattle.call_receive_parts.proofs.to_dialogue.Goals as goal

pub returns-then-m-eq-CONTINUE_TAG : goal.returns-then-m-eq-CONTINUE_TAG
unfolding to_dialogue
returns-then-m-eq-CONTINUE_TAG c =
    receives-as (eq _ _ _ _ (omega arith) (eq _ _ _ _ (omega arith) refl)) c.faulted.ensures

pub returns-then-state_at-eq-DIALOGUE_RECEIVED : goal.returns-then-state_at-eq-DIALOGUE_RECEIVED
unfolding to_dialogue
returns-then-state_at-eq-DIALOGUE_RECEIVED c =
    receives-as (eq _ _ _ _ (omega arith) (ne _ _ _ _ (λ h. omega arith) refl)) (drop-receives _ _ _ c.requires.0.ready)

pub continue_received-n-requires : goal.continue_received-n-requires
continue_received-n-requires c =
    (c.requires.0, c.requires.1, c.requires.2, c.requires.1.lies.continues c.requires.4 (omega arith))

pub returns-in-101 : goal.returns-in-101
unfolding to_dialogue
returns-in-101 c =
    receives-as (ne _ _ _ _ (λ h. omega arith) (eq _ _ _ _ (omega arith) refl)) (leaves-receives c.continue_received-n.ensures)

pub returns-in-100 : goal.returns-in-100
unfolding to_dialogue
returns-in-100 c =
    receives-as (ne _ _ _ _ (λ h. omega arith) (ne _ _ _ _ (λ h. omega arith) (eq _ _ _ _ (omega arith) refl))) (leaves-receives c.end_received-n.ensures)

pub returns-in_default : goal.returns-in_default
unfolding to_dialogue
returns-in_default c =
    receives-as (ne _ _ _ _ (λ h. omega arith) (ne _ _ _ _ (λ h. omega arith) (ne _ _ _ _ (λ h. omega arith) refl))) (leaves-receives c.abort_received-n.ensures)
