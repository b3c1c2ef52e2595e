use native.Mathlib.Omega.{arith}
use mathlib.Core.Path.{refl, ap, ◌∙◌}
use Rattle.laws.specs.If.{eq, ne}
use Rattle.paper.specs.Calls.{received}
use Rattle.paper.specs.Layout.{view}
use Rattle.call_receive_parts.specs.Receives.{receives-as}
use Rattle.call_receive_parts.proofs.Laws.{drop-receives}
use Rattle.call_receive_parts.proofs.receive.Goals as goal

pub returns-in-254 : goal.returns-in-254
unfolding received
returns-in-254 c =
    receives-as (eq _ _ _ _ (omega arith) refl ∙ ap (received (view c.args.t.now) c.args.service c.args.s.now) c.message_of-m.ensures.is) (drop-receives _ _ _ c.requires.0.ready)

pub sound_received-requires : goal.sound_received-requires
sound_received-requires c =
    (c.requires.0, record { octets = λ i. omega (arith, c.shared_slice_known-1.given i); few = omega arith; lies = c.message_of-m.ensures.within }, c.requires.3, c.requires.4, omega arith)

pub returns-in-255 : goal.returns-in-255
unfolding received
returns-in-255 c =
    receives-as (ne _ _ _ _ (λ h. omega arith) (eq _ _ _ _ (omega arith) refl) ∙ ap (received (view c.args.t.now) c.args.service c.args.s.now) c.message_of-m.ensures.is) c.sound_received.ensures

pub faulted-requires : goal.faulted-requires
faulted-requires c =
    (c.requires.0.ready, record { octets = λ i. omega (arith, c.shared_slice_known-1.given i); few = omega arith; lies = c.message_of-m.ensures.within }, c.requires.3, c.requires.4)

pub returns-in_default : goal.returns-in_default
unfolding received
returns-in_default c =
    receives-as (ne _ _ _ _ (λ h. omega arith) (ne _ _ _ _ (λ h. omega arith) refl) ∙ ap (received (view c.args.t.now) c.args.service c.args.s.now) c.message_of-m.ensures.is) c.faulted.ensures
