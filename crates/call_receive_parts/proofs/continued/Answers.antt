use native.Mathlib.Omega.{arith}
use mathlib.Core.Path.{refl, ap}
use mathlib.Core.List.{List}
use Prim.Native.Nat.{ℕ}
use Rattle.laws.specs.If.{eq, ne}
use Rattle.paper.specs.Calls.{with_peer, continued_control}
use Rattle.call_receive_parts.proofs.continued.Goals as goal

pub returns-then-c-ne-DIALOGUE_SENT : goal.returns-then-c-ne-DIALOGUE_SENT
unfolding continued_control
returns-then-c-ne-DIALOGUE_SENT c =
    ne _ _ _ _ (λ h. omega arith) refl

pub returns : goal.returns
unfolding continued_control
returns c =
    eq _ _ _ _ (omega arith) (ap (λ (l : List ℕ). with_peer c.args.c c.args.m.origin.length l) c.peer_of.ensures)
