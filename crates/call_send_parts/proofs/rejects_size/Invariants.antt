use mathlib.Core.Path.{◌≡◌}
use Prim.Native.Nat.{◌*◌, ◌≤◌}
use lib.ListN.{length}
use Rattle.call_send_parts.specs.Sent.{first_rejects}
use Rattle.call_send_parts.proofs.rejects_size.Given as goal

abbrev pub invariant-loop-w : goal.invariant-loop-w
invariant-loop-w l = (l.sum ≡ length (first_rejects l.w-items l.w-index)) × (l.sum ≤ 8 * l.w-index)
