use mathlib.Core.Path.{refl, sym}
use native.Mathlib.Omega.{arith}
use lib.ListN.{length, take, length-take}
use Prim.Native.Nat.{ℕ, ◌≤◌}
use Rattle.laws.specs.If.{eq, ne}
use Rattle.laws.specs.Runs.{wrote_none, wrote_as}
use Rattle.paper.specs.Dialogues.{abort_portion}
use Rattle.call_send.specs.Messages.{abort-room, abort-rest, abort-wrote}
use Rattle.call_entry.specs.Replies.{above-zero}
use Rattle.call_send.proofs.write_abort.Goals as goal

pub returns-in-Err : goal.returns-in-Err
returns-in-Err c =
    record { is = wrote_as (wrote_none c.args.out.now 0) (ne _ _ _ _ (λ z. omega (arith, above-zero c.in-Err.field-0, c.in-Err.ensures, z)) refl); within = omega arith }

pub abort_front-a-requires : goal.abort_front-a-requires
abort_front-a-requires c =
    let n : ℕ = length (take c.from.result c.args.c.peer) in
    let h : n ≤ 4 = omega (arith, length-take c.from.result c.args.c.peer, c.from.ensures, c.requires.0.peer.most) in
    (h, abort-room n c.abort_size-m.result (length c.args.out.now) h (omega (arith, c.abort_size-m.ensures, c.requires.2)) c.requires.3)

pub write_aborted-requires : goal.write_aborted-requires
write_aborted-requires c =
    (c.requires.1, abort-rest c.args.c c.requires.0 (abort_portion c.args.portion.now) c.abort_size-m.result c.abort_size-m.ensures (omega (arith, c.abort_size-m.ensures, c.requires.2)) (rw c.from.ensures at c.abort_front-a.ensures.is) c.requires.3)

pub returns-in-Ok : goal.returns-in-Ok
returns-in-Ok c =
    let v = abort-wrote c.args.c c.requires.0 (abort_portion c.args.portion.now) c.abort_size-m.result c.abort_size-m.ensures (omega (arith, c.abort_size-m.ensures, c.requires.2)) (rw c.from.ensures at c.abort_front-a.ensures.is) c.write_aborted.ensures in
    record { is = wrote_as v.0 (eq _ _ _ _ (sym c.in-Ok.ensures) refl); within = v.1 }
