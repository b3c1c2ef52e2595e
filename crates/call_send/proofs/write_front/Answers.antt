use native.Mathlib.Omega.{arith}
use Prim.Native.Nat.{ℕ, ◌+◌, ◌≤◌}
use lib.ListN.{length, take, length-take}
use mathlib.Core.Path.{sym, ap}
use Rattle.laws.specs.Runs.{wrote_as}
use Rattle.writing_octets.specs.Heads.{front_head}
use Rattle.call_send.specs.declared.Sending.{Sending}
use Rattle.call_send.specs.Sendings.{tag_for, ids_for}
use Rattle.writing_octets.specs.Lengths.{element-small}
use Rattle.call_send.specs.Messages.{front-room}
use Rattle.call_send.proofs.write_front.Goals as goal

pub begin_front-requires : goal.begin_front-requires
begin_front-requires c =
    front-room 6 c.args.m (length c.args.out.now) (omega arith) c.requires.1 c.requires.2

pub continue_front-requires : goal.continue_front-requires
continue_front-requires c =
    let n : ℕ = length (take c.from.result c.args.c.peer) in
    let h : n ≤ 4 = omega (arith, length-take c.from.result c.args.c.peer, c.from.ensures, c.requires.0.peer.most) in
    (h, front-room (8 + n) c.args.m (length c.args.out.now) (omega arith) c.requires.1 c.requires.2)

pub end_front-requires : goal.end_front-requires
end_front-requires c =
    let n : ℕ = length (take c.from.result c.args.c.peer) in
    let h : n ≤ 4 = omega (arith, length-take c.from.result c.args.c.peer, c.from.ensures, c.requires.0.peer.most) in
    (h, front-room (2 + n) c.args.m (length c.args.out.now) (omega arith) c.requires.1 c.requires.2)

pub uni_front-requires : goal.uni_front-requires
uni_front-requires c =
    (omega (arith, element-small c.args.m, c.requires.1), omega (arith, element-small c.args.m, c.requires.1, c.requires.2))

pub returns-in-ABegin : goal.returns-in-ABegin
returns-in-ABegin c =
    wrote_as c.begin_front.ensures.is (ap (λ (k : Sending). front_head (tag_for k) (ids_for k c.args.dialogue c.args.c) c.args.m) (sym c.in-ABegin.is))

pub returns-in-AContinue : goal.returns-in-AContinue
returns-in-AContinue c =
    wrote_as (rw c.from.ensures at c.continue_front.ensures.is) (ap (λ (k : Sending). front_head (tag_for k) (ids_for k c.args.dialogue c.args.c) c.args.m) (sym c.in-AContinue.is))

pub returns-in-AnEnd : goal.returns-in-AnEnd
returns-in-AnEnd c =
    wrote_as (rw c.from.ensures at c.end_front.ensures.is) (ap (λ (k : Sending). front_head (tag_for k) (ids_for k c.args.dialogue c.args.c) c.args.m) (sym c.in-AnEnd.is))

pub returns-in-AUnidirectional : goal.returns-in-AUnidirectional
returns-in-AUnidirectional c =
    wrote_as c.uni_front.ensures.is (ap (λ (k : Sending). front_head (tag_for k) (ids_for k c.args.dialogue c.args.c) c.args.m) (sym c.in-AUnidirectional.is))
