use mathlib.Core.Path.{◌≡◌, refl, sym, ap, subst, ◌∙◌}
use mathlib.Core.List.{List}
use Prim.Native.Nat.{ℕ, ◌+◌, ◌<◌, ◌≤◌}
use native.Mathlib.Omega.{arith}
use lib.ListN.{length, take}
use lib.Seq.{take-length, take-take, get_or-take, length-take-le}
use Rattle.laws.specs.Runs.{wrote_none, wrote-more, wrote_as}
use Rattle.paper.specs.declared.Reject.{Reject}
use Rattle.paper.specs.Dialogues.{all_rejects, no_reject, waiting_rejects}
use Rattle.writing_octets.specs.Lengths.{reject_size}
use Rattle.call_send_parts.specs.Sent.{first_rejects, none_yet, rejects-more, reject-asks}
use Rattle.call_send_parts.proofs.write_rejects.Goals as goal

pub loop-w-init : goal.loop-w-init
loop-w-init c =
    wrote_as (wrote_none _ _) (none_yet (take c.wide-n.result c.args.c.rejects))

pub write_reject-e-requires : goal.write_reject-e-requires
write_reject-e-requires c =
    let n : ℕ = c.wide-n.result in
    let i : ℕ = c.loop-w.w-index in
    let k : length (take n c.args.c.rejects) ≡ n = length-take-le n c.args.c.rejects (omega (arith, c.requires.0.eights, c.requires.0.count, c.wide-n.ensures.0)) in
    let h : i < n = omega (arith, c.loop-w-test.true, k) in
    let s : first_rejects (take n c.args.c.rejects) i ≡ first_rejects c.args.c.rejects i = ap all_rejects (take-take i n c.args.c.rejects (omega (arith, h))) in
    subst (λ (w : Reject). (w.id ≤ 256) × (w.problem < 1024) × (c.loop-w.e + reject_size w.id ≤ length c.loop-w.out))
    (sym (get_or-take n c.args.c.rejects i no_reject h))
    (reject-asks c.args.c i c.args.at c.loop-w.e (length c.loop-w.out) c.requires.0 (omega (arith, h, c.wide-n.ensures.0)) (omega (arith, c.loop-w.invariant.past, ap length s)) (omega (arith, c.loop-w.invariant.long, c.requires.1)))

pub loop-w-preserved : goal.loop-w-preserved
loop-w-preserved c =
    let l : List Reject = take c.wide-n.result c.args.c.rejects in
    wrote_as (wrote-more c.loop-w.invariant refl c.write_reject-e.ensures.is) (rejects-more l c.loop-w.w-index c.loop-w-test.true)

pub returns : goal.returns
unfolding waiting_rejects
returns c =
    let l : List Reject = take c.wide-n.result c.args.c.rejects in
    let e : c.loop-w.w-index ≡ length l = omega arith in
    wrote_as c.loop-w.invariant
    (ap (first_rejects l) e ∙ ap all_rejects (take-length l) ∙ ap (λ (n : ℕ). all_rejects (take n c.args.c.rejects)) c.wide-n.ensures.0)
