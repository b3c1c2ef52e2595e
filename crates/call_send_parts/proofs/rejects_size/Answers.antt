use mathlib.Core.Path.{◌≡◌, ap, ◌∙◌}
use mathlib.Core.List.{List}
use Prim.Native.Nat.{ℕ}
use native.Mathlib.Omega.{arith}
use lib.ListN.{length, take}
use lib.Seq.{take-length, length-take-le}
use Rattle.paper.specs.declared.Reject.{Reject}
use Rattle.paper.specs.Dialogues.{all_rejects, waiting_rejects}
use Rattle.call_send_parts.specs.Sent.{first_rejects, none_yet, size-more}
use Rattle.call_send_parts.proofs.rejects_size.Goals as goal

pub loop-w-init : goal.loop-w-init
loop-w-init c =
    (ap length (none_yet (take c.wide-n.result c.args.c.rejects)), omega arith)

pub loop-w-preserved : goal.loop-w-preserved
loop-w-preserved c =
    let l : List Reject = take c.wide-n.result c.args.c.rejects in
    (size-more l c.loop-w.w-index c.loop-w-test.true c.loop-w.sum c.reject_size-sum.result c.loop-w.invariant.0 c.reject_size-sum.ensures.is, omega (arith, c.loop-w.invariant.1, c.reject_size-sum.ensures.within))

pub returns : goal.returns
unfolding waiting_rejects
returns c =
    let l : List Reject = take c.wide-n.result c.args.c.rejects in
    let k : length l ≡ c.wide-n.result = length-take-le c.wide-n.result c.args.c.rejects (omega (arith, c.requires.eights, c.requires.count, c.wide-n.ensures.0)) in
    let e : c.loop-w.w-index ≡ length l = omega arith in
    record {
      is =
          c.loop-w.invariant.0 ∙ ap (λ (i : ℕ). length (first_rejects l i)) e ∙ ap (λ (m : List Reject). length (all_rejects m)) (take-length l)
          ∙ ap (λ (n : ℕ). length (all_rejects (take n c.args.c.rejects))) c.wide-n.ensures.0;
      within = omega (arith, c.loop-w.invariant.1, e, k, c.requires.count, c.wide-n.ensures.0);
    }
