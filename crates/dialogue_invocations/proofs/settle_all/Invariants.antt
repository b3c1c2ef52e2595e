use Rattle.std.proofs.Common.{◌≡◌, drop}
use Rattle.paper.specs.Invocations.{all_idle, rejecting_ids}
use Rattle.dialogue_invocations.proofs.settle_all.Given as goal

abbrev pub invariant-loop-v : goal.invariant-loop-v
invariant-loop-v l = all_idle l.c (rejecting_ids (drop l.v-index l.v-items)) ≡ all_idle l.initial.c (rejecting_ids l.fn.l)
