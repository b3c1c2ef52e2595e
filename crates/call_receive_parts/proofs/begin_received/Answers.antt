use Prim.Native.Nat.{ℕ}
use mathlib.Core.Path.{refl, sym, ap, ◌∙◌}
use Rattle.laws.specs.If.{yes, no}
use Rattle.paper.specs.Calls.{begin_at, begin_received}
use Rattle.paper.specs.Layout.{view}
use Rattle.call_receive_parts.specs.Receives.{receives-as, leaves-receives}
use Rattle.call_receive_parts.proofs.Laws.{lowest-standing}
use Rattle.call_receive_parts.proofs.begin_received.Goals as goal

pub begin_at-k-requires : goal.begin_at-k-requires
begin_at-k-requires c =
    (lowest-standing _ _ _ c.requires.0 c.if-may.true _ c.lowest_place-p.ensures.0, c.requires.0.service, c.requires.1, c.requires.2, c.requires.4)

pub returns-then-may : goal.returns-then-may
unfolding begin_received
returns-then-may c =
    receives-as (yes _ _ _ (sym c.requires.0.is ∙ c.if-may.true) (ap (λ (k : ℕ). begin_at (view c.args.t.now) c.args.service k c.args.s.now c.args.m) c.lowest_place-p.ensures.0)) (leaves-receives c.begin_at-k.ensures)

pub returns : goal.returns
unfolding begin_received
returns c =
    receives-as (no _ _ _ (sym c.requires.0.is ∙ c.if-may.false) refl) c.faulted.ensures
