use native.Mathlib.Omega.{arith}
use Prim.Native.Nat.{ℕ}
use mathlib.Core.Path.{refl, sym, ap, ◌∙◌}
use Rattle.laws.specs.If.{eq, ne, yes, no}
use Rattle.paper.specs.Calls.{Table, place_at, to_dialogue, sound_received}
use Rattle.paper.specs.Sizes.{place_of}
use Rattle.paper.specs.Layout.{view}
use Rattle.call_receive_parts.specs.Receives.{receives-as, leaves-receives, table-as}
use Rattle.call_receive_parts.proofs.Laws.{assigned-is, owned-standing}
use Rattle.call_receive_parts.proofs.sound_received.Goals as goal

pub returns-in-97 : goal.returns-in-97
unfolding sound_received
returns-in-97 c =
    receives-as (eq _ _ _ _ (omega arith) refl) (table-as c.requires.0.ready.same (leaves-receives (c.uni_received-k.ensures (view c.args.t.now))))

pub begin_received-requires : goal.begin_received-requires
begin_received-requires c =
    (c.requires.0, c.requires.1, c.requires.2, c.requires.3, c.requires.1.lies.begins c.requires.4 (omega arith))

pub returns-in-98 : goal.returns-in-98
unfolding sound_received
returns-in-98 c =
    receives-as (ne _ _ _ _ (λ h. omega arith) (eq _ _ _ _ (omega arith) refl)) c.begin_received.ensures

pub number_at-me-requires : goal.number_at-me-requires
number_at-me-requires c =
    let k = assigned-is (view c.args.t.now) c.args.service c.args.s.now c.args.m (sym c.assigned.ensures ∙ c.if-not-assigned.false) in
    omega (arith, k.0, c.requires.1.lies.destination.lies)

pub to_dialogue-requires : goal.to_dialogue-requires
to_dialogue-requires c =
    let k = assigned-is (view c.args.t.now) c.args.service c.args.s.now c.args.m (sym c.assigned.ensures ∙ c.if-not-assigned.false) in
    (owned-standing c.args.t.now c.requires.0.ready c.args.service _ _ c.number_at-me.ensures k.1, c.requires.1, c.requires.2, c.requires.3, c.requires.4)

pub returns-else-not-assigned : goal.returns-else-not-assigned
unfolding sound_received
returns-else-not-assigned c =
    let T : Table = view c.args.t.now in
    receives-as
    (ap (λ (k : ℕ). to_dialogue T c.args.service k c.args.s.now c.args.m (place_at T (place_of k))) c.number_at-me.ensures
    ∙ ne _ _ _ _ (λ h. omega arith) (ne _ _ _ _ (λ h. omega arith) (yes _ _ _ (sym c.assigned.ensures ∙ c.if-not-assigned.false) refl)))
    c.to_dialogue.ensures

pub returns-then-not-assigned : goal.returns-then-not-assigned
unfolding sound_received
returns-then-not-assigned c =
    receives-as (ne _ _ _ _ (λ h. omega arith) (ne _ _ _ _ (λ h. omega arith) (no _ _ _ (sym c.assigned.ensures ∙ c.if-not-assigned.true) refl))) c.faulted.ensures
