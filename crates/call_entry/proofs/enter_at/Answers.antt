use mathlib.Core.Path.{◌≡◌, refl, sym, ◌∙◌}
use Prim.Native.Nat.{ℕ}
use mathlib.Core.List.{List}
use Rattle.paper.specs.declared.Refusal.{Refusal}
use Rattle.call_entry.specs.Replies.{passed_up}
use Rattle.call_entry.specs.Prologue.{spaces, Meets, meets-not, meets-none, meets}
use Rattle.call_entry.proofs.enter_at.Goals as goal

pub returns-in_err-enter : goal.returns-in_err-enter
returns-in_err-enter c =
    let t : List ℕ = c.args.t.now in
    let why : Refusal = c.in_err-enter.field-0.0 in
    passed_up (Meets t (spaces c.args.lent) (spaces c.args.least) c.args.service c.args.dialogue) c.from_residual.result why c.from_residual.ensures.1
    (meets-not t _ _ c.args.service c.args.dialogue why c.in_err-enter.ensures)

pub owner-requires : goal.owner-requires
owner-requires c =
    c.in_ok-enter.ensures.inside.ready.long

pub returns-then-not-owner : goal.returns-then-not-owner
returns-then-not-owner c =
    meets-none c.args.t.now _ _ c.args.service c.args.dialogue c.in_ok-enter.field-0 c.in_ok-enter.ensures (sym c.if-not-owner.true ∙ c.owner.ensures)

pub returns : goal.returns
returns c =
    meets c.args.t.now _ _ c.args.service c.args.dialogue c.in_ok-enter.field-0 c.in_ok-enter.ensures (sym c.if-not-owner.false ∙ c.owner.ensures) _ refl
