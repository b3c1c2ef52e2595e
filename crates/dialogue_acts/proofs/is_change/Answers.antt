use Rattle.std.proofs.Common.{◌≡◌, sym, ◌∙◌, false, Option, Some, None, refl}
use Rattle.std.specs.Option.{is_some}
use Rattle.laws.specs.If.{true-false}
use Rattle.dialogue_acts.specs.Told.{turned_none, told-nothing}
use Rattle.dialogue_acts.proofs.is_change.Goals as goal

none : {X : Type 0} (o : Option X) → is_some o ≡ false → o ≡ None
none None h = refl
none (Some x) h = absurd (true-false h)

pub returns-else-t-eq-ROW_REJECTED : goal.returns-else-t-eq-ROW_REJECTED
returns-else-t-eq-ROW_REJECTED c = λ h d id. told-nothing d id c.args.t c.if-t-eq-ROW_REJECTED.false (turned_none d id c.args.t.put (none c.args.t.put (sym c.is_some.ensures ∙ h)))
