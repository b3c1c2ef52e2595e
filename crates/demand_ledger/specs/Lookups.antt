-- OUR INVOCATION OF AN ID, LOOKED UP BY IT, through every change of a control record: the slots disappear. Assumes nothing.
use Rattle.std.specs.Prelude.{◌≡◌}
use mathlib.Core.List.{List}
use Prim.Native.Nat.{ℕ}
use Rattle.laws.specs.If.{if_eq}
use Rattle.paper.specs.declared.Invocation.{Invocation}
use Rattle.paper.specs.Invocations.{rejecting, no_invocation, invocation_of, transmitted}

-- ONE INVOCATION TURNS to another: looked up under its ID there is this, under another ID what there was
abbrev pub Turns : List Invocation → List Invocation → ℕ → Invocation → Type 0
Turns l m id v = (k : ℕ) → invocation_of m k ≡ if_eq k id v (invocation_of l k)

-- what a sending makes of one: Rejecting to Idle, Pending to Sent
unfoldable pub sent_as : Invocation → Invocation
sent_as v = if_eq v.state rejecting no_invocation (transmitted v)
