use Rattle.std.proofs.Common.{le-ltb, arith}
use Rattle.laws.specs.If.{ge}
use Rattle.paper.specs.Calls.{owns}
use Rattle.table_places.proofs.Laws.{owner-is}
use Rattle.table_places.proofs.owner.Goals as goal

pub returns-then-p-lt-PLACES_IN_ALL : goal.returns-then-p-lt-PLACES_IN_ALL
returns-then-p-lt-PLACES_IN_ALL c =
    owner-is c.args.t.now c.args.service c.args.dialogue c.is_dialogue.result c.if-p-lt-PLACES_IN_ALL.true _ c.slot.ensures.is c.is_dialogue.ensures

pub returns-else-p-lt-PLACES_IN_ALL : goal.returns-else-p-lt-PLACES_IN_ALL
unfolding owns
returns-else-p-lt-PLACES_IN_ALL c = ge _ _ _ _ (omega arith) (le-ltb _ _ c.if-p-lt-PLACES_IN_ALL.false)
