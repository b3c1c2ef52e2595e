use Rattle.std.proofs.Common.{◌∙◌}
use Rattle.dialogue_acts.specs.Told.{turned_none, turned-out, turned-idle, turned-some, turned-count}
use Rattle.dialogue_acts.proofs.turned.Goals as goal

pub returns-then-v-eq-IDLE-clause-is : goal.returns-then-v-eq-IDLE-clause-is
returns-then-v-eq-IDLE-clause-is c =
    c.release.ensures ∙ turned-idle c.args.c c.args.id c.args.t.put _ _ c.in-Some.is c.if-i-lt-MOST_INVOCATIONS.true c.if-v-eq-IDLE.true

pub returns-then-v-eq-IDLE-clause-count : goal.returns-then-v-eq-IDLE-clause-count
returns-then-v-eq-IDLE-clause-count c = turned-count c.args.c c.args.id c.args.t.put _ (returns-then-v-eq-IDLE-clause-is c)

pub returns-else-v-eq-IDLE-clause-is : goal.returns-else-v-eq-IDLE-clause-is
returns-else-v-eq-IDLE-clause-is c =
    c.put_invocation.ensures ∙ turned-some c.args.c c.args.id c.args.t.put _ _ c.in-Some.is c.if-i-lt-MOST_INVOCATIONS.true c.if-v-eq-IDLE.false

pub returns-in_default-clause-is : goal.returns-in_default-clause-is
returns-in_default-clause-is c = turned-out c.args.c c.args.id c.args.t.put _ _ c.in-Some.is c.if-i-lt-MOST_INVOCATIONS.false

pub returns-in_default-2-clause-is : goal.returns-in_default-2-clause-is
returns-in_default-2-clause-is c = turned_none c.args.c c.args.id c.args.t.put c.in_default.is
