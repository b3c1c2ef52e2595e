use Prim.Native.Nat.{ℕ}
use Rattle.paper.specs.Sizes.{octet_of}
use Rattle.paper.specs.Dialogues.Request.{Invoke}
use Rattle.paper.specs.Calls.Call.{OnDialogue}
use Rattle.host.proofs.Octet.{of-octet}
use Rattle.host.proofs.tcap_invoke_linked.Goals as goal

pub returns : goal.returns
returns c =
    of-octet _ (λ (o : ℕ). OnDialogue c.args.service c.args.dialogue (Invoke (octet_of c.args.id) o c.args.class c.args.operation.now c.args.parameter.now)) c.args.linked c.ranges.linked c.octet_of-other.ensures
    (of-octet _ (λ (o : ℕ). OnDialogue c.args.service c.args.dialogue (Invoke o c.octet_of-other.result c.args.class c.args.operation.now c.args.parameter.now)) c.args.id c.ranges.id c.octet_of-octet.ensures (rw c.from-partner.ensures at c.pass.ensures))
