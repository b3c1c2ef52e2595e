use Prim.Native.Nat.{ℕ}
use Rattle.paper.specs.Components.{last_tag}
use Rattle.paper.specs.Dialogues.Request.{Result}
use Rattle.paper.specs.Calls.Call.{OnDialogue}
use Rattle.host.proofs.Octet.{of-octet}
use Rattle.host.proofs.tcap_result_last.Goals as goal

pub returns : goal.returns
returns c =
    of-octet _ (λ (o : ℕ). OnDialogue c.args.service c.args.dialogue (Result last_tag o c.args.operation.now c.args.parameter.now)) c.args.id c.ranges.id c.octet_of-octet.ensures c.pass.ensures
