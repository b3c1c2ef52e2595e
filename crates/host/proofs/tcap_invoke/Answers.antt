use Prim.Native.Nat.{ℕ}
use Rattle.paper.specs.Components.{no_id}
use Rattle.paper.specs.Dialogues.Request.{Invoke}
use Rattle.paper.specs.Calls.Call.{OnDialogue}
use Rattle.host.proofs.Octet.{of-octet}
use Rattle.host.proofs.tcap_invoke.Goals as goal

pub returns : goal.returns
returns c =
    of-octet _ (λ (o : ℕ). OnDialogue c.args.service c.args.dialogue (Invoke o no_id c.args.class c.args.operation.now c.args.parameter.now)) c.args.id c.ranges.id c.octet_of-octet.ensures c.pass.ensures
