use Prim.Native.Nat.{ℕ}
use Rattle.paper.specs.Dialogues.Request.{RejectTimeout}
use Rattle.paper.specs.Calls.Call.{OnDialogue}
use Rattle.host.proofs.Octet.{of-octet}
use Rattle.host.proofs.tcap_reject_timeout.Goals as goal

pub returns : goal.returns
returns c =
    of-octet _ (λ (o : ℕ). OnDialogue c.args.service c.args.dialogue (RejectTimeout o)) c.args.id c.ranges.id c.octet_of-octet.ensures c.idle.ensures
