use Rattle.table_places.proofs.Writing.{control-put}
use Rattle.table_places.proofs.put_control.Goals as goal

pub returns : goal.returns
returns c =
    control-put c.args.c c.args.n c.requires.2 c.args.t.now _ _ _ _ _ _ c.args.p _ _ _ c.requires.0 c.requires.1
    c.head_octets.ensures c.invocation_octets.ensures c.reject_octets.ensures
    c.copy_at.ensures c.copy_at-2.ensures c.copy_at-3.ensures
