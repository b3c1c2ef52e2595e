use Rattle.table_places.proofs.Laws.{waiting-is}
use Rattle.table_places.proofs.waiting.Goals as goal

pub returns : goal.returns
returns c =
    waiting-is c.args.t.now c.args.p c.requires.1 c.requires.0 c.waiting_length-n.result c.waiting_length-n.ensures.0 c.waiting_length-n.ensures.1
