use mathlib.Core.Path.{◌∙◌}
use Rattle.table_places.proofs.Changes.{octets-sent}
use Rattle.table_places.proofs.sent_at.Goals as goal

pub returns : goal.returns
returns c =
    c.put_control.ensures
    ∙ octets-sent c.args.t.now c.args.p c.args.c c.requires c.clear.new.out c.clear.ensures
