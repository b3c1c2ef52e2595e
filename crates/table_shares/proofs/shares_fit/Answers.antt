use Rattle.std.proofs.Common.{◌∙◌}
use Rattle.std.proofs.Math.ListN.{get_or-replicate}
use Rattle.paper.specs.Shares.{shares_fit}
use Rattle.table_shares.specs.Share.{fresh_kept}
use Rattle.table_shares.proofs.shares_fit.Goals as goal

pub returns : goal.returns
unfolding shares_fit
returns c = c.is_some.ensures ∙ c.shares_kept.ensures.is ∙ fresh_kept _ (λ k h. get_or-replicate 16 k 0 0 h)
