use Rattle.std.proofs.Common.{sym, ◌∙◌, arith}
use Rattle.table_shares.specs.Telling.{walk_more, walk-told, walk-broken}
use Rattle.table_shares.proofs.shares_kept.Goals as goal

pub loop-k-preserved : goal.loop-k-preserved
loop-k-preserved c = (
  walk_more _ c.loop-k.invariant.0 c.share_at-share.ensures.0 (c.unused-unused.ensures ∙ rw (c.share_at-share.ensures.0, c.number-count.ensures.0))
      (c.passed.ensures ∙ rw (c.share_at-share.ensures.0, c.share_at-share.ensures.1, c.number-count.ensures.0)) (c.saturating_sub.ensures ∙ rw c.share_at-share.ensures.1),
  omega arith,
  omega arith,
  omega arith,
)

pub returns-then-fair : goal.returns-then-fair
returns-then-fair c = walk-told _ c.requires.2 c.loop-k.invariant.0 (omega arith) (sym c.if-fair.true ∙ c.fair.ensures)

pub returns-else-fair : goal.returns-else-fair
returns-else-fair c = walk-broken _ c.requires.2 c.loop-k.invariant.0 (omega arith) (sym c.if-fair.false ∙ c.fair.ensures)
