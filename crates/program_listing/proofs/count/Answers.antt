use Rattle.std.proofs.Common.{subst, sym, arith}
use Rattle.reading_reader.specs.declared.Reader.{Reader}
use Rattle.program_listing.specs.Listed.{started, Stands, stands-first, stands-whole}
use Rattle.program_listing.proofs.count.Goals as goal

pub returns : goal.returns
returns c =
    let s = c.args.msg.now in
    let w : Stands s c.new.result started =
    subst (λ (r : Reader). Stands s r started) (sym c.new.ensures) (stands-first c.args.msg (λ i. omega (arith, c.type_inv.msg i))) in
    let d = c.count.ensures.ran in
    omega (arith, d.2, stands-whole s c.new.result d.1.1.0 d.1.0 started d.0 w d.1.1.1 d.1.1.2)
