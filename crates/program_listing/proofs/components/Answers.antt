use Rattle.std.proofs.Common.{◌≡◌, ◌<◌, ℕ, get_or, subst, arith}
use Rattle.reading_reader.specs.declared.Reader.{Reader}
use Rattle.reading_reader.specs.Read.{at_start}
use Rattle.program_listing.specs.Listed.{started, Stands, stands-first, stands-few, stands-piece}
use Rattle.program_listing.proofs.components.Goals as goal

pub loop-p-init : goal.loop-p-init
loop-p-init g c =
    let e : at_start c.args.msg ≡ c.into_iter-p-iterator.result = cc in
    subst (λ (r : Reader). Stands c.args.msg.now r started) e (stands-first c.args.msg (λ i. omega (arith, c.type_inv.msg i)))

pub taken-l-requires : goal.taken-l-requires
taken-l-requires g c =
    let octets : (i : ℕ) → get_or c.args.msg.now i 0 < 256 = λ i. omega (arith, c.type_inv.msg i) in
    let w = stands-piece _ _ _ _ c.loop-p.invariant octets c.in-Some.p c.in-Some.ensures.steps in
    (stands-few c.args.msg c.loop-p.p-iterator c.loop-p.l octets c.loop-p.invariant, omega (arith, w.starts, w.ends), omega (arith, w.ends), w.order)
