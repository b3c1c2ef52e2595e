use Rattle.std.proofs.Common.{ℕ, ◌+◌, ◌-◌, drop, ◌∙◌, arith}
use lib.Seq.{take-take}
use Rattle.paper.specs.Layout.{place_size, place_start, slot}
use Rattle.table_fields.proofs.slot.Goals as goal

pub returns : goal.returns
unfolding slot
returns c =
    let a : ℕ = place_start c.args.p in
    let first = rw c.unwrap.ensures at c.first_chunk.ensures.cases in
    record { is = first.same ∙ take-take place_size (a + place_size - a) (drop a c.args.t.now) (omega arith) }
