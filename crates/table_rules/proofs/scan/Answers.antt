use Rattle.std.proofs.Common.{◌≡◌, sym, ap, ◌∙◌, ℕ, List, arith, rules, le-ltb}
use Rattle.laws.specs.If.{all, all-fails}
use Rattle.paper.specs.Sizes.{places_in_all}
use Rattle.table_rules.specs.Kinds.{broken_kind, slot_seen, kind_at, place_kept}
use Rattle.table_rules.specs.Tally.{tallies, upto-start, upto-more, upto-small}
use Rattle.table_rules.proofs.scan.Goals as goal

pub loop-p-init : goal.loop-p-init
loop-p-init c = upto-start c.args.t.now c.free_end-p.result c.free_end-p.ensures

pub kind_of-requires : goal.kind_of-requires
kind_of-requires c = (search rules, search rules, c.loop-p.invariant.end (omega arith))

pub returns-in_err-k : goal.returns-in_err-k
returns-in_err-k c =
    let t : List ℕ = c.args.t.now in
    let p : ℕ = c.loop-p.p in
    let e : broken_kind ≡ kind_at t p = c.in_err-k.ensures.is in
    rw c.from_residual.ensures (record {
      is = sym (all-fails (slot_seen t) places_in_all p (omega arith) (place_kept t p ∙ le-ltb (kind_at t p) broken_kind (omega arith)));
      told = tt;
    })

pub overflow_add-counts : goal.overflow_add-counts
overflow_add-counts c =
    omega (arith, upto-small c.args.t.now c.loop-p.p c.in_ok-k.k c.loop-p.counts c.loop-p.invariant c.in_ok-k.ensures.within)

pub loop-p-preserved : goal.loop-p-preserved
loop-p-preserved c =
    upto-more c.args.t.now c.loop-p.p c.free_end-p-in-loop-p.result c.in_ok-k.k c.loop-p.counts c.loop-p.invariant c.in_ok-k.ensures.is c.in_ok-k.ensures.within c.free_end-p-in-loop-p.ensures

pub returns : goal.returns
returns c =
    let t : List ℕ = c.args.t.now in
    let e : c.loop-p.p ≡ places_in_all = omega arith in
    record {
      is = sym (ap (all (slot_seen t)) (sym e) ∙ c.loop-p.invariant.keeps);
      told = c.loop-p.invariant.counted ∙ ap (tallies t) e;
    }
