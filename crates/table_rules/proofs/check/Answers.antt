use Rattle.table_laws.specs.Fine.{Octets}
use Rattle.table_rules.specs.Checking.{check-size, check-refused, check-places, check-spoilt, check-shares, check-counted, check-fine}
use Rattle.table_rules.specs.Kinds.{slot_seen}
use Rattle.table_rules.specs.Tally.{tallies}
use Rattle.table_shares.specs.Telling.{parted-same}
use Rattle.paper.specs.Calls.{dialogues}
use Rattle.paper.specs.Sizes.{places_in_all}
use Rattle.paper.specs.Layout.{table_size, view}
use Rattle.laws.specs.If.{all}
use lib.ListN.{length}
use Prim.Native.Nat.{ℕ, ◌+◌}
use mathlib.Core.Bool.{true}
use mathlib.Core.List.{List}
use mathlib.Core.Path.{◌≡◌, sym, ap, ◌∙◌}
use native.Mathlib.Omega.{arith}
use Rattle.paper.specs.declared.Refusal.TheVariants.{WrongSize, BrokenTable}
use Rattle.std.proofs.Common.{Some, None}
use Rattle.table_rules.proofs.check.Goals as goal

pub returns-then-t-ne-TABLE_OCTETS : goal.returns-then-t-ne-TABLE_OCTETS
returns-then-t-ne-TABLE_OCTETS c =
    check-refused c.args.t.now WrongSize (check-size c.args.t.now c.if-t-ne-TABLE_OCTETS.true)

pub returns-in_default : goal.returns-in_default
returns-in_default c =
    let t : List ℕ = c.args.t.now in
    let e : length t ≡ table_size = omega arith in
    let o : Octets t = λ j. omega (arith, c.type_inv.t j) in
    check-refused t BrokenTable (check-places t o e (sym c.in_default.ensures.is))

pub returns-then-free-total-ne-PLACES_SHARED : goal.returns-then-free-total-ne-PLACES_SHARED
returns-then-free-total-ne-PLACES_SHARED c =
    let t : List ℕ = c.args.t.now in
    let e : length t ≡ table_size = omega arith in
    let o : Octets t = λ j. omega (arith, c.type_inv.t j) in
    let seen : all (slot_seen t) places_in_all ≡ true = sym c.in-Some.ensures.is in
    let counted : c.in-Some.counts ≡ tallies t places_in_all = c.in-Some.ensures.told in
    let sums = ap (λ (m : ℕ). c.free_count-free.result + m) (sym c.total.ensures.0) in
    check-refused t BrokenTable (check-spoilt t o e seen _ counted _ c.free_count-free.ensures.0 (λ q. c.if-free-total-ne-PLACES_SHARED.true (sym sums ∙ q)))

pub returns-in_default-shares_kept : goal.returns-in_default-shares_kept
unfolding view
returns-in_default-shares_kept c =
    let t : List ℕ = c.args.t.now in
    let e : length t ≡ table_size = omega arith in
    let o : Octets t = λ j. omega (arith, c.type_inv.t j) in
    let seen : all (slot_seen t) places_in_all ≡ true = sym c.in-Some.ensures.is in
    let counted : c.in-Some.counts ≡ tallies t places_in_all = c.in-Some.ensures.told in
    let sums = ap (λ (m : ℕ). c.free_count-free.result + m) (sym c.total.ensures.0) in
    let p = parted-same (dialogues (view t)) _ (check-counted t o e seen _ counted) None c.in_default-shares_kept.ensures in
    check-refused t BrokenTable
    (check-shares t o e seen _ counted _ c.free_count-free.ensures.0 (sums ∙ c.if-free-total-ne-PLACES_SHARED.false) p.is)

pub returns : goal.returns
unfolding view
returns c =
    let t : List ℕ = c.args.t.now in
    let e : length t ≡ table_size = omega arith in
    let o : Octets t = λ j. omega (arith, c.type_inv.t j) in
    let seen : all (slot_seen t) places_in_all ≡ true = sym c.in-Some.ensures.is in
    let counted : c.in-Some.counts ≡ tallies t places_in_all = c.in-Some.ensures.told in
    let sums = ap (λ (m : ℕ). c.free_count-free.result + m) (sym c.total.ensures.0) in
    let p = parted-same (dialogues (view t)) _ (check-counted t o e seen _ counted) (Some c.in-Some-shares_kept.unused) c.in-Some-shares_kept.ensures in
    check-fine t o e seen _ counted _ c.free_count-free.ensures.0 (sums ∙ c.if-free-total-ne-PLACES_SHARED.false) c.in-Some-shares_kept.unused p
