use native.Mathlib.Omega.{arith}
use mathlib.Core.Path.{refl, ◌∙◌, ap}
use Prim.Native.Nat.{ℕ, ◌+◌}
use lib.ListN.{length}
use Rattle.std.proofs.lemmas.Bool.{eqb-true, eq-eqb}
use Rattle.laws.specs.Runs.{wrote-more, wrote_as}
use Rattle.writing_octets.specs.Lengths.{element_size, short-size, element-of, none-size, both-size, result-none, result-both}
use Rattle.writing_components.proofs.write_result.Goals as goal

pub write_head-a-requires : goal.write_head-a-requires
write_head-a-requires c =
    omega (arith, short-size 3 (omega arith), none-size c.args.op.now c.args.par.now (eqb-true (length c.args.op.now) 0 (cc)))

pub write_single-requires : goal.write_single-requires
write_single-requires c =
    omega (arith, short-size 3 (omega arith), none-size c.args.op.now c.args.par.now (eqb-true (length c.args.op.now) 0 (cc)))

pub returns-then-is_empty : goal.returns-then-is_empty
returns-then-is_empty c =
    record { is = wrote_as (wrote-more c.write_head-a.ensures refl c.write_single.ensures) (element-of _ _ _ refl ∙ result-none _ _ _ _ (eqb-true (length c.args.op.now) 0 (cc))); within = omega (arith, short-size 3 (omega arith), none-size c.args.op.now c.args.par.now (eqb-true (length c.args.op.now) 0 (cc))) }

pub element_size-m-requires : goal.element_size-m-requires
element_size-m-requires c =
    omega (arith, both-size c.args.op.now c.args.par.now (λ h. cc (eq-eqb (length c.args.op.now) 0 h)))

pub write_both-requires : goal.write_both-requires
write_both-requires c =
    (c.element_size-m.ensures.is, omega (arith, both-size c.args.op.now c.args.par.now (λ h. cc (eq-eqb (length c.args.op.now) 0 h)), ap (λ (k : ℕ). element_size (3 + k)) c.element_size-m.ensures.is))

pub returns-else-is_empty : goal.returns-else-is_empty
returns-else-is_empty c =
    record { is = wrote_as c.write_both.ensures.is (result-both _ _ _ _ (λ h. cc (eq-eqb (length c.args.op.now) 0 h))); within = omega (arith, both-size c.args.op.now c.args.par.now (λ h. cc (eq-eqb (length c.args.op.now) 0 h)), ap (λ (k : ℕ). element_size (3 + k)) c.element_size-m.ensures.is) }
