use native.Mathlib.Omega.{arith}
use Prim.Native.Nat.{ℕ, ◌+◌, ◌≤◌}
use lib.ListN.{length}
use Rattle.writing_octets.specs.Lengths.{reject_size}
use mathlib.Core.Path.{sym, ap, subst}
use Rattle.laws.specs.Runs.{wrote_as}
use Rattle.call_pass.specs.declared.Passing.{Passing}
use Rattle.call_pass.specs.Passings.{octets_of, Writing}
use borrow.Author.Rules.{rules}
use Rattle.call_pass.proofs.write.Goals as goal

pub write_invoke-requires : goal.write_invoke-requires
write_invoke-requires c =
    subst (Writing c.args.code.now c.args.par.now c.args.t.now c.args.at) c.in-AnInvoke.is c.requires

pub write_result-requires : goal.write_result-requires
write_result-requires c =
    subst (Writing c.args.code.now c.args.par.now c.args.t.now c.args.at) c.in-AResult.is c.requires

pub write_error-requires : goal.write_error-requires
write_error-requires c =
    subst (Writing c.args.code.now c.args.par.now c.args.t.now c.args.at) c.in-AnError.is c.requires

pub write_reject-requires : goal.write_reject-requires
write_reject-requires c =
    let w = subst (Writing c.args.code.now c.args.par.now c.args.t.now c.args.at) c.in-AReject.is c.requires in
    (search rules, omega (arith, w.0), subst (λ (i : ℕ). c.args.at + reject_size i ≤ length c.args.t.now) (sym c.from.ensures) w.1)

pub returns-in-AnInvoke : goal.returns-in-AnInvoke
returns-in-AnInvoke c =
    wrote_as c.write_invoke.ensures.is (ap (λ (w : Passing). octets_of w c.args.code.now c.args.par.now) (sym c.in-AnInvoke.is))

pub returns-in-AResult : goal.returns-in-AResult
returns-in-AResult c =
    wrote_as c.write_result.ensures.is (ap (λ (w : Passing). octets_of w c.args.code.now c.args.par.now) (sym c.in-AResult.is))

pub returns-in-AnError : goal.returns-in-AnError
returns-in-AnError c =
    wrote_as c.write_error.ensures.is (ap (λ (w : Passing). octets_of w c.args.code.now c.args.par.now) (sym c.in-AnError.is))

pub returns-in-AReject : goal.returns-in-AReject
returns-in-AReject c =
    wrote_as (rw c.from.ensures at c.write_reject.ensures.is) (ap (λ (w : Passing). octets_of w c.args.code.now c.args.par.now) (sym c.in-AReject.is))
