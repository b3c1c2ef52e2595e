use Prim.Native.Nat.{◌<◌, ◌^◌}
use mathlib.Core.Path.{◌≡◌}
use native.Mathlib.Omega.{arith}
use lib.Count.{ones, ones-le}
use Rattle.laws.specs.Digits.{digits, count, ones-count, count-append}
use Rattle.table_map.proofs.count_of.Goals as goal

pub returns : goal.returns
returns c =
    let low : c.args.low < 2 ^ 64 = omega arith in
    let high : c.args.high < 2 ^ 64 = omega arith in
    let a : ones c.args.low ≡ count (digits 64 c.args.low) = ones-count 64 c.args.low low in
    let b : ones c.args.high ≡ count (digits 64 c.args.high) = ones-count 64 c.args.high high in
    (cc (count-append (digits 64 c.args.low) (digits 64 c.args.high)), omega (arith, ones-le 64 c.args.low low, ones-le 64 c.args.high high))
