use Rattle.std.proofs.Common.{[], ◌∷◌, arith, length-append}
use Rattle.program_digits.specs.Digits.{decimal}
use Rattle.program_digits.specs.Back.{decimal-few}
use Rattle.program_lines.proofs.bad.Goals as goal

pub returns : goal.returns
returns g c =
    omega (
      arith,
      c.say.ensures,
      c.word-n.ensures.past,
      c.word-n.ensures.long,
      c.put-b.ensures.past,
      c.put-b.ensures.long,
      c.decimal-a.ensures.past,
      c.decimal-a.ensures.long,
      decimal-few c.args.number,
      length-append (decimal c.args.number) (c.args.separator ∷ (98 ∷ (97 ∷ (100 ∷ (10 ∷ []))))),
    )
