use Rattle.std.proofs.Common.{ℕ, ◌≡◌, ◌/◌, ◌%◌, List, [], ◌∷◌, length, refl, ap, ◌∙◌, arith}
use Rattle.laws.specs.Runs.{wrote-more, wrote_as}
use Rattle.writing_octets.specs.Lengths.{length-one, length_two, length_three}
use Rattle.writing_octets.proofs.write_length.Goals as goal

pub put-requires : goal.put-requires
put-requires c = omega (arith, ap length (length-one c.args.n (omega arith)))

pub put-a-requires : goal.put-a-requires
put-a-requires c = omega (arith, ap length (length_two c.args.n (omega arith) (omega arith)))

pub put-requires-in-128-to-255 : goal.put-requires-in-128-to-255
put-requires-in-128-to-255 c = omega (arith, ap length (length_two c.args.n (omega arith) (omega arith)))

pub put-a-requires-in_default : goal.put-a-requires-in_default
put-a-requires-in_default c = omega (arith, ap length (length_three c.args.n (omega arith)))

pub copy_at-requires : goal.copy_at-requires
copy_at-requires c =
    omega (arith, ap length (length_three c.args.n (omega arith)), ap length c.to_be_bytes.ensures)

pub returns-in-0-to-127 : goal.returns-in-0-to-127
returns-in-0-to-127 c = wrote_as c.put.ensures (length-one _ (omega arith))

pub returns-in-128-to-255 : goal.returns-in-128-to-255
returns-in-128-to-255 c =
    wrote_as (wrote-more c.put-a.ensures refl c.put-in-128-to-255.ensures) (length_two _ (omega arith) (omega arith))

pub returns-in_default : goal.returns-in_default
returns-in_default c =
    let high : c.args.n / 256 % 256 ≡ c.args.n / 256 = omega arith in
    wrote_as (wrote-more c.put-a-in_default.ensures refl c.copy_at.ensures)
    (ap (λ (l : List ℕ). 0x82 ∷ l) c.to_be_bytes.ensures ∙ ap (λ (h : ℕ). 0x82 ∷ h ∷ c.args.n % 256 ∷ []) high ∙ length_three _ (omega arith))
