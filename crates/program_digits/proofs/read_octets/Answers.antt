use Rattle.std.proofs.Common.{refl, sym, ap, ◌∙◌, ℕ, ◌/◌, Some}
use Rattle.laws.specs.If.{yes, no}
use Rattle.program_digits.specs.Digits.{read_here, octet_count}
use Rattle.program_digits.proofs.read_octets.Goals as goal

pub decode-requires : goal.decode-requires
decode-requires c =
    sym c.is_hex.ensures ∙ c.if-not-is_hex.false

pub returns-then-not-is_hex : goal.returns-then-not-is_hex
unfolding read_here octet_count
returns-then-not-is_hex c =
    (no _ _ _ (sym c.is_hex.ensures ∙ c.if-not-is_hex.true) refl, no _ _ _ (sym c.is_hex.ensures ∙ c.if-not-is_hex.true) refl)

pub returns : goal.returns
unfolding read_here octet_count
returns c =
    (yes _ _ _ (sym c.is_hex.ensures ∙ c.if-not-is_hex.false) (ap Some (ap (λ (n : ℕ). n / 2) c.decode.auto.s)), yes _ _ _ (sym c.is_hex.ensures ∙ c.if-not-is_hex.false) c.decode.ensures)
