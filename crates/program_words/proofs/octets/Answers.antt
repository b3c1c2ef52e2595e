use Rattle.std.proofs.Common.{inl, inr, arith, refl, sym, ap, ◌∙◌, ◌≡◌, ◌+◌, ◌-◌, ◌/◌, Some, ℕ, take, drop, length-drop, length-take-le}
use Rattle.laws.specs.If.{lt, ge, yes, no}
use Rattle.program_digits.specs.Steps.{no_octets, some_octets}
use Rattle.program_words.specs.Words.{octets_of, with_octets}
use Rattle.program_words.specs.Steps.{put_octets}
use Rattle.program_words.specs.declared.Field.{Field}
use Rattle.program_words.proofs.octets.Goals as goal

pub returns-then-f-line : goal.returns-then-f-line
unfolding octets_of with_octets
returns-then-f-line c =
    elim c.then-f-line.either [
      | inl h ↦ (lt _ _ _ _ (omega arith) refl, lt _ _ _ _ (omega arith) refl)
      | inr h ↦ (ge _ _ _ _ (omega arith) (lt _ _ _ _ (omega arith) refl), ge _ _ _ _ (omega arith) (lt _ _ _ _ (omega arith) refl))
    ]

pub returns-in_err-n : goal.returns-in_err-n
unfolding octets_of
returns-in_err-n c = (
  c.from_residual.ensures ∙ ge _ _ _ _ (omega arith) (ge _ _ _ _ (omega arith) (no _ _ _ (no_octets _ (sym c.in_err-n.was ∙ c.read_octets.ensures.0)) refl)),
  put_octets c.args.f c.args.line.now (omega arith) (omega arith) c.read_octets.ensures.1,
)

pub overflow_add-result : goal.overflow_add-result
overflow_add-result c =
    let n = some_octets (take (c.args.f.stop - c.args.f.start) (drop c.args.f.start c.args.line.now)) c.in_ok-n.n (sym c.in_ok-n.was ∙ c.read_octets.ensures.0) in
    omega (arith, length-take-le (c.args.f.stop - c.args.f.start) (drop c.args.f.start c.args.line.now) (omega (arith, length-drop c.args.f.start c.args.line.now)))

pub returns : goal.returns
unfolding octets_of
returns c =
    let n = some_octets (take (c.args.f.stop - c.args.f.start) (drop c.args.f.start c.args.line.now)) c.in_ok-n.n (sym c.in_ok-n.was ∙ c.read_octets.ensures.0) in
    let size = length-take-le (c.args.f.stop - c.args.f.start) (drop c.args.f.start c.args.line.now) (omega (arith, length-drop c.args.f.start c.args.line.now)) in
    let end : c.args.f.start + c.in_ok-n.n ≡ c.args.f.start + (c.args.f.stop - c.args.f.start) / 2 = omega arith in (
      ge _ _ _ _ (omega arith) (ge _ _ _ _ (omega arith) (yes _ _ _ n.0 (ap (λ (m : ℕ). let f : Field = record { start = c.args.f.start; stop = m } in Some f) end))),
      put_octets c.args.f c.args.line.now (omega arith) (omega arith) c.read_octets.ensures.1,
    )
