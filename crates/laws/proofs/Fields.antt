-- A part of a layout's field replaced. Assumes nothing.
use Rattle.std.specs.Prelude.{◌≡◌}
use Rattle.std.proofs.Math.Path.{sym, ap}
use Rattle.std.proofs.Common.{◌∙◌}
use mathlib.Core.List.{List, [], ◌∷◌, ◌++◌}
use Prim.Native.Nat.{ℕ, zero, suc, ◌+◌}
use native.Mathlib.Omega.{arith}
use Rattle.std.proofs.Math.ListN.{length}
use Rattle.laws.specs.Parts.{over, shift, stay}
use Rattle.laws.specs.Fields.{Field, Sized, laid_out, offset, laid_cons, Becomes}

module _ {A : Type 0} where
  pub field-over : (fs : List (Field A)) (x y : A) → Sized fs x → (i k : ℕ) (v : List ℕ) → Becomes fs i k v x y → over (laid_out fs x) (offset fs i + k) v ≡ laid_out fs y
  field-over [] x y s i k v b = absurd b
  field-over (f ∷ fs) x y s zero k v b =
      let z : 0 + k ≡ k = omega arith in
      ap (λ (j : ℕ). over (laid_out (f ∷ fs) x) j v) z
      ∙ ap (λ (l : List ℕ). over l k v) (laid_cons f fs x)
      ∙ stay (f.octets x) (laid_out fs x) k v b.0
      ∙ ap (λ (l : List ℕ). l ++ laid_out fs x) b.1
      ∙ ap (λ (l : List ℕ). f.octets y ++ l) b.2
      ∙ sym (laid_cons f fs y)
  field-over (f ∷ fs) x y s (suc i) k v b =
      let z : f.width + offset fs i + k ≡ length (f.octets x) + (offset fs i + k) = omega (arith, s.0) in
      ap (λ (j : ℕ). over (laid_out (f ∷ fs) x) j v) z
      ∙ ap (λ (l : List ℕ). over l (length (f.octets x) + (offset fs i + k)) v) (laid_cons f fs x)
      ∙ shift (f.octets x) (laid_out fs x) (offset fs i + k) v
      ∙ ap (λ (l : List ℕ). f.octets x ++ l) (field-over fs x y s.1 i k v b.1)
      ∙ ap (λ (l : List ℕ). l ++ laid_out fs y) b.0
      ∙ sym (laid_cons f fs y)
