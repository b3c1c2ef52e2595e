-- ELEMENTS WITH A SHORT HEAD: a tag and a length of one octet each. Assumes nothing.
use Rattle.std.specs.Prelude.{◌≡◌, refl, List, ℕ, ◌+◌, ◌<◌, ◌%◌, get_or}
use Rattle.std.proofs.Common.{◌∙◌, ap, arith}
use Rattle.laws.specs.If.{lt, ne}
use Rattle.paper.specs.declared.Length.TheVariants.{Given}
use Rattle.paper.specs.Elements.{tag_end, length_at, constructor, head_by, head_at}
use Rattle.reading_elements.specs.Steps.{after_tag}

pub record Short (s : List ℕ) (lim at : ℕ) : Type 0 where
  pub room : at + 1 < lim
  pub tag : at + 1 ≡ tag_end s lim at
  pub small : get_or s (at + 1) 0 < 128

pub short : (s : List ℕ) (lim at : ℕ) → at + 1 < lim → (get_or s at 0 ≡ 0 → ⊥) → (get_or s at 0 % 32 ≡ 31 → ⊥) → get_or s (at + 1) 0 < 128 → Short s lim at
unfolding tag_end
short s lim at room some low small = record {
  room = room;
  tag = lt _ _ _ _ (omega arith) (ne _ _ _ _ some (ne _ _ _ _ low refl));
  small = small;
}

pub short-by : (s : List ℕ) (lim at n : ℕ) → Short s lim at → n ≡ get_or s (at + 1) 0 → head_by lim (constructor (get_or s at 0)) (Given (at + 2) n) ≡ head_at s lim at
unfolding length_at
short-by s lim at n h q =
    let e : at + 2 ≡ at + 1 + 1 = omega arith in
    after_tag s lim at (at + 1) (Given (at + 2) n) h.tag (λ z. omega arith)
    (lt _ _ _ _ h.room (lt _ _ _ _ h.small (ap (λ (b : ℕ). Given b n) e ∙ ap (Given (at + 1 + 1)) q)))
