-- COMPONENTS ONE AFTER ANOTHER, as a loop reads them: a test of each, and the test of what is left answers for the whole. Assumes nothing.
use Rattle.std.specs.Prelude.{◌≡◌, refl, Bool, true, false, List, ltb, length}
use Rattle.std.proofs.Math.Path.{sym, ap}
use Rattle.std.proofs.Common.{◌∙◌, arith, lt-ltb, le-ltb}
use Prim.Native.Nat.{ℕ, suc, ◌+◌, ◌-◌, ◌<◌, ◌≤◌}
use Rattle.laws.specs.If.{if_b, eq, yes, no}
use Rattle.laws.specs.Lists.{every}
use Rattle.paper.specs.declared.Component.{Component}
use Rattle.paper.specs.Components.{Item, no_fault, component_at, next_start, go_on, items, components}
use Rattle.table_laws.specs.Following.{Rest}

pub rest-start : (f : Item → Bool) (w : List ℕ) → Rest f w 0
unfolding components
rest-start f w = record { turns = length w - 0 + 1; enough = omega arith; same = refl }

module _ (f : Item → Bool) (w : List ℕ) (at : ℕ) (l : Rest f w at) (c : Component) (e : c ≡ component_at w (length w) at) where
  abbrev after : Component → Bool
  after d = every f (go_on (ltb (next_start (length w) d) (length w)) (λ _. items w (length w) (l.turns - 1) (next_start (length w) d)))

  split : every f (components w (length w) 0) ≡ if_b (f (record { start = at; part = c })) (after c) false
  unfolding every items
  split =
      let q : l.turns ≡ suc (l.turns - 1) = omega (arith, l.enough) in
      l.same ∙ ap (λ (k : ℕ). every f (items w (length w) k at)) q ∙ ap (λ (d : Component). if_b (f (record { start = at; part = d })) (after d) false) (sym e)

  pub rest-fails : f (record { start = at; part = c }) ≡ false → false ≡ every f (components w (length w) 0)
  rest-fails n = no _ _ _ n refl ∙ sym split

  module _ (y : f (record { start = at; part = c }) ≡ true) (s : c.fault ≡ no_fault) where
    next : next_start (length w) c ≡ c.stop
    unfolding next_start
    next = sym (eq _ _ _ _ s refl)

    sound : every f (components w (length w) 0) ≡ every f (go_on (ltb c.stop (length w)) (λ _. items w (length w) (l.turns - 1) c.stop))
    sound =
        split ∙ sym (yes _ _ _ y refl)
        ∙ ap (λ (k : ℕ). every f (go_on (ltb k (length w)) (λ _. items w (length w) (l.turns - 1) k))) next

    pub rest_end : length w ≤ c.stop → true ≡ every f (components w (length w) 0)
    unfolding every
    rest_end h = sym (sound ∙ ap (λ (b : Bool). every f (go_on b (λ _. items w (length w) (l.turns - 1) c.stop))) (le-ltb c.stop (length w) h))

    pub rest_more : c.stop < length w → at < c.stop → Rest f w c.stop
    rest_more h g = record {
      turns = l.turns - 1;
      enough = omega (arith, l.enough);
      same = sound ∙ ap (λ (b : Bool). every f (go_on b (λ _. items w (length w) (l.turns - 1) c.stop))) (lt-ltb c.stop (length w) h);
    }
