-- A DIALOGUE FOUND by place and turn and service and state (answer 5). Assumes nothing.
use Rattle.std.specs.Prelude.{◌≡◌, refl, Bool, true, false, ℕ, eqb}
use Rattle.std.proofs.Common.{sym, ◌∙◌, eqb-true}
use Rattle.std.proofs.lemmas.Bool.{eqb-false}
use Rattle.laws.specs.If.{if_eq, was-lt, was-eq, yes, no, true-false}
use Rattle.paper.specs.Sizes.{place_of, turn_of, places_in_all}
use Rattle.paper.specs.Dialogues.{Place}
use Rattle.paper.specs.Calls.{Table, place_at, is_free, is_dialogue, owns}
use Rattle.table_laws.proofs.Slots.{flag-used}
use Rattle.table_laws.specs.Owners.{Owned}

dialogue-is : (x : Place) (service turn : ℕ) → is_dialogue x service turn ≡ true
    → (x.control.state ≡ 0 → ⊥) × (x.control.service ≡ service) × (x.control.turn ≡ turn)
unfolding is_dialogue is_free
dialogue-is x service turn e = go (eqb x.control.state 0) refl
  where
    rest : Bool
    rest = if_eq x.control.service service (eqb x.control.turn turn) false

    go : (b : Bool) → eqb x.control.state 0 ≡ b → (x.control.state ≡ 0 → ⊥) × (x.control.service ≡ service) × (x.control.turn ≡ turn)
    go true q = absurd (true-false (sym e ∙ sym (yes (eqb x.control.state 0) false rest q refl)))
    go false q =
        let w : true ≡ rest = sym e ∙ sym (no (eqb x.control.state 0) false rest q refl) in
        let a = was-eq x.control.service service (eqb x.control.turn turn) false w true-false in
        (eqb-false x.control.state 0 q, a.0, eqb-true x.control.turn turn (sym a.1))

pub owned-is : (T : Table) (service dialogue : ℕ) → owns T service dialogue ≡ true → Owned T service dialogue
unfolding owns
owned-is T service dialogue e =
    let a = was-lt (place_of dialogue) places_in_all (is_dialogue (place_at T (place_of dialogue)) service (turn_of dialogue)) false (sym e) true-false in
    let d = dialogue-is (place_at T (place_of dialogue)) service (turn_of dialogue) (sym a.1) in
    record { small = a.0; state = d.0; used = flag-used (place_at T (place_of dialogue)) d.0; service = d.1; turn = d.2 }
