use Rattle.std.proofs.Common.{ℕ, ap, ◌∙◌, arith}
use Rattle.paper.specs.Sizes.{next_turn}
use Rattle.paper.specs.Dialogues.{empty_place}
use Rattle.paper.specs.Layout.{place_octets}
use Rattle.table_places.proofs.Changes.{free-bit, place-freed}
use Rattle.table_places.proofs.free_at.Goals as goal

pub set_bit-requires : goal.set_bit-requires
set_bit-requires c =
    let left = c.blank.ensures ∙ ap (λ (n : ℕ). place_octets (empty_place n)) (c.next_turn-turn.ensures ∙ ap next_turn c.turn_at.ensures.0) in
    (c.requires.1, omega arith, free-bit c.args.t.now c.blank.new.s c.args.p c.requires.0 c.requires.1 left c.requires.2)

pub returns : goal.returns
returns c =
    let left = c.blank.ensures ∙ ap (λ (n : ℕ). place_octets (empty_place n)) (c.next_turn-turn.ensures ∙ ap next_turn c.turn_at.ensures.0) in
    c.set_bit.ensures
    ∙ place-freed c.args.t.now c.blank.new.s c.args.p c.requires.0 c.requires.1 left c.requires.2
