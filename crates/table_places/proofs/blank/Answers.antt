use Rattle.std.proofs.Common.{ℕ, ◌≡◌, List, replicate, ap, ◌∙◌}
use lib.Seq.{sets}
use Rattle.paper.specs.Layout.{place_size}
use Rattle.table_places.proofs.Changes.{blanked}
use Rattle.table_places.proofs.blank.Goals as goal

pub returns : goal.returns
returns c =
    let cleared : c.clear.new.out ≡ replicate place_size 0 = c.clear.ensures ∙ ap (λ (k : ℕ). replicate k 0) c.requires in
    c.copy_at.ensures.holds
    ∙ ap (λ (l : List ℕ). sets l 0 c.turn_octets.result) cleared
    ∙ ap (sets (replicate place_size 0) 0) c.turn_octets.ensures
    ∙ blanked c.args.turn
