use Rattle.reading_elements.specs.Steps.{From}
use Rattle.paper.specs.Elements.{element}
use Rattle.std.proofs.Common.{◌+◌, ◌*◌, ◌-◌, ◌≤◌}
use Rattle.reading_elements.proofs.+contents_element.Given as goal

abbrev pub decreases-contents : goal.decreases-contents
decreases-contents l = 2 * l.left + 1

abbrev pub decreases-element : goal.decreases-element
decreases-element l = 2 * l.left

abbrev pub invariant-contents-loop-left : goal.invariant-contents-loop-left
invariant-contents-loop-left l = (l.at ≤ l.p) × (l.p ≤ l.lim) × From (element l.s l.left) l.s l.indefinite l.lim l.outer l.at l.p

abbrev pub decreases-contents-loop-left : goal.decreases-contents-loop-left
decreases-contents-loop-left l = l.lim - l.p
