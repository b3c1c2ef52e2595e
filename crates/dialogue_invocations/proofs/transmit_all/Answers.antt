use Rattle.std.proofs.Common.{◌≡◌, ◌∙◌, sym, rules, arith, map, length, get_or, ext_get_or}
use Rattle.std.proofs.lemmas.List.{length-map, get_or-map}
use Rattle.paper.specs.Invocations.{no_invocation, transmitted}
use Rattle.dialogue_invocations.proofs.transmit_all.Goals as goal

pub returns : goal.returns
returns c =
    let n : length c.args.l ≡ 8 = c.well_formed.0.1.0.1 in
    let m : length c.map.result ≡ 8 = c.map.ensures.items.long in
    ext_get_or no_invocation c.map.result (map transmitted c.args.l) (omega (arith, length-map c.args.l transmitted))
    (λ j h.
    let one = c.map.ensures.items.at j no_invocation no_invocation (omega arith) in
    let t : get_or c.map.result j no_invocation ≡ transmitted (get_or c.args.l j no_invocation) = search rules in
    t ∙ sym (get_or-map transmitted c.args.l j no_invocation no_invocation (omega arith)))
