use Rattle.std.proofs.Common.{refl}
use Rattle.program_words.specs.Steps.{two, no_first, no_second, has_both}
use Rattle.program_words.proofs.octets_of_two.Goals as goal

pub returns-in_err-first : goal.returns-in_err-first
returns-in_err-first c =
    two c.args.separator c.args.k c.args.line.now c.nth-f.ensures c.nth-g.ensures c.octets_or_none-first.ensures.0 c.octets_or_none-first.ensures.1 c.octets_or_none-second.ensures.0 c.octets_or_none-second.ensures.1 (no_first _ c.in_err-first.was c.from_residual.ensures)

pub returns-in_err-second : goal.returns-in_err-second
returns-in_err-second c =
    two c.args.separator c.args.k c.args.line.now c.nth-f.ensures c.nth-g.ensures c.octets_or_none-first.ensures.0 c.octets_or_none-first.ensures.1 c.octets_or_none-second.ensures.0 c.octets_or_none-second.ensures.1 (no_second c.in_ok-first.was c.in_err-second.was c.from_residual-in_err-second.ensures)

pub returns : goal.returns
returns c =
    two c.args.separator c.args.k c.args.line.now c.nth-f.ensures c.nth-g.ensures c.octets_or_none-first.ensures.0 c.octets_or_none-first.ensures.1 c.octets_or_none-second.ensures.0 c.octets_or_none-second.ensures.1 (has_both c.in_ok-first.was c.in_ok-second.was refl)
