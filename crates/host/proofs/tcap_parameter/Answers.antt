use mathlib.Core.Path.{ap}
use Rattle.paper.specs.declared.Run.{Run}
use Rattle.host.proofs.tcap_parameter.Goals as goal

pub returns : goal.returns
returns c =
    record { is = (ap (λ (r : Run). r.start) c.parameter_at-p.ensures.is, ap (λ (r : Run). r.length) c.parameter_at-p.ensures.is); within = c.parameter_at-p.ensures.within }
