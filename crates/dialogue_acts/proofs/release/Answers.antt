use Rattle.std.proofs.Common.{ap, ◌∙◌, refl, List}
use Rattle.paper.specs.declared.Invocation.{Invocation}
use Rattle.paper.specs.Invocations.{invocation_of}
use Rattle.dialogue_acts.specs.Told.{release-put, release-none}
use Rattle.dialogue_acts.proofs.release.Goals as goal

pub returns-in-Some-clause-is : goal.returns-in-Some-clause-is
returns-in-Some-clause-is c =
    let s = c.in-Some.ensures.some in
    λ d e. release-put d c.args.id c.in-Some.i c.args.l e s.1 s.0 _ _ _ _ refl s.2 c.puts.ensures

pub returns-in-None-clause-is : goal.returns-in-None-clause-is
returns-in-None-clause-is c =
    λ d e. release-none d _ _ _ _ c.stays.ensures (λ h. c.in-None.ensures.none (ap (λ (l : List Invocation). (invocation_of l c.args.id).state) e ∙ h))
