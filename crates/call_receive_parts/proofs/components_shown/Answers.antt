use native.Mathlib.Omega.{arith}
use Rattle.call_receive_parts.proofs.Laws.{shows-none, shows-some}
use Rattle.call_receive_parts.proofs.components_shown.Goals as goal

pub returns-then-m-eq0 : goal.returns-then-m-eq0
returns-then-m-eq0 c =
    shows-none _ _ _ _ _ _ (omega arith)

pub returns : goal.returns
returns c =
    shows-some _ _ _ _ _ _ _ _ (λ h. omega arith) c.show.ensures
