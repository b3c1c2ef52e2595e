use Rattle.writing_octets.specs.Lengths.{null_size, some_size}
use Rattle.writing_components.proofs.reject_size.Goals as goal

pub returns-then-id-eq-NO_ID-clause-is : goal.returns-then-id-eq-NO_ID-clause-is
returns-then-id-eq-NO_ID-clause-is c = null_size _ c.if-id-eq-NO_ID.true

pub returns-else-id-eq-NO_ID-clause-is : goal.returns-else-id-eq-NO_ID-clause-is
returns-else-id-eq-NO_ID-clause-is c = some_size _ c.if-id-eq-NO_ID.false
