-- EVERY STEP KEEPS THE TABLE RULES (01, "Answer numbers": no call leaves a table that answer 2 refuses), and what a service holds is
-- what it began less what it ended. Assumes nothing.
use Rattle.paper.specs.Calls.{Table, Out, Call, Open, OnDialogue, Receive}
use Rattle.table_laws.specs.Fine.{Octets}
use Rattle.demand_kept.specs.Requests.{Formed}
use Rattle.paper.specs.Counting.{told_by, service_of, begun_by, ended_by}
use Rattle.demand_kept.specs.Shared.{Moved}

-- WHAT A CALL LEFT, as it is counted
abbrev pub Left : Table → Call → Out → Type 0
Left T c o = Moved T (service_of c) (begun_by c (told_by o)) (ended_by c (told_by o)) o.table

-- THE CALLS AS A HOST CAN MAKE THEM: octets are below 256, IDs are octets
abbrev pub WellFormed : Call → Type 0
WellFormed (Open service) = Unit
WellFormed (OnDialogue service dialogue r) = Formed r
WellFormed (Receive service s) = Octets s
