-- THE ANSWER NUMBERS of refusals (01, "Answer numbers"; 14 is 02 a's), each by its name, and the numbers of the four dialogue PDUs in a row (02 a).
use Rattle.std.specs.Prelude.{ℕ, Result, Ok, Err}
use Rattle.paper.specs.declared.Refusal.{Refusal}
use Rattle.paper.specs.declared.Refusal.TheVariants.{WrongSize, BrokenTable, NoService, MessageSize, NoDialogue, WrongState, NoPlace, WrongCode, WrongInvocation, InvocationsFull, WrongOctets, TooLong, WrongShares, WrongPortion}
use Rattle.paper.specs.declared.PduKind.{PduKind}

abbrev pub number : Refusal → ℕ
number WrongSize = 1
number BrokenTable = 2
number NoService = 3
number MessageSize = 4
number NoDialogue = 5
number WrongState = 6
number NoPlace = 7
number WrongCode = 8
number WrongInvocation = 9
number InvocationsFull = 10
number WrongOctets = 11
number TooLong = 12
number WrongShares = 13
number WrongPortion = 14

-- 0 for what is done
abbrev pub answer_of : {T : Type 0} → Result T Refusal → ℕ
answer_of (Ok x) = 0
answer_of (Err why) = number why

abbrev pub pdu_number : PduKind → ℕ
pdu_number PduKind.Request = 2
pdu_number PduKind.Response = 3
pdu_number PduKind.Abort = 4
pdu_number PduKind.Unidirectional = 5
