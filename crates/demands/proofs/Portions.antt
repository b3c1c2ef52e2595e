-- WHAT A HOST READS OF A PORTION, asked at the run that the reading of its message gives (02 a). Assumes nothing.
use Rattle.std.specs.Prelude.{◌≡◌, refl, Bool, true, false, cond, List, ℕ, ◌≤◌, length}
use Rattle.std.proofs.Common.{sym, ap, ◌∙◌, arith}
use Rattle.laws.specs.If.{by-eq, by-b}
use Rattle.paper.specs.declared.Run.{Run}
use Rattle.paper.specs.Sizes.{least_space}
use Rattle.paper.specs.Messages.{message_of}
use Rattle.paper.specs.Portions.{Spoken, parts_in, portion_at}
use Rattle.paper.specs.Dialogues.{shape_of}
use Rattle.paper.specs.Calls.{Call}
use Rattle.paper.specs.Calls.Call.{Open, OnDialogue, Receive}
use Rattle.paper.specs.Outcome.{spaces_for}
use Rattle.paper.specs.Contents.{Content, Wire, content_by, message_in, content_of}
use Rattle.reading_messages.specs.Bounds.{message-in}
use Rattle.reading_portion.specs.InPlace.{told-in-place}

-- no call needs more message space than 272 octets
space-of : (b : Bool) → cond b least_space 0 ≤ least_space
space-of true = omega arith
space-of false = omega arith

pub space-small : (c : Call) → (spaces_for c).space ≤ least_space
space-small (Open service) = omega arith
space-small (OnDialogue service dialogue r) = space-of (shape_of r).message
space-small (Receive service s) = omega arith

-- octets that hold a message hold what their reading says
nothing-no : (c : Content) → Wire.Nothing ≡ Wire.Holds c → ⊥
nothing-no c e = absurd (let y : ◌≡◌ {A = ℕ} 0 1 = cc in omega arith)

garbled-no : (c : Content) → Wire.Garbled ≡ Wire.Holds c → ⊥
garbled-no c e = absurd (let y : ◌≡◌ {A = ℕ} 0 1 = cc in omega arith)

held : (s : List ℕ) (c : Content) → content_of s ≡ Wire.Holds c → Wire.Holds (content_by s (message_of s)) ≡ Wire.Holds c
unfolding content_of message_in
held s c e =
    by-eq _ _ _ _ (sym e) (λ a q. absurd (nothing-no c (sym q)))
    (λ a q.
    by-eq _ _ _ _ q (λ b q. by-b _ _ _ q (λ d q. sym q) (λ d q. absurd (garbled-no c (sym q)))) (λ b q. absurd (garbled-no c (sym q))))

abbrev spoken_of : Wire → Spoken
spoken_of Wire.Nothing = Spoken.Silent
spoken_of Wire.Garbled = Spoken.Silent
spoken_of (Wire.Holds c) = c.spoken

-- and the reader tells it, where the message is no longer than the space
pub told_of : (s : List ℕ) (c : Content) → length s ≤ least_space → content_of s ≡ Wire.Holds c
    → parts_in s (portion_at s (message_of s).portion.start (message_of s).portion.length) ≡ c.spoken
told_of s c h e =
    let r : Run = (message_of s).portion in
    let i = (message-in s (message_of s) refl).portion in
    told-in-place s r.start r.length (omega (arith, i)) (omega (arith, i, h)) ∙ ap spoken_of (held s c e)
