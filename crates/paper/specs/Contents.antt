-- A MESSAGE BY ITS PARTS, as its octets are read (demand 2: "read back as the components and IDs put in"). Assumes nothing.
use Rattle.std.specs.Prelude.{List, [], map, ℕ, ◌+◌, ◌-◌, length, take, drop}
use Rattle.laws.specs.If.{if_eq, if_b}
use Rattle.laws.specs.Lists.{every}
use Rattle.paper.specs.declared.Frame.{Frame}
use Rattle.paper.specs.declared.Message.{Message}
use Rattle.paper.specs.Sizes.{depths, depths_from}
use Rattle.paper.specs.Elements.{frame_at}
use Rattle.paper.specs.Components.{Item, code_end, invoke_tag, error_tag, reject_tag, no_id}
use Rattle.paper.specs.Messages.{message_of, is_sound}
use Rattle.paper.specs.Writing.{Written}
use Rattle.paper.specs.Portions.{Spoken, spoken_in}
use Rattle.paper.specs.Calls.{octets_at, items_of}
use Rattle.paper.specs.Rules.{is_sound_item}

-- the octets from a to b
abbrev pub between : List ℕ → ℕ → ℕ → List ℕ
between s a b = take (b - a) (drop a s)

-- a component's frame; that of a result's 30, which stands after the invoke ID
abbrev pub frame_of : List ℕ → Item → Frame
frame_of s i = frame_at s depths i.part.stop i.start

abbrev pub result_frame : List ℕ → Item → Frame
result_frame s i = frame_at s (depths_from 2) (frame_of s i).to ((frame_of s i).from + 3)

-- the operation or error at p inside e; the parameter
abbrev pub code_at : List ℕ → ℕ → ℕ → List ℕ
code_at s e p = between s p (code_end s e p)

abbrev pub parameter_in : List ℕ → Item → List ℕ
parameter_in s i = between s i.part.par i.part.parstop

-- a sound component: an operation stands after the IDs of three octets each, an error after the invoke ID, a result's inside the 30
unfoldable pub parts_of : List ℕ → Item → Written
parts_of s i =
    if_eq i.part.tag invoke_tag
    (Written.Invoke i.part.id i.part.linked (code_at s (frame_of s i).to ((frame_of s i).from + if_eq i.part.linked no_id 3 6)) (parameter_in s i))
    (if_eq i.part.tag error_tag (Written.Error i.part.id (code_at s (frame_of s i).to ((frame_of s i).from + 3)) (parameter_in s i))
    (if_eq i.part.tag reject_tag (Written.Reject i.part.id i.part.problem)
    (Written.Result i.part.tag i.part.id
    (if_eq i.part.parstop 0 [] (code_at s (result_frame s i).to (result_frame s i).from)) (parameter_in s i))))

-- a message: its type; the octets of its IDs and of its dialogue portion, none where it has none; what the portion says; its cause,
-- 65,535 for none; its components
pub record Content : Type 0 where
  pub tag : ℕ
  pub origin : List ℕ
  pub destination : List ℕ
  pub portion : List ℕ
  pub spoken : Spoken
  pub cause : ℕ
  pub components : List Written

-- what octets hold: nothing; something that is no sound message of sound components; a message
pub data Wire : Type 0 where
  Nothing Garbled : Wire
  Holds : Content → Wire

abbrev pub content_by : List ℕ → Message → Content
content_by s m = record {
  tag = m.tag;
  origin = octets_at s m.origin;
  destination = octets_at s m.destination;
  portion = octets_at s m.portion;
  spoken = spoken_in (octets_at s m.portion);
  cause = m.cause;
  components = map (parts_of s) (items_of s m);
}

unfoldable pub message_in : List ℕ → Message → Wire
message_in s m = if_eq m.fault is_sound (if_b (every is_sound_item (items_of s m)) (Wire.Holds (content_by s m)) Wire.Garbled) Wire.Garbled

-- READ, by the reading of a received message
unfoldable pub content_of : List ℕ → Wire
content_of s = if_eq (length s) 0 Wire.Nothing (message_in s (message_of s))
