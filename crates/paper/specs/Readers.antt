-- THE READERS (01, "Rows"): a component's parameter; the components of one message. They look at no table. Assumes nothing.
use Rattle.std.specs.Prelude.{List, [], ◌∷◌, ℕ, ◌+◌, ◌-◌, length, take, drop}
use Rattle.laws.specs.If.{if_lt, if_eq}
use Rattle.paper.specs.declared.Run.{Run}
use Rattle.paper.specs.declared.Component.{Component}
use Rattle.paper.specs.declared.Message.{Message}
use Rattle.paper.specs.Sizes.{longest_message}
use Rattle.paper.specs.Components.{Item, component_at}
use Rattle.paper.specs.Messages.{message_of, is_sound, no_run}
use Rattle.paper.specs.Calls.{items_of}

-- "Asked for a parameter by message, start and length of a component, the engine answers with that run of the received octets
-- themselves, an empty one where there is none or no sound component": the run given is by itself one sound component
unfoldable pub parameter_of : ℕ → Component → Run
parameter_of stop c =
    if_eq c.fault 3 (if_eq c.stop stop (if_eq c.parstop 0 no_run (record { start = c.par; length = c.parstop - c.par })) no_run) no_run

unfoldable pub parameter_at : List ℕ → ℕ → ℕ → Run
parameter_at s start len = if_lt (length s) (start + len) no_run (parameter_of (start + len) (component_at s (start + len) start))

unfoldable pub parameter : List ℕ → ℕ → ℕ → List ℕ
parameter s start len = take (parameter_at s start len).length (drop (parameter_at s start len).start s)

-- sound ones, up to a syntax fault
unfoldable pub sound_items : List Item → List Item
sound_items [] = []
sound_items (i ∷ is) = if_eq i.part.fault 3 (i ∷ sound_items is) []

-- "a reader that stays on one message and gives its components one after another up to a syntax fault, none where the message is
-- refused by 4, dropped for its form or at fault with cause 0 or 2"
unfoldable pub items_by : List ℕ → Message → List Item
items_by s m = if_eq m.fault is_sound (sound_items (items_of s m)) []

unfoldable pub message_items : List ℕ → List Item
message_items s = if_eq (length s) 0 [] (if_lt longest_message (length s) [] (items_by s (message_of s)))
