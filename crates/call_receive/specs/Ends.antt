-- HOW A RECEIVED MESSAGE ENDS: refused by its prologue or by 4, or done. Assumes nothing.
use Rattle.std.specs.Prelude.{◌≡◌, List, ℕ, ◌≤◌, ◌<◌, length}
use Rattle.std.proofs.Math.Path.{refl, ap}
use Rattle.std.proofs.Common.{sym, ◌∙◌, arith}
use Rattle.laws.specs.If.{lt, ge, eq, ne}
use Rattle.paper.specs.declared.Message.{Message}
use Rattle.paper.specs.Sizes.{longest_message}
use Rattle.paper.specs.Messages.{message_of}
use Rattle.paper.specs.Dialogues.{Place}
use Rattle.paper.specs.Calls.{Table, Out, refuse, faulted_at, faulted, uni_received, begin_at, begin_received, continue_received, end_received, abort_received, to_dialogue, sound_received, received, received_if, step}
use Rattle.paper.specs.Calls.Call.{Receive}
use Rattle.paper.specs.Layout.{view}
use Rattle.paper.specs.Outcome.{Lent, outcome, spaces_for}
use Rattle.demand_kept.proofs.Leaves.{whether-eq, whether-b}
use Rattle.call_entry.specs.declared.Reply.{Reply}
use Rattle.call_entry.specs.Replies.{reply, Told, lent_same}
use Rattle.call_entry.specs.Prologue.{entry_of, Within}
use Rattle.call_entry.specs.Ends.{has, call-refused, call-no, call-done}
use Rattle.call_receive_parts.specs.declared.Received.{Received}
use Rattle.call_receive_parts.specs.Receives.{Receives}

-- only an open names a dialogue
Unnamed : Out → Type 0
Unnamed o = o.dialogue ≡ 0

faulted-unnamed : (T : Table) (service : ℕ) (s : List ℕ) (m : Message) (cause : ℕ) → Unnamed (faulted T service s m cause)
unfolding faulted faulted_at Unnamed
faulted-unnamed T service s m cause = whether-eq Unnamed m.origin.length 0 _ _ refl (whether-b Unnamed _ _ _ refl refl)

dialogue-unnamed : (T : Table) (service me : ℕ) (s : List ℕ) (m : Message) (x : Place) → Unnamed (to_dialogue T service me s m x)
unfolding to_dialogue continue_received end_received abort_received Unnamed
dialogue-unnamed T service me s m x =
    whether-eq Unnamed x.control.state 3 _ _ (whether-eq Unnamed m.tag 0x65 _ _ (faulted-unnamed T service s m 3) refl)
    (whether-eq Unnamed m.tag 0x65 _ _ refl (whether-eq Unnamed m.tag 0x64 _ _ refl refl))

received-unnamed : (T : Table) (service : ℕ) (s : List ℕ) (m : Message) → Unnamed (received T service s m)
unfolding received sound_received uni_received begin_received begin_at Unnamed
received-unnamed T service s m =
    whether-eq Unnamed m.fault 254 _ _ refl
    (whether-eq Unnamed m.fault 255 _ _
    (whether-eq Unnamed m.tag 0x61 _ _ refl
    (whether-eq Unnamed m.tag 0x62 _ _ (whether-b Unnamed _ _ _ refl (faulted-unnamed T service s m 4))
    (whether-b Unnamed _ _ _ (dialogue-unnamed T service _ s m _) (faulted-unnamed T service s m 1))))
    (faulted-unnamed T service s m m.fault))

pub no-dialogue : (T : Table) (service : ℕ) (s : List ℕ) → (received T service s (message_of s)).dialogue ≡ 0
unfolding Unnamed
no-dialogue T service s = received-unnamed T service s (message_of s)

module _ (l : Lent) (s : ℕ) (m : List ℕ) where
  pub receive-refused : (n : ℕ) → n ≡ entry_of l.table (has l) (spaces_for (Receive s m)) s → 0 < n → {r : Reply} → r ≡ reply n 0 0 0 → Told (outcome l (Receive s m)) r l
  unfolding step
  receive-refused n e h d = call-refused l (Receive s m) s (received_if (view l.table) s m) refl n e h d

  module _ (w : Within l.table (has l) (spaces_for (Receive s m)) s) where
    pub no-octets : length m ≡ 0 → {r : Reply} → r ≡ reply 4 0 0 0 → Told (outcome l (Receive s m)) r l
    unfolding step received_if
    no-octets e d = call-no l (Receive s m) s (received_if (view l.table) s m) refl w 4 (refuse 4 (view l.table)) (sym (eq _ _ _ _ e refl)) refl (omega arith) d

    pub too_many : longest_message < length m → {r : Reply} → r ≡ reply 4 0 0 0 → Told (outcome l (Receive s m)) r l
    unfolding step received_if
    too_many e d =
        call-no l (Receive s m) s (received_if (view l.table) s m) refl w 4 (refuse 4 (view l.table)) (sym (ne _ _ _ _ (λ q. omega arith) (lt _ _ _ _ e refl))) refl (omega arith) d

    pub is-done : 0 < length m → length m ≤ longest_message → {q : Received} {t rows space : List ℕ}
        → Receives (received (view l.table) s m (message_of m)) q t l.rows rows l.space space → {r : Reply} → r ≡ reply 0 q.rows q.length 0
        → Told (outcome l (Receive s m)) r (record { table = t; rows = rows; space = space })
    unfolding step received_if
    is-done some few {q} g d =
        let o : Out = received (view l.table) s m (message_of m) in
        call-done l (Receive s m) s (received_if (view l.table) s m) refl w o (sym (ne _ _ _ _ (λ e. omega arith) (ge _ _ _ _ few refl))) g.answer
        (d ∙ ap (λ (n : ℕ). reply 0 n q.length 0) g.count ∙ ap (λ (n : ℕ). reply 0 (length o.rows) n 0) g.long
        ∙ ap (reply 0 (length o.rows) (length o.message)) (sym (no-dialogue (view l.table) s m)))
        (lent_same _ _ g.table g.holds g.writes)
