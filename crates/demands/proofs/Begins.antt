-- A RECEIVED BEGIN is answered by the share rule: its dialogue begins, or its Abort has cause 4. Assumes nothing.
use Rattle.std.specs.Prelude.{◌≡◌, refl, false, List, [], ℕ, ◌≤◌, ◌<◌, length}
use Rattle.std.proofs.Common.{sym, ap, arith}
use Rattle.laws.specs.If.{if_b, lt, ge, eq, ne, no}
use Rattle.paper.specs.declared.Message.{Message}
use Rattle.paper.specs.Sizes.{services}
use Rattle.paper.specs.Messages.{message_of, is_sound, begin_tag}
use Rattle.paper.specs.Writing.{cause_abort_octets}
use Rattle.paper.specs.Calls.{Table, may_begin, lowest_free, assigned, octets_at, faulted, shows, begin_at, begin_received, sound_received, received, received_if, step}
use Rattle.paper.specs.Calls.Call.{Receive}
use Rattle.reading_messages.specs.Bounds.{message-in}
use Rattle.demand_ledger.proofs.Read.{message-read}

not-assigned : (T : Table) (service : ℕ) (s : List ℕ) (m : Message) → m.destination.length ≡ 0 → assigned T service s m ≡ false
unfolding assigned
not-assigned T service s m e = sym (ne _ _ _ _ (λ z. omega (arith, e, z)) refl)

begin-faulted : (T : Table) (service : ℕ) (s : List ℕ) (m : Message) → 0 < m.origin.length → m.destination.length ≡ 0
    → faulted T service s m 4 ≡ shows [] (cause_abort_octets (octets_at s m.origin) 4) T
unfolding faulted
begin-faulted T service s m a b = sym (ne _ _ _ _ (λ z. omega arith) (no _ _ _ (not-assigned T service s m b) refl))

-- THE OUTCOME of a sound Begin of 1 to 512 octets
pub begin-step : (T : Table) (service : ℕ) (s : List ℕ) → service < services → 0 < length s → length s ≤ 512 → (message_of s).fault ≡ is_sound → (message_of s).tag ≡ begin_tag
    → step T (Receive service s)
    ≡ if_b (may_begin T service) (begin_at T service (lowest_free T) s (message_of s)) (shows [] (cause_abort_octets (octets_at s (message_of s).origin) 4) T)
unfolding step received_if received sound_received begin_received faulted
begin-step T service s h some few e b =
    sym (lt _ _ _ _ h
    (ne _ _ _ _ (λ z. omega arith)
    (ge _ _ _ _ few
    (ne _ _ _ _ (λ z. omega (arith, e, z))
    (eq _ _ _ _ e (ne _ _ _ _ (λ z. omega (arith, b, z)) (eq _ _ _ _ b (ap (if_b (may_begin T service) (begin_at T service (lowest_free T) s (message_of s))) (sym faults)))))))))
  where
    m : Message
    m = message_of s

    faults : faulted T service s m 4 ≡ shows [] (cause_abort_octets (octets_at s m.origin) 4) T
    faults = begin-faulted T service s m ((message-in s m refl).begins e b) ((message-read s).lone b)
