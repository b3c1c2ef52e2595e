-- WHAT A MESSAGE IS READ AS keeps its type and destination, and at fault it has a P-Abort cause (01, "A received message"). Assumes nothing.
use Rattle.std.specs.Prelude.{◌≡◌, refl, Bool, true, false, List, ℕ, ◌<◌, length, get_or}
use Rattle.std.proofs.Common.{sym, ap, ◌∙◌, arith}
use Rattle.laws.specs.If.{eq, ne}
use Rattle.paper.specs.declared.Length.{Length}
use Rattle.paper.specs.declared.Length.TheVariants.{Wrong, Given, Until}
use Rattle.paper.specs.Elements.{Reading}
use Rattle.std.specs.Prelude.{Ok, Err}
use Rattle.paper.specs.declared.Run.{Run}
use Rattle.paper.specs.declared.Message.{Message}
use Rattle.paper.specs.Sizes.{depths}
use Rattle.paper.specs.Elements.{length_at, element}
use Rattle.paper.specs.Messages.{Derived, derived, fault_of, sound_of, closing, octet_at, components_by, components_part, abort_part, after_portion, portion_part, in_order, by_length, message_of, destination_of, no_run, is_sound, is_dropped, uni_tag, begin_tag, abort_tag}
use Rattle.demand_kept.proofs.Leaves.{whether-eq, whether-lt, whether-b}
use Rattle.demand_ledger.specs.Read.{Read}

-- one that is neither sound nor dropped has a P-Abort cause
abbrev Coded : Message → Type 0
Coded m = (m.fault ≡ is_dropped → ⊥) → (m.fault ≡ is_sound → ⊥) → m.fault < 5

-- what is read keeps the type and the destination that were derived
module _ (s : List ℕ) (o : Bool) (d : Derived) where
  record Of (m : Message) : Type 0 where
    tag : m.tag ≡ d.tag
    destination : m.destination ≡ d.destination
    coded : Coded m

  fault-of : (c : ℕ) → Coded (fault_of d c) → Of (fault_of d c)
  fault-of c h = record { tag = refl; destination = refl; coded = h }

  bad-of : Of (fault_of d 2)
  bad-of = fault-of 2 (λ a b. omega arith)

  sound-of : (p : Run) (from to cause : ℕ) → Of (sound_of d p from to cause)
  sound-of p from to cause = record { tag = refl; destination = refl; coded = λ a b. absurd (b refl) }

  closing-of : (p : ℕ) (m : Message) → Of m → Of (closing s o p d m)
  closing-of p m h = whether-b Of _ _ _ h bad-of

  components-of : (portion : Run) (p : ℕ) → Of (components_part s o d portion p)
  unfolding components_part components_by
  components-of portion p =
      whether-eq Of _ _ _ _ (whether-eq Of _ _ _ _ bad-of (closing-of _ _ (sound-of _ _ _ _))) (whether-eq Of _ _ _ _ bad-of (closing-of _ _ (sound-of _ _ _ _)))

  after-of : (p : ℕ) (r : Reading) → Of (after_portion s o d p r)
  after-of p (Err f) = bad-of
  after-of p (Ok x) = whether-eq Of _ _ _ _ (closing-of _ _ (sound-of _ _ _ _)) (components-of _ x)

  abort-of : (p : ℕ) → Of (abort_part s o d p)
  unfolding abort_part
  abort-of p =
      whether-eq Of _ _ _ _
      (whether-eq Of _ _ _ _ (whether-lt Of _ _ _ _ (whether-lt Of _ _ _ _ (closing-of _ _ (sound-of _ _ _ _)) bad-of) bad-of) bad-of)
      (closing-of _ _ (sound-of _ _ _ _))

  portion-of : (p : ℕ) → Of (portion_part s o d p)
  unfolding portion_part
  portion-of p =
      whether-eq Of (octet_at s p) 0x6B _ _ (after-of p (element s depths (length s) p))
      (whether-eq Of d.tag abort_tag _ _ (abort-of p) (components-of no_run p))

  order-of : (b : ℕ) → Of (in_order s o b d)
  unfolding in_order
  order-of b =
      whether-eq Of _ _ _ _ (portion-of b)
      (whether-eq Of _ _ _ _ (whether-eq Of _ _ _ _ bad-of (portion-of _)) (whether-eq Of _ _ _ _ bad-of (portion-of _)))

derived-read : (s : List ℕ) (o : Bool) (b : ℕ) (m : Message) → Of s o (derived s b) m → Read m
unfolding derived destination_of
derived-read s o b m h = record {
  lone = λ e.
      ap (λ (r : Run). r.length) h.destination
      ∙ sym (ap (λ (r : Run). r.length)
      (ne {r = no_run} (get_or s 0 0) uni_tag no_run _ (λ q. omega (arith, h.tag, e, q)) (eq (get_or s 0 0) begin_tag no_run _ (sym h.tag ∙ e) refl)));
  coded = h.coded;
}

fault-read : (s : List ℕ) (b c : ℕ) → Coded (fault_of (derived s b) c) → Read (fault_of (derived s b) c)
fault-read s b c h = derived-read s false b _ (fault-of s false (derived s b) c h)

dropped-read : (s : List ℕ) → Read (fault_of (derived s 0) is_dropped)
dropped-read s = fault-read s 0 is_dropped (λ a b. absurd (a refl))

unknown-read : (s : List ℕ) (b : ℕ) → Read (fault_of (derived s b) 0)
unknown-read s b = fault-read s b 0 (λ a b. omega arith)

length-read : (s : List ℕ) (n : Length) → Read (by_length s n)
unfolding by_length
length-read s Wrong = dropped-read s
length-read s (Until b) =
    whether-eq Read _ _ _ _ (whether-b Read _ _ _ (derived-read s true b _ (order-of s true (derived s b) b)) (unknown-read s b)) (dropped-read s)
length-read s (Given b n) =
    whether-b Read _ _ _ (whether-eq Read _ _ _ _ (derived-read s false b _ (order-of s false (derived s b) b)) (fault-read s b 2 (λ a b. omega arith))) (unknown-read s b)

pub message-read : (s : List ℕ) → Read (message_of s)
unfolding message_of
message-read s = whether-eq Read _ _ _ _ (dropped-read s) (length-read s (length_at s (length s) 1))
