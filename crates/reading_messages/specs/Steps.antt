-- The definitions' steps, as the code takes them: with what it has at hand in the place of what the definition names. Assumes nothing.
use Rattle.std.specs.Prelude.{◌≡◌, Bool, List, ℕ, ◌+◌, ◌%◌, length, get_or}
use Rattle.std.proofs.Common.{◌∙◌}
use Rattle.std.proofs.Math.Path.{ap}
use Rattle.std.proofs.Math.Bool.{true, false}
use Rattle.laws.specs.If.{if_eq, if_b, eq, ne}
use Rattle.paper.specs.declared.Length.{Length}
use Rattle.paper.specs.declared.Length.TheVariants.{Wrong, Given, Until}
use Rattle.paper.specs.Elements.{Reading}
use Rattle.paper.specs.declared.Run.{Run}
use Rattle.paper.specs.declared.Message.{Message}
use Rattle.paper.specs.Elements.{constructor, length_at, element}
use Rattle.paper.specs.Messages.{Derived, is_dropped, origin_of, destination_of, derived, fault_of, octet_at, after_portion, portion_part, in_order, typed, by_length, message_of}
use Rattle.reading_messages.specs.declared.Seen.{Seen}
use Rattle.reading_messages.specs.Bounds.{MessageIn, message-in}

-- what the code holds of a message so far
abbrev pub seen : Seen → Derived
seen d = record { tag = d.tag; origin = d.origin; destination = d.destination }

-- the same test of another message
pub same_test : {r : Message} (b : Bool) (x x' y : Message) → r ≡ if_b b x y → x ≡ x' → r ≡ if_b b x' y
same_test b x x' y e q = e ∙ ap (λ (x : Message). if_b b x y) q

-- what is derivable, of its two runs
pub derived-by : (s : List ℕ) (b : ℕ) (o d : Run) → o ≡ origin_of s (get_or s 0 0) b → d ≡ destination_of s (get_or s 0 0) b o
    → ◌≡◌ {A = Derived} (record { tag = get_or s 0 0; origin = o; destination = d }) (derived s b)
unfolding derived
derived-by s b o d p q =
    ap (λ (d : Run). record { tag = get_or s 0 0; origin = o; destination = d }) q
    ∙ ap (λ (o : Run). record { tag = get_or s 0 0; origin = o; destination = destination_of s (get_or s 0 0) b o }) p

-- a dialogue portion, as it is read
pub portion-by : (s : List ℕ) (o : Bool) (d : Derived) (p : ℕ) (x : Reading) (r : Message) → octet_at s p ≡ 0x6B → x ≡ element s 16 (length s) p
    → r ≡ after_portion s o d p x → r ≡ portion_part s o d p
unfolding portion_part
portion-by s o d p x r h e q = eq _ _ _ _ h (q ∙ ap (after_portion s o d p) e)

module _ (s : List ℕ) (b : ℕ) (d : Derived) (r : Message) (is : d ≡ derived s b) where
  -- by the outer length
  pub given_by : (n : ℕ) → r ≡ typed d (if_eq (b + n) (length s) (in_order s false b d) (fault_of d 2)) → r ≡ by_length s (Given b n)
  unfolding by_length
  given_by n q = q ∙ ap (λ (d : Derived). typed d (if_eq (b + n) (length s) (in_order s false b d) (fault_of d 2))) is

  pub until-by : constructor (get_or s 0 0) ≡ 1 → r ≡ typed d (in_order s true b d) → r ≡ by_length s (Until b)
  unfolding by_length
  until-by h q = eq _ _ _ _ h (q ∙ ap (λ (d : Derived). typed d (in_order s true b d)) is)

-- dropped for its form: a length 80 of a primitive, a long tag, no length
module _ (s : List ℕ) (d : Derived) (r : Message) (is : d ≡ derived s 0) (drops : r ≡ fault_of d is_dropped) where
  dropped : r ≡ fault_of (derived s 0) is_dropped
  dropped = drops ∙ ap (λ (d : Derived). fault_of d is_dropped) is

  pub until-drops : (b : ℕ) → (constructor (get_or s 0 0) ≡ 1 → ⊥) → r ≡ by_length s (Until b)
  unfolding by_length
  until-drops b h = ne _ _ _ _ h dropped

  pub long-drops : get_or s 0 0 % 32 ≡ 31 → (r ≡ message_of s) × MessageIn (length s) r
  unfolding message_of
  long-drops h = let e : r ≡ message_of s = eq _ _ _ _ h dropped in (e, message-in s r e)

  pub wrong-drops : r ≡ by_length s Wrong
  unfolding by_length
  wrong-drops = dropped

pub message-by : (s : List ℕ) (l : Length) (r : Message) → (get_or s 0 0 % 32 ≡ 31 → ⊥) → l ≡ length_at s (length s) 1 → r ≡ by_length s l
    → (r ≡ message_of s) × MessageIn (length s) r
unfolding message_of
message-by s l r h i q = let e : r ≡ message_of s = ne _ _ _ _ h (q ∙ ap (by_length s) i) in (e, message-in s r e)
