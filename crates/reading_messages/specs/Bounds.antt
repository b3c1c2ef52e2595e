-- WHERE THE PARTS OF A MESSAGE THAT IS READ LIE. Assumes nothing.
use Rattle.std.specs.Prelude.{◌≡◌, Bool, true, false, List, ℕ, ◌+◌, ◌-◌, ◌<◌, ◌≤◌, get_or}
use Rattle.std.proofs.Math.Path.{refl}
use Rattle.std.proofs.Common.{sym, ap, subst, arith}
use Rattle.std.proofs.Math.ListN.{length}
use Rattle.laws.specs.If.{by-lt, by-eq, by-b}
use Rattle.paper.specs.declared.Length.{Length}
use Rattle.paper.specs.declared.Length.TheVariants.{Wrong, Given, Until}
use Rattle.paper.specs.Elements.{Reading}
use Rattle.std.specs.Prelude.{Ok, Err}
use Rattle.paper.specs.declared.Frame.{Frame}
use Rattle.paper.specs.declared.Run.{Run}
use Rattle.paper.specs.declared.Message.{Message}
use Rattle.paper.specs.Sizes.{depths}
use Rattle.paper.specs.Elements.{length_at, element, frame_at}
use Rattle.paper.specs.Problems.{no_problem}
use Rattle.paper.specs.Messages.{begin_tag, continue_tag, is_sound, is_dropped, no_run, id_at, origin_of, past, destination_of, Derived, derived, fault_of, sound_of, closing, components_by, components_part, abort_part, after_portion, portion_part, in_order, by_length, message_of}
use Rattle.reading_elements.specs.Bounds.{ReadingIn, element-in, frame-in}

-- a run lies inside n octets
abbrev pub RunIn : ℕ → Run → Type 0
RunIn n r = r.start + r.length ≤ n

-- an ID, of at most 4 octets
pub record IdIn (n : ℕ) (r : Run) : Type 0 where
  pub lies : RunIn n r
  pub short : r.length ≤ 4

pub record DerivedIn (n : ℕ) (d : Derived) : Type 0 where
  pub origin : IdIn n d.origin
  pub destination : IdIn n d.destination

-- the parts lie inside the message; a sound Begin or Continue has an originating ID
pub record MessageIn (n : ℕ) (m : Message) : Type 0 where
  pub origin : IdIn n m.origin
  pub destination : IdIn n m.destination
  pub portion : RunIn n m.portion
  pub order : m.from ≤ m.to
  pub ends : m.to ≤ n
  pub told : m.cause ≤ 65535
  pub begins : m.fault ≡ is_sound → m.tag ≡ begin_tag → 0 < m.origin.length
  pub continues : m.fault ≡ is_sound → m.tag ≡ continue_tag → 0 < m.origin.length

none_in : (n : ℕ) (r : Run) → r ≡ no_run → IdIn n r
none_in n r q = subst (IdIn n) (sym q) (record { lies = omega arith; short = omega arith })

-- the IDs
id-in : (s : List ℕ) (tag at : ℕ) (r : Run) → r ≡ id_at s tag at → IdIn (length s) r
unfolding id_at
id-in s tag at r q =
    by-lt _ _ _ _ q (λ a q. none_in _ r q)
    (λ a q. by-eq _ _ _ _ q
    (λ b q. by-lt _ _ _ _ q (λ c q. none_in _ r q)
    (λ c q. by-lt _ _ _ _ q (λ d q. none_in _ r q)
    (λ d q. by-lt _ _ _ _ q (λ e q. none_in _ r q)
    (λ e q. subst (IdIn (length s)) (sym q) (record { lies = omega arith; short = omega arith })))))
    (λ b q. none_in _ r q))

origin-in : (s : List ℕ) (t b : ℕ) (r : Run) → r ≡ origin_of s t b → IdIn (length s) r
unfolding origin_of
origin-in s t b r q =
    by-eq _ _ _ _ q (λ a q. none_in _ r q)
    (λ a q. by-eq _ _ _ _ q (λ c q. none_in _ r q) (λ c q. by-eq _ _ _ _ q (λ d q. none_in _ r q) (λ d q. id-in s 0x48 b r q)))

destination-in : (s : List ℕ) (t b : ℕ) (o r : Run) → r ≡ destination_of s t b o → IdIn (length s) r
unfolding destination_of
destination-in s t b o r q =
    by-eq _ _ _ _ q (λ a q. none_in _ r q)
    (λ a q. by-eq _ _ _ _ q (λ c q. none_in _ r q)
    (λ c q. by-eq _ _ _ _ q (λ d q. id-in s 0x49 b r q)
    (λ d q. by-eq _ _ _ _ q (λ e q. id-in s 0x49 b r q)
    (λ e q. by-eq _ _ _ _ q (λ f q. none_in _ r q) (λ f q. id-in s 0x49 (past o b) r q)))))

pub derived-in : (s : List ℕ) (b : ℕ) → DerivedIn (length s) (derived s b)
unfolding derived
derived-in s b = record {
  origin = origin-in s (get_or s 0 0) b (origin_of s (get_or s 0 0) b) refl;
  destination = destination-in s (get_or s 0 0) b (origin_of s (get_or s 0 0) b) (destination_of s (get_or s 0 0) b (origin_of s (get_or s 0 0) b)) refl;
}

-- a Continue whose destination is derivable has an originating ID
continue-origin : (s : List ℕ) (t b : ℕ) (o r : Run) → r ≡ destination_of s t b o → t ≡ continue_tag → (r.length ≡ 0 → ⊥) → 0 < o.length
unfolding destination_of
continue-origin s t b o r q h some =
    by-eq _ _ _ _ q (λ a q. absurd (omega arith))
    (λ a q. by-eq _ _ _ _ q (λ c q. absurd (omega arith))
    (λ c q. by-eq _ _ _ _ q (λ d q. absurd (omega arith))
    (λ d q. by-eq _ _ _ _ q (λ e q. absurd (omega arith))
    (λ e q. by-eq _ _ _ _ q (λ f q. absurd (some (ap (λ (r : Run). r.length) q))) (λ f q. omega arith)))))

-- a message at fault
fault-in : (n : ℕ) (d : Derived) → DerivedIn n d → (c : ℕ) (r : Message) → c < is_sound → r ≡ fault_of d c → MessageIn n r
fault-in n d w c r h q = subst (MessageIn n) (sym q) (record {
  origin = w.origin;
  destination = w.destination;
  portion = omega arith;
  order = omega arith;
  ends = omega arith;
  told = omega arith;
  begins = λ z. absurd (omega arith);
  continues = λ z. absurd (omega arith);
})

module _ (s : List ℕ) (d : Derived) (w : DerivedIn (length s) d) (begins : d.tag ≡ begin_tag → 0 < d.origin.length) (continues : d.tag ≡ continue_tag → 0 < d.origin.length) where
  sound-in : (p : Run) (from to cause : ℕ) (r : Message) → RunIn (length s) p → from ≤ to → to ≤ length s → cause ≤ 65535 → r ≡ sound_of d p from to cause → MessageIn (length s) r
  sound-in p from to cause r i j k l q = subst (MessageIn (length s)) (sym q) (record {
    origin = w.origin;
    destination = w.destination;
    portion = i;
    order = j;
    ends = k;
    told = l;
    begins = λ _. begins;
    continues = λ _. continues;
  })

  bad-in : (r : Message) → r ≡ fault_of d 2 → MessageIn (length s) r
  bad-in r q = fault-in (length s) d w 2 r (omega arith) q

  closing-in : (o : Bool) (x : ℕ) (p : Run) (from to cause : ℕ) (r : Message) → RunIn (length s) p → from ≤ to → to ≤ length s → cause ≤ 65535
      → r ≡ closing s o x d (sound_of d p from to cause) → MessageIn (length s) r
  closing-in o x p from to cause r i j k l q = by-b _ _ _ q (λ a q. sound-in p from to cause r i j k l q) (λ a q. bad-in r q)

  components-in : (o : Bool) (portion : Run) (p : ℕ) (r : Message) → RunIn (length s) portion → r ≡ components_part s o d portion p → MessageIn (length s) r
  unfolding components_part components_by
  components-in o portion p r i q =
      by-eq _ _ _ _ q
      (λ a q. by-eq _ _ _ _ q (λ b q. bad-in r q)
      (λ b q.
      let f : Frame = frame_at s 17 (length s) p in
      let v = frame-in s 17 (length s) p f refl in
      closing-in o f.stop portion f.from f.to no_problem r i v.ordered (omega (arith, v.inside, v.ends)) (omega arith) q))
      (λ a q. by-eq _ _ _ _ q (λ b q. bad-in r q) (λ b q. closing-in o p portion 0 0 no_problem r i (omega arith) (omega arith) (omega arith) q))

  abort-in : (o : Bool) (p : ℕ) (r : Message) → r ≡ abort_part s o d p → MessageIn (length s) r
  unfolding abort_part
  abort-in o p r q =
      by-eq _ _ _ _ q
      (λ a q. by-eq _ _ _ _ q
      (λ b q. by-lt _ _ _ _ q
      (λ c q. by-lt _ _ _ _ q
      (λ e q. closing-in o (p + 3) no_run 0 0 (get_or s (p + 2) 0) r (omega arith) (omega arith) (omega arith) (omega arith) q)
      (λ e q. bad-in r q)) (λ c q. bad-in r q)) (λ b q. bad-in r q))
      (λ a q. closing-in o p no_run 0 0 no_problem r (omega arith) (omega arith) (omega arith) (omega arith) q)

  portion-in : (o : Bool) (p : ℕ) (r : Message) → r ≡ portion_part s o d p → MessageIn (length s) r
  unfolding portion_part
  portion-in o p r q =
      by-eq _ _ _ _ q (λ a q. after (element s depths (length s) p) (element-in s depths (length s) p (element s depths (length s) p) refl) q)
      (λ a q. by-eq _ _ _ _ q (λ b q. abort-in o p r q) (λ b q. components-in o no_run p r (omega arith) q))
    where
      after : (x : Reading) → ReadingIn p (length s) x → r ≡ after_portion s o d p x → MessageIn (length s) r
      after (Err f) i q = bad-in r q
      after (Ok x) i q =
          by-eq _ _ _ _ q (λ b q. closing-in o x (record { start = p; length = x - p }) 0 0 no_problem r (omega arith) (omega arith) (omega arith) (omega arith) q)
          (λ b q. components-in o (record { start = p; length = x - p }) x r (omega arith) q)

order-in : (s : List ℕ) (o : Bool) (b : ℕ) (d : Derived) → DerivedIn (length s) d → (d.tag ≡ continue_tag → (d.destination.length ≡ 0 → ⊥) → 0 < d.origin.length)
    → (r : Message) → r ≡ in_order s o b d → MessageIn (length s) r
unfolding in_order
order-in s o b d w reply r q =
    by-eq _ _ _ _ q (λ a q. portion-in s d w (λ h. absurd (omega arith)) (λ h. absurd (omega arith)) o b r q)
    (λ a q. by-eq _ _ _ _ q
    (λ c q. by-eq _ _ _ _ q (λ e q. fault-in (length s) d w 2 r (omega arith) q)
    (λ e q. portion-in s d w (λ h. omega arith) (λ h. absurd (omega arith)) o (past d.origin b) r q))
    (λ c q. by-eq _ _ _ _ q (λ e q. fault-in (length s) d w 2 r (omega arith) q)
    (λ e q. portion-in s d w (λ h. absurd (omega arith)) (λ h. reply h e) o (past d.destination b) r q)))

length-in : (s : List ℕ) (l : Length) (r : Message) → r ≡ by_length s l → MessageIn (length s) r
unfolding by_length derived
length-in s Wrong r q = fault-in (length s) (derived s 0) (derived-in s 0) is_dropped r (omega arith) q
length-in s (Until b) r q =
    by-eq _ _ _ _ q
    (λ a q. by-b _ _ _ q (λ k q. order-in s true b (derived s b) (derived-in s b) (continue-origin s (get_or s 0 0) b (origin_of s (get_or s 0 0) b) (derived s b).destination refl) r q)
    (λ k q. fault-in (length s) (derived s b) (derived-in s b) 0 r (omega arith) q))
    (λ a q. fault-in (length s) (derived s 0) (derived-in s 0) is_dropped r (omega arith) q)
length-in s (Given b n) r q =
    by-b _ _ _ q
    (λ k q. by-eq _ _ _ _ q
    (λ a q. order-in s false b (derived s b) (derived-in s b) (continue-origin s (get_or s 0 0) b (origin_of s (get_or s 0 0) b) (derived s b).destination refl) r q)
    (λ a q. fault-in (length s) (derived s b) (derived-in s b) 2 r (omega arith) q))
    (λ k q. fault-in (length s) (derived s b) (derived-in s b) 0 r (omega arith) q)

pub message-in : (s : List ℕ) (r : Message) → r ≡ message_of s → MessageIn (length s) r
unfolding message_of
message-in s r q =
    by-eq _ _ _ _ q (λ a q. fault-in (length s) (derived s 0) (derived-in s 0) is_dropped r (omega arith) q) (λ a q. length-in s (length_at s (length s) 1) r q)
