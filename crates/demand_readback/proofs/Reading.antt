-- Messages as they were written, read: their outer element, IDs in order, then a dialogue portion and components. Assumes nothing.
use native.Mathlib.Omega.{arith}
use Rattle.std.proofs.Common.{add-zero, ◌∙◌, length-append, length-take, length-drop, ext_get_or, get_or-take, get_or-drop, eq-eqb}
use Prim.Native.Nat.{ℕ, suc, ◌+◌, ◌-◌, ◌%◌, ◌<◌, ◌≤◌}
use Rattle.std.specs.Prelude.{◌≡◌, true, take, drop}
use Rattle.std.proofs.Math.Path.{refl, sym, ap}
use Rattle.std.proofs.Math.Bool.{false}
use mathlib.Core.List.{List, [], ◌∷◌, ◌++◌}
use Rattle.std.proofs.Math.ListN.{length, get_or}
use Rattle.laws.specs.If.{if_eq, lt, ge, eq, ne, yes, by-eq, was-eq, true-false}
use Rattle.paper.specs.declared.Run.{Run}
use Rattle.paper.specs.declared.Message.{Message}
use Rattle.paper.specs.Sizes.{depths}
use Rattle.paper.specs.Problems.{no_problem}
use Rattle.paper.specs.Messages.{uni_tag, abort_tag, no_run, id_at, origin_of, destination_of, Derived, derived, fault_of, sound_of, closes, closing, octet_at, components_by, components_part, abort_part, after_portion, portion_part, in_order, known_type, typed, by_length, message_of}
use Rattle.paper.specs.Elements.{is_element}
use Rattle.paper.specs.Dialogues.{is_portion}
use Rattle.paper.specs.Calls.{octets_at}
use Rattle.paper.specs.Writing.{tlv, components_octets}
use Rattle.writing_octets.specs.Heads.{components_head, components-joined}
use Rattle.writing_octets.specs.Lengths.{element-length, id-of}
use Rattle.demand_readback.specs.Standing.{Has, Stands, ShortTag, begins, ends}
use Rattle.demand_readback.proofs.Standing.{has_all, has-as, has-head, has_first, has_rest, has-at, octet-back, given_back, frame_back}
use Rattle.demand_readback.specs.Written.{run, from_of, to_of, run_at, with_components}
use Rattle.demand_readback.proofs.GivenLaws.{element-copied}

-- the octets of a run are those that stand there
pub has-octets : {s vs : List ℕ} {p : ℕ} → Has s p vs → p + length vs ≤ length s → octets_at s (run p (length vs)) ≡ vs
has-octets {s} {vs} {p} has room =
    let n : length (take (length vs) (drop p s)) ≡ length vs = simp (length-take, length-drop) (omega arith) in
    ext_get_or 0 (take (length vs) (drop p s)) vs n
    (λ i h. get_or-take (length vs) (drop p s) i 0 (omega arith) ∙ get_or-drop p s i 0 ∙ has.octet i (omega arith))

-- AN ID, 48 or 49, of 1 to 4 octets
module _ {s : List ℕ} {p : ℕ} (t : ℕ) (id : List ℕ) (has : Has s p (tlv t id)) (some : 1 ≤ length id) (few : length id ≤ 4) (room : p + 2 + length id ≤ length s) where
  id-octets : Has s p (t ∷ length id ∷ id)
  id-octets = has-as has (sym (id-of t id (omega arith)))

  pub id-back : run (p + 2) (length id) ≡ id_at s t p
  unfolding id_at
  id-back =
      let count : get_or s (p + 1) 0 ≡ length id = id-octets.octet 1 (omega arith) in
      ge _ _ _ _ (omega arith) (eq _ _ _ _ (has-head id-octets) (ge _ _ _ _ (omega arith) (ge _ _ _ _ (omega arith) (ge _ _ _ _ (omega arith)
      (ap (run (p + 2)) (sym count))))))

  pub id-has : Has s (p + 2) id
  id-has = has_rest (t ∷ length id ∷ []) id id-octets

-- what is derived, of a known tag
pub derived-as : (s : List ℕ) (t b : ℕ) (o d : Run) → get_or s 0 0 ≡ t → o ≡ origin_of s t b → d ≡ destination_of s t b o
    → record { tag = t; origin = o; destination = d } ≡ derived s b
unfolding derived
derived-as s t b o d tag first second =
    ap (λ (d : Run). record { tag = t; origin = o; destination = d }) second
    ∙ ap (λ (o : Run). record { tag = t; origin = o; destination = destination_of s t b o }) first
    ∙ ap (λ (t : ℕ). record { tag = t; origin = origin_of s t b; destination = destination_of s t b (origin_of s t b) }) (sym tag)

-- THE OUTER ELEMENT
module _ (t : ℕ) (c : List ℕ) (short : ShortTag t) (fits : length c < 65536) where
  pub outer-stands : Stands (tlv t c) (length (tlv t c)) 0 t c
  outer-stands = record { has = has_all (tlv t c); short = short; fits = fits; room = omega (arith, element-length t c) }

  pub outer-back : known_type t ≡ true → (D : Derived) → D.tag ≡ t → D ≡ derived (tlv t c) (begins 0 (length c)) → {m : Message} → m ≡ in_order (tlv t c) false (begins 0 (length c)) D
      → m ≡ message_of (tlv t c)
  unfolding message_of by_length
  outer-back known D tag is {m} order =
      let s : List ℕ = tlv t c in
      let b : ℕ = begins 0 (length c) in
      let octet : get_or s 0 0 ≡ t = octet-back outer-stands in
      let size = element-length t c in
      order
      ∙ ne _ _ _ _ (λ z. short.1 (ap (λ (k : ℕ). k % 32) (sym octet) ∙ z))
      (yes (known_type D.tag) _ _ (ap known_type tag ∙ known) (eq _ _ _ _ (omega arith) refl)
      ∙ ap (λ (D : Derived). by_length' s b (length c) D) is
      ∙ ap (by_length s) (given_back outer-stands))
    where
      by_length' : List ℕ → ℕ → ℕ → Derived → Message
      by_length' s b n D = typed D (if_eq (b + n) (length s) (in_order s false b D) (fault_of D 2))

-- an octet at a position of the message, and past its end
octet-in : (s : List ℕ) (p v : ℕ) → p < length s → get_or s p 0 ≡ v → v ≡ octet_at s p
unfolding octet_at
octet-in s p v h e = lt _ _ _ _ h (sym e)

octet-out : (s : List ℕ) (p : ℕ) → p ≡ length s → 0 ≡ octet_at s p
unfolding octet_at
octet-out s p e = ge _ _ _ _ (omega arith) refl

-- a message closes where it ends
closed : (s : List ℕ) (p : ℕ) (D : Derived) (m : Message) → p ≡ length s → m ≡ closing s false p D m
unfolding closes
closed s p D m e = yes _ _ _ (eq-eqb p (length s) e) refl

-- octets that end with the message stand there
pub end-has : {s vs : List ℕ} {q : ℕ} (x : ℕ) → Has s q vs → q + length vs ≡ x → (Has s (from_of x (length vs)) vs) × (from_of x (length vs) + length vs ≡ to_of x (length vs))
end-has {s} {vs} {q} x has whole =
    by-eq {A = ℕ} (length vs) 0 0 0 refl
    (λ z _.
    let f : 0 ≡ from_of x (length vs) = eq (length vs) 0 0 (x - length vs) z refl in
    let t : 0 ≡ to_of x (length vs) = eq (length vs) 0 0 x z refl in
    (record { octet = λ i h. absurd (omega arith) }, omega arith))
    (λ z _.
    let f : x - length vs ≡ from_of x (length vs) = ne (length vs) 0 0 (x - length vs) z refl in
    let t : x ≡ to_of x (length vs) = ne (length vs) 0 0 x z refl in
    (has-at has (omega arith), omega arith))

-- octets that were put at p, or none, are those of their run
pub octets-back : {s vs : List ℕ} {p : ℕ} → Has s p vs → p + length vs ≤ length s → octets_at s (run_at p vs) ≡ vs
octets-back {s} {vs} {p} has room =
    let q : ℕ = if_eq (length vs) 0 0 p in
    by-eq {A = ℕ} (length vs) 0 0 0 refl
    (λ z _.
    let f : 0 ≡ q = eq (length vs) 0 0 p z refl in
    let none : Has s q vs = record { octet = λ i h. absurd (omega arith) } in
    has-octets none (omega arith))
    (λ z _. let f : p ≡ q = ne (length vs) 0 0 p z refl in has-octets (has-at has f) (omega arith))

-- THE COMPONENTS, after the IDs and the portion r
module _ {s : List ℕ} {p : ℕ} (cs : List ℕ) (has : Has s p (components_octets cs)) (whole : p + length (components_octets cs) ≡ length s) (fits : length cs < 65536) where
  none_out : length cs ≡ 0 → p ≡ length s
  unfolding components_octets
  none_out z = omega (arith, ap length (eq (length cs) 0 [] (tlv 0x6C cs) z refl))

  some-stands : (length cs ≡ 0 → ⊥) → (Stands s (length s) p 0x6C cs) × (ends p (length cs) ≡ length s)
  unfolding components_octets
  some-stands z =
      let full : tlv 0x6C cs ≡ components_octets cs = ne (length cs) 0 [] (tlv 0x6C cs) z refl in
      let size = element-length 0x6C cs in
      let all : ends p (length cs) ≡ length s = omega (arith, ap length full) in
      (record { has = has-as has (sym full); short = ((λ y. omega arith), (λ y. omega arith)); fits = fits; room = omega arith }, all)

  -- they are no portion
  no-portion : octet_at s p ≡ 0x6B → ⊥
  no-portion y =
      by-eq {A = ℕ} (length cs) 0 0 0 refl (λ z _. let out = octet-out s p (none_out z) in omega arith)
      (λ z _. let w = some-stands z in let tag = octet-in s p 0x6C (omega arith) (octet-back w.0) in omega arith)

  module _ (r : Run) (D : Derived) where
    none-part : (D.tag ≡ uni_tag → ⊥) → length cs ≡ 0 → with_components s r cs D ≡ components_part s false D r p
    unfolding components_part
    none-part other z =
        let out = octet-out s p (none_out z) in
        ap (λ (k : ℕ). sound_of D r k (to_of (length s) (length cs)) no_problem) (sym (eq (length cs) 0 0 (length s - length cs) z refl))
        ∙ ap (λ (k : ℕ). sound_of D r 0 k no_problem) (sym (eq (length cs) 0 0 (length s) z refl))
        ∙ closed s p D (sound_of D r 0 0 no_problem) (none_out z)
        ∙ ne _ _ _ _ (λ y. omega arith) (ne _ _ _ _ other refl)

    some-part : (length cs ≡ 0 → ⊥) → with_components s r cs D ≡ components_part s false D r p
    unfolding components_part components_by
    some-part z =
        let n : ℕ = length cs in
        let w = some-stands z in
        let start : length s - n ≡ begins p n = omega (arith, w.1) in
        let tag = octet-in s p 0x6C (omega (arith, w.1)) (octet-back w.0) in
        ap (λ (k : ℕ). sound_of D r k (to_of (length s) n) no_problem) (sym (ne n 0 0 (length s - n) z refl) ∙ start)
        ∙ ap (λ (k : ℕ). sound_of D r (begins p n) k no_problem) (sym (ne n 0 0 (length s) z refl) ∙ sym w.1)
        ∙ closed s (ends p n) D (sound_of D r (begins p n) (ends p n) no_problem) w.1
        ∙ ne (ends p n) 0 (fault_of D 2) (closing s false (ends p n) D (sound_of D r (begins p n) (ends p n) no_problem)) (λ y. omega arith) refl
        ∙ ap (components_by s false D r) (frame_back w.0 refl (suc depths))
        ∙ eq _ _ _ _ (sym tag) refl

    components-part : (length cs ≡ 0 → D.tag ≡ uni_tag → ⊥) → with_components s r cs D ≡ components_part s false D r p
    components-part other = by-eq {A = ℕ} (length cs) 0 0 0 refl (λ z _. none-part (other z) z) (λ z _. some-part z)

  -- they stand there
  components-has : (Has s (from_of (length s) (length cs)) cs) × (from_of (length s) (length cs) + length cs ≡ to_of (length s) (length cs))
  components-has =
      let e = components-joined cs in
      end-has (length s) (has_rest (components_head (length cs)) cs (has-as has e)) (omega (arith, ap length e, length-append (components_head (length cs)) cs))

-- A DIALOGUE PORTION: one 6B element, which stays one where it is copied to
portion-told : (user : List ℕ) → is_portion user ≡ true → (length user ≡ 0 → ⊥) → (get_or user 0 0 ≡ 0x6B) × (is_element depths user ≡ true)
unfolding is_portion
portion-told user h some =
    by-eq _ _ _ _ (sym h) (λ z _. absurd (some z)) (λ z e. let w = was-eq _ _ _ _ e true-false in (w.0, sym w.1))

module _ {s : List ℕ} {p : ℕ} (user : List ℕ) (has : Has s p user) (room : p + length user ≤ length s) (formed : is_portion user ≡ true) (some : length user ≡ 0 → ⊥) (D : Derived) where
  -- what is read after it is read with its run
  after-back : {m : Message} → m ≡ if_eq D.tag abort_tag (closing s false (p + length user) D (sound_of D (run_at p user) 0 0 no_problem)) (components_part s false D (run_at p user) (p + length user))
      → m ≡ portion_part s false D p
  unfolding portion_part
  after-back is =
      let n : ℕ = length user in
      let told = portion-told user formed some in
      let first : get_or s p 0 ≡ 0x6B = ap (λ (k : ℕ). get_or s k 0) (sym (add-zero p)) ∙ has.octet 0 (omega arith) ∙ told.0 in
      let tag = octet-in s p 0x6B (omega arith) first in
      let long : n ≡ p + n - p = omega arith in
      is ∙ ap after (ap (λ (k : ℕ). run k n) (sym (ne n 0 0 p some refl)) ∙ ap (run p) long)
      ∙ ap (after_portion s false D p) (element-copied has (length s) room depths told.1)
      ∙ eq _ _ _ _ (sym tag) refl
    where
      after : Run → Message
      after r = if_eq D.tag abort_tag (closing s false (p + length user) D (sound_of D r 0 0 no_problem)) (components_part s false D r (p + length user))

-- A PORTION OR NONE, THEN COMPONENTS (Begin, Continue, End, Unidirectional)
module _ {s : List ℕ} {p : ℕ} (portion cs : List ℕ) (has : Has s p (portion ++ components_octets cs)) (whole : p + length (portion ++ components_octets cs) ≡ length s)
    (fits : length (portion ++ components_octets cs) < 65536) (formed : is_portion portion ≡ true) where
  rest_has : Has s (p + length portion) (components_octets cs)
  rest_has = has_rest portion (components_octets cs) has

  rest-whole : p + length portion + length (components_octets cs) ≡ length s
  rest-whole = omega (arith, length-append portion (components_octets cs))

  rest-fits : length cs < 65536
  rest-fits = omega (arith, ap length (components-joined cs), length-append (components_head (length cs)) cs, length-append portion (components_octets cs))

  pub rest_part : (D : Derived) → (D.tag ≡ abort_tag → ⊥) → (length cs ≡ 0 → D.tag ≡ uni_tag → ⊥) → with_components s (run_at p portion) cs D ≡ portion_part s false D p
  unfolding portion_part
  rest_part D other needs =
      let all : with_components s (run_at p portion) cs D ≡ components_part s false D (run_at p portion) (p + length portion) =
      components-part cs rest_has rest-whole rest-fits (run_at p portion) D needs in
      by-eq {A = ℕ} (length portion) 0 0 0 refl
      (λ z _.
      let here : p + length portion ≡ p = omega arith in
      let h : Has s p (components_octets cs) = has-at rest_has here in
      all ∙ ap (λ (k : ℕ). components_part s false D (run_at p portion) k) here
      ∙ ap (λ (k : ℕ). components_part s false D (run k (length portion)) p) (sym (eq (length portion) 0 0 p z refl))
      ∙ ap (λ (k : ℕ). components_part s false D (run 0 k) p) z
      ∙ ne _ _ _ _ (no-portion cs h (omega (arith, rest-whole)) rest-fits) (ne _ _ _ _ other refl))
      (λ z _. after-back portion (has_first portion (components_octets cs) has) (omega (arith, rest-whole)) formed z D (ne _ _ _ _ other all))

  pub rest-portion : octets_at s (run_at p portion) ≡ portion
  rest-portion = octets-back (has_first portion (components_octets cs) has) (omega (arith, rest-whole))

  pub rest-components : (Has s (from_of (length s) (length cs)) cs) × (from_of (length s) (length cs) + length cs ≡ to_of (length s) (length cs))
  rest-components = components-has cs rest_has rest-whole rest-fits

-- AN ABORT'S PORTION OR NONE, at the end of the message
module _ {s : List ℕ} {p : ℕ} (user : List ℕ) (has : Has s p user) (whole : p + length user ≡ length s) (formed : is_portion user ≡ true) (D : Derived) (abort : D.tag ≡ abort_tag) where
  pub user-part : sound_of D (run_at p user) 0 0 no_problem ≡ portion_part s false D p
  unfolding portion_part abort_part
  user-part = by-eq {A = ℕ} (length user) 0 0 0 refl
      (λ z _.
      let out = octet-out s p (omega arith) in
      ap (λ (k : ℕ). sound_of D (run k (length user)) 0 0 no_problem) (sym (eq (length user) 0 0 p z refl))
      ∙ ap (λ (k : ℕ). sound_of D (run 0 k) 0 0 no_problem) z
      ∙ closed s p D (sound_of D no_run 0 0 no_problem) (omega arith)
      ∙ ne _ _ _ _ (λ y. omega arith) (eq _ _ _ _ abort (ne _ _ _ _ (λ y. omega arith) refl)))
      (λ z _. after-back user has (omega arith) formed z D (eq _ _ _ _ abort (closed s (p + length user) D (sound_of D (run_at p user) 0 0 no_problem) whole)))

-- AN ABORT'S CAUSE
pub cause-part : {s : List ℕ} {p : ℕ} (cause : ℕ) → cause < 5 → Has s p (0x4A ∷ 1 ∷ cause ∷ []) → p + 3 ≡ length s → (D : Derived) → D.tag ≡ abort_tag
    → sound_of D no_run 0 0 cause ≡ portion_part s false D p
unfolding portion_part abort_part
cause-part {s} {p} cause small has whole D abort =
    let tag = octet-in s p 0x4A (omega arith) (has-head has) in
    let one = octet-in s (p + 1) 1 (omega arith) (has.octet 1 (omega arith)) in
    let c : get_or s (p + 2) 0 ≡ cause = has.octet 2 (omega arith) in
    ap (sound_of D no_run 0 0) (sym c)
    ∙ closed s (p + 3) D (sound_of D no_run 0 0 (get_or s (p + 2) 0)) whole
    ∙ ne _ _ _ _ (λ y. omega arith) (eq _ _ _ _ abort (eq _ _ _ _ (sym tag) (eq _ _ _ _ (sym one) (lt _ _ _ _ (omega arith) (lt _ _ _ _ (omega arith) refl)))))
