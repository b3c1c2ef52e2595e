-- A component of any kind, and components one after another, read where they were written. Assumes nothing.
use Rattle.std.proofs.Common.{arith, ◌∙◌, ⊎_elim, eqb-true, eq-eqb, lt-ltb, le-ltb}
use Prim.Native.Nat.{ℕ, zero, suc, ◌+◌, ◌-◌, ◌<◌, ◌≤◌}
use Rattle.std.specs.Prelude.{◌≡◌, Bool, true, ltb}
use Rattle.std.proofs.Math.Path.{refl, sym, ap, subst}
use mathlib.Core.List.{List, [], ◌∷◌, ◌++◌}
use Rattle.std.proofs.Math.ListN.{length, length-append}
use Rattle.laws.specs.If.{if_eq, eq, yes, by-eq, was-yes, true-false}
use Rattle.laws.specs.Lists.{every}
use Rattle.std.specs.Prelude.{Ok}
use Rattle.paper.specs.declared.Component.{Component}
use Rattle.paper.specs.Elements.{element, is_element}
use Rattle.paper.specs.Problems.{no_problem}
use Rattle.paper.specs.Components.{invoke_tag, error_tag, reject_tag, known_tag, no_id, no_fault, sound, component_at, Item, item, next_start, go_on, items, components}
use Rattle.paper.specs.Dialogues.{is_code, is_parameter, is_result}
use Rattle.paper.specs.Rules.{is_sound_item}
use Rattle.paper.specs.Writing.{tlv, id_then, invoke_octets, result_octets, error_octets, problem_octets, reject_octets, Written, octets_of, joined}
use Rattle.paper.specs.Writing.Written.{Invoke, Result, Error, Reject}
use Rattle.reading_elements.specs.Bounds.{element-in}
use Rattle.writing_octets.specs.Lengths.{element-length, invoke-plain, invoke-linked, result-none, result-both, reject-none, reject-some}
use Rattle.demand_readback.specs.Standing.{Has}
use Rattle.demand_readback.proofs.Standing.{has_first, has_rest}
use Rattle.demand_readback.specs.Written.{ResultTag, Allowed, placed, read_as, AllAllowed, items_from}
use Rattle.demand_readback.specs.Given.{Code}
use Rattle.demand_readback.proofs.GivenLaws.{code-told, ended_at}
use Rattle.demand_readback.specs.Pieces.{Tagged, Reads}
use Rattle.demand_readback.proofs.Pieces.{glue, placed-none}
use Rattle.demand_readback.proofs.KindsLaws.{error-reads, invoke-reads, linked-reads, none_reads, both-reads, reject-reads, null-reads}

-- the five tags
pub invoke-tagged : Tagged invoke_tag
unfolding known_tag if_eq
invoke-tagged = (((λ z. omega arith), (λ z. omega arith)), refl, refl)

pub error-tagged : Tagged error_tag
unfolding known_tag if_eq
error-tagged = (((λ z. omega arith), (λ z. omega arith)), refl, refl)

reject-tagged : Tagged reject_tag
unfolding known_tag if_eq
reject-tagged = (((λ z. omega arith), (λ z. omega arith)), refl, refl)

pub result-tagged : (t : ℕ) → ResultTag t → Tagged t
unfolding known_tag if_eq
result-tagged t =
    ⊎_elim (λ z. subst Tagged (sym z) (((λ z. omega arith), (λ z. omega arith)), refl, refl))
    (λ z. subst Tagged (sym z) (((λ z. omega arith), (λ z. omega arith)), refl, refl))

-- what the rules of answer 11 say
parameter-told : (par : List ℕ) → is_parameter par ≡ true → (length par ≡ 0 → ⊥) → is_element 15 par ≡ true
unfolding is_parameter
parameter-told par h some = by-eq _ _ _ _ (sym h) (λ z _. absurd (some z)) (λ z e. sym e)

pub both_told : (op par : List ℕ) → is_result op par ≡ true → (length op ≡ 0 → ⊥) → (is_code op ≡ true) × (is_element 14 par ≡ true)
unfolding is_result
both_told op par h some =
    by-eq _ _ _ _ (sym h) (λ z _. absurd (some z)) (λ z e. let w = was-yes _ _ _ e true-false in (w.0, sym w.1))

pub result-empty : (op par : List ℕ) → is_result op par ≡ true → length op ≡ 0 → length par ≡ 0
unfolding is_result
result-empty op par h none = by-eq _ _ _ _ (sym h) (λ z e. eqb-true (length par) 0 (sym e)) (λ z _. absurd (z none))

pub element-some : (d : ℕ) (l : List ℕ) → is_element d l ≡ true → length l ≡ 0 → ⊥
unfolding is_element
element-some d l h z = let w = element-in l d (length l) 0 (Ok (length l)) (ended_at (length l) (element l d (length l) 0) h) in omega arith

-- A COMPONENT where it stands is read as it was put in
module _ (s : List ℕ) (lim at : ℕ) where
  Told : List ℕ → (ℕ → Component) → Type 0
  Told o f = Has s at o → length o < 65536 → at + length o ≤ lim → f (at + length o) ≡ component_at s lim at

  invoke-told : (id linked : ℕ) (op par : List ℕ) → Allowed (Invoke id linked op par) → Told (invoke_octets id linked op par) (read_as (Invoke id linked op par))
  unfolding Told read_as
  invoke-told id linked op par (small, most, code, formed) =
      let f : ℕ → Component = λ x. placed invoke_tag id linked no_problem x (length par) in
      let c : Code op = code-told op code in
      by-eq {A = ℕ} linked no_id 0 0 refl
      (λ z _. subst (λ (o : List ℕ). Told o f) (invoke-plain op par id linked z)
      (λ has fits room. glue invoke_tag (id_then id (op ++ par)) f invoke-tagged has fits room
      (λ b e h w. subst (λ (l : ℕ). Reads s invoke_tag b e (placed invoke_tag id l no_problem e (length par))) (sym z)
      (invoke-reads id op par small c (parameter-told par formed) h (omega (arith, length-append op par))))))
      (λ z _. subst (λ (o : List ℕ). Told o f) (invoke-linked op par id linked z)
      (λ has fits room. glue invoke_tag (id_then id (0x80 ∷ 1 ∷ linked ∷ (op ++ par))) f invoke-tagged has fits room
      (λ b e h w. linked-reads id op par small c (parameter-told par formed) linked (omega arith) h (omega (arith, length-append op par)))))

  result-told : (t id : ℕ) (op par : List ℕ) → Allowed (Result t id op par) → Told (result_octets t id op par) (read_as (Result t id op par))
  unfolding Told read_as
  result-told t id op par (tag, small, formed) =
      let f : ℕ → Component = λ x. placed t id no_id no_problem x (length par) in
      by-eq {A = ℕ} (length op) 0 0 0 refl
      (λ z _. subst (λ (o : List ℕ). Told o f) (result-none op par t id z)
      (λ has fits room. glue t (id_then id []) f (result-tagged t tag) has fits room
      (λ b e h w. subst (Reads s t b e) (sym (placed-none t id no_id no_problem e (length par) (result-empty op par formed z))) (none_reads t id tag small h w))))
      (λ z _. let both = both_told op par formed z in
      subst (λ (o : List ℕ). Told o f) (result-both op par t id z)
      (λ has fits room. glue t (id_then id (tlv 0x30 (op ++ par))) f (result-tagged t tag) has fits room
      (λ b e h w.
      let inner = element-length 0x30 (op ++ par) in
      let outer = element-length t (id_then id (tlv 0x30 (op ++ par))) in
      both-reads t id tag small op par (code-told op both.0) both.1 (element-some 14 par both.1) (omega arith) h (omega arith))))

  error-told : (id : ℕ) (err par : List ℕ) → Allowed (Error id err par) → Told (error_octets id err par) (read_as (Error id err par))
  unfolding Told read_as error_octets
  error-told id err par (small, code, formed) has fits room =
      glue error_tag (id_then id (err ++ par)) (λ x. placed error_tag id no_id no_problem x (length par)) error-tagged has fits room
      (λ b e h w. error-reads id err par small (code-told err code) (parameter-told par formed) h (omega (arith, length-append err par)))

  reject-told : (id p : ℕ) → Allowed (Reject id p) → Told (reject_octets id p) (read_as (Reject id p))
  unfolding Told read_as problem_octets
  reject-told id p (most, by) =
      let f : ℕ → Component = λ x. placed reject_tag id no_id p x 0 in
      by-eq {A = ℕ} id no_id 0 0 refl
      (λ z _. subst (λ (o : List ℕ). Told o f) (reject-none id p z)
      (λ has fits room. glue reject_tag (5 ∷ 0 ∷ problem_octets p) f reject-tagged has fits room
      (λ b e h w. subst (Reads s reject_tag b e) (ap (λ (i : ℕ). sound reject_tag i no_id p e 0 0) (sym z) ∙ sym (placed-none reject_tag id no_id p e 0 refl)) (null-reads p by h w))))
      (λ z _. subst (λ (o : List ℕ). Told o f) (reject-some id p z)
      (λ has fits room. glue reject_tag (id_then id (problem_octets p)) f reject-tagged has fits room
      (λ b e h w. subst (Reads s reject_tag b e) (sym (placed-none reject_tag id no_id p e 0 refl)) (reject-reads p by id (omega arith) h w))))

  component-told : (w : Written) → Allowed w → Has s at (octets_of w) → length (octets_of w) < 65536 → at + length (octets_of w) ≤ lim
      → read_as w (at + length (octets_of w)) ≡ component_at s lim at
  unfolding Told octets_of
  component-told (Invoke id linked op par) a = invoke-told id linked op par a
  component-told (Result tag id op par) a = result-told tag id op par a
  component-told (Error id err par) a = error-told id err par a
  component-told (Reject id p) a = reject-told id p a

-- COMPONENTS one after another, to lim
pub octets-some : (w : Written) → 0 < length (octets_of w)
unfolding octets_of invoke_octets result_octets error_octets reject_octets tlv
octets-some (Invoke id linked op par) = omega arith
octets-some (Result tag id op par) = omega arith
octets-some (Error id err par) = omega arith
octets-some (Reject id p) = omega arith

-- the next starts where a sound one ends
next-back : (lim x : ℕ) (w : Written) → x ≡ next_start lim (read_as w x)
unfolding next_start read_as
next-back lim x (Invoke id linked op par) = eq no_fault no_fault x lim refl refl
next-back lim x (Result tag id op par) = eq no_fault no_fault x lim refl refl
next-back lim x (Error id err par) = eq no_fault no_fault x lim refl refl
next-back lim x (Reject id p) = eq no_fault no_fault x lim refl refl

module _ (s : List ℕ) (lim : ℕ) where
  Items : ℕ → ℕ → List Written → List Item → Type 0
  Items n at ws l = AllAllowed ws → Has s at (joined ws) → length (joined ws) < 65536 → at + length (joined ws) ≡ lim → lim - at < n → items_from at ws ≡ l

  -- those after a component that ends at x
  after-back : (n x : ℕ) (ws : List Written) → ((w : Written) (ws : List Written) → Items n x (w ∷ ws) (items s lim n x))
      → Items n x ws (go_on (ltb x lim) (λ _. items s lim n x))
  unfolding Items items_from joined
  after-back n x [] more allowed has fits whole enough =
      ap (λ (t : Bool). go_on t (λ _. items s lim n x)) (sym (le-ltb x lim (omega arith)))
  after-back n x (w ∷ ws) more allowed has fits whole enough =
      let some = octets-some w in
      let sum = length-append (octets_of w) (joined ws) in
      more w ws allowed has fits whole enough
      ∙ ap (λ (t : Bool). go_on t (λ _. items s lim n x)) (sym (lt-ltb x lim (omega arith)))

  items_back : (n at : ℕ) (w : Written) (ws : List Written) → Items n at (w ∷ ws) (items s lim n at)
  unfolding Items items items_from joined
  items_back zero at w ws allowed has fits whole enough = absurd (omega arith)
  items_back (suc n) at w ws allowed has fits whole enough =
      let some = octets-some w in
      let sum = length-append (octets_of w) (joined ws) in
      let x : ℕ = at + length (octets_of w) in
      let c : read_as w x ≡ component_at s lim at =
      component-told s lim at w allowed.0 (has_first (octets_of w) (joined ws) has) (omega arith) (omega arith) in
      let next : x ≡ next_start lim (component_at s lim at) = next-back lim x w ∙ ap (next_start lim) c in
      ap (λ (p : Component). record { start = at; part = p } ∷ items_from x ws) c
      ∙ ap (λ (l : List Item). item s lim at ∷ l)
      (after-back n x ws (items_back n x) allowed.1 (has_rest (octets_of w) (joined ws) has) (omega arith) (omega arith) (omega arith)
      ∙ ap (λ (k : ℕ). go_on (ltb k lim) (λ _. items s lim n k)) next)

  pub components-back : (at : ℕ) (w : Written) (ws : List Written) → AllAllowed (w ∷ ws) → Has s at (joined (w ∷ ws)) → length (joined (w ∷ ws)) < 65536
      → at + length (joined (w ∷ ws)) ≡ lim → items_from at (w ∷ ws) ≡ components s lim at
  unfolding Items components
  components-back at w ws allowed has fits whole = items_back (lim - at + 1) at w ws allowed has fits whole (omega arith)

-- each is sound
read-sound : (w : Written) (x : ℕ) → (read_as w x).fault ≡ no_fault
unfolding read_as
read-sound (Invoke id linked op par) x = refl
read-sound (Result tag id op par) x = refl
read-sound (Error id err par) x = refl
read-sound (Reject id p) x = refl

pub items-sound : (at : ℕ) (ws : List Written) → every is_sound_item (items_from at ws) ≡ true
unfolding items_from every is_sound_item
items-sound at [] = refl
items-sound at (w ∷ ws) =
    let x : ℕ = at + length (octets_of w) in
    sym (yes _ _ _ (eq-eqb (read_as w x).fault no_fault (read-sound w x)) (sym (items-sound x ws)))
