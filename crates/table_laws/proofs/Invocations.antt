-- EACH CHANGE OF AN INVOCATION KEEPS THE RULES (01, table rules: "invocations not in use are zero", "invoke IDs within a dialogue differ"). Assumes nothing.
use Rattle.std.specs.Prelude.{◌≡◌, refl, Bool, true, false, List, map, ℕ, ◌≤◌, ◌<◌, eqb, ltb, length, get_or, set}
use Rattle.std.proofs.Common.{sym, ap, subst, ◌∙◌, arith, eqb-true, ltb-true, ltb-false, eq-eqb, length-set, get_or-set_same, get_or-set_other}
use Rattle.std.proofs.lemmas.Bool.{eqb-false}
use Rattle.std.proofs.lemmas.List.{length-map}
use Rattle.std.proofs.Math.ListN.{get_or-map}
use Rattle.laws.specs.If.{ne, by-eq, true-false}
use Rattle.laws.specs.Lists.{first_at, first-at, first-before}
use Rattle.paper.specs.declared.Invocation.{Invocation}
use Rattle.paper.specs.Invocations.{no_invocation, is_open, is_idle, slot_of, idle_slot, invocation_of, transmitted}
use Rattle.table_laws.specs.Fine.{FineInvocation, FineInvocations}
use Rattle.table_laws.specs.Invocations.{invocation_nth, Apart}

-- the one in Idle
pub none-fine : FineInvocation no_invocation
none-fine = record { state = omega arith; least = λ h. absurd (h refl); class = omega arith; shown = omega arith; unused = λ h. refl }

-- ONE REPLACED: it is in range, and its ID is no other's
pub set-fine : (l : List Invocation) (i : ℕ) (v : Invocation) → FineInvocations l → FineInvocation v → Apart l i v → FineInvocations (set l i v)
set-fine l i v f g a = record { each = each; differ = differ }
  where
    at : (j : ℕ) → j < length l → (b : Bool) → eqb j i ≡ b → (P : Invocation → Type 0) → (j ≡ i → P v) → ((j ≡ i → ⊥) → P (invocation_nth l j)) → P (invocation_nth (set l i v) j)
    at j h true e P p q =
        let s : j ≡ i = eqb-true j i e in
        subst P (sym (ap (λ (k : ℕ). invocation_nth (set l i v) k) s ∙ get_or-set_same l i v no_invocation (omega arith))) (p s)
    at j h false e P p q = subst P (sym (get_or-set_other l i j v no_invocation (eqb-false j i e))) (q (eqb-false j i e))

    each : (j : ℕ) → j < length (set l i v) → FineInvocation (invocation_nth (set l i v) j)
    each j h = let n : j < length l = omega (arith, length-set l i v) in at j n (eqb j i) refl FineInvocation (λ e. g) (λ e. f.each j n)

    differ :
        (j k : ℕ) → j < k → k < length (set l i v) → ((invocation_nth (set l i v) j).state ≡ 0 → ⊥) → ((invocation_nth (set l i v) k).state ≡ 0 → ⊥)
        → (invocation_nth (set l i v) k).id ≡ (invocation_nth (set l i v) j).id → ⊥
    differ j k lt h =
        let n : k < length l = omega (arith, length-set l i v) in
        let m : j < length l = omega arith in
        at j m (eqb j i) refl (λ (x : Invocation). (x.state ≡ 0 → ⊥) → ((invocation_nth (set l i v) k).state ≡ 0 → ⊥) → (invocation_nth (set l i v) k).id ≡ x.id → ⊥)
        (λ e. at k n (eqb k i) refl (λ (y : Invocation). (v.state ≡ 0 → ⊥) → (y.state ≡ 0 → ⊥) → y.id ≡ v.id → ⊥)
        (λ d. absurd (omega arith)) (λ d p q r. a p k d n q r))
        (λ e. at k n (eqb k i) refl (λ (y : Invocation). ((invocation_nth l j).state ≡ 0 → ⊥) → (y.state ≡ 0 → ⊥) → y.id ≡ (invocation_nth l j).id → ⊥)
        (λ d p q r. a q j e m p (sym r)) (λ d p q r. f.differ j k lt n p q r))

-- to Idle, whatever it was
pub idle-fine : (l : List Invocation) (i : ℕ) → FineInvocations l → FineInvocations (set l i no_invocation)
idle-fine l i f = set-fine l i no_invocation f none-fine (λ h. absurd (h refl))

-- one of the list changed in its state and mark only
pub same-id-fine :
    (l : List Invocation) (i : ℕ) (v : Invocation) → FineInvocations l → i < length l → ((invocation_nth l i).state ≡ 0 → ⊥) → FineInvocation v → v.id ≡ (invocation_nth l i).id
    → FineInvocations (set l i v)
same-id-fine l i v f h u g e = set-fine l i v f g (λ p j d n q r. other j d n q (r ∙ e) (ltb j i) refl)
  where
    other : (j : ℕ) → (j ≡ i → ⊥) → j < length l → ((invocation_nth l j).state ≡ 0 → ⊥) → (invocation_nth l j).id ≡ (invocation_nth l i).id → (b : Bool) → ltb j i ≡ b → ⊥
    other j d n q r true w = f.differ j i (ltb-true j i w) h q u (sym r)
    other j d n q r false w = let ge : i ≤ j = ltb-false j i w in f.differ i j (omega arith) n u q r

-- FOUND: what is found under an ID has it, and is none in Idle
pub opens : (id : ℕ) (v : Invocation) → is_open id v ≡ true → (v.state ≡ 0 → ⊥) × (v.id ≡ id)
unfolding is_open
opens id v e = by-eq _ _ _ _ (sym e) (λ z w. absurd (true-false w)) (λ z w. (z, eqb-true v.id id (sym w)))

pub found-open : (l : List Invocation) (id : ℕ) → slot_of l id < length l → ((invocation_nth l (slot_of l id)).state ≡ 0 → ⊥) × ((invocation_nth l (slot_of l id)).id ≡ id)
unfolding slot_of
found-open l id h = opens id (invocation_nth l (first_at (is_open id) l)) (first-at (is_open id) no_invocation l h)

pub is_open-ne : (id : ℕ) (v : Invocation) → (v.state ≡ 0 → ⊥) → eqb v.id id ≡ is_open id v
unfolding is_open
is_open-ne id v n = ne v.state 0 false (eqb v.id id) n refl

slot_is : (l : List Invocation) (id : ℕ) → slot_of l id ≡ first_at (is_open id) l
unfolding slot_of
slot_is l id = refl

-- an ID in Idle is nobody's
pub idle-free : (l : List Invocation) (id : ℕ) → (invocation_of l id).state ≡ 0 → (j : ℕ) → j < length l → ((invocation_nth l j).state ≡ 0 → ⊥) → (invocation_nth l j).id ≡ id → ⊥
unfolding invocation_of
idle-free l id e j h u q = go (ltb (slot_of l id) (length l)) refl
  where
    shut : slot_of l id ≡ first_at (is_open id) l → length l ≤ slot_of l id → ⊥
    shut s g = true-false (sym (open_is (invocation_nth l j) u q) ∙ first-before (is_open id) no_invocation l j (omega arith))
      where
        open_is : (v : Invocation) → (v.state ≡ 0 → ⊥) → v.id ≡ id → is_open id v ≡ true
        open_is v n w = sym (is_open-ne id v n) ∙ eq-eqb v.id id w

    go : (b : Bool) → ltb (slot_of l id) (length l) ≡ b → ⊥
    go true w = (found-open l id (ltb-true (slot_of l id) (length l) w)).0 e
    go false w = shut (slot_is l id) (ltb-false (slot_of l id) (length l) w)

-- the slot for a new one is in Idle
pub idle-slot : (l : List Invocation) → idle_slot l < length l → (invocation_nth l (idle_slot l)).state ≡ 0
unfolding idle_slot is_idle
idle-slot l h = eqb-true (invocation_nth l (first_at is_idle l)).state 0 (first-at is_idle no_invocation l h)

-- PASSED: a new one, of an ID in Idle
pub pass-fine :
    (l : List Invocation) (id class : ℕ) → FineInvocations l → (invocation_of l id).state ≡ 0 → 1 ≤ class → class ≤ 4
    → FineInvocations (set l (idle_slot l) (record { id = id; class = class; state = 1; shown = 0 }))
pass-fine l id class f e a b =
    set-fine l (idle_slot l) (record { id = id; class = class; state = 1; shown = 0 }) f
    (record { state = omega arith; least = λ h. a; class = b; shown = omega arith; unused = λ h. absurd (omega arith) })
    (λ p j d n q r. idle-free l id e j n q r)

-- TRANSMITTED: every one of them
transmitted-fine : (v : Invocation) → FineInvocation v → FineInvocation (transmitted v)
unfolding transmitted
transmitted-fine v f =
    by-eq {r = transmitted v} _ _ _ _ refl
    (λ e z. subst FineInvocation (sym z)
    (record { state = omega arith; least = λ h. f.least (λ z. omega arith); class = f.class; shown = f.shown; unused = λ h. absurd (omega arith) }))
    (λ e z. subst FineInvocation (sym z) f)

-- one in use was in use, under the same ID
transmitted-same : (v : Invocation) → ((transmitted v).state ≡ 0 → ⊥) → (v.state ≡ 0 → ⊥) × ((transmitted v).id ≡ v.id)
unfolding transmitted
transmitted-same v u =
    by-eq {r = transmitted v} _ _ _ _ refl
    (λ e w. (λ z. absurd (omega arith), ap (λ (x : Invocation). x.id) w))
    (λ n w. (λ q. u (ap (λ (x : Invocation). x.state) w ∙ q), ap (λ (x : Invocation). x.id) w))

pub none-same : transmitted no_invocation ≡ no_invocation
unfolding transmitted
none-same = sym (ne _ _ _ _ (λ h. omega arith) refl)

pub at-transmitted : (l : List Invocation) (j : ℕ) → invocation_nth (map transmitted l) j ≡ transmitted (invocation_nth l j)
at-transmitted l j = sym (ap (get_or (map transmitted l) j) none-same) ∙ get_or-map transmitted l j no_invocation

pub all-transmitted-fine : (l : List Invocation) → FineInvocations l → FineInvocations (map transmitted l)
all-transmitted-fine l f = record { each = each; differ = differ }
  where
    each : (j : ℕ) → j < length (map transmitted l) → FineInvocation (invocation_nth (map transmitted l) j)
    each j h = subst FineInvocation (sym (at-transmitted l j)) (transmitted-fine (invocation_nth l j) (f.each j (omega (arith, length-map l transmitted))))

    differ :
        (j k : ℕ) → j < k → k < length (map transmitted l) → ((invocation_nth (map transmitted l) j).state ≡ 0 → ⊥) → ((invocation_nth (map transmitted l) k).state ≡ 0 → ⊥)
        → (invocation_nth (map transmitted l) k).id ≡ (invocation_nth (map transmitted l) j).id → ⊥
    differ j k lt h p q r =
        let a = transmitted-same (invocation_nth l j) (λ z. p (ap (λ (x : Invocation). x.state) (at-transmitted l j) ∙ z)) in
        let b = transmitted-same (invocation_nth l k) (λ z. q (ap (λ (x : Invocation). x.state) (at-transmitted l k) ∙ z)) in
        f.differ j k lt (omega (arith, length-map l transmitted)) a.0 b.0
        (sym (ap (λ (x : Invocation). x.id) (at-transmitted l k) ∙ b.1) ∙ r ∙ ap (λ (x : Invocation). x.id) (at-transmitted l j) ∙ a.1)
