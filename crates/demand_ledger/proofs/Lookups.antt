-- OUR INVOCATION OF AN ID, LOOKED UP BY IT, through every change of a control record: the slots disappear. Assumes nothing.
use Rattle.std.specs.Prelude.{◌≡◌, Bool, true, false, set}
use Rattle.std.proofs.Math.Path.{refl, sym, ap, subst}
use Rattle.std.proofs.Common.{◌∙◌, get_or-set_same, get_or-set_other}
use mathlib.Core.List.{List, [], ◌∷◌, map}
use Prim.Native.Nat.{ℕ, zero, suc, ◌≤◌, ◌<◌}
use native.Mathlib.Omega.{arith}
use Rattle.std.proofs.Math.ListN.{length, get_or-eq_default}
use Rattle.std.proofs.Math.Seq.{set_out}
use borrow.Author.Tests.{eq-eqb, ne_eqb}
use Rattle.laws.specs.If.{if_lt, if_eq, if_b, lt, ge, eq, ne, yes, no, by-lt, by-eq, by-b, true-false}
use Rattle.laws.specs.Lists.{first_at, first-at, first-before}
use Rattle.paper.specs.declared.Component.{Component}
use Rattle.paper.specs.declared.Invocation.{Invocation}
use Rattle.paper.specs.declared.Control.{Control}
use Rattle.paper.specs.declared.Acted.{Acted}
use Rattle.paper.specs.Problems.{kind_of, no_problem}
use Rattle.paper.specs.Components.{not_last_tag}
use Rattle.paper.specs.Invocations.{pending, sent, wait, rejecting, no_invocation, was_shown, is_open, slot_of, idle_slot, invocation_of, state_of, in_state, to_state, to_idle, all_idle, passed, not_last_shown, transmitted, rejecting_ids, all_transmitted, acted, rejected, takes, answer_kind, answer_problem, answers_sent, answers, invokes, released, reject_kind, rejects, faulty_reject, faults, act, may_reject}
use Rattle.paper.specs.Asked.{releases, fault_heard, reject_heard, heard_of}
use Rattle.paper.specs.Dialogues.{rejected_by}
use Rattle.table_laws.specs.Fine.{FineInvocations, FineControl}
use Rattle.table_laws.specs.Invocations.{invocation_nth}
use Rattle.table_laws.proofs.Invocations.{found-open, opens, is_open-ne, idle-free, idle-slot, none-same, at-transmitted}
use Rattle.table_laws.proofs.Keeps.{there, to-idle-fine, sent-fine}
use Rattle.demand_kept.proofs.Leaves.{whether-eq}
use Rattle.demand_kept.specs.Acts.{Readable}
use Rattle.demand_ledger.specs.Lookups.{Turns, sent_as}

-- a number is below another, or not
below : {P : Type 0} (a b : ℕ) → (a < b → P) → (b ≤ a → P) → P
below a b p q = by-lt {r = if_lt a b a b} a b a b refl (λ h z. p h) (λ h z. q h)

-- ONE LOOKED UP, slot by slot
module _ (k : ℕ) where
  look-more : (x : Invocation) (l : List Invocation) → invocation_of (x ∷ l) k ≡ if_b (is_open k x) x (invocation_of l k)
  unfolding invocation_of slot_of first_at
  look-more x l =
      by-b {r = first_at (is_open k) (x ∷ l)} _ _ _ refl
      (λ e z. ap (invocation_nth (x ∷ l)) z ∙ yes _ _ _ e refl)
      (λ e z. ap (invocation_nth (x ∷ l)) z ∙ no _ _ _ e refl)

  look-on : (x : Invocation) (l : List Invocation) → is_open k x ≡ false → invocation_of (x ∷ l) k ≡ invocation_of l k
  look-on x l e = look-more x l ∙ sym (no _ _ _ e refl)

  none-shut : is_open k no_invocation ≡ false
  unfolding is_open
  none-shut = sym (eq _ _ _ _ refl refl)

  none-there : (l : List Invocation) → ((j : ℕ) → is_open k (invocation_nth l j) ≡ false) → invocation_of l k ≡ no_invocation
  unfolding invocation_of
  none-there [] h = refl
  none-there (x ∷ l) h = look-on x l (h 0) ∙ none-there l (λ j. h (suc j))

  -- one in use under the ID, or none at all
  abbrev Under : Invocation → Type 0
  Under v = is_open k v ≡ false → v ≡ no_invocation

  -- A SLOT IS THE ID'S where it holds such a one, and no other slot holds one of the ID
  abbrev Only : List Invocation → ℕ → Type 0
  Only l i = Under (invocation_nth l i) × ((j : ℕ) → (j ≡ i → ⊥) → is_open k (invocation_nth l j) ≡ false)

  looked : (l : List Invocation) (i : ℕ) → Only l i → invocation_of l k ≡ invocation_nth l i
  unfolding invocation_of
  looked [] i o = refl
  looked (x ∷ l) zero o =
      by-b _ _ _ (look-more x l) (λ e z. z) (λ e z. z ∙ none-there l (λ j. o.1 (suc j) (λ q. omega arith)) ∙ sym (o.0 e))
  looked (x ∷ l) (suc i) o = look-on x l (o.1 0 (λ q. omega arith)) ∙ looked l i (o.0, λ j n. o.1 (suc j) (λ q. n (omega arith)))

  -- a slot set that is another ID's before and after
  set_apart : (l : List Invocation) (i : ℕ) (v : Invocation) → is_open k (invocation_nth l i) ≡ false → is_open k v ≡ false → invocation_of (set l i v) k ≡ invocation_of l k
  set_apart [] i v a b = refl
  set_apart (x ∷ l) zero v a b = look-on v l b ∙ sym (look-on x l a)
  set_apart (x ∷ l) (suc i) v a b = look-more x (set l i v) ∙ ap (if_b (is_open k x) x) (set_apart l i v a b) ∙ sym (look-more x l)

  -- past the end there is none
  beyond-shut : (l : List Invocation) (j : ℕ) → length l ≤ j → is_open k (invocation_nth l j) ≡ false
  beyond-shut l j h = ap (is_open k) (get_or-eq_default l no_invocation {n = j} h) ∙ none-shut

  -- one that isn't of the ID
  other-shut : (v : Invocation) → ((v.state ≡ 0 → ⊥) → v.id ≡ k → ⊥) → is_open k v ≡ false
  unfolding is_open
  other-shut v h = by-eq {r = is_open k v} _ _ _ _ refl (λ e z. z) (λ n z. z ∙ ne_eqb v.id k (h n))

  open-under : (v : Invocation) → (v.state ≡ 0 → ⊥) → v.id ≡ k → Under v
  open-under v n e s = absurd (true-false (sym (sym (is_open-ne k v n) ∙ eq-eqb v.id k e) ∙ s))

  -- the slot found is the ID's, as IDs differ
  found-only : (l : List Invocation) → FineInvocations l → Only l (slot_of l k)
  unfolding slot_of
  found-only l f = (under, others)
    where
      i : ℕ
      i = first_at (is_open k) l

      under : Under (invocation_nth l i)
      under =
          below i (length l)
          (λ h e. absurd (true-false (sym (first-at (is_open k) no_invocation l h) ∙ e)))
          (λ h e. get_or-eq_default l no_invocation {n = i} h)

      after : (j : ℕ) → i < j → j < length l → (b : Bool) → is_open k (invocation_nth l j) ≡ b → is_open k (invocation_nth l j) ≡ false
      after j g h false e = e
      after j g h true e =
          let a = opens k (invocation_nth l i) (first-at (is_open k) no_invocation l (omega arith)) in
          let b = opens k (invocation_nth l j) e in
          absurd (f.differ i j g h a.0 b.0 (b.1 ∙ sym a.1))

      others : (j : ℕ) → (j ≡ i → ⊥) → is_open k (invocation_nth l j) ≡ false
      others j n =
          below j i (λ h. first-before (is_open k) no_invocation l j h)
          (λ h. below j (length l) (λ g. after j (omega arith) g (is_open k (invocation_nth l j)) refl) (λ g. beyond-shut l j g))

  -- WHAT IS LOOKED UP is the ID's, or none
  looked-under : (l : List Invocation) → FineInvocations l → Under (invocation_of l k)
  unfolding invocation_of
  looked-under l f = (found-only l f).0

  pub looked-open : (l : List Invocation) → ((invocation_of l k).state ≡ 0 → ⊥) → (invocation_of l k).id ≡ k
  unfolding invocation_of
  looked-open l n =
      below (slot_of l k) (length l) (λ h. (found-open l k h).1)
      (λ h. absurd (n (ap (λ (v : Invocation). v.state) (get_or-eq_default l no_invocation {n = slot_of l k} h))))

  pub looked-idle : (l : List Invocation) → FineInvocations l → (invocation_of l k).state ≡ 0 → invocation_of l k ≡ no_invocation
  looked-idle l f e = looked-under l f (other-shut (invocation_of l k) (λ n. absurd (n e)))

-- A SLOT THAT IS AN ID'S, SET to another of the ID, or none: beyond the end nothing is set
set-lookup : (l : List Invocation) (id i : ℕ) (v : Invocation) → Only id l i → Under id v → (length l ≤ i → v ≡ no_invocation) → Turns l (set l i v) id v
set-lookup l id i v o u b k =
    by-eq {r = if_eq k id v (invocation_of l k)} _ _ _ _ refl
    (λ e z. ap (invocation_of (set l i v)) e ∙ looked id (set l i v) i (under, others) ∙ at ∙ sym z)
    (λ n z. set_apart k l i v (apart n (invocation_nth l i) o.0) (apart n v u) ∙ sym z)
  where
    at : invocation_nth (set l i v) i ≡ v
    at =
        below i (length l) (λ h. get_or-set_same l i v no_invocation h)
        (λ h. ap (λ (m : List Invocation). invocation_nth m i) (set_out l i v h) ∙ get_or-eq_default l no_invocation {n = i} h ∙ sym (b h))

    under : Under id (invocation_nth (set l i v) i)
    under e = at ∙ u (sym (ap (is_open id) at) ∙ e)

    others : (j : ℕ) → (j ≡ i → ⊥) → is_open id (invocation_nth (set l i v) j) ≡ false
    others j n = ap (is_open id) (get_or-set_other l i j v no_invocation n) ∙ o.1 j n

    apart : (k ≡ id → ⊥) → (x : Invocation) → Under id x → is_open k x ≡ false
    apart n x w = go (is_open id x) refl
      where
        go : (t : Bool) → is_open id x ≡ t → is_open k x ≡ false
        go true e = other-shut k x (λ m q. n (sym q ∙ (opens id x e).1))
        go false e = ap (is_open k) (w e) ∙ none-shut k

-- TRANSMITTED, each keeps its ID
same-open : (k : ℕ) (v : Invocation) → is_open k (transmitted v) ≡ is_open k v
unfolding transmitted
same-open k v =
    by-eq {r = transmitted v} _ _ _ _ refl
    (λ e z. ap (is_open k) z ∙ sym (is_open-ne k (in_state v sent) (λ q. omega arith)) ∙ is_open-ne k v (λ q. omega arith)) (λ n z. ap (is_open k) z)

transmitted-under : (k : ℕ) (v : Invocation) → Under k v → Under k (transmitted v)
transmitted-under k v u e = ap transmitted (u (sym (same-open k v) ∙ e)) ∙ none-same

-- SOME GO TO IDLE: what is under an ID afterwards
module _ (k : ℕ) where
  abbrev idled : List ℕ → Invocation → Invocation
  idled [] v = v
  idled (id ∷ ids) v = idled ids (if_eq k id no_invocation v)

  idled-none : (ids : List ℕ) → idled ids no_invocation ≡ no_invocation
  idled-none [] = refl
  idled-none (id ∷ ids) = ap (idled ids) (by-eq {r = if_eq k id no_invocation no_invocation} _ _ _ _ refl (λ e z. z) (λ e z. z)) ∙ idled-none ids

  -- one in Rejecting, and one that isn't
  rejecting-gone : (l : List Invocation) (i : ℕ) (v : Invocation) → (invocation_nth l i).state ≡ rejecting → (invocation_nth l i).id ≡ k → idled (rejecting_ids l) v ≡ no_invocation
  unfolding rejecting_ids
  rejecting-gone [] i v e q = absurd (omega arith)
  rejecting-gone (x ∷ l) zero v e q =
      sym (ap (λ (ids : List ℕ). idled ids v) (eq _ _ _ _ e refl)) ∙ ap (idled (rejecting_ids l)) (sym (eq _ _ _ _ (sym q) refl)) ∙ idled-none (rejecting_ids l)
  rejecting-gone (x ∷ l) (suc i) v e q =
      by-eq {r = rejecting_ids (x ∷ l)} _ _ _ _ refl
      (λ a z. ap (λ (ids : List ℕ). idled ids v) z ∙ rejecting-gone l i _ e q) (λ a z. ap (λ (ids : List ℕ). idled ids v) z ∙ rejecting-gone l i v e q)

  others-stay : (l : List Invocation) (v : Invocation) → ((i : ℕ) → (invocation_nth l i).state ≡ rejecting → (invocation_nth l i).id ≡ k → ⊥) → idled (rejecting_ids l) v ≡ v
  unfolding rejecting_ids
  others-stay [] v h = refl
  others-stay (x ∷ l) v h =
      by-eq {r = rejecting_ids (x ∷ l)} _ _ _ _ refl
      (λ a z. ap (λ (ids : List ℕ). idled ids v) z ∙ ap (idled (rejecting_ids l)) (sym (ne _ _ _ _ (λ q. h 0 a (sym q)) refl)) ∙ others-stay l v (λ i. h (suc i)))
      (λ a z. ap (λ (ids : List ℕ). idled ids v) z ∙ others-stay l v (λ i. h (suc i)))

-- "User reject of a result: Wait, or Sent ..; of an error: Wait": of one in use
rejectable : (kind : ℕ) (v : Invocation) → (kind ≡ 1 → ⊥) → may_reject kind v ≡ true → v.state ≡ 0 → ⊥
unfolding may_reject
rejectable kind v n m e =
    by-eq _ _ _ _ (sym m) (λ a z. n a)
    (λ a z. by-eq _ _ _ _ z (λ b z. omega arith)
    (λ b z. by-eq _ _ _ _ z (λ d z. by-eq _ _ _ _ z (λ g z. omega arith) (λ g z. true-false z)) (λ d z. true-false z)))

-- EACH CHANGE of a control record
module _ (c : Control) (f : FineControl c) where
  -- our invocation of an ID, and what becomes of it
  abbrev ours : ℕ → Invocation
  ours id = invocation_of c.invocations id

  abbrev Goes : Control → ℕ → Invocation → Type 0
  Goes d id v = Turns c.invocations d.invocations id v

  goes : (id : ℕ) {d e : Control} {v w : Invocation} → d ≡ e → v ≡ w → Goes e id v → Goes d id w
  goes id {d} {e} {v} {w} z y g = subst (λ (x : Control). Goes x id w) (sym z) (subst (Goes e id) y g)

  pub same-lookup : (id : ℕ) → Goes c id (ours id)
  same-lookup id k = by-eq {r = if_eq k id (ours id) (ours k)} _ _ _ _ refl (λ e z. ap ours e ∙ sym z) (λ n z. sym z)

  pub idle-lookup : (id : ℕ) → Goes (to_idle c id) id no_invocation
  unfolding to_idle
  idle-lookup id = set-lookup c.invocations id _ no_invocation (found-only id _ f.invocations) (λ e. refl) (λ h. refl)

  -- one in use, changed
  change-lookup : (id : ℕ) (v : Invocation) → (state_of c id ≡ 0 → ⊥) → (v.state ≡ 0 → ⊥) → v.id ≡ (ours id).id
      → Turns c.invocations (set c.invocations (slot_of c.invocations id) v) id v
  change-lookup id v n m e =
      set-lookup c.invocations id _ v (found-only id _ f.invocations) (open-under id v m (e ∙ looked-open id c.invocations n))
      (λ h. absurd (omega (arith, there c f id n, f.eight)))

  pub state-lookup : (id state : ℕ) → (state_of c id ≡ 0 → ⊥) → (state ≡ 0 → ⊥) → Goes (to_state c id state) id (in_state (ours id) state)
  unfolding to_state
  state-lookup id state n m = change-lookup id _ n m refl

  pub shown-lookup : (id : ℕ) → (state_of c id ≡ 0 → ⊥) → Goes (not_last_shown c id) id (was_shown (ours id))
  unfolding not_last_shown
  shown-lookup id n = change-lookup id _ n n refl

  pub passed-lookup : (id class : ℕ) → state_of c id ≡ 0 → idle_slot c.invocations < 8
      → Goes (passed c id class) id (record { id = id; class = class; state = pending; shown = 0 })
  unfolding passed
  passed-lookup id class e h =
      let l : List Invocation = c.invocations in
      let g : idle_slot l < length l = omega (arith, f.eight) in
      set-lookup l id _ _ (
        λ s. (f.invocations.each (idle_slot l) g).unused (idle-slot l g),
        λ j n. below j (length l) (λ b. other-shut id (invocation_nth l j) (idle-free l id e j b)) (beyond-shut id l j),
      )
      (open-under id _ (λ q. omega arith) refl) (λ b. absurd (omega arith))

  pub rejected-lookup : (id p : ℕ) → may_reject (kind_of p) (ours id) ≡ true
      → Goes (rejected_by c id p) id (if_eq (kind_of p) 1 (ours id) (in_state (ours id) rejecting))
  unfolding rejected_by
  rejected-lookup id p m =
      by-eq {r = rejected_by c id p} _ _ _ _ refl (λ e z. goes id z (eq _ _ _ _ e refl) (same-lookup id))
      (λ n z. goes id z (ne _ _ _ _ n refl) (state-lookup id rejecting (rejectable _ (ours id) n m) (λ q. omega arith)))

  -- "Sent to Idle, other states unchanged"
  pub released-lookup : (id : ℕ) → Goes (released c id) id (releases (ours id))
  unfolding released releases
  released-lookup id =
      by-eq {r = released c id} _ _ _ _ refl (λ e z. goes id z (eq _ _ _ _ e refl) (idle-lookup id)) (λ n z. goes id z (ne _ _ _ _ n refl) (same-lookup id))

-- A SENDING
all-idle-lookup : (k : ℕ) (ids : List ℕ) (c : Control) → FineControl c → invocation_of (all_idle c ids).invocations k ≡ idled k ids (invocation_of c.invocations k)
unfolding all_idle
all-idle-lookup k [] c f = refl
all-idle-lookup k (id ∷ ids) c f = all-idle-lookup k ids (to_idle c id) (to-idle-fine c f id) ∙ ap (idled k ids) (idle-lookup c f id k)

module _ (c : Control) (f : FineControl c) (k : ℕ) where
  abbrev slots : List Invocation
  slots = c.invocations

  pending-lookup : invocation_of (map transmitted slots) k ≡ transmitted (invocation_of slots k)
  unfolding invocation_of
  pending-lookup =
      let o = found-only k slots f.invocations in
      looked k (map transmitted slots) (slot_of slots k) (
        subst (Under k) (sym (at-transmitted slots (slot_of slots k))) (transmitted-under k _ o.0),
        λ j n. ap (is_open k) (at-transmitted slots j) ∙ same-open k _ ∙ o.1 j n,
      )
      ∙ at-transmitted slots (slot_of slots k)

  idled-is : idled k (rejecting_ids slots) (transmitted (invocation_of slots k)) ≡ sent_as (invocation_of slots k)
  unfolding sent_as invocation_of
  idled-is =
      let o = found-only k slots f.invocations in
      by-eq {r = sent_as (invocation_of slots k)} _ _ _ _ refl
      (λ e z. rejecting-gone k slots (slot_of slots k) _ e (looked-open k slots (λ q. omega arith)) ∙ sym z)
      (λ e z. others-stay k slots _ (λ i a q. other o e i a q) ∙ sym z)
    where
      other : Only k slots (slot_of slots k) → ((invocation_nth slots (slot_of slots k)).state ≡ rejecting → ⊥) → (i : ℕ) → (invocation_nth slots i).state ≡ rejecting → (invocation_nth slots i).id ≡ k → ⊥
      other o e i a q =
          by-eq {A = ℕ} i (slot_of slots k) 0 0 refl (λ j _. e (ap (λ (j : ℕ). (invocation_nth slots j).state) (sym j) ∙ a))
          (λ j _. true-false (sym (sym (is_open-ne k (invocation_nth slots i) (λ z. omega arith)) ∙ eq-eqb (invocation_nth slots i).id k q) ∙ o.1 i j))

  pub transmitted-lookup : invocation_of (all_transmitted c).invocations k ≡ sent_as (invocation_of slots k)
  unfolding all_transmitted
  transmitted-lookup = all-idle-lookup k (rejecting_ids slots) _ (sent-fine c f) ∙ ap (idled k (rejecting_ids slots)) pending-lookup ∙ idled-is

-- "A7 stays Sent; A2, A3 to Wait", by what a class takes
module _ (class tag : ℕ) where
  not-one : (a b : ℕ) {r : ℕ} → r ≡ if_eq class a 2 (if_eq class b 2 0) → r ≡ 1 → ⊥
  not-one a b z e = by-eq _ _ _ _ z (λ q z. omega arith) (λ q z. by-eq _ _ _ _ z (λ q z. omega arith) (λ q z. omega arith))

  takes-stays : takes class tag ≡ 1 → tag ≡ not_last_tag
  unfolding takes
  takes-stays e =
      by-eq {r = takes class tag} _ _ _ _ refl (λ a z. a)
      (λ a z. by-eq _ _ _ _ z (λ b z. absurd (not-one 1 3 z e)) (λ b z. absurd (not-one 1 2 z e)))

  takes-waits : (takes class tag ≡ 0 → ⊥) → (takes class tag ≡ 1 → ⊥) → tag ≡ not_last_tag → ⊥
  unfolding takes
  takes-waits n m e =
      by-eq {r = takes class tag} _ _ _ _ refl (λ a z. by-eq _ _ _ _ z (λ b z. m z) (λ b z. by-eq _ _ _ _ z (λ d z. m z) (λ d z. n z))) (λ a z. a e)

-- WHAT A COMPONENT TELLS is what becomes of our invocation of its ID
module _ (room : ℕ) (c : Control) (f : FineControl c) (p : Component) where
  abbrev mine : Invocation
  mine = invocation_of c.invocations p.id

  abbrev Heard : Acted → Type 0
  Heard a = Turns c.invocations a.control.invocations p.id (heard_of a.kind a.problem p mine)

  hears : {a : Acted} (d : Control) (kind q : ℕ) (v : Invocation) → a ≡ acted d kind q → v ≡ heard_of kind q p mine
      → Turns c.invocations d.invocations p.id v → Heard a
  hears d kind q v z e g = subst Heard (sym z) (subst (Turns c.invocations d.invocations p.id) e g)

  -- of the rows for rejects
  reject-heard : (kind q : ℕ) → 11 ≤ kind → if_lt kind 13 (if_lt (kind_of q) 2 (releases mine) mine) (reject_heard q p mine) ≡ heard_of kind q p mine
  unfolding heard_of
  reject-heard kind q h =
      ne _ _ _ _ (λ e. omega arith) (ne _ _ _ _ (λ e. omega arith) (ne _ _ _ _ (λ e. omega arith) (ne _ _ _ _ (λ e. omega arith) refl)))

  -- by a reject of ours, stored or not
  own-heard : (kind q : ℕ) → 13 ≤ kind → reject_heard q p mine ≡ heard_of kind q p mine
  own-heard kind q h = ge _ _ _ _ h refl ∙ reject-heard kind q (omega arith)

  own-hears : {a : Acted} (d : Control) (q : ℕ) (v : Invocation) → a ≡ rejected room d p.id q → v ≡ reject_heard q p mine
      → Turns c.invocations d.invocations p.id v → Heard a
  unfolding rejected
  own-hears d q v z e g =
      by-lt _ _ _ _ z (λ h z. hears _ 13 q v z (e ∙ own-heard 13 q (omega arith)) g) (λ h z. hears _ 14 q v z (e ∙ own-heard 14 q (omega arith)) g)

  -- of a sound component, other than the result or error code 1
  sound-heard : (q : ℕ) → p.fault ≡ 3 → (q ≡ 513 → ⊥) → (q ≡ 769 → ⊥) → mine ≡ reject_heard q p mine
  unfolding reject_heard
  sound-heard q h a b = ne _ _ _ _ a (ne _ _ _ _ b (eq _ _ _ _ h refl))

  fault-heard : p.fault < 3 → fault_heard p mine ≡ reject_heard p.fault p mine
  unfolding reject_heard
  fault-heard h = ne _ _ _ _ (λ e. omega arith) (ne _ _ _ _ (λ e. omega arith) (ne _ _ _ _ (λ e. omega arith) refl))

  invoke-heard : mine ≡ heard_of 7 no_problem p mine
  unfolding heard_of
  invoke-heard = eq _ _ _ _ refl refl

  invokes-hears : {a : Acted} → p.fault ≡ 3 → a ≡ invokes room c p.id p.linked → Heard a
  unfolding invokes
  invokes-hears h z =
      let g = same-lookup c f p.id in
      by-eq _ _ _ _ z (λ e z. hears c _ _ _ z invoke-heard g)
      (λ e z. by-eq _ _ _ _ z (λ b z. hears c _ _ _ z invoke-heard g)
      (λ b z. own-hears c _ _ z (sound-heard 261 h (λ q. omega arith) (λ q. omega arith)) g))

  -- 11 or 12
  reject-kind : (q : ℕ) → (11 ≤ reject_kind q) × (reject_kind q < 13)
  unfolding reject_kind
  reject-kind q = whether-eq (λ (n : ℕ). (11 ≤ n) × (n < 13)) _ _ _ _ (omega arith, omega arith) (omega arith, omega arith)

  rejects-hears : {a : Acted} → a ≡ rejects c p.id p.problem → Heard a
  unfolding rejects
  rejects-hears z =
      let q : ℕ = p.problem in
      let k = reject-kind q in
      let e = lt _ _ _ _ k.1 refl ∙ reject-heard (reject_kind q) q k.0 in
      by-lt _ _ _ _ z (λ h z. hears _ _ q _ z (lt _ _ _ _ h refl ∙ e) (released-lookup c f p.id))
      (λ h z. hears c _ q _ z (ge _ _ _ _ h refl ∙ e) (same-lookup c f p.id))

  faults-hears : {a : Acted} → p.fault < 3 → a ≡ faults room c p → Heard a
  unfolding faults faulty_reject fault_heard
  faults-hears h z =
      let g = same-lookup c f p.id in
      let r = released-lookup c f p.id in
      let w = fault-heard h in
      by-eq _ _ _ _ z
      (λ a z. by-eq _ _ _ _ z
      (λ b z. hears c 14 _ _ z (eq _ _ _ _ a (eq _ _ _ _ b refl) ∙ w ∙ own-heard 14 _ (omega arith)) g)
      (λ b z. hears _ 14 _ _ z (eq _ _ _ _ a (ne _ _ _ _ b refl) ∙ w ∙ own-heard 14 _ (omega arith)) r))
      (λ a z. by-b _ _ _ z
      (λ b z. own-hears _ _ _ z (ne _ _ _ _ a (yes _ _ _ b refl) ∙ w) r)
      (λ b z. own-hears _ _ _ z (ne _ _ _ _ a (no _ _ _ b refl) ∙ w) g))

  shown-heard : p.tag ≡ not_last_tag → was_shown mine ≡ heard_of (answer_kind p.tag) no_problem p mine
  unfolding answer_kind heard_of
  shown-heard e =
      let z : answer_kind p.tag ≡ 9 = sym (ne _ _ _ _ (λ q. omega arith) (eq _ _ _ _ e refl)) in
      rw z (ne _ _ _ _ (λ q. omega arith) (ne _ _ _ _ (λ q. omega arith) (eq _ _ _ _ refl refl)))

  wait-heard : (p.tag ≡ not_last_tag → ⊥) → in_state mine wait ≡ heard_of (answer_kind p.tag) no_problem p mine
  unfolding answer_kind heard_of
  wait-heard n =
      by-eq {r = answer_kind p.tag} _ _ _ _ refl
      (λ a z. rw z (ne _ _ _ _ (λ q. omega arith) (eq _ _ _ _ refl refl)))
      (λ a z. by-eq _ _ _ _ z (λ b z. absurd (n b))
      (λ b z. rw z (ne _ _ _ _ (λ q. omega arith) (ne _ _ _ _ (λ q. omega arith) (ne _ _ _ _ (λ q. omega arith) (eq _ _ _ _ refl refl))))))

  -- "rejected and Idle"
  wrong-heard : (tag : ℕ) → no_invocation ≡ reject_heard (answer_problem tag 1) p mine
  unfolding answer_problem reject_heard
  wrong-heard tag = whether-eq (λ (q : ℕ). no_invocation ≡ reject_heard q p mine) _ _ _ _ (ne _ _ _ _ (λ e. omega arith) (eq _ _ _ _ refl refl)) (eq _ _ _ _ refl refl)

  -- "rejected with code 0, no change"
  late-heard : (tag : ℕ) → p.fault ≡ 3 → mine ≡ reject_heard (answer_problem tag 0) p mine
  unfolding answer_problem
  late-heard tag h =
      whether-eq (λ (q : ℕ). mine ≡ reject_heard q p mine) _ _ _ _ (sound-heard 768 h (λ e. omega arith) (λ e. omega arith)) (sound-heard 512 h (λ e. omega arith) (λ e. omega arith))

  answers-hears : {a : Acted} → p.fault ≡ 3 → a ≡ answers room c p.tag p.id → Heard a
  unfolding answers answers_sent
  answers-hears h z =
      by-eq _ _ _ _ z
      (λ e z. by-eq _ _ _ _ z (λ a z. own-hears _ _ _ z (wrong-heard p.tag) (idle-lookup c f p.id))
      (λ a z. by-eq _ _ _ _ z
      (λ b z. hears _ _ _ _ z (shown-heard (takes-stays _ _ b)) (shown-lookup c f p.id (λ q. omega arith)))
      (λ b z. hears _ _ _ _ z (wait-heard (takes-waits _ _ a b)) (state-lookup c f p.id wait (λ q. omega arith) (λ q. omega arith)))))
      (λ e z. own-hears c _ _ z (late-heard p.tag h) (same-lookup c f p.id))

  act-hears : Readable p → Heard (act room c p)
  unfolding act
  act-hears g =
      by-eq {r = act room c p} _ _ _ _ refl
      (λ a z. by-eq _ _ _ _ z (λ b z. invokes-hears a z) (λ b z. by-eq _ _ _ _ z (λ d z. rejects-hears z) (λ d z. answers-hears a z)))
      (λ a z. faults-hears (omega (arith, g.code)) z)

  pub act-lookup : Readable p → (k : ℕ)
      → invocation_of (act room c p).control.invocations k
      ≡ if_eq k p.id (heard_of (act room c p).kind (act room c p).problem p (invocation_of c.invocations k)) (invocation_of c.invocations k)
  act-lookup g k =
      by-eq {r = invocation_of (act room c p).control.invocations k} _ _ _ _ (act-hears g k)
      (λ e z. eq _ _ _ _ e (z ∙ ap (λ (i : ℕ). heard_of (act room c p).kind (act room c p).problem p (invocation_of c.invocations i)) (sym e)))
      (λ n z. ne _ _ _ _ n z)
