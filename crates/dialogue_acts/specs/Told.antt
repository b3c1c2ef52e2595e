-- WHAT A COMPONENT DOES, told in few numbers, so that a dialogue's control record is copied only where it changes. Assumes nothing.
use Rattle.std.specs.Prelude.{◌≡◌, ℕ, ◌<◌, ◌≤◌, Option, Some, None}
use Rattle.std.proofs.Math.Path.{refl, sym, ap}
use Rattle.std.proofs.Common.{◌∙◌, arith}
use mathlib.Core.List.{List}
use Rattle.std.proofs.Math.ListN.{get_or}
use Rattle.laws.specs.If.{if_lt, if_eq, lt, ge, eq, ne, by-lt, by-eq}
use Rattle.paper.specs.declared.Control.{Control}
use Rattle.paper.specs.declared.Invocation.{Invocation}
use Rattle.paper.specs.declared.Acted.{Acted}
use Rattle.paper.specs.Sizes.{most_invocations}
use Rattle.paper.specs.Kinds.{row_rejected, row_not_stored}
use Rattle.paper.specs.Problems.{no_problem}
use Rattle.paper.specs.Invocations.{idle, sent, wait, no_invocation, slot_of, invocation_of, state_of, with_invocation, with_reject, in_state, was_shown, to_state, to_idle, not_last_shown, acted, rejected, takes, answer_kind, answer_problem, answers_sent, released}
use Rattle.dialogue_acts.specs.declared.Told.{Told}
use Rattle.dialogue_acts.specs.declared.Taken.{Taken}

-- the kind of the row of a reject of ours: it waits, or isn't stored
unfoldable pub stored_kind : ℕ → ℕ → ℕ
stored_kind room count = if_lt count room row_rejected row_not_stored

-- what becomes of an answer, as the document numbers it
abbrev pub taken : Taken → ℕ
taken Taken.Rejected = 0
taken Taken.StaysSent = 1
taken Taken.Waits = 2

-- our invocation of its ID put, or to Idle; past the last slot, none changes
unfoldable pub put_in : Control → ℕ → Option (ℕ × Invocation) → Control
put_in c id None = c
put_in c id (Some p) = if_lt p.0 most_invocations (if_eq p.1.state idle (to_idle c id) (with_invocation c p.0 p.1)) c

abbrev pub turned : Control → ℕ → Told → Control
turned c id t = put_in c id t.put

-- the control record after it: where the kind is 13, a reject waits besides
unfoldable pub changed : Control → ℕ → Told → Control
changed c id t = if_eq t.kind row_rejected (with_reject (turned c id t) (record { id = id; problem = t.problem })) (turned c id t)

abbrev pub does : Control → ℕ → Told → Acted
does c id t = acted (changed c id t) t.kind t.problem

module _ (c : Control) (id : ℕ) where
  pub turned_none : (o : Option (ℕ × Invocation)) → o ≡ None → c ≡ put_in c id o
  unfolding put_in
  turned_none o e = ap (put_in c id) (sym e)

  module _ (o : Option (ℕ × Invocation)) (i : ℕ) (v : Invocation) (e : o ≡ Some (i, v)) where
    pub turned-out : 8 ≤ i → c ≡ put_in c id o
    unfolding put_in
    turned-out h = ge _ _ _ _ h refl ∙ ap (put_in c id) (sym e)

    pub turned-idle : i < 8 → v.state ≡ 0 → to_idle c id ≡ put_in c id o
    unfolding put_in
    turned-idle h z = lt _ _ _ _ h (eq _ _ _ _ z refl) ∙ ap (put_in c id) (sym e)

    pub turned-some : i < 8 → (v.state ≡ 0 → ⊥) → with_invocation c i v ≡ put_in c id o
    unfolding put_in
    turned-some h n = lt _ _ _ _ h (ne _ _ _ _ n refl) ∙ ap (put_in c id) (sym e)

  pub turned-count : (o : Option (ℕ × Invocation)) (d : Control) → d ≡ put_in c id o → d.count ≡ c.count
  unfolding put_in to_idle
  turned-count None d e = ap (λ (d : Control). d.count) e
  turned-count (Some p) d e =
      by-lt _ _ _ _ e (λ h e. by-eq _ _ _ _ e (λ h e. ap (λ (d : Control). d.count) e) (λ h e. ap (λ (d : Control). d.count) e)) (λ h e. ap (λ (d : Control). d.count) e)

-- one that is shown, and one that is rejected
module _ (c d : Control) (id : ℕ) (t : Told) (put : d ≡ turned c id t) where
  pub told-shown : (t.kind ≡ 13 → ⊥) → does c id t ≡ acted d t.kind t.problem
  unfolding changed
  told-shown n = ap (λ (x : Control). acted x t.kind t.problem) (sym (ne _ _ _ _ n put))

  pub told-as : (k p : ℕ) → t.kind ≡ k → t.problem ≡ p → (k ≡ 13 → ⊥) → does c id t ≡ acted d k p
  told-as k p i j n = told-shown (λ z. n (sym i ∙ z)) ∙ ap (λ (k : ℕ). acted d k t.problem) i ∙ ap (acted d k) j

  pub told-stored : (room : ℕ) → t.kind ≡ stored_kind room c.count → does c id t ≡ rejected room d id t.problem
  unfolding changed stored_kind rejected
  told-stored room k =
      let n : d.count ≡ c.count = turned-count c id t.put d put in
      by-lt _ _ _ _ k
      (λ h q. lt _ _ _ _ (omega arith)
      (ap (λ (x : Control). acted x t.kind t.problem) (sym (eq _ _ _ _ q (ap (λ (x : Control). with_reject x (record { id = id; problem = t.problem })) put)))
      ∙ ap (λ (k : ℕ). acted (with_reject d (record { id = id; problem = t.problem })) k t.problem) q))
      (λ h q. ge _ _ _ _ (omega arith)
      (told-shown (λ z. omega arith) ∙ ap (λ (k : ℕ). acted d k t.problem) q))

-- where nothing changes, the control record stays as it is
pub told-nothing : (c : Control) (id : ℕ) (t : Told) → (t.kind ≡ 13 → ⊥) → c ≡ turned c id t → c ≡ changed c id t
unfolding changed
told-nothing c id t n h = ne _ _ _ _ n h

-- no invocation changes
abbrev pub stay : ℕ → ℕ → Told
stay kind p = record { kind = kind; problem = p; put = None }

-- the one in a slot changes
abbrev pub puts : ℕ → ℕ → ℕ → Invocation → Told
puts kind p i v = record { kind = kind; problem = p; put = Some (i, v) }

module _ (c : Control) (id k p : ℕ) (t : Told) (e : t ≡ stay k p) where
  pub stays-shown : (k ≡ 13 → ⊥) → does c id t ≡ acted c k p
  stays-shown n = ap (does c id) e ∙ told-shown c c id (stay k p) (turned_none c id None refl) n

  pub stays-stored : (room : ℕ) → k ≡ stored_kind room c.count → does c id t ≡ rejected room c id p
  stays-stored room n = ap (does c id) e ∙ told-stored c c id (stay k p) (turned_none c id None refl) room n

  pub release-none : (state_of c id ≡ sent → ⊥) → released c id ≡ turned c id t
  unfolding released
  release-none n = sym (ne _ _ _ _ n refl) ∙ turned_none c id None refl ∙ ap (turned c id) (sym e)

-- what is found in a list of invocations is found in the control record that has it
module _ (c : Control) (id i : ℕ) (l : List Invocation) (e : l ≡ c.invocations) (s : i ≡ slot_of l id) where
  found : get_or l i no_invocation ≡ invocation_of c.invocations id
  unfolding invocation_of
  found = ap (λ (i : ℕ). get_or l i no_invocation) s ∙ ap (λ (l : List Invocation). get_or l (slot_of l id) no_invocation) e

  slot : i ≡ slot_of c.invocations id
  slot = s ∙ ap (λ (l : List Invocation). slot_of l id) e

  pub state-is : (n : ℕ) → n ≡ (get_or l i no_invocation).state → state_of c id ≡ n
  state-is n q = sym (q ∙ ap (λ (v : Invocation). v.state) found)

  module _ (h : i < 8) where
    -- to Idle
    idle-put : (k p : ℕ) → to_idle c id ≡ turned c id (puts k p i no_invocation)
    idle-put k p = turned-idle c id (Some (i, no_invocation)) i no_invocation refl h refl

    pub release-put : (n k p : ℕ) (t : Told) → n ≡ (get_or l i no_invocation).state → n ≡ 2 → t ≡ puts k p i no_invocation → released c id ≡ turned c id t
    unfolding released
    release-put n k p t q z w = sym (eq _ _ _ _ (state-is n q ∙ z) refl) ∙ idle-put k p ∙ ap (turned c id) (sym w)

    -- an answer to it, if it is Sent: rejected, shown, or the last
    module _ (room tag n k : ℕ) (took : n ≡ takes (get_or l i no_invocation).class tag) where
      class : takes (invocation_of c.invocations id).class tag ≡ n
      class = ap (λ (v : Invocation). takes v.class tag) (sym found) ∙ sym took

      pub sent-rejected : (p : ℕ) (t : Told) → t ≡ puts k p i no_invocation → k ≡ stored_kind room c.count → p ≡ answer_problem tag 1 → n ≡ 0
          → does c id t ≡ answers_sent room c tag id
      unfolding answers_sent
      sent-rejected p t q w a z =
          ap (does c id) q
          ∙ told-stored c (to_idle c id) id (puts k p i no_invocation) (idle-put k p) room w
          ∙ ap (rejected room (to_idle c id) id) a
          ∙ eq _ _ _ _ (class ∙ z) refl

      -- one in use put: f of ours
      put_is : (f : Invocation → Invocation) → ((f (get_or l i no_invocation)).state ≡ 0 → ⊥) → (p : ℕ)
          → with_invocation c (slot_of c.invocations id) (f (invocation_of c.invocations id)) ≡ turned c id (puts k p i (f (get_or l i no_invocation)))
      put_is f u p =
          ap (λ (j : ℕ). with_invocation c j (f (invocation_of c.invocations id))) (sym slot)
          ∙ ap (λ (v : Invocation). with_invocation c i (f v)) (sym found)
          ∙ turned-some c id (Some (i, f (get_or l i no_invocation))) i (f (get_or l i no_invocation)) refl h u

      pub sent-shown : (t : Told) → (get_or l i no_invocation).state ≡ sent → t ≡ puts k no_problem i (was_shown (get_or l i no_invocation)) → k ≡ answer_kind tag → k < 13 → n ≡ 1
          → does c id t ≡ answers_sent room c tag id
      unfolding answers_sent not_last_shown
      sent-shown t u q a low z =
          ap (does c id) q
          ∙ told-shown c (not_last_shown c id) id (puts k no_problem i (was_shown (get_or l i no_invocation)))
          (put_is was_shown (λ z. omega arith) no_problem) (λ x. omega arith)
          ∙ ap (λ (k : ℕ). acted (not_last_shown c id) k no_problem) a
          ∙ ne _ _ _ _ (λ x. omega (arith, class)) (eq _ _ _ _ (class ∙ z) refl)

      pub sent-waits : (t : Told) → t ≡ puts k no_problem i (in_state (get_or l i no_invocation) wait) → k ≡ answer_kind tag → k < 13 → (n ≡ 0 → ⊥) → (n ≡ 1 → ⊥)
          → does c id t ≡ answers_sent room c tag id
      unfolding answers_sent to_state
      sent-waits t q a low some other =
          ap (does c id) q
          ∙ told-shown c (to_state c id wait) id (puts k no_problem i (in_state (get_or l i no_invocation) wait))
          (put_is (λ (v : Invocation). in_state v wait) (λ z. omega arith) no_problem) (λ x. omega arith)
          ∙ ap (λ (k : ℕ). acted (to_state c id wait) k no_problem) a
          ∙ ne _ _ _ _ (λ x. some (sym class ∙ x)) (ne _ _ _ _ (λ x. other (sym class ∙ x)) refl)
