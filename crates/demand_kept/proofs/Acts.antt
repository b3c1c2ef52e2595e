-- WHAT A RECEIVED COMPONENT DOES KEEPS THE RULES (01, "Invocation states"), and leaves the dialogue's state and service. Assumes nothing.
use Rattle.std.specs.Prelude.{◌≡◌, Bool, ltb}
use Rattle.std.proofs.Math.Path.{refl, subst}
use Rattle.std.proofs.Common.{sym, ap, ◌∙◌, arith}
use Rattle.std.proofs.Math.Bool.{true, false}
use mathlib.Core.List.{List, [], ◌∷◌}
use Prim.Native.Nat.{ℕ, zero, suc, ◌+◌, ◌-◌, ◌≤◌, ◌<◌}
use Rattle.laws.specs.If.{eq, ne, lt, by-eq, by-lt, by-b}
use Rattle.paper.specs.Elements.{Reading}
use Rattle.std.specs.Prelude.{Ok, Err}
use Rattle.paper.specs.declared.Frame.{Frame}
use Rattle.paper.specs.declared.Component.{Component}
use Rattle.paper.specs.declared.Control.{Control}
use Rattle.paper.specs.declared.Acted.{Acted}
use Rattle.paper.specs.Elements.{element, frame_at}
use Rattle.paper.specs.Problems.{sender_of, sender_of_problem, by_layer, problem, general, kind_of}
use Rattle.paper.specs.Components.{reject_tag, error_tag, no_id, faulty, single, pieces, read_problem, if_nested, framed, tag_at, component_at, Item, next_start, go_on, items, components}
use Rattle.paper.specs.Invocations.{state_of, to_state, to_idle, not_last_shown, rejected, answer_problem, answers_sent, answers, invokes, released, rejects, faulty_reject, faults, act}
use Rattle.paper.specs.Rows.{all_acted}
use Rattle.reading_components.specs.Bounds.{component-in}
use Rattle.table_laws.specs.Fine.{Octets, FineControl}
use Rattle.demand_kept.proofs.Leaves.{null-leaf, after-leaf}
use Rattle.table_laws.proofs.Keeps.{to-idle-fine, to-state-fine, shown-fine, with-reject-fine}
use Rattle.demand_kept.specs.Acts.{Readable, Stays, AllReadable}

module _ (r : Component) (sound : r.fault ≡ 3) (other : r.tag ≡ reject_tag → ⊥) where
  not-faulty : {A : Type 0} {t id p code x : ℕ} → code < 3 → r ≡ faulty t id p code x → A
  not-faulty h z = absurd (omega (arith, ap (λ (c : Component). c.fault) z))

  pieces-named : (s : List ℕ) (t x e b : ℕ) → r ≡ pieces s t x e b → r.id ≡ no_id → ⊥
  unfolding pieces
  pieces-named s t x e b z n =
      let i : ℕ = single s 2 e b in
      by-eq _ _ _ _ z
      (λ a z. by-eq _ _ _ _ z (λ c z. other (ap (λ (c : Component). c.tag) z ∙ null-leaf x (λ (c : Component). c.tag ≡ reject_tag) (λ p. refl) (λ p code. refl) s e b)) (λ c z. not-faulty (omega arith) z))
      (λ a z. a (sym (ap (λ (c : Component). c.id) z ∙ after-leaf i x (λ (c : Component). c.id ≡ i) (λ t l p a b. refl) (λ t p code. refl) s t e (b + 3)) ∙ n))

  component-named : (s : List ℕ) (lim at : ℕ) → r ≡ component_at s lim at → r.id ≡ no_id → ⊥
  unfolding component_at framed
  component-named s lim at z n =
      by-eq _ _ _ _ z (λ a z. not-faulty (omega arith) z)
      (λ a z. by-b _ _ _ z (λ k z. go (element s 16 lim at) z) (λ k z. not-faulty (omega arith) z))
    where
      f : Frame
      f = frame_at s 16 lim at

      go : (y : Reading) → r ≡ if_nested y (pieces s (tag_at s lim at) f.stop f.to f.from)
          (faulty (tag_at s lim at) (single s 2 f.to f.from) (read_problem s (tag_at s lim at) f.to f.from) 2 f.stop) → ⊥
      go (Ok y) z = pieces-named s (tag_at s lim at) f.stop f.to f.from z n
      go (Err y) z = not-faulty (omega arith) z

pub component-readable : (s : List ℕ) → Octets s → (lim at : ℕ) → Readable (component_at s lim at)
component-readable s octets lim at =
    let c : Component = component_at s lim at in
    let w = component-in s octets lim at c refl in
    record { id = w.invoke; code = w.code; named = λ h o. low c.id w.invoke (component-named c h o s lim at refl) }
  where
    low : (n : ℕ) → n ≤ 256 → (n ≡ 256 → ⊥) → n < 256
    low n h d = omega arith

pub stays_on : {a b c : Control} → Stays a b → Stays b c → Stays a c
stays_on f g = record { fine = g.fine; state = g.state ∙ f.state; service = g.service ∙ f.service }

general-sender : (code : ℕ) → code < 3 → sender_of_problem (general code) ≡ by_layer
unfolding sender_of
general-sender code h = sym (eq _ _ _ _ (omega arith) (lt _ _ _ _ (omega arith) refl))

answer-sender : (tag code : ℕ) → code < 2 → sender_of_problem (answer_problem tag code) ≡ by_layer
unfolding answer_problem sender_of
answer-sender tag code h =
    by-eq {r = answer_problem tag code} tag error_tag (problem 3 code) (problem 2 code) refl
    (λ a z. ap sender_of_problem z ∙ sym (ne _ _ _ _ (λ e. omega arith) (ne _ _ _ _ (λ e. omega arith) (ne _ _ _ _ (λ e. omega arith) (eq _ _ _ _ (omega arith) (lt _ _ _ _ (omega arith) refl))))))
    (λ a z. ap sender_of_problem z ∙ sym (ne _ _ _ _ (λ e. omega arith) (ne _ _ _ _ (λ e. omega arith) (eq _ _ _ _ (omega arith) (lt _ _ _ _ (omega arith) refl)))))

linked-sender : sender_of_problem (problem 1 5) ≡ by_layer
unfolding sender_of
linked-sender = sym (ne _ _ _ _ (λ e. omega arith) (eq _ _ _ _ (omega arith) (lt _ _ _ _ (omega arith) (eq _ _ _ _ (omega arith) refl))))

module _ (c : Control) (f : FineControl c) where
  pub unchanged : Stays c c
  unchanged = record { fine = f; state = refl; service = refl }

  idle-stays : (id : ℕ) → Stays c (to_idle c id)
  unfolding to_idle
  idle-stays id = record { fine = to-idle-fine c f id; state = refl; service = refl }

  released-stays : (id : ℕ) → Stays c (released c id)
  unfolding released
  released-stays id = by-eq {r = released c id} _ _ _ _ refl (λ a z. subst (Stays c) (sym z) (idle-stays id)) (λ a z. subst (Stays c) (sym z) unchanged)

  -- the state of one that is Sent
  state-stays : (id : ℕ) → state_of c id ≡ 2 → Stays c (to_state c id 3)
  unfolding to_state
  state-stays id e = record { fine = to-state-fine c f id 3 (λ z. omega arith) (omega arith) (omega arith); state = refl; service = refl }

  shown-stays : (id : ℕ) → state_of c id ≡ 2 → Stays c (not_last_shown c id)
  unfolding not_last_shown
  shown-stays id e = record { fine = shown-fine c f id (λ z. omega arith); state = refl; service = refl }

-- THE RULES KEPT by what a component does, where at most 8 rejects wait
module _ (room : ℕ) (most : room ≤ 8) where
  abbrev After : Control → Acted → Type 0
  After c a = Stays c a.control

  is : {c : Control} {a b : Acted} → a ≡ b → After c b → After c a
  is {c} z g = subst (After c) (sym z) g

  -- a reject of ours, where only a general one may lack its ID
  pub rejected-stays : (c : Control) → FineControl c → (id p : ℕ) → id ≤ 256 → sender_of_problem p ≡ by_layer → (id ≡ 256 → kind_of p ≡ 0) → Stays c (rejected room c id p).control
  unfolding rejected
  rejected-stays c f id p h s g =
      by-lt {r = rejected room c id p} _ _ _ _ refl
      (λ a z. is z (record { fine = with-reject-fine c f (record { id = id; problem = p }) (omega arith) (record { sender = s; id = h; general = g }); state = refl; service = refl }))
      (λ a z. is z (unchanged c f))

  module _ (c : Control) (f : FineControl c) where
    answered : (id tag : ℕ) → id < 256 → Stays c (answers room c tag id).control
    unfolding answers answers_sent
    answered id tag h =
        by-eq {r = answers room c tag id} _ _ _ _ refl
        (λ e z. by-eq _ _ _ _ z
        (λ a z. let w = idle-stays c f id in
        is z (stays_on w (rejected-stays (to_idle c id) w.fine id (answer_problem tag 1) (omega arith) (answer-sender tag 1 (omega arith)) (λ q. absurd (omega arith)))))
        (λ a z. by-eq _ _ _ _ z (λ b z. is z (shown-stays c f id e)) (λ b z. is z (state-stays c f id e))))
        (λ e z. is z (rejected-stays c f id (answer_problem tag 0) (omega arith) (answer-sender tag 0 (omega arith)) (λ q. absurd (omega arith))))

    invoked : (id linked : ℕ) → id < 256 → Stays c (invokes room c id linked).control
    unfolding invokes
    invoked id linked h =
        by-eq {r = invokes room c id linked} _ _ _ _ refl (λ a z. is z (unchanged c f))
        (λ a z. by-eq _ _ _ _ z (λ b z. is z (unchanged c f)) (λ b z. is z (rejected-stays c f id (problem 1 5) (omega arith) linked-sender (λ q. absurd (omega arith)))))

    rejecting : (id p : ℕ) → Stays c (rejects c id p).control
    unfolding rejects
    rejecting id p = by-lt {r = rejects c id p} _ _ _ _ refl (λ a z. is z (released-stays c f id)) (λ a z. is z (unchanged c f))

    faulted : (p : Component) → Readable p → p.fault < 3 → Stays c (faults room c p).control
    unfolding faults faulty_reject
    faulted p g h =
        by-eq {r = faults room c p} _ _ _ _ refl
        (λ a z. by-eq _ _ _ _ z (λ b z. is z (unchanged c f)) (λ b z. is z (released-stays c f p.id)))
        (λ a z. by-b _ _ _ z
        (λ b z. let w = released-stays c f p.id in is z (stays_on w (told (released c p.id) w.fine)))
        (λ b z. is z (told c f)))
      where
        told : (d : Control) → FineControl d → Stays d (rejected room d p.id (general p.fault)).control
        told d e = rejected-stays d e p.id (general p.fault) g.id (general-sender p.fault h) (λ q. omega arith)

    pub act-stays : (p : Component) → Readable p → Stays c (act room c p).control
    unfolding act
    act-stays p g =
        by-eq {r = act room c p} _ _ _ _ refl
        (λ a z. by-eq _ _ _ _ z (λ b z. is z (invoked p.id p.linked (g.named a (λ e. omega arith))))
        (λ b z. by-eq _ _ _ _ z (λ d z. is z (rejecting p.id p.problem)) (λ d z. is z (answered p.id p.tag (g.named a d)))))
        (λ a z. is z (faulted p g (omega (arith, g.code))))

pub all-acted-stays : (room : ℕ) → room ≤ 8 → (is : List Item) → AllReadable is → (c : Control) → FineControl c → Stays c (all_acted room c is)
unfolding all_acted
all-acted-stays room h [] a c f = unchanged c f
all-acted-stays room h (i ∷ is) a c f =
    let w = act-stays room h c f i.part a.0 in stays_on w (all-acted-stays room h is a.1 (act room c i.part).control w.fine)

module _ (s : List ℕ) (octets : Octets s) (lim : ℕ) where
  items-readable : (n at : ℕ) → AllReadable (items s lim n at)
  unfolding items
  items-readable zero at = tt
  items-readable (suc n) at =
      (component-readable s octets lim at, on (items s lim n (next_start lim (component_at s lim at))) (items-readable n (next_start lim (component_at s lim at))) (ltb (next_start lim (component_at s lim at)) lim))
    where
      on : (l : List Item) → AllReadable l → (b : Bool) → AllReadable (go_on b (λ _. l))
      on l a true = a
      on l a false = tt

  pub components-readable : (from : ℕ) → AllReadable (components s lim from)
  unfolding components
  components-readable from = items-readable (lim - from + 1) from
