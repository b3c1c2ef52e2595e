-- THE REJECTS THAT WAIT after a message's components acted are those that waited before, then those of its rows 13; partner, state,
-- service and turn stay. Assumes nothing.
use Rattle.std.specs.Prelude.{◌≡◌, ℕ, ◌≤◌, take, set}
use Rattle.std.proofs.Math.Path.{refl, ap, subst}
use Rattle.std.proofs.Common.{sym, ◌∙◌, arith, add-one, take-suc-set}
use mathlib.Core.List.{List, [], ◌∷◌, ◌++◌, map, append-nil, append_assoc}
use Rattle.std.proofs.Math.ListN.{length}
use Rattle.laws.specs.If.{lt, ge, eq, ne, by-lt, by-eq}
use Rattle.paper.specs.declared.Component.{Component}
use Rattle.paper.specs.declared.Reject.{Reject}
use Rattle.paper.specs.declared.Control.{Control}
use Rattle.paper.specs.declared.Acted.{Acted}
use Rattle.paper.specs.declared.Row.{Row}
use Rattle.paper.specs.Components.{Item}
use Rattle.paper.specs.Writing.{Written}
use Rattle.paper.specs.Invocations.{to_state, to_idle, not_last_shown, acted, rejected, answer_kind, answers_sent, answers, invokes, released, reject_kind, rejects, faulty_reject, faults, act}
use Rattle.paper.specs.Rows.{signed, component_row, row_by, all_acted, component_rows}
use Rattle.paper.specs.Ledger.{unsigned, rejects_in}
use Rattle.table_laws.specs.Fine.{FineControl}
use Rattle.demand_kept.proofs.Leaves.{whether-eq, whether-lt, whether-b}
use Rattle.demand_kept.specs.Acts.{AllReadable}
use Rattle.demand_kept.proofs.Acts.{act-stays}
use Rattle.demand_ledger.specs.Agrees.{reject_of, waits}
use Rattle.demand_ledger.specs.Acting.{Alike, rejects_of, LeavesWaiting, AllLeaveWaiting}

-- the octet of an ID, shown and read back
pub unsigned_signed : (id : ℕ) → id ≤ 256 → unsigned (signed id) ≡ id
unfolding unsigned signed
unsigned_signed id h =
    by-lt {r = signed id} _ _ _ _ refl
    (λ a z. ap unsigned z ∙ sym (ge _ _ _ _ (omega arith) (lt _ _ _ _ (omega arith) (omega arith))))
    (λ a z. by-lt _ _ _ _ z
    (λ b z. ap unsigned z ∙ sym (lt _ _ _ _ (omega arith) (omega arith)))
    (λ b z. ap unsigned z ∙ sym (ge _ _ _ _ (omega arith) (ge _ _ _ _ (omega arith) (omega arith)))))

pub alike_self : (c : Control) → Alike c c
alike_self c = record { turn = refl; state = refl; service = refl; peer = refl; count = refl; rejects = refl }

pub alike-waits : {c d : Control} → Alike c d → waits d ≡ waits c
alike-waits {c} {d} a = ap (λ (n : ℕ). map reject_of (take n d.rejects)) a.count ∙ ap (λ (l : List Reject). map reject_of (take c.count l)) a.rejects

module _ (c : Control) (id : ℕ) where
  pub idle-alike : Alike c (to_idle c id)
  unfolding to_idle
  idle-alike = record { turn = refl; state = refl; service = refl; peer = refl; count = refl; rejects = refl }

  pub state-alike : (state : ℕ) → Alike c (to_state c id state)
  unfolding to_state
  state-alike state = record { turn = refl; state = refl; service = refl; peer = refl; count = refl; rejects = refl }

  shown-alike : Alike c (not_last_shown c id)
  unfolding not_last_shown
  shown-alike = record { turn = refl; state = refl; service = refl; peer = refl; count = refl; rejects = refl }

  released-alike : Alike c (released c id)
  unfolding released
  released-alike = whether-eq (Alike c) _ _ _ _ idle-alike (alike_self c)

module _ (c : Control) (id : ℕ) where
  abbrev Leaving : Acted → Type 0
  Leaving = LeavesWaiting c id

  -- no reject of ours
  none_left : (d : Control) (kind p : ℕ) → Alike c d → (kind ≡ 13 → ⊥) → Leaving (acted d kind p)
  none_left d kind p a n = record {
    turn = a.turn;
    state = a.state;
    service = a.service;
    peer = a.peer;
    waiting = alike-waits a ∙ sym (append-nil (waits c)) ∙ ap (λ (l : List Written). waits c ++ l) (ne kind 13 _ _ n refl);
  }

  -- one that is stored, or not
  map_more : (l : List Reject) (r : Reject) → map reject_of (l ++ (r ∷ [])) ≡ map reject_of l ++ (reject_of r ∷ [])
  map_more [] r = refl
  map_more (x ∷ l) r = ap (λ (k : List Written). reject_of x ∷ k) (map_more l r)

  rejected-left : (d : Control) (p : ℕ) → Alike c d → length c.rejects ≡ 8 → Leaving (rejected 8 d id p)
  unfolding rejected
  rejected-left d p a e =
      by-lt {r = rejected 8 d id p} _ _ _ _ refl
      (λ h z. subst Leaving (sym z) (record {
        turn = a.turn;
        state = a.state;
        service = a.service;
        peer = a.peer;
        waiting =
            let r : Reject = record { id = id; problem = p } in
            ap (λ (n : ℕ). map reject_of (take n (set d.rejects d.count r))) (add-one d.count)
            ∙ ap (map reject_of) (take-suc-set d.rejects d.count r (omega (arith, ap (λ (l : List Reject). length l) a.rejects)))
            ∙ map_more (take d.count d.rejects) r ∙ ap (λ (l : List Written). l ++ (Written.Reject id p ∷ [])) (alike-waits a)
            ∙ ap (λ (l : List Written). waits c ++ l) (eq 13 13 _ _ refl refl);
      }))
      (λ h z. subst Leaving (sym z) (none_left d 14 p a (λ q. omega arith)))

  reject-kind : (p : ℕ) → reject_kind p ≡ 13 → ⊥
  unfolding reject_kind
  reject-kind p = whether-eq (λ (n : ℕ). n ≡ 13 → ⊥) _ _ _ _ (λ q. omega arith) (λ q. omega arith)

  answer-kind : (tag : ℕ) → answer_kind tag ≡ 13 → ⊥
  unfolding answer_kind
  answer-kind tag = whether-eq (λ (n : ℕ). n ≡ 13 → ⊥) _ _ _ _ (λ q. omega arith) (whether-eq (λ (n : ℕ). n ≡ 13 → ⊥) _ _ _ _ (λ q. omega arith) (λ q. omega arith))

  answers-left : (tag : ℕ) → length c.rejects ≡ 8 → Leaving (answers 8 c tag id)
  unfolding answers answers_sent
  answers-left tag e =
      whether-eq Leaving _ _ _ _
      (whether-eq Leaving _ _ _ _ (rejected-left (to_idle c id) _ (idle-alike c id) e)
      (whether-eq Leaving _ _ _ _ (none_left _ _ _ (shown-alike c id) (answer-kind tag)) (none_left _ _ _ (state-alike c id 3) (answer-kind tag))))
      (rejected-left c _ (alike_self c) e)

  invokes-left : (linked : ℕ) → length c.rejects ≡ 8 → Leaving (invokes 8 c id linked)
  unfolding invokes
  invokes-left linked e =
      whether-eq Leaving _ _ _ _ (none_left c _ _ (alike_self c) (λ q. omega arith))
      (whether-eq Leaving _ _ _ _ (none_left c _ _ (alike_self c) (λ q. omega arith)) (rejected-left c _ (alike_self c) e))

  rejects-left : (p : ℕ) → Leaving (rejects c id p)
  unfolding rejects
  rejects-left p = whether-lt Leaving _ _ _ _ (none_left _ _ _ (released-alike c id) (reject-kind p)) (none_left _ _ _ (alike_self c) (reject-kind p))

act-left : (c : Control) (p : Component) → length c.rejects ≡ 8 → LeavesWaiting c p.id (act 8 c p)
unfolding act faults faulty_reject
act-left c p e =
    let id : ℕ = p.id in
    whether-eq (LeavesWaiting c id) _ _ _ _
    (whether-eq (LeavesWaiting c id) _ _ _ _ (invokes-left c id p.linked e)
    (whether-eq (LeavesWaiting c id) _ _ _ _ (rejects-left c id p.problem) (answers-left c id p.tag e)))
    (whether-eq (LeavesWaiting c id) _ _ _ _
    (whether-eq (LeavesWaiting c id) _ _ _ _ (none_left c id _ _ _ (alike_self c) (λ q. omega arith)) (none_left c id _ _ _ (released-alike c id) (λ q. omega arith)))
    (whether-b (LeavesWaiting c id) _ _ _ (rejected-left c id _ _ (released-alike c id) e) (rejected-left c id _ _ (alike_self c) e)))

-- THE ROW of a component tells its reject
row-tells : (me : ℕ) (c : Control) (i : Item) (rows : List Row) → i.part.id ≤ 256
    → rejects_in (row_by me 8 c i ∷ rows) ≡ rejects_of i.part.id (act 8 c i.part) ++ rejects_in rows
unfolding rejects_in component_row
row-tells me c i rows h =
    by-eq {r = rejects_in (row_by me 8 c i ∷ rows)} _ _ _ _ refl
    (λ a z. z ∙ ap (λ (n : ℕ). Written.Reject n (act 8 c i.part).problem ∷ rejects_in rows) (unsigned_signed i.part.id h)
    ∙ ap (λ (l : List Written). l ++ rejects_in rows) (eq _ _ _ _ a refl))
    (λ a z. z ∙ ap (λ (l : List Written). l ++ rejects_in rows) (ne _ _ _ _ a refl))

pub all_left : (me : ℕ) (is : List Item) → AllReadable is → (c : Control) → FineControl c → AllLeaveWaiting c (all_acted 8 c is) (rejects_in (component_rows me 8 c is))
unfolding all_acted component_rows rejects_in
all_left me [] a c f = record { turn = refl; state = refl; service = refl; peer = refl; waiting = sym (append-nil (waits c)) }
all_left me (i ∷ is) a c f =
    let d : Control = (act 8 c i.part).control in
    let w = act-left c i.part f.eights in
    let v = all_left me is a.1 d (act-stays 8 (omega arith) c f i.part a.0).fine in
    let rest : List Written = rejects_in (component_rows me 8 d is) in
    record {
      turn = v.turn ∙ w.turn;
      state = v.state ∙ w.state;
      service = v.service ∙ w.service;
      peer = v.peer ∙ w.peer;
      waiting = v.waiting ∙ ap (λ (l : List Written). l ++ rest) w.waiting ∙ append_assoc (waits c) (rejects_of i.part.id (act 8 c i.part)) rest
          ∙ ap (λ (l : List Written). waits c ++ l) (sym (row-tells me c i (component_rows me 8 d is) a.0.id));
    }
