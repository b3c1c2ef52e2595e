-- OUR INVOCATIONS in the ledger's list are those of the eight slots, looked up by their ID. Assumes nothing.
use Rattle.std.specs.Prelude.{◌≡◌, ℕ, ◌≤◌, replicate}
use Rattle.std.proofs.Math.Path.{refl, sym, ap, subst}
use Rattle.std.proofs.Common.{◌∙◌, arith}
use mathlib.Core.List.{List, [], ◌∷◌}
use Rattle.laws.specs.If.{if_eq, if_b, eq, ne, by-eq}
use Rattle.laws.specs.Lists.{first_at}
use Rattle.paper.specs.declared.Invocation.{Invocation}
use Rattle.paper.specs.declared.Control.{Control}
use Rattle.paper.specs.Components.{Item}
use Rattle.paper.specs.Invocations.{rejecting, no_invocation, is_open, slot_of, invocation_of, transmitted, all_transmitted, act}
use Rattle.paper.specs.Rows.{component_row, all_acted, component_rows}
use Rattle.paper.specs.Asked.{ours_of, becomes, all_sent, heard_of, heard_all}
use Rattle.table_laws.specs.Fine.{FineInvocations, FineControl}
use Rattle.table_laws.proofs.Invocations.{none-same}
use Rattle.demand_kept.specs.Acts.{AllReadable}
use Rattle.demand_kept.proofs.Acts.{act-stays}
use Rattle.demand_ledger.specs.Lookups.{Turns, sent_as}
use Rattle.demand_ledger.proofs.Lookups.{looked-open, looked-idle, transmitted-lookup, act-lookup}
use Rattle.demand_ledger.specs.Ours.{Apart, Of, Ours}

pub none-ours : (k : ℕ) → ours_of [] k ≡ no_invocation
unfolding ours_of
none-ours k = refl

ours-here : (v : Invocation) (l : List Invocation) (k : ℕ) → v.id ≡ k → ours_of (v ∷ l) k ≡ v
unfolding ours_of
ours-here v l k h = sym (eq _ _ _ _ h refl)

ours-on : (v : Invocation) (l : List Invocation) (k : ℕ) → (v.id ≡ k → ⊥) → ours_of (v ∷ l) k ≡ ours_of l k
unfolding ours_of
ours-on v l k h = sym (ne _ _ _ _ h refl)

module _ (id : ℕ) (v : Invocation) (o : Of id v) where
  becomes-same : (l : List Invocation) → Apart l → ours_of (becomes l id v) id ≡ v
  unfolding becomes
  becomes-same [] a =
      by-eq {r = becomes [] id v} _ _ _ _ refl
      (λ z q. ap (λ (l : List Invocation). ours_of l id) q ∙ none-ours id ∙ sym (o.unused z))
      (λ z q. ap (λ (l : List Invocation). ours_of l id) q ∙ ours-here v [] id (o.named z))
  becomes-same (w ∷ l) a =
      by-eq {r = becomes (w ∷ l) id v} _ _ _ _ refl
      (λ h q. by-eq _ _ _ _ q
      (λ z q. ap (λ (l : List Invocation). ours_of l id) q ∙ ap (ours_of l) (sym h) ∙ a.0 ∙ sym (o.unused z))
      (λ z q. ap (λ (l : List Invocation). ours_of l id) q ∙ ours-here v l id (o.named z)))
      (λ h q. ap (λ (l : List Invocation). ours_of l id) q ∙ ours-on w (becomes l id v) id h ∙ becomes-same l a.2)

  becomes-other : (k : ℕ) → (k ≡ id → ⊥) → (l : List Invocation) → ours_of (becomes l id v) k ≡ ours_of l k
  unfolding becomes
  becomes-other k n [] =
      by-eq {r = becomes [] id v} _ _ _ _ refl (λ z q. ap (λ (l : List Invocation). ours_of l k) q)
      (λ z q. ap (λ (l : List Invocation). ours_of l k) q ∙ ours-on v [] k (λ h. n (sym h ∙ o.named z)))
  becomes-other k n (w ∷ l) =
      by-eq {r = becomes (w ∷ l) id v} _ _ _ _ refl
      (λ h q.
      let on : ours_of (w ∷ l) k ≡ ours_of l k = ours-on w l k (λ i. n (sym i ∙ h)) in
      by-eq _ _ _ _ q (λ z q. ap (λ (l : List Invocation). ours_of l k) q ∙ sym on)
      (λ z q. ap (λ (l : List Invocation). ours_of l k) q ∙ ours-on v l k (λ i. n (sym i ∙ o.named z)) ∙ sym on))
      (λ h q. ap (λ (l : List Invocation). ours_of l k) q
      ∙ by-eq {A = ℕ} w.id k 0 0 refl (λ i _. ours-here w (becomes l id v) k i ∙ sym (ours-here w l k i))
      (λ i _. ours-on w (becomes l id v) k i ∙ becomes-other k n l ∙ sym (ours-on w l k i)))

  becomes-apart : (l : List Invocation) → Apart l → Apart (becomes l id v)
  unfolding becomes
  becomes-apart [] a =
      by-eq {r = becomes [] id v} _ _ _ _ refl (λ z q. subst Apart (sym q) tt) (λ z q. subst Apart (sym q) (none-ours v.id, z, tt))
  becomes-apart (w ∷ l) a =
      by-eq {r = becomes (w ∷ l) id v} _ _ _ _ refl
      (λ h q. by-eq _ _ _ _ q (λ z q. subst Apart (sym q) a.2)
      (λ z q. subst Apart (sym q) (ap (ours_of l) (o.named z ∙ sym h) ∙ a.0, z, a.2)))
      (λ h q. subst Apart (sym q) (becomes-other w.id h l ∙ a.0, a.1, becomes-apart l a.2))

-- A SENDING
none-sent : sent_as no_invocation ≡ no_invocation
unfolding sent_as
none-sent = sym (ne _ _ _ _ (λ z. omega arith) (sym none-same))

sent-kept : (v : Invocation) → (v.state ≡ 0 → ⊥) → ((transmitted v).id ≡ v.id) × ((transmitted v).state ≡ 0 → ⊥)
unfolding transmitted
sent-kept v n =
    by-eq {r = transmitted v} _ _ _ _ refl
    (λ a z. (ap (λ (x : Invocation). x.id) z, λ q. omega (arith, ap (λ (x : Invocation). x.state) z, q)))
    (λ a z. (ap (λ (x : Invocation). x.id) z, λ q. n (sym (ap (λ (x : Invocation). x.state) z) ∙ q)))

sent-gone : (v : Invocation) → v.state ≡ rejecting → sent_as v ≡ no_invocation
unfolding sent_as
sent-gone v h = sym (eq _ _ _ _ h refl)

sent-on : (v : Invocation) → (v.state ≡ rejecting → ⊥) → sent_as v ≡ transmitted v
unfolding sent_as
sent-on v h = sym (ne _ _ _ _ h refl)

sent-ours : (l : List Invocation) → Apart l → (k : ℕ) → ours_of (all_sent l) k ≡ sent_as (ours_of l k)
unfolding all_sent
sent-ours [] a k = none-ours k ∙ sym (ap sent_as (none-ours k) ∙ none-sent)
sent-ours (v ∷ l) a k =
    by-eq {r = all_sent (v ∷ l)} _ _ _ _ refl
    (λ h q. ap (λ (m : List Invocation). ours_of m k) q ∙ sent-ours l a.2 k
    ∙ by-eq {A = ℕ} v.id k 0 0 refl
    (λ i _. ap sent_as (ap (ours_of l) (sym i) ∙ a.0) ∙ none-sent ∙ sym (ap sent_as (ours-here v l k i) ∙ sent-gone v h))
    (λ i _. ap sent_as (sym (ours-on v l k i))))
    (λ h q. let w = sent-kept v a.1 in
    ap (λ (m : List Invocation). ours_of m k) q
    ∙ by-eq {A = ℕ} v.id k 0 0 refl
    (λ i _. ours-here (transmitted v) (all_sent l) k (w.0 ∙ i) ∙ sym (sent-on v h) ∙ ap sent_as (sym (ours-here v l k i)))
    (λ i _. ours-on (transmitted v) (all_sent l) k (λ j. i (sym w.0 ∙ j)) ∙ sent-ours l a.2 k ∙ ap sent_as (sym (ours-on v l k i))))

sent-apart : (l : List Invocation) → Apart l → Apart (all_sent l)
unfolding all_sent
sent-apart [] a = tt
sent-apart (v ∷ l) a =
    by-eq {r = all_sent (v ∷ l)} _ _ _ _ refl (λ h q. subst Apart (sym q) (sent-apart l a.2))
    (λ h q. let w = sent-kept v a.1 in
    subst Apart (sym q) (sent-ours l a.2 (transmitted v).id ∙ ap (λ (k : ℕ). sent_as (ours_of l k)) w.0 ∙ ap sent_as a.0 ∙ none-sent, w.1, sent-apart l a.2))

-- none in use
pub ours-none : Ours (replicate 8 no_invocation) []
unfolding invocation_of slot_of first_at is_open if_eq if_b ours_of
ours-none = record { same = λ k. refl; apart = tt }

-- one of them changed
pub ours-turned : {slots m l : List Invocation} (id : ℕ) (v : Invocation) → Ours slots l → FineInvocations m → Turns slots m id v → Ours m (becomes l id v)
ours-turned {slots} {m} {l} id v o f t = record {
  same = λ k.
      by-eq {A = ℕ} k id 0 0 refl
      (λ h _. ap (invocation_of m) h ∙ own ∙ sym (becomes-same id v of l o.apart) ∙ ap (ours_of (becomes l id v)) (sym h))
      (λ h _. t k ∙ sym (ne _ _ _ _ h refl) ∙ o.same k ∙ sym (becomes-other id v of k h l));
  apart = becomes-apart id v of l o.apart;
}
  where
    own : invocation_of m id ≡ v
    own = t id ∙ sym (eq _ _ _ _ refl refl)

    of : Of id v
    of = subst (Of id) own (record { named = looked-open id m; unused = looked-idle id m f })

pub ours-sent : (c : Control) → FineControl c → (l : List Invocation) → Ours c.invocations l → Ours (all_transmitted c).invocations (all_sent l)
ours-sent c f l o = record { same = λ k. transmitted-lookup c f k ∙ ap sent_as (o.same k) ∙ sym (sent-ours l o.apart k); apart = sent-apart l o.apart }

-- THE COMPONENTS OF A MESSAGE, each by its row
pub ours-heard : (me room : ℕ) → room ≤ 8 → (is : List Item) → AllReadable is → (c : Control) → FineControl c → (l : List Invocation) → Ours c.invocations l
    → Ours (all_acted room c is).invocations (heard_all l is (component_rows me room c is))
unfolding all_acted component_rows heard_all component_row
ours-heard me room h [] a c f l o = o
ours-heard me room h (i ∷ is) a c f l o =
    let w = act-stays room h c f i.part a.0 in
    let d : Control = (act room c i.part).control in
    let v : ℕ → Invocation = λ k. heard_of (act room c i.part).kind (act room c i.part).problem i.part (invocation_of c.invocations k) in
    let t : Turns c.invocations d.invocations i.part.id (v i.part.id) =
    λ k. act-lookup room c f i.part a.0 k ∙ at-id k i.part.id v (invocation_of c.invocations k) in
    ours-heard me room h is a.1 d w.fine _
    (subst (λ (x : Invocation). Ours d.invocations (becomes l i.part.id (heard_of (act room c i.part).kind (act room c i.part).problem i.part x)))
    (o.same i.part.id) (ours-turned i.part.id (v i.part.id) o w.fine.invocations t))
  where
    at-id : (k id : ℕ) (v : ℕ → Invocation) (x : Invocation) → if_eq k id (v k) x ≡ if_eq k id (v id) x
    at-id k id v x =
        by-eq {r = if_eq k id (v k) x} _ _ _ _ refl (λ h q. q ∙ ap v h ∙ eq _ _ _ _ h refl) (λ h q. q ∙ ne _ _ _ _ h refl)
