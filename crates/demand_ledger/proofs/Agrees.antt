-- THE LEDGER AGREES WITH THE TABLE: the relation between the two, and one law for each way in which a table changes. Assumes nothing.
use Rattle.std.specs.Prelude.{◌≡◌, Bool, true, false, List, [], ◌∷◌, ◌++◌, eqb}
use Rattle.std.proofs.Math.Path.{refl, sym, ap}
use Rattle.std.proofs.Common.{subst, ◌∙◌, arith, eqb-true, eq-eqb, ne_eqb}
use Rattle.std.proofs.Math.Option.{Option, none, some}
use Prim.Native.Nat.{ℕ, suc, ◌+◌, ◌%◌, ◌<◌}
use Rattle.std.proofs.lemmas.Bool.{eqb-false}
use Rattle.laws.specs.If.{if_eq, lt, eq, ne, no}
use Rattle.paper.specs.Sizes.{place_of, turn_of, local_id, next_turn, places_in_all}
use Rattle.paper.specs.Dialogues.{Place, freed}
use Rattle.paper.specs.Calls.{Table, place_at, with_place, is_free, is_of, held, is_dialogue, owns}
use Rattle.paper.specs.Ledger.{Entry, Ledger, had_place, ended_in, find, altered, removed, is_entry_of, entries_of, begins, goes_on, ends}
use Rattle.table_laws.specs.Fine.{Fine}
use Rattle.table_laws.proofs.Changes.{held-set, of-used, place_same, place_other}
use Rattle.table_laws.specs.Owners.{Owned}
use Rattle.table_laws.proofs.Owners.{owned-is}
use Rattle.demand_kept.proofs.Shared.{of-free}
use Rattle.demand_ledger.specs.Entries.{Distinct, mapped}
use Rattle.demand_ledger.proofs.Entries.{find-altered, find-altered-other, distinct-altered, entries-altered, find-removed, find-removed-other, distinct-removed, entries-removed, find-added, find-added-other, distinct-added, entries-added}
use Rattle.demand_ledger.specs.Agrees.{id-is, Is, Holds, At, Agrees}

-- what a place holds under an ID is that service's dialogue
pub holds-owns : (T : Table) (d : ℕ) (e : Entry) → Holds (place_at T (place_of d)) d e → owns T e.service d ≡ true
unfolding owns is_dialogue is_free
holds-owns T d e h =
    let x : Place = place_at T (place_of d) in
    sym (lt _ _ _ _ h.small (no _ _ _ (ne_eqb x.control.state 0 h.used) (eq _ _ _ _ h.is.service (sym (eq-eqb x.control.turn (turn_of d) h.turn)))))

-- whichever of two numbers
by-same : {P : Type 0} (a b : ℕ) → (a ≡ b → P) → ((a ≡ b → ⊥) → P) → P
by-same {P} a b f g = go (eqb a b) refl
  where
    go : (t : Bool) → eqb a b ≡ t → P
    go true q = f (eqb-true a b q)
    go false q = g (eqb-false a b q)

module _ (T : Table) (f : Fine T) (L : Ledger) (g : Agrees T L) where
  abbrev l : List Entry
  l = L.dialogues

  -- A DIALOGUE OF THE TABLE is in the ledger
  pub owned-found : (service d : ℕ) → Owned T service d → (P : Type 0) → ((e : Entry) → find l d ≡ some e → Holds (place_at T (place_of d)) d e → P) → P
  owned-found service d o P k = go (find l d) refl (g.each d)
    where
      go : (x : Option Entry) → find l d ≡ x → At (place_at T (place_of d)) d x → P
      go none q a = absurd (a o.small o.state o.turn)
      go (some e) q a = k e q a

  -- and one that the ledger doesn't have is not that service's
  pub unknown-not-owned : (service d : ℕ) → ((e : Entry) → find l d ≡ some e → e.service ≡ service → ⊥) → owns T service d ≡ false
  unknown-not-owned service d n = go (owns T service d) refl
    where
      go : (b : Bool) → owns T service d ≡ b → owns T service d ≡ false
      go false q = q
      go true q =
          let o = owned-is T service d q in
          absurd (owned-found service d o ⊥ (λ e z h. n e z (sym h.is.service ∙ o.service)))

  -- two IDs of one place: the ledger has at most the one whose turn the place has
  other-turn : (k d : ℕ) → (k ≡ d → ⊥) → place_of k ≡ place_of d → (place_at T (place_of d)).control.turn ≡ turn_of d → find l k ≡ none
  other-turn k d n p t = go (find l k) refl (g.each k)
    where
      go : (x : Option Entry) → find l k ≡ x → At (place_at T (place_of k)) k x → find l k ≡ none
      go none q a = q
      go (some e) q a =
          let u : (place_at T (place_of k)).control.turn ≡ (place_at T (place_of d)).control.turn = ap (λ (i : ℕ). (place_at T i).control.turn) p in
          absurd (n (id-is k d p (sym a.turn ∙ u ∙ t)))

  free-none : (k : ℕ) → (place_at T (place_of k)).control.state ≡ 0 → find l k ≡ none
  free-none k z = go (find l k) refl (g.each k)
    where
      go : (x : Option Entry) → find l k ≡ x → At (place_at T (place_of k)) k x → find l k ≡ none
      go none q a = q
      go (some e) q a = absurd (a.used z)

  -- ONE PLACE CHANGED: under every ID of another place all is as it was
  module _ (p : ℕ) (h : p < places_in_all) (y : Place) where
    abbrev U : Table
    U = with_place T p y

    elsewhere : (k : ℕ) (m : List Entry) → find m k ≡ find l k → (place_of k ≡ p → ⊥) → At (place_at U (place_of k)) k (find m k)
    elsewhere k m q n =
        subst (At (place_at U (place_of k)) k) (sym q)
        (subst (λ (x : Place). At x k (find l k)) (sym (place_other T f p h y (place_of k) n)) (g.each k))

    here : (k : ℕ) (x : Option Entry) → place_of k ≡ p → At y k x → At (place_at U (place_of k)) k x
    here k x e a = subst (λ (z : Place). At z k x) (sym (ap (place_at U) e ∙ place_same T f p h y)) a

    counted : (s : ℕ) → held U.places s + is_of s (place_at T p) ≡ held T.places s + is_of s y
    counted s = held-set T.places p y s (omega (arith, f.places))

    turned : (n : ℕ → ℕ) → ((q : ℕ) → (q ≡ p → ⊥) → n q ≡ ended_in q L.ended) → y.control.turn ≡ n p % 16777216
        → (q : ℕ) → q < places_in_all → (place_at U q).control.turn ≡ n q % 16777216
    turned n same own q b =
        by-same q p (λ e. ap (λ (i : ℕ). (place_at U i).control.turn) e ∙ ap (λ (x : Place). x.control.turn) (place_same T f p h y) ∙ own ∙ ap (λ (i : ℕ). n i % 16777216) (sym e))
        (λ e. ap (λ (x : Place). x.control.turn) (place_other T f p h y q e) ∙ g.turns q b ∙ ap (λ (i : ℕ). i % 16777216) (sym (same q e)))

  -- what an entry counts
  entry-counts : (s : ℕ) (e : Entry) (x : Place) → (x.control.state ≡ 0 → ⊥) → Is e x → is_of s x ≡ is_entry_of s e
  unfolding is_entry_of
  entry-counts s e x u w = of-used x s u ∙ ap (λ (k : ℕ). if_eq k s 1 0) w.service

  -- A DIALOGUE GOES ON
  module _ (d : ℕ) (e e' : Entry) (y : Place) (m : List Entry) (there : find l d ≡ some e) (holds : Holds (place_at T (place_of d)) d e)
      (found : find m d ≡ some e') (others : (k : ℕ) → (k ≡ d → ⊥) → find m k ≡ find l k) (differ : Distinct m) (same : (s : ℕ) → entries_of m s ≡ entries_of l s)
      (turn : y.control.turn ≡ turn_of d) (used : y.control.state ≡ 0 → ⊥) (service : e'.service ≡ e.service) (is : Is e' y) where
    abbrev p : ℕ
    p = place_of d

    on-each : (k : ℕ) → At (place_at (with_place T p y) (place_of k)) k (find m k)
    on-each k =
        by-same k d
        (λ q. here p holds.small y k (find m k) (ap place_of q)
        (subst (At y k) (sym (ap (find m) q ∙ found))
        (record { small = subst (λ (i : ℕ). place_of i < places_in_all) (sym q) holds.small; used = used; turn = turn ∙ ap turn_of (sym q); is = is })))
        (λ n. by-same (place_of k) p
        (λ q. here p holds.small y k (find m k) q
        (subst (At y k) (sym (others k n ∙ other-turn k d n q holds.turn)) (λ s u t. n (id-is k d q (sym t ∙ turn)))))
        (λ q. elsewhere p holds.small y k m (others k n) q))

    pub agrees_on : Agrees (with_place T p y) (record { guarantees = L.guarantees; limits = L.limits; dialogues = m; ended = L.ended })
    unfolding is_entry_of
    agrees_on = record {
      guarantees = g.guarantees;
      limits = g.limits;
      each = on-each;
      differ = differ;
      counts = λ s.
          let a : is_of s y ≡ is_entry_of s e' = entry-counts s e' y used is in
          let b : is_of s (place_at T p) ≡ is_entry_of s e = entry-counts s e (place_at T p) holds.used holds.is in
          let c : is_entry_of s e' ≡ is_entry_of s e = ap (λ (k : ℕ). if_eq k s 1 0) service in
          omega (arith, counted p holds.small y s, same s, g.counts s);
      turns = turned p holds.small y (λ q. ended_in q L.ended) (λ q n. refl) (turn ∙ sym holds.turn ∙ g.turns p holds.small);
    }

  -- its entry altered
  pub agrees-altered : (d : ℕ) (e : Entry) (y : Place) (a : Entry → Entry) → find l d ≡ some e → Holds (place_at T (place_of d)) d e
      → ((x : Entry) → (a x).id ≡ x.id) → ((x : Entry) → (a x).service ≡ x.service)
      → y.control.turn ≡ turn_of d → (y.control.state ≡ 0 → ⊥) → Is (a e) y → Agrees (with_place T (place_of d) y) (goes_on L d a)
  agrees-altered d e y a there holds id own turn used is =
      agrees_on d e (a e) y (altered l d a) there holds (find-altered d a id l ∙ ap (mapped a) there) (find-altered-other d a id l)
      (distinct-altered d a id l g.differ) (entries-altered d a id own l) turn used (own e) is

  -- A DIALOGUE ENDS, and its place is freed
  pub agrees-ended : (d : ℕ) (e : Entry) → find l d ≡ some e → Holds (place_at T (place_of d)) d e
      → Agrees (with_place T (place_of d) (freed (place_at T (place_of d)))) (ends L d)
  unfolding ended_in had_place
  agrees-ended d e there holds = record {
    guarantees = g.guarantees;
    limits = g.limits;
    each = λ k.
        by-same k d
        (λ q. here p h y k (find (removed l d) k) (ap place_of q)
        (subst (At y k) (sym (ap (find (removed l d)) q ∙ find-removed d l g.differ)) (λ s u t. u refl)))
        (λ n. by-same (place_of k) p
        (λ q. here p h y k (find (removed l d) k) q
        (subst (At y k) (sym (find-removed-other d l k n ∙ other-turn k d n q holds.turn)) (λ s u t. u refl)))
        (λ q. elsewhere p h y k (removed l d) (find-removed-other d l k n) q));
    differ = distinct-removed d l g.differ;
    counts = λ s.
        omega (arith, counted p h y s, of-free y s refl, entry-counts s e (place_at T p) holds.used holds.is, entries-removed d l e s there, g.counts s);
    turns = turned p h y (λ q. ended_in q (d ∷ L.ended))
        (λ q n. let z : if_eq {A = ℕ} p q 1 0 ≡ 0 = sym (ne _ _ _ _ (λ w. n (sym w)) refl) in omega (arith, z))
        (let z : if_eq {A = ℕ} p p 1 0 ≡ 1 = sym (eq _ _ _ _ refl refl) in
        next (place_at T p).control.turn (ended_in p L.ended) (ended_in p (d ∷ L.ended)) (g.turns p h) (omega (arith, z)));
  }
    where
      p : ℕ
      p = place_of d

      h : p < places_in_all
      h = holds.small

      y : Place
      y = freed (place_at T p)

      next : (t n m : ℕ) → t ≡ n % 16777216 → m ≡ suc n → next_turn t ≡ m % 16777216
      next t n m a b = omega arith

  -- A DIALOGUE BEGINS in a free place
  pub agrees-begun : (p : ℕ) → p < places_in_all → (place_at T p).control.state ≡ 0 → (place_at T p).control.turn < 16777216 → (e : Entry) (y : Place)
      → e.id ≡ local_id p (place_at T p).control.turn → y.control.turn ≡ (place_at T p).control.turn → (y.control.state ≡ 0 → ⊥) → Is e y
      → Agrees (with_place T p y) (begins L e)
  agrees-begun p h free small e y id turn used is = record {
    guarantees = g.guarantees;
    limits = g.limits;
    each = λ k.
        by-same k e.id
        (λ q. here p h y k (find m k) (ap place_of q ∙ at_place)
        (subst (At y k) (sym (ap (find m) q ∙ find-added e l absent))
        (record { small = subst (λ (i : ℕ). i < places_in_all) (sym (ap place_of q ∙ at_place)) h; used = used; turn = turn ∙ sym (ap turn_of q ∙ at_turn); is = is })))
        (λ n. by-same (place_of k) p
        (λ q. here p h y k (find m k) q
        (subst (At y k) (sym (find-added-other e l k n ∙ free-none k (ap (λ (i : ℕ). (place_at T i).control.state) q ∙ free)))
        (λ s u t. n (id-is k e.id (q ∙ sym at_place) (sym t ∙ turn ∙ sym at_turn)))))
        (λ q. elsewhere p h y k m (find-added-other e l k n) q));
    differ = distinct-added e l absent g.differ;
    counts = λ s. omega (arith, counted p h y s, of-free (place_at T p) s free, entry-counts s e y used is, entries-added e l s, g.counts s);
    turns = turned p h y (λ q. ended_in q L.ended) (λ q n. refl) (turn ∙ g.turns p h);
  }
    where
      at_place : place_of e.id ≡ p
      at_place = omega arith

      at_turn : turn_of e.id ≡ (place_at T p).control.turn
      at_turn = omega arith

      m : List Entry
      m = l ++ (e ∷ [])

      absent : find l e.id ≡ none
      absent = free-none e.id (ap (λ (i : ℕ). (place_at T i).control.state) at_place ∙ free)
