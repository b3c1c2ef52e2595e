-- A LEDGER'S DIALOGUES: found, altered, removed, added. Assumes nothing.
use Rattle.std.proofs.Math.Path.{◌≡◌, refl, sym, ap, subst}
use Rattle.std.proofs.Common.{◌∙◌}
use Rattle.std.proofs.Math.Option.{none, some}
use mathlib.Core.List.{List, [], ◌∷◌, ◌++◌}
use Rattle.std.specs.Prelude.{ℕ, ◌+◌}
use native.Mathlib.Omega.{arith}
use Rattle.laws.specs.If.{if_eq, eq, ne, by-eq}
use Rattle.paper.specs.Ledger.{Entry, find, altered, removed, is_entry_of, entries_of}
use Rattle.demand_ledger.specs.Entries.{Distinct, mapped}

-- FOUND at the head, or further on
pub find-here : (e : Entry) (l : List Entry) (d : ℕ) → e.id ≡ d → find (e ∷ l) d ≡ some e
unfolding find
find-here e l d h = sym (eq _ _ _ _ h refl)

pub find-on : (e : Entry) (l : List Entry) (d : ℕ) → (e.id ≡ d → ⊥) → find (e ∷ l) d ≡ find l d
unfolding find
find-on e l d h = sym (ne _ _ _ _ h refl)

-- what is found has the ID
pub find-id : (l : List Entry) (d : ℕ) (e : Entry) → find l d ≡ some e → e.id ≡ d
unfolding find
find-id [] d e h = let z : ◌≡◌ {A = ℕ} 0 1 = cc in absurd (omega arith)
find-id (x ∷ l) d e h =
    by-eq {r = find (x ∷ l) d} _ _ _ _ refl
    (λ a z. let q : x ≡ e = cc in ap (λ (y : Entry). y.id) (sym q) ∙ a) (λ a z. find-id l d e (sym z ∙ h))

-- ALTERED: an alteration leaves the ID and the service
module _ (d : ℕ) (f : Entry → Entry) (id : (e : Entry) → (f e).id ≡ e.id) where
  pub find-altered : (l : List Entry) → find (altered l d f) d ≡ mapped f (find l d)
  unfolding altered find
  find-altered [] = refl
  find-altered (e ∷ l) =
      by-eq {r = altered (e ∷ l) d f} _ _ _ _ refl
      (λ a z. ap (λ (k : List Entry). find k d) z ∙ find-here (f e) l d (id e ∙ a) ∙ ap (mapped f) (sym (find-here e l d a)))
      (λ a z. ap (λ (k : List Entry). find k d) z ∙ find-on e (altered l d f) d a ∙ find-altered l ∙ ap (mapped f) (sym (find-on e l d a)))

  pub find-altered-other : (l : List Entry) (k : ℕ) → (k ≡ d → ⊥) → find (altered l d f) k ≡ find l k
  unfolding altered
  find-altered-other [] k n = refl
  find-altered-other (e ∷ l) k n =
      by-eq {r = altered (e ∷ l) d f} _ _ _ _ refl
      (λ a z. ap (λ (m : List Entry). find m k) z ∙ find-on (f e) l k (λ h. n (sym h ∙ id e ∙ a)) ∙ sym (find-on e l k (λ h. n (sym h ∙ a))))
      (λ a z. ap (λ (m : List Entry). find m k) z
      ∙ by-eq {A = ℕ} e.id k 0 0 refl
      (λ b _. find-here e (altered l d f) k b ∙ sym (find-here e l k b))
      (λ b _. find-on e (altered l d f) k b ∙ find-altered-other l k n ∙ sym (find-on e l k b)))

  pub distinct-altered : (l : List Entry) → Distinct l → Distinct (altered l d f)
  unfolding altered
  distinct-altered [] w = tt
  distinct-altered (e ∷ l) w =
      by-eq {r = altered (e ∷ l) d f} _ _ _ _ refl
      (λ a z. subst Distinct (sym z) (ap (find l) (id e) ∙ w.0, w.1))
      (λ a z. subst Distinct (sym z) (find-altered-other l e.id a ∙ w.0, distinct-altered l w.1))

  pub entries-altered : ((e : Entry) → (f e).service ≡ e.service) → (l : List Entry) (s : ℕ) → entries_of (altered l d f) s ≡ entries_of l s
  unfolding altered entries_of is_entry_of
  entries-altered own [] s = refl
  entries-altered own (e ∷ l) s =
      by-eq {r = altered (e ∷ l) d f} _ _ _ _ refl
      (λ a z. ap (λ (k : List Entry). entries_of k s) z ∙ ap (λ (n : ℕ). if_eq n s 1 0 + entries_of l s) (own e))
      (λ a z. ap (λ (k : List Entry). entries_of k s) z ∙ ap (λ (n : ℕ). is_entry_of s e + n) (entries-altered own l s))

-- REMOVED
module _ (d : ℕ) where
  pub find-removed : (l : List Entry) → Distinct l → find (removed l d) d ≡ none
  unfolding removed find
  find-removed [] w = refl
  find-removed (e ∷ l) w =
      by-eq {r = removed (e ∷ l) d} _ _ _ _ refl
      (λ a z. ap (λ (k : List Entry). find k d) z ∙ ap (find l) (sym a) ∙ w.0)
      (λ a z. ap (λ (k : List Entry). find k d) z ∙ find-on e (removed l d) d a ∙ find-removed l w.1)

  pub find-removed-other : (l : List Entry) (k : ℕ) → (k ≡ d → ⊥) → find (removed l d) k ≡ find l k
  unfolding removed
  find-removed-other [] k n = refl
  find-removed-other (e ∷ l) k n =
      by-eq {r = removed (e ∷ l) d} _ _ _ _ refl
      (λ a z. ap (λ (m : List Entry). find m k) z ∙ sym (find-on e l k (λ h. n (sym h ∙ a))))
      (λ a z. ap (λ (m : List Entry). find m k) z
      ∙ by-eq {A = ℕ} e.id k 0 0 refl
      (λ b _. find-here e (removed l d) k b ∙ sym (find-here e l k b))
      (λ b _. find-on e (removed l d) k b ∙ find-removed-other l k n ∙ sym (find-on e l k b)))

  pub distinct-removed : (l : List Entry) → Distinct l → Distinct (removed l d)
  unfolding removed
  distinct-removed [] w = tt
  distinct-removed (e ∷ l) w =
      by-eq {r = removed (e ∷ l) d} _ _ _ _ refl (λ a z. subst Distinct (sym z) w.1)
      (λ a z. subst Distinct (sym z) (find-removed-other l e.id a ∙ w.0, distinct-removed l w.1))

  pub entries-removed : (l : List Entry) (e : Entry) (s : ℕ) → find l d ≡ some e → entries_of (removed l d) s + is_entry_of s e ≡ entries_of l s
  unfolding removed entries_of find
  entries-removed [] e s h = let z : ◌≡◌ {A = ℕ} 0 1 = cc in absurd (omega arith)
  entries-removed (x ∷ l) e s h =
      by-eq {A = ℕ} x.id d 0 0 refl
      (λ a _. let q : some x ≡ some e = sym (find-here x l d a) ∙ h in
      let r : removed (x ∷ l) d ≡ l = sym (eq _ _ _ _ a refl) in
      let i : is_entry_of s x ≡ is_entry_of s e = same_of (is_entry_of s) x e q in
      omega (arith, ap (λ (k : List Entry). entries_of k s) r))
      (λ a _. let q : find l d ≡ some e = sym (find-on x l d a) ∙ h in
      let r : removed (x ∷ l) d ≡ x ∷ removed l d = sym (ne _ _ _ _ a refl) in
      omega (arith, ap (λ (k : List Entry). entries_of k s) r, entries-removed l e s q))
    where
      same_of : (g : Entry → ℕ) (x e : Entry) → some x ≡ some e → g x ≡ g e
      same_of g x e q = let z : x ≡ e = cc in ap g z

-- ADDED at the end, under an ID that none has
module _ (e : Entry) where
  pub find-added : (l : List Entry) → find l e.id ≡ none → find (l ++ (e ∷ [])) e.id ≡ some e
  unfolding find
  find-added [] h = find-here e [] e.id refl
  find-added (x ∷ l) h =
      by-eq {r = find (x ∷ l) e.id} _ _ _ _ refl (λ a z. absurd (let q : ◌≡◌ {A = ℕ} 0 1 = cc in omega arith))
      (λ a z. find-on x (l ++ (e ∷ [])) e.id a ∙ find-added l (sym z ∙ h))

  pub find-added-other : (l : List Entry) (k : ℕ) → (k ≡ e.id → ⊥) → find (l ++ (e ∷ [])) k ≡ find l k
  find-added-other [] k n = find-on e [] k (λ h. n (sym h))
  find-added-other (x ∷ l) k n =
      by-eq {A = ℕ} x.id k 0 0 refl (λ a _. find-here x (l ++ (e ∷ [])) k a ∙ sym (find-here x l k a))
      (λ a _. find-on x (l ++ (e ∷ [])) k a ∙ find-added-other l k n ∙ sym (find-on x l k a))

  pub distinct-added : (l : List Entry) → find l e.id ≡ none → Distinct l → Distinct (l ++ (e ∷ []))
  unfolding find
  distinct-added [] h w = (refl, tt)
  distinct-added (x ∷ l) h w =
      by-eq {r = find (x ∷ l) e.id} _ _ _ _ refl (λ a z. absurd (let q : ◌≡◌ {A = ℕ} 0 1 = cc in omega arith))
      (λ a z. (find-added-other l x.id a ∙ w.0, distinct-added l (sym z ∙ h) w.1))

  pub entries-added : (l : List Entry) (s : ℕ) → entries_of (l ++ (e ∷ [])) s ≡ entries_of l s + is_entry_of s e
  unfolding entries_of
  entries-added [] s = omega arith
  entries-added (x ∷ l) s = omega (arith, entries-added l s)
