-- THE LEDGER OF A HISTORY (demand 2), played over what a host sees of its calls, and that it agrees with the table. Assumes nothing.
use Rattle.std.specs.Prelude.{◌≡◌, List, [], ◌∷◌, ◌++◌, length, take, drop}
use Rattle.std.proofs.Math.Path.{refl, ap, subst}
use Rattle.std.proofs.Common.{sym, ◌∙◌, take_at}
use Prim.Native.Nat.{ℕ, zero, suc, ◌+◌, ◌≤◌}
use native.Mathlib.Omega.{arith}
use Rattle.std.proofs.lemmas.List.Edits.{sets, sets-eq}
use Rattle.laws.specs.If.{eq, ne, by-eq}
use Rattle.paper.specs.Calls.{Table, Call, Out, step}
use Rattle.paper.specs.Layout.{encode, view}
use Rattle.paper.specs.Contents.{content_of}
use Rattle.paper.specs.Ledger.{Ledger, played_by, played}
use Rattle.paper.specs.Outcome.{Lent, spaces_for, standing, given, shown, refused_by, outcome}
use Rattle.demand_readback.proofs.Contents.{nothing-content}
use Rattle.table_laws.specs.Fine.{Fine}
use Rattle.table_laws.proofs.Whole.{view-encode}
use Rattle.demand_kept.specs.StepKept.{WellFormed}
use Rattle.demand_kept.proofs.StepKept.{step_kept}
use Rattle.demand_ledger.specs.Agrees.{Agrees}
use Rattle.demand_ledger.proofs.StepPlayed.{step-goes}
use Rattle.demands.proofs.Stands.{stands}
use Rattle.demands.specs.History.{Made, gave, after, AllFormed, told}
use Rattle.demands.proofs.History.{told-step}
use Rattle.demands.specs.Booked.{ledger_of, Booked, Followed}

-- what is written at the start of a space is read there
pub first-written : (l m : List ℕ) → length m ≤ length l → take (length m) (sets l 0 m) ≡ m
first-written l m h = ap (take (length m)) (sets-eq m l 0 (omega arith)) ∙ take_at m (drop (0 + length m) l) (length m) refl

module _ (T : Table) (f : Fine T) (L : Ledger) (g : Agrees T L) (m : Made) (w : WellFormed m.call) where
  abbrev c : Call
  c = m.call

  abbrev l : Lent
  l = record { table = encode T; rows = m.rows; space = m.space }

  refused : (n : ℕ) → Booked T L m (refused_by (suc n) l)
  unfolding played
  refused n = record { to = T; fine = f; table = refl; agrees = subst (Agrees T) (ne (suc n) 0 _ _ (λ e. omega arith) refl) g; says = nothing-content; fits = omega arith }

  done : standing l (spaces_for c) ≡ 0 → (step T c).answer ≡ 0 → Booked T L m (given l (step T c))
  unfolding played
  done st z =
      let h = step-goes T f L g c w z in
      let o : Out = step T c in
      let n = first-written m.space o.message (omega (arith, h.fits, (stands l (spaces_for c) st).space)) in
      record {
        to = o.table;
        fine = step_kept T f c w;
        table = refl;
        agrees = subst (Agrees o.table) (ap (played_by L c) (sym (told-step T f l c w st z)) ∙ eq 0 0 _ _ refl refl) h.agrees;
        says = ap content_of n ∙ h.says;
        fits = h.fits;
      }

  pub booked : Booked T L m (gave (encode T) m)
  unfolding outcome
  booked = stand (standing l (spaces_for c)) refl
    where
      stand : (n : ℕ) → standing l (spaces_for c) ≡ n → Booked T L m (shown n l (step (view (encode T)) c))
      stand (suc n) e = refused n
      stand zero e =
          subst (λ (U : Table). Booked T L m (shown 0 l (step U c))) (sym (view-encode T f))
          (by-eq {r = shown 0 l (step T c)} _ _ _ _ refl (λ a z. subst (Booked T L m) (sym z) (done e a)) (λ a z. subst (Booked T L m) (sym z) (other (step T c).answer a)))
        where
          other : (n : ℕ) → (n ≡ 0 → ⊥) → Booked T L m (refused_by n l)
          other zero a = absurd (a refl)
          other (suc n) a = refused n

pub follows : (T : Table) → Fine T → (L : Ledger) → Agrees T L → (ms : List Made) → AllFormed ms → Followed (encode T) L ms
follows T f L g [] o = record { to = T; fine = f; table = refl; agrees = g }
follows T f L g (m ∷ ms) o = on (booked T f L g m o.0) (follows (booked T f L g m o.0).to (booked T f L g m o.0).fine _ (booked T f L g m o.0).agrees ms o.1)
  where
    on : (b : Booked T L m (gave (encode T) m)) → Followed (encode b.to) (played L m.call (told (gave (encode T) m))) ms → Followed (encode T) L (m ∷ ms)
    on b k = record {
      to = k.to;
      fine = k.fine;
      table = ap (λ (t : List ℕ). after t ms) b.table ∙ k.table;
      agrees = subst (λ (t : List ℕ). Agrees k.to (ledger_of (played L m.call (told (gave (encode T) m))) t ms)) (sym b.table) k.agrees;
    }

-- one history after another
pub formed-append : (ms ns : List Made) → AllFormed ms → AllFormed ns → AllFormed (ms ++ ns)
formed-append [] ns a b = b
formed-append (m ∷ ms) ns a b = (a.0, formed-append ms ns a.1 b)
