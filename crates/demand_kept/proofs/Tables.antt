-- A TABLE OF OCTETS STAYS READY over every call of a host: it keeps the rules. Assumes nothing.
use Rattle.std.specs.Prelude.{◌≡◌, refl, true, List, ℕ, zero, suc}
use Rattle.std.proofs.Common.{sym, subst}
use Rattle.laws.specs.If.{by-eq}
use Rattle.paper.specs.Calls.{Out, Call, step}
use Rattle.paper.specs.Layout.{view}
use Rattle.paper.specs.Rules.{rules}
use Rattle.paper.specs.Outcome.{Lent, Outcome, standing, spaces_for, shown, outcome}
use Rattle.table_laws.specs.Fine.{Fine}
use Rattle.table_laws.specs.Ready.{Ready}
use Rattle.table_laws.proofs.Ready.{encode-rules, encode-ready}
use Rattle.demand_kept.specs.StepKept.{WellFormed}
use Rattle.demand_kept.proofs.StepKept.{step_kept}

-- a call leaves a table that keeps the rules
module _ (l : Lent) (c : Call) (w : WellFormed c) (r : Ready l.table) where
  after-fine : Fine (step (view l.table) c).table
  after-fine = step_kept (view l.table) r.fine c w

  pub outcome-ready : Ready (outcome l c).lent.table
  unfolding outcome
  outcome-ready = go (standing l (spaces_for c))
    where
      o : Out
      o = step (view l.table) c

      go : (n : ℕ) → Ready (shown n l o).lent.table
      go zero =
          by-eq {r = shown zero l o} _ _ _ _ refl (λ a z. subst (λ (x : Outcome). Ready x.lent.table) (sym z) (encode-ready o.table after-fine))
          (λ a z. subst (λ (x : Outcome). Ready x.lent.table) (sym z) r)
      go (suc n) = r

-- answer 2 is never given to a table that a fresh one became
pub ready-rules : (t : List ℕ) → Ready t → rules t ≡ true
ready-rules t r = subst (λ (v : List ℕ). rules v ≡ true) r.same (encode-rules (view t) r.fine)
