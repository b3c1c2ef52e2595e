-- A FRESH TABLE of sound shares keeps the rules. Assumes nothing.
use Rattle.std.specs.Prelude.{◌≡◌, refl, true, List, ℕ, zero, suc, length, replicate}
use Rattle.std.proofs.Common.{sym, ap, subst, ◌∙◌, arith}
use Rattle.std.proofs.Math.Path.{fun_ext}
use Rattle.std.proofs.lemmas.List.{length-replicate, get_or-replicate}
use Rattle.paper.specs.Sizes.{places_in_all, services}
use Rattle.paper.specs.Shares.{shared, shares_fit, shares_kept}
use Rattle.paper.specs.Dialogues.{empty_place}
use Rattle.paper.specs.Calls.{held, dialogues, fresh_table}
use Rattle.paper.specs.Rules.{shares_of_table}
use Rattle.table_shares.specs.Share.{fresh_kept}
use Rattle.table_laws.specs.Fine.{FinePlace, Fine}
use Rattle.table_laws.proofs.Slots.{empty-fine}
use Rattle.demand_kept.proofs.Shared.{of-free}

-- A FRESH TABLE, of shares that answer 13 isn't given to, is fine and holds nothing
pub none-held : (n k : ℕ) → held (replicate n (empty_place 0)) k ≡ 0
unfolding held
none-held zero k = refl
none-held (suc n) k = omega (arith, of-free (empty_place 0) k refl, none-held n k)

pub fresh-is : (g l : List ℕ) → dialogues (fresh_table g l) ≡ shared places_in_all services g l (λ k. 0)
unfolding fresh_table
fresh-is g l = ap (shared places_in_all services g l) (fun_ext (λ k. none-held places_in_all k))

pub fresh-fine : (g l : List ℕ) → length g ≡ services → length l ≡ services → shares_fit (shared places_in_all services g l (λ k. 0)) ≡ true → Fine (fresh_table g l)
unfolding fresh_table shares_of_table
fresh-fine g l guarantees limits fit = record {
  guarantees = guarantees;
  limits = limits;
  places = length-replicate places_in_all (empty_place 0);
  each = λ p h. subst FinePlace (sym (get_or-replicate places_in_all p (empty_place 0) (empty_place 0) h)) (empty-fine 0 (omega arith));
  shares = ap shares_kept (fresh-is g l) ∙ fresh_kept (shared places_in_all services g l (λ k. 0)) (λ k h. refl) ∙ fit;
}
