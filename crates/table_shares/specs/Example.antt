-- "Guarantees 2 and 3 for services 0 and 1, limits 128 and 3, others 0: service 0 alone gets 125." (01, "Octets to try") Assumes nothing.
use Rattle.std.specs.Prelude.{◌≡◌, refl, cond, [], ◌∷◌, ℕ, zero, suc}
use Rattle.laws.specs.If.{if_lt, if_eq}
use Rattle.laws.specs.Sums.{but}
use Rattle.paper.specs.Sizes.{places_in_all, services}
use Rattle.paper.specs.Shares.{Resource, shared, gives}
use Rattle.table_shares.specs.Share.{holding}

abbrev pub start : Resource
start = shared places_in_all services (2 ∷ 3 ∷ []) (128 ∷ 3 ∷ []) (λ k. 0)

-- a service asks for a place, k times
unfoldable pub asks : Resource → ℕ → Resource
asks R s = cond (gives R s) (holding R (but R.held s (suc (R.held s)))) R

unfoldable pub asks_for : ℕ → Resource → ℕ → ℕ
asks_for zero R s = R.held s
asks_for (suc k) R s = asks_for k (asks R s) s

pub gets-125 : asks_for 200 start 0 ≡ 125
unfolding asks_for asks gives if_lt if_eq
gets-125 = refl
