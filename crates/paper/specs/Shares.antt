-- SHARES (demand 3), of any resource that services share. Assumes nothing.
use Rattle.std.specs.Prelude.{Bool, true, false, List, ℕ, ◌-◌, leb, get_or}
use Rattle.laws.specs.If.{if_lt, if_eq, if_b, all}
use Rattle.laws.specs.Sums.{sum, but}

-- A RESOURCE: how much there is of it and among how many services; each one's guarantee and limit, and what it holds
pub record Resource : Type 0 where
  pub size : ℕ
  pub services : ℕ
  pub guarantee : ℕ → ℕ
  pub limit : ℕ → ℕ
  pub held : ℕ → ℕ

-- one whose guarantees and limits stand in lists
abbrev pub shared : ℕ → ℕ → List ℕ → List ℕ → (ℕ → ℕ) → Resource
shared size services guarantees limits held = record {
  size = size;
  services = services;
  guarantee = λ k. get_or guarantees k 0;
  limit = λ k. get_or limits k 0;
  held = held;
}

-- a service's unused guarantee, and all services'
abbrev pub unused : Resource → ℕ → ℕ
unused R k = R.guarantee k - R.held k

abbrev pub all_unused : Resource → ℕ
all_unused R = sum (unused R) R.services

-- "the other services' unused guarantees"
abbrev pub others : Resource → ℕ → ℕ
others R s = sum (but (unused R) s 0) R.services

abbrev pub free : Resource → ℕ
free R = R.size - sum R.held R.services

-- "a service below its guarantee is never refused a place; one at or above it is refused exactly when it is at its limit, or
-- when the free places equal the other services' unused guarantees"
unfoldable pub gives : Resource → ℕ → Bool
gives R s = if_lt (R.held s) (R.guarantee s) true (if_eq (R.held s) (R.limit s) false (if_eq (free R) (others R s) false true))

-- "a guarantee above its limit, a limit above 128, or guarantees over 128 together" (answer 13) is wrong
abbrev pub limit_fits : Resource → ℕ → Bool
limit_fits R k = if_lt (R.limit k) (R.guarantee k) false (leb (R.limit k) R.size)

unfoldable pub shares_fit : Resource → Bool
shares_fit R = if_b (all (limit_fits R) R.services) (leb (sum R.guarantee R.services) R.size) false

-- "shares as for 13; nobody above the limit; free places at least the sum of unused guarantees" (table rules)
abbrev pub within_limit : Resource → ℕ → Bool
within_limit R k = leb (R.held k) (R.limit k)

unfoldable pub shares_kept : Resource → Bool
shares_kept R = if_b (shares_fit R) (if_b (all (within_limit R) R.services) (leb (all_unused R) (free R)) false) false
