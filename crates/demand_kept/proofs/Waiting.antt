-- WAITING OCTETS STAY WHOLE COMPONENTS where another is put after them (01, table rules: "waiting octets are whole components, well
-- formed and with the pieces that Coding gives"). Assumes nothing.
use Rattle.std.specs.Prelude.{◌≡◌, refl, true, List, [], ◌∷◌, ◌++◌, ℕ, ◌<◌, length}
use Rattle.std.proofs.Common.{sym, ap, subst, append-nil, arith}
use Rattle.laws.specs.If.{by-eq}
use Rattle.paper.specs.Components.{Item, components, waiting_items}
use Rattle.paper.specs.Rules.{waiting_kept}
use Rattle.demand_readback.proofs.Standing.{has_all}
use Rattle.paper.specs.Writing.{Written, octets_of, joined}
use Rattle.demand_readback.specs.Written.{Allowed, AllAllowed}
use Rattle.demand_readback.proofs.Listing.{items-sound, components-back}
use Rattle.demand_kept.specs.Listed.{all_further, Sound}
use Rattle.demand_kept.proofs.Listed.{none-sound, sound-join, sound-split, listing_none, listing-some, listing-append}

-- WAITING OCTETS ARE KEPT where all that is listed of them is sound
pub kept-none : (w : List ℕ) → length w ≡ 0 → waiting_kept w ≡ true
unfolding waiting_kept
kept-none w h = subst Sound (sym (listing_none w h)) none-sound

kept-some : (w : List ℕ) → Sound (components w (length w) 0) → waiting_kept w ≡ true
unfolding waiting_kept
kept-some w h = by-eq {A = ℕ} (length w) 0 0 0 refl (λ a _. kept-none w a) (λ a _. subst Sound (sym (listing-some w a)) h)

-- ONE AFTER ANOTHER
sound-append : (a b : List Item) → Sound a → Sound b → Sound (a ++ b)
sound-append [] b h g = g
sound-append (i ∷ a) b h g = let w = sound-split i a h in sound-join i (a ++ b) w.0 (sound-append a b w.1 g)

sound-further : (k : ℕ) (l : List Item) → Sound l → Sound (all_further k l)
sound-further k [] h = none-sound
sound-further k (i ∷ l) h = let w = sound-split i l h in sound-join _ (all_further k l) w.0 (sound-further k l w.1)

pub waiting-append : (w l : List ℕ) → waiting_kept w ≡ true → waiting_kept l ≡ true → waiting_kept (w ++ l) ≡ true
unfolding waiting_kept
waiting-append w l a b =
    subst Sound (sym (listing-append w l a b))
    (sound-append (waiting_items w) (all_further (length w) (waiting_items l)) a (sound-further (length w) (waiting_items l) b))

-- WHAT IS WRITTEN of parts that the rules allow
pub joined-kept : (ws : List Written) → AllAllowed ws → length (joined ws) < 65536 → waiting_kept (joined ws) ≡ true
unfolding joined
joined-kept [] allowed fits = kept-none [] refl
joined-kept (w ∷ ws) allowed fits =
    let all : List ℕ = joined (w ∷ ws) in
    kept-some all (subst Sound (components-back all (length all) 0 w ws allowed (has_all all) fits (omega arith)) (items-sound 0 (w ∷ ws)))

-- one alone
joined-one : (w : Written) → joined (w ∷ []) ≡ octets_of w
unfolding joined
joined-one w = append-nil (octets_of w)

pub written-kept : (w : Written) → Allowed w → length (octets_of w) < 65536 → waiting_kept (octets_of w) ≡ true
written-kept w allowed fits =
    subst (λ (v : List ℕ). waiting_kept v ≡ true) (joined-one w) (joined-kept (w ∷ []) (allowed, tt) (omega (arith, ap length (joined-one w))))
