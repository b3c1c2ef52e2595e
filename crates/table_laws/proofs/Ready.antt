-- THE TABLE RULES HOLD exactly where the octets are those of a fine table. Assumes nothing.
use Rattle.std.specs.Prelude.{◌≡◌, refl, Bool, true, List, map, ℕ, ◌<◌, length, take}
use Rattle.std.proofs.Math.Path.{sym}
use Rattle.std.proofs.Common.{ap, subst, ◌∙◌}
use Rattle.std.proofs.Math.Bool.{false}
use Rattle.laws.specs.If.{if_b, yes, no, was-yes, true-false, all, all-at, all_of}
use Rattle.laws.specs.Digits.{octet_digits}
use Rattle.paper.specs.Sizes.{places_in_all}
use Rattle.paper.specs.Calls.{Table, place_at}
use Rattle.paper.specs.Layout.{place_octets, table_size, map_size, flag, encode, slot, view}
use Rattle.paper.specs.Rules.{place_kept, shares_of_table, alike, rules}
use Rattle.table_laws.specs.Fine.{Octets, Fine}
use Rattle.table_laws.proofs.Zeros.{alike_is, is-alike}
use Rattle.table_laws.proofs.Slots.{fine-place}
use Rattle.table_laws.specs.Whole.{slot_at_kept}
use Rattle.table_laws.proofs.Whole.{encode-length, encode-slot, encode-bits, encode-kept, view-encode, view-length, view_shares, view-fine, view-each, encode-view}
use Rattle.table_laws.specs.Ready.{Ready}

-- ---- A FINE TABLE'S OCTETS KEEP THE RULES
pub encode-rules : (T : Table) → Fine T → rules (encode T) ≡ true
unfolding rules
encode-rules T f =
    let e : view (encode T) ≡ T = view-encode T f in
    sym (yes _ _ _ (is-alike _ _ (ap encode e))
    (yes _ _ _ (all_of (λ p. place_kept (place_at (view (encode T)) p)) places_in_all (λ p h. ap (λ (U : Table). place_kept (place_at U p)) e ∙ fine-place (place_at T p) (f.each p h)))
    (sym (ap shares_of_table e ∙ f.shares))))

pub encode-stands : (T : Table) → Fine T → (length (encode T) ≡ table_size) × (rules (encode T) ≡ true)
encode-stands T f = (encode-length T f, encode-rules T f)

module _ (t : List ℕ) (o : Octets t) (e : length t ≡ table_size) where
  pub ready : rules t ≡ true → Ready t
  unfolding rules
  ready r =
      let a = was-yes (alike (encode (view t)) t) _ false (sym r) true-false in
      let b = was-yes (all (λ p. place_kept (place_at (view t) p)) places_in_all) (shares_of_table (view t)) false a.1 true-false in
      let same : encode (view t) ≡ t = alike_is (encode (view t)) t a.0 in
      record {
        long = e;
        fine =
            record {
              guarantees = (view_shares t e).0;
              limits = (view_shares t e).1;
              places = view-length t;
              each = λ p h. view-fine t e o same p h (all-at (λ p. place_kept (place_at (view t) p)) places_in_all p b.0 h);
              shares = sym b.1;
            };
        same = same;
      }

  -- THE RULES ARE THE WALK, place by place, and the shares
  walk-rules : all (slot_at_kept t) places_in_all ≡ true → rules t ≡ shares_of_table (view t)
  unfolding rules
  walk-rules k =
      sym (yes _ _ _ (is-alike _ _ (encode-view t e o k)) (yes _ _ _ (all_of (λ p. place_kept (place_at (view t) p)) places_in_all (view-each t e o k)) refl))

  pub rules-walk : rules t ≡ if_b (all (slot_at_kept t) places_in_all) (shares_of_table (view t)) false
  rules-walk = go (all (slot_at_kept t) places_in_all) refl (rules t) refl
    where
      go : (b : Bool) → all (slot_at_kept t) places_in_all ≡ b → (c : Bool) → rules t ≡ c → rules t ≡ if_b (all (slot_at_kept t) places_in_all) (shares_of_table (view t)) false
      go true k c q = walk-rules k ∙ yes _ _ _ k refl
      go false k true q =
          let r = ready q in
          absurd (true-false (sym (all_of (slot_at_kept t) places_in_all (λ p h. ap (λ (u : List ℕ). slot_at_kept u p) (sym r.same) ∙ encode-kept (view t) r.fine p h)) ∙ k))
      go false k false q = q ∙ no _ _ _ k refl

pub encode-ready : (T : Table) → Fine T → Ready (encode T)
encode-ready T f = record {
  long = encode-length T f;
  fine = subst Fine (sym (view-encode T f)) f;
  same = ap encode (view-encode T f);
}

-- ---- what a ready table's octets say
module _ (t : List ℕ) (r : Ready t) where
  pub ready-bits : octet_digits (take map_size t) ≡ map flag (view t).places
  ready-bits = ap (λ (x : List ℕ). octet_digits (take map_size x)) (sym r.same) ∙ encode-bits (view t) r.fine

  pub ready-slot : (p : ℕ) → p < places_in_all → slot t p ≡ place_octets (place_at (view t) p)
  ready-slot p h = ap (λ (x : List ℕ). slot x p) (sym r.same) ∙ encode-slot (view t) r.fine p h
