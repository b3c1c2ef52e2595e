-- THE PROLOGUE of a call: its number, and what stands where that is 0. Assumes nothing.
use Rattle.std.specs.Prelude.{◌≡◌, Bool, true, false, List, ℕ, ◌<◌, ◌≤◌, get_or, Result, Ok, Err, IfOk}
use Rattle.std.proofs.Math.Path.{refl, sym, ap, subst}
use Rattle.std.proofs.Common.{◌∙◌, arith}
use Rattle.laws.specs.If.{if_lt, if_eq, if_b, lt, ge, eq, ne, yes, no, was-lt, was-ge, by-eq}
use Rattle.paper.specs.declared.Refusal.{Refusal}
use Rattle.paper.specs.declared.Refusal.TheVariants.{NoDialogue}
use Rattle.paper.specs.Refusals.{number, answer_of}
use Rattle.paper.specs.Sizes.{places_in_all, services, place_of}
use Rattle.paper.specs.Shares.{Resource, gives}
use Rattle.paper.specs.Calls.{place_at, dialogues, may_begin, lowest_free, owns}
use Rattle.paper.specs.Layout.{flag, view}
use Rattle.paper.specs.declared.Control.{Control}
use Rattle.paper.specs.Outcome.{Spaces}
use Rattle.call_entry.specs.declared.Spaces as given
use Rattle.call_entry.specs.Replies.{above-zero}
use Rattle.table_laws.specs.Fine.{FineControl, FinePlace}
use Rattle.table_places.specs.Storing.{Storing}
use Rattle.table_laws.specs.Ready.{Ready}
use Rattle.table_laws.proofs.Owners.{owned-is}
use Rattle.table_laws.proofs.Counts.{lowest-is-free}
use Rattle.table_laws.proofs.Lowest.{free-there}
use Rattle.table_shares.specs.Share.{gives-room}
use Rattle.table_shares.specs.Telling.{Told}
use Rattle.table_rules.specs.Checking.{table_answer, Passed}

-- the row space and the message space, as the contracts have them
abbrev pub spaces : given.Spaces → Spaces
spaces n = record { rows = n.rows; space = n.space }

-- 1, 2, 3, else 0; of a call on a dialogue 5 too
unfoldable pub entry_of : List ℕ → Spaces → Spaces → ℕ → ℕ
entry_of t lent least s =
    if_lt lent.rows least.rows 1 (if_lt lent.space least.space 1 (if_eq (table_answer t) 0 (if_lt s services 0 3) (table_answer t)))

unfoldable pub entry_at : List ℕ → Spaces → Spaces → ℕ → ℕ → ℕ
entry_at t lent least s d = if_eq (entry_of t lent least s) 0 (if_b (owns (view t) s d) 0 5) (entry_of t lent least s)

-- WHAT IS HANDED OVER where nothing refuses
pub record Within (t : List ℕ) (lent least : Spaces) (s : ℕ) : Type 0 where
  pub long : (least.rows ≤ lent.rows) × (least.space ≤ lent.space)
  pub stands : 0 ≡ table_answer t
  pub service : s < services

pub within : {t : List ℕ} {lent least : Spaces} {s : ℕ} → 0 ≡ entry_of t lent least s → Within t lent least s
unfolding entry_of
within e =
    let a = was-ge _ _ _ _ e (λ q. omega arith) in
    let b = was-ge _ _ _ _ a.1 (λ q. omega arith) in
    by-eq _ _ _ _ b.1
    (λ z w. record { long = (a.0, b.0); stands = sym z; service = (was-lt _ _ _ _ w (λ q. omega arith)).0 })
    (λ z w. absurd (z (sym w)))

pub record InService (t : List ℕ) (lent least : Spaces) (s : ℕ) : Type 0 where
  pub ready : Ready t
  pub within : Within t lent least s
  -- where the share rule gives a place, the lowest free one is there
  pub there : may_begin (view t) s ≡ true → (lowest_free (view t) < places_in_all) × (flag (place_at (view t) (lowest_free (view t))) ≡ 1)

-- place p of a table that keeps the rules has a dialogue
pub record Used (t : List ℕ) (p : ℕ) : Type 0 where
  pub ready : Ready t
  pub small : p < places_in_all
  pub told : flag (place_at (view t) p) ≡ 0
  pub state : (place_at (view t) p).control.state ≡ 0 → ⊥
  pub fine : FinePlace (place_at (view t) p)

pub record InDialogue (t : List ℕ) (lent least : Spaces) (s d p : ℕ) : Type 0 where
  pub within : Within t lent least s
  pub owner : owns (view t) s d ≡ true
  pub place : p ≡ place_of d
  pub used : Used t p

-- what the two prologues tell: the refusal's number, or whether the share rule gives a place; the number, or the place
pub record Enters (t : List ℕ) (lent least : Spaces) (s : ℕ) (r : Result Bool Refusal) : Type 0 where
  pub is : answer_of r ≡ entry_of t lent least s
  pub inside : IfOk r (λ given. InService t lent least s)
  pub may : IfOk r (λ given. given ≡ may_begin (view t) s)

pub record Meets (t : List ℕ) (lent least : Spaces) (s d : ℕ) (r : Result ℕ Refusal) : Type 0 where
  pub is : answer_of r ≡ entry_at t lent least s d
  pub inside : IfOk r (λ p. InDialogue t lent least s d p)

-- the same least spaces by another name
pub meets-as : {t : List ℕ} {lent n m : Spaces} {s d : ℕ} {r : Result ℕ Refusal} → n ≡ m → Meets t lent n s d r → Meets t lent m s d r
meets-as {t} {lent} {s = s} {d} {r} e w = subst (λ (k : Spaces). Meets t lent k s d r) e w

module _ (t : List ℕ) (lent least : Spaces) (s : ℕ) where
  pub enters-no : (why : Refusal) → number why ≡ entry_of t lent least s → Enters t lent least s (Err why)
  enters-no why e = record { is = e; inside = tt; may = tt }

  pub rows_few : lent.rows < least.rows → 1 ≡ entry_of t lent least s
  unfolding entry_of
  rows_few h = lt _ _ _ _ h refl

  module _ (a : least.rows ≤ lent.rows) where
    pub space-small : lent.space < least.space → 1 ≡ entry_of t lent least s
    unfolding entry_of
    space-small h = ge _ _ _ _ a (lt _ _ _ _ h refl)

    module _ (b : least.space ≤ lent.space) where
      pub table-no : (n : ℕ) → n ≡ table_answer t → 0 < n → n ≡ entry_of t lent least s
      unfolding entry_of
      table-no n e h = ge _ _ _ _ a (ge _ _ _ _ b (ne _ _ _ _ (λ q. omega (arith, e, q)) e))

      pub service-no : 0 ≡ table_answer t → services ≤ s → 3 ≡ entry_of t lent least s
      unfolding entry_of
      service-no e h = ge _ _ _ _ a (ge _ _ _ _ b (eq _ _ _ _ (sym e) (ge _ _ _ _ h refl)))

      pub enters : (counts : List ℕ) (rest left : ℕ) → 0 ≡ table_answer t → Passed t counts rest left → s < services → (m : Bool) (count guarantee limit : ℕ)
          → count ≡ get_or counts s 0 → guarantee ≡ (dialogues (view t)).guarantee s → limit ≡ (dialogues (view t)).limit s
          → ((R : Resource) (k : ℕ) → Told R k count guarantee limit rest left → m ≡ gives R k) → Enters t lent least s (Ok m)
      unfolding entry_of may_begin
      enters counts rest left e f h m count guarantee limit i j c k =
          record {
            is = ge _ _ _ _ a (ge _ _ _ _ b (eq _ _ _ _ (sym e) (lt _ _ _ _ h refl)));
            inside =
                record {
                  ready = f.ready;
                  within = record { long = (a, b); stands = e; service = h };
                  there = λ y. let z = free-there (view t) f.ready.fine (gives-room (dialogues (view t)) f.sound s h y) in
                      (z, lowest-is-free (view t) f.ready.fine z);
                };
            may = k (dialogues (view t)) s
                (record { service = h; counted = i ∙ f.counted s h; guaranteed = j; limited = c; kept = f.kept; remain = f.remain });
          }

module _ (t : List ℕ) (lent least : Spaces) (s d : ℕ) where
  pub meets-not : (why : Refusal) → Enters t lent least s (Err why) → Meets t lent least s d (Err why)
  unfolding entry_at
  meets-not why i = record { is = ne _ _ _ _ (λ q. omega (arith, i.is, above-zero why, q)) i.is; inside = tt }

  module _ (m : Bool) (i : Enters t lent least s (Ok m)) where
    pub meets-none : false ≡ owns (view t) s d → Meets t lent least s d (Err NoDialogue)
    unfolding entry_at
    meets-none w = record { is = eq _ _ _ _ (sym i.is) (no _ _ _ (sym w) refl); inside = tt }

    pub meets : true ≡ owns (view t) s d → (p : ℕ) → p ≡ place_of d → Meets t lent least s d (Ok p)
    unfolding entry_at
    meets w p e =
        let j = i.inside in
        let o = owned-is (view t) s d (sym w) in
        record {
          is = eq _ _ _ _ (sym i.is) (yes _ _ _ (sym w) refl);
          inside =
              record {
                within = j.within;
                owner = sym w;
                place = e;
                used =
                    record {
                      ready = j.ready;
                      small = omega (arith, e, o.small);
                      told = ap (λ (k : ℕ). flag (place_at (view t) k)) e ∙ o.used;
                      state = subst (λ (k : ℕ). (place_at (view t) k).control.state ≡ 0 → ⊥) (sym e) o.state;
                      fine = j.ready.fine.each p (omega (arith, e, o.small));
                    };
              };
        }

-- a control record that can be stored at a dialogue's place
pub used-storing : {t : List ℕ} {p : ℕ} → Used t p → {c : Control} → FineControl c → (c.state ≡ 0 → ⊥) → Storing 0 t p c
used-storing u f n = record { ready = u.ready; small = u.small; told = u.told; control = f; state = n }
