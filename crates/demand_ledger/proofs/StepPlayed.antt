-- EVERY STEP that is answered 0: the ledger, played by what it tells, goes with the table, and its message holds what the ledger says.
-- Assumes nothing.
use Rattle.std.specs.Prelude.{◌≡◌, length, replicate}
use Rattle.std.proofs.Math.Path.{refl}
use Rattle.std.proofs.Common.{sym, ap, subst, arith}
use mathlib.Core.List.{List, []}
use Prim.Native.Nat.{ℕ, zero, suc, ◌≤◌, ◌<◌}
use Rattle.std.proofs.lemmas.List.{get_or-replicate}
use Rattle.laws.specs.If.{eq, by-lt, by-eq, by-b}
use Rattle.paper.specs.Sizes.{services, place_of, local_id, places_in_all}
use Rattle.paper.specs.Writing.{joined}
use Rattle.paper.specs.Dialogues.{Place, Request, empty_place, begun, unless_refused, refusal, does, request}
use Rattle.paper.specs.Calls.{Table, Out, place_at, lowest_free, stored, requested, opened, received_if, Call, step, fresh_table}
use Rattle.paper.specs.Calls.Call.{Open, OnDialogue, Receive}
use Rattle.paper.specs.Outcome.{spaces_for}
use Rattle.paper.specs.Contents.{content_of}
use Rattle.paper.specs.Ledger.{Ledger, new_ledger, find, entries_of, noted, played_by, said, ended_in}
use Rattle.demand_readback.proofs.Contents.{nothing-content}
use Rattle.table_laws.specs.Fine.{Fine}
use Rattle.table_laws.proofs.Slots.{free-is}
use Rattle.table_laws.proofs.Counts.{lowest-is-free}
use Rattle.table_laws.proofs.Owners.{owned-is}
use Rattle.demand_kept.proofs.Shared.{lowest-there}
use Rattle.demand_kept.specs.Requests.{Formed}
use Rattle.demand_kept.proofs.Shapes.{does-answers}
use Rattle.demand_kept.specs.StepKept.{WellFormed}
use Rattle.demand_kept.proofs.Fresh.{none-held}
use Rattle.demand_ledger.proofs.Ours.{ours-none}
use Rattle.demand_ledger.specs.Agrees.{Agrees}
use Rattle.demand_ledger.proofs.Agrees.{owned-found, agrees-begun}
use Rattle.demand_ledger.specs.Requests.{Follows}
use Rattle.demand_ledger.proofs.Requests.{does-done}
use Rattle.demand_ledger.proofs.Received.{received-heard}

-- A FRESH TABLE and an empty ledger
pub fresh-agrees : (g l : List ℕ) → Agrees (fresh_table g l) (new_ledger g l)
unfolding fresh_table find entries_of ended_in
fresh-agrees g l = record {
  guarantees = refl;
  limits = refl;
  each = λ d h u t. u (ap (λ (x : Place). x.control.state) (get_or-replicate places_in_all (place_of d) (empty_place 0) (empty_place 0) h));
  differ = tt;
  counts = λ s. sym (none-held places_in_all s);
  turns = λ p h. ap (λ (x : Place). x.control.turn) (get_or-replicate places_in_all p (empty_place 0) (empty_place 0) h);
}

module _ (T : Table) (f : Fine T) (L : Ledger) (g : Agrees T L) where
  pub record Goes (c : Call) (o : Out) : Type 0 where
    pub agrees : Agrees o.table (played_by L c (record { answer = 0; dialogue = o.dialogue; rows = o.rows }))
    pub says : content_of o.message ≡ said L c
    pub fits : length o.message ≤ (spaces_for c).space

  -- where it is answered 0
  abbrev IfDone : Call → Out → Type 0
  IfDone c o = o.answer ≡ 0 → Goes c o

  is : (c : Call) {a b : Out} → a ≡ b → IfDone c b → IfDone c a
  is c z h = subst (IfDone c) (sym z) h

  refused : (c : Call) (n : ℕ) {o : Out} → o.answer ≡ suc n → IfDone c o
  refused c n e a = absurd (omega (arith, e, a))

  opened-goes : (service : ℕ) → service < services → IfDone (Open service) (opened T service)
  unfolding opened joined
  opened-goes service s< =
      by-b {r = opened T service} _ _ _ refl
      (λ may z. is (Open service) z (λ _.
      let p : ℕ = lowest_free T in
      let h : p < places_in_all = lowest-there T f service s< may in
      let t : ℕ = (place_at T p).control.turn in
      record {
        agrees = agrees-begun T f L g p h (free-is (place_at T p) (lowest-is-free T f h)) (f.each p h).control.turn
            (record { id = local_id p t; service = service; state = 1; peer = []; passed = []; rejects = []; invocations = [] })
            (record { control = begun t 1 service 0 (replicate 4 0); waiting = [] }) refl refl (λ e. omega arith)
            (record { state = refl; service = refl; peer = refl; passed = refl; allowed = tt; rejects = refl; ours = ours-none });
        says = nothing-content;
        fits = omega arith;
      }))
      (λ may z. is (Open service) z (refused (Open service) 6 refl))

  requested-goes : (service d : ℕ) (r : Request) → Formed r → IfDone (OnDialogue service d r) (requested T service d r)
  unfolding requested stored request
  requested-goes service d r w =
      by-b {r = requested T service d r} _ _ _ refl
      (λ o z. is c z (owned-found T f L g service d (owned-is T service d o) _ (λ e there holds. go (refusal x r) refl (λ n. does-done T f L g d e there holds r w n))))
      (λ o z. is c z (refused c 4 refl))
    where
      c : Call
      c = OnDialogue service d r

      x : Place
      x = place_at T (place_of d)

      go : (n : ℕ) → refusal x r ≡ n → (refusal x r ≡ 0 → Follows T L d r (does d x r).place (does d x r).message)
          → IfDone c (stored T (place_of d) (unless_refused n x (does d x r)))
      go (suc n) e k = refused c n refl
      go zero e k = λ _.
          record {
            agrees = subst (λ (U : Table). Agrees U (noted L d r)) (eq _ _ _ _ (does-answers d x r) refl) (k e).agrees;
            says = (k e).says;
            fits = (k e).fits;
          }

  received-goes : (service : ℕ) → service < services → (s : List ℕ) → WellFormed (Receive service s) → IfDone (Receive service s) (received_if T service s)
  unfolding received_if
  received-goes service s< s w =
      by-eq {r = received_if T service s} _ _ _ _ refl (λ a z. is c z (refused c 3 refl))
      (λ a z. by-lt _ _ _ _ z (λ b z. is c z (refused c 3 refl))
      (λ b z. is c z (λ _. let h = received-heard T f L g service s< s w in record { agrees = h.agrees; says = h.says; fits = h.fits })))
    where
      c : Call
      c = Receive service s

  -- THE STEP
  pub step-goes : (c : Call) → WellFormed c → (step T c).answer ≡ 0 → Goes c (step T c)
  unfolding step
  step-goes (Open service) w =
      by-lt {r = step T (Open service)} _ _ _ _ refl (λ a z. is (Open service) z (opened-goes service a)) (λ a z. is (Open service) z (refused (Open service) 2 refl))
  step-goes (OnDialogue service d r) w =
      by-lt {r = step T (OnDialogue service d r)} _ _ _ _ refl
      (λ a z. is (OnDialogue service d r) z (requested-goes service d r w)) (λ a z. is (OnDialogue service d r) z (refused (OnDialogue service d r) 2 refl))
  step-goes (Receive service s) w =
      by-lt {r = step T (Receive service s)} _ _ _ _ refl
      (λ a z. is (Receive service s) z (received-goes service a s w)) (λ a z. is (Receive service s) z (refused (Receive service s) 2 refl))
