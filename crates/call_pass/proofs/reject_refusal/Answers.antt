use Rattle.std.proofs.Common.{◌≡◌, ℕ, Bool, List, sym, ap, ◌∙◌, arith, rules}
use Rattle.std.specs.Prelude.{Some}
use Rattle.reading_problems.specs.Parties.{party_number}
use Rattle.reading_problems.specs.declared.Party.{Party}
use Rattle.reading_problems.specs.declared.Party.TheVariants.{SubLayer, User}
use Rattle.call_pass.specs.Refusing.{reject-open, not-users, may-not, reject-room}
use Rattle.paper.specs.Invocations.{invocation_of, may_reject}
use Rattle.paper.specs.Problems.{kind_of}
use Rattle.paper.specs.declared.Invocation.{Invocation}
use Rattle.call_pass.proofs.reject_refusal.Goals as goal

-- who sends it
by-party : (x y : Party) (n : ℕ) → x ≡ y → party_number (Some x) ≡ n → n ≡ party_number (Some y)
by-party x y n i e = cc

-- what the user may do to the invocation that was looked up
may-as : (k id n : ℕ) (l m : List Invocation) (v : Invocation) (b : Bool) → m ≡ l → n ≡ id → v ≡ invocation_of l n → b ≡ may_reject k v → may_reject k (invocation_of m id) ≡ b
may-as k id n l m v b e i p q = ap (λ (m : List Invocation). may_reject k (invocation_of m id)) e ∙ sym (q ∙ ap (may_reject k) (p ∙ ap (invocation_of l) i))

pub returns-then-state-eq-DIALOGUE_OPEN : goal.returns-then-state-eq-DIALOGUE_OPEN
returns-then-state-eq-DIALOGUE_OPEN c =
    λ x s e f. reject-open x c.args.id c.args.problem (s ∙ c.if-state-eq-DIALOGUE_OPEN.true)

pub returns-in-Some-SubLayer : goal.returns-in-Some-SubLayer
returns-in-Some-SubLayer c =
    let w = by-party _ SubLayer _ c.in-Some-SubLayer.field-0-is c.in-Some-SubLayer.ensures in
    λ x s e f. not-users x c.args.id c.args.problem (λ q. c.if-state-eq-DIALOGUE_OPEN.false (sym s ∙ q))
    (λ q. let z : ◌≡◌ {A = ℕ} 0 1 = sym w ∙ q in absurd (omega arith))

pub returns-in-None : goal.returns-in-None
returns-in-None c =
    λ x s e f. not-users x c.args.id c.args.problem (λ q. c.if-state-eq-DIALOGUE_OPEN.false (sym s ∙ q))
    (λ q. let z : ◌≡◌ {A = ℕ} 2 1 = c.in-None.ensures ∙ q in absurd (omega arith))

pub returns-then-not-may_reject : goal.returns-then-not-may_reject
returns-then-not-may_reject c =
    let w = by-party _ User _ c.in-Some-User.field-0-is c.in-Some-User.ensures in
    λ x s e f. may-not x c.args.id c.args.problem (λ q. c.if-state-eq-DIALOGUE_OPEN.false (sym s ∙ q)) w
    (may-as (kind_of c.args.problem) c.args.id _ _ _ _ _ e c.from.ensures c.invocation_of-v.ensures c.may_reject.ensures ∙ c.if-not-may_reject.true)

pub returns : goal.returns
returns c =
    let w = by-party _ User _ c.in-Some-User.field-0-is c.in-Some-User.ensures in
    λ x s e f. reject-room x c.args.id c.args.problem (λ q. c.if-state-eq-DIALOGUE_OPEN.false (sym s ∙ q)) w
    (may-as (kind_of c.args.problem) c.args.id _ _ _ _ _ e c.from.ensures c.invocation_of-v.ensures c.may_reject.ensures ∙ c.if-not-may_reject.false)
    (search rules) f c.over_by.ensures
