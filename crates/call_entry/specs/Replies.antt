-- THE REPLY of a call, and how an outcome is shown by it. Assumes nothing.
use Rattle.std.specs.Prelude.{◌≡◌, List, [], ℕ, zero, suc, ◌<◌, Result, Ok, Err, IsErrAnd}
use Rattle.std.proofs.Math.Path.{refl, ap, subst}
use Rattle.std.proofs.Common.{sym, ◌∙◌, arith}
use Rattle.laws.specs.If.{eq, ne}
use Rattle.paper.specs.declared.Refusal.{Refusal}
use Rattle.paper.specs.declared.Refusal.TheVariants.{WrongSize, BrokenTable, NoService, MessageSize, NoDialogue, WrongState, NoPlace, WrongCode, WrongInvocation, InvocationsFull, WrongOctets, TooLong, WrongShares, WrongPortion}
use Rattle.paper.specs.Refusals.{number}
use Rattle.paper.specs.Calls.{Call, Out, step}
use Rattle.paper.specs.Layout.{view}
use Rattle.paper.specs.Outcome.{Lent, Outcome, Gives, outcome, standing, spaces_for, shown, given, refused_by}
use Rattle.call_entry.specs.declared.Reply.{Reply}
use Rattle.call_entry.specs.declared.Effect.{Effect}

abbrev pub reply : ℕ → ℕ → ℕ → ℕ → Reply
reply answer rows length dialogue = record { answer = answer; rows = rows; length = length; dialogue = dialogue }

-- a call's result, as the host is told it: all numbers but a refusal's are 0
abbrev pub reply_of : Result Effect Refusal → Reply
reply_of (Ok did) = reply 0 did.rows did.length did.dialogue
reply_of (Err why) = reply (number why) 0 0 0

pub above-zero : (why : Refusal) → 0 < number why
above-zero WrongSize = omega arith
above-zero BrokenTable = omega arith
above-zero NoService = omega arith
above-zero MessageSize = omega arith
above-zero NoDialogue = omega arith
above-zero WrongState = omega arith
above-zero NoPlace = omega arith
above-zero WrongCode = omega arith
above-zero WrongInvocation = omega arith
above-zero InvocationsFull = omega arith
above-zero WrongOctets = omega arith
above-zero TooLong = omega arith
above-zero WrongShares = omega arith
above-zero WrongPortion = omega arith

abbrev pub Told : Outcome → Reply → Lent → Type 0
Told o r l = Gives o r.answer r.rows r.length r.dialogue l

-- a refusal that a `?` passes up
pub passed_up : {T : Type 0} (P : Result T Refusal → Type 0) (r : Result T Refusal) (why : Refusal) → IsErrAnd r (λ e. e ≡ why) → P (Err why) → P r
passed_up P (Ok x) why h g = absurd h
passed_up P (Err e) why h g = subst (λ (e : Refusal). P (Err e)) (sym h) g

-- what a call's result says of its outcome; so does its reply then, for every call
abbrev pub Ends : Outcome → Result Effect Refusal → Lent → Type 0
Ends o r l = Told o (reply_of r) l

pub told : {o q : Outcome} {r : Reply} {l : Lent} → q ≡ o → r ≡ reply o.answer o.rows o.length o.dialogue → l ≡ o.lent → Told q r l
told {o} {q} {r} e d f = record {
  answered = ap (λ (x : Reply). x.answer) d ∙ ap (λ (x : Outcome). x.answer) (sym e);
  rowed = ap (λ (x : Reply). x.rows) d ∙ ap (λ (x : Outcome). x.rows) (sym e);
  long = ap (λ (x : Reply). x.length) d ∙ ap (λ (x : Outcome). x.length) (sym e);
  named = ap (λ (x : Reply). x.dialogue) d ∙ ap (λ (x : Outcome). x.dialogue) (sym e);
  left = f ∙ ap (λ (x : Outcome). x.lent) (sym e);
}

-- what is lent where a call takes no space, a row space, a message space
abbrev pub only : List ℕ → Lent
only t = record { table = t; rows = []; space = [] }

abbrev pub with_rows : List ℕ → List ℕ → Lent
with_rows t rows = record { table = t; rows = rows; space = [] }

abbrev pub with_space : List ℕ → List ℕ → Lent
with_space t space = record { table = t; rows = []; space = space }

-- a table that another call left as it was
pub left_as : {o : Outcome} {r : Reply} {l : Lent} {t : List ℕ} → t ≡ l.table → Told o r l → Told o r (record { table = t; rows = l.rows; space = l.space })
left_as {l = l} e g = record {
  answered = g.answered;
  rowed = g.rowed;
  long = g.long;
  named = g.named;
  left = ap (λ (t : List ℕ). record { table = t; rows = l.rows; space = l.space }) e ∙ g.left;
}

pub lent_same : (m n : Lent) → m.table ≡ n.table → m.rows ≡ n.rows → m.space ≡ n.space → m ≡ n
lent_same m n a b c =
    ap (λ (t : List ℕ). lent t m.rows m.space) a ∙ ap (λ (r : List ℕ). lent n.table r m.space) b
    ∙ ap (λ (s : List ℕ). lent n.table n.rows s) c
  where
    lent : List ℕ → List ℕ → List ℕ → Lent
    lent t r s = record { table = t; rows = r; space = s }

-- a number above 0 is the whole outcome
shown-standing : (n : ℕ) (l : Lent) (o : Out) → 0 < n → shown n l o ≡ refused_by n l
shown-standing zero l o h = absurd (omega arith)
shown-standing (suc n) l o h = refl

module _ (l : Lent) (c : Call) where
  -- refused by 1 or 2
  pub by-standing : (n : ℕ) → n ≡ standing l (spaces_for c) → 0 < n → {r : Reply} → r ≡ reply n 0 0 0 → Told (outcome l c) r l
  unfolding outcome
  by-standing n e h d =
      told (ap (λ (k : ℕ). shown k l (step (view l.table) c)) (sym e) ∙ shown-standing n l (step (view l.table) c) h) d refl

  module _ (z : 0 ≡ standing l (spaces_for c)) where
    stepped : (o : Out) → step (view l.table) c ≡ o → outcome l c ≡ shown 0 l o
    unfolding outcome
    stepped o e = ap (λ (k : ℕ). shown k l (step (view l.table) c)) (sym z) ∙ ap (shown 0 l) e

    -- refused by its step
    pub by-refusal : (o : Out) → step (view l.table) c ≡ o → 0 < o.answer → {r : Reply} → r ≡ reply o.answer 0 0 0 → Told (outcome l c) r l
    by-refusal o e h d = told (stepped o e ∙ sym (ne _ _ _ _ (λ q. omega arith) refl)) d refl

    -- done
    pub by-step : (o : Out) → step (view l.table) c ≡ o → o.answer ≡ 0 → {r : Reply} {m : Lent} → r ≡ reply 0 (given l o).rows (given l o).length o.dialogue
        → m ≡ (given l o).lent → Told (outcome l c) r m
    by-step o e h d f = told (stepped o e ∙ sym (eq _ _ _ _ h refl)) d f
