-- THE END OF A CALL: from what a request is refused by, or does, to the call's outcome. Assumes nothing.
use Rattle.std.specs.Prelude.{◌≡◌, List, [], ◌∷◌, ℕ, zero, suc, ◌<◌, length, Result, IsErrAnd}
use Rattle.std.proofs.Math.Path.{refl, sym, ap}
use Rattle.std.proofs.Common.{◌∙◌, append-nil, arith}
use Rattle.std.proofs.lemmas.List.Edits.{sets}
use Rattle.laws.specs.If.{if_lt, if_b, lt, ge, eq, yes, no, by-lt, by-eq, by-b, was-ge}
use Rattle.paper.specs.declared.Row.{Row}
use Rattle.paper.specs.declared.Refusal.{Refusal}
use Rattle.paper.specs.Refusals.{number}
use Rattle.paper.specs.Rows.{row_octets, rows_octets}
use Rattle.paper.specs.Dialogues.{Place, Request, Done, done, refusal, does, request, refused, unless_refused}
use Rattle.paper.specs.Sizes.{services}
use Rattle.paper.specs.Calls.{Call, Out, Table, place_at, with_place, owns, refuse, stored, requested, step}
use Rattle.paper.specs.Calls.Call.{OnDialogue}
use Rattle.paper.specs.Layout.{encode, view}
use Rattle.paper.specs.Outcome.{Lent, Spaces, outcome, standing, spaces_of, spaces_for, given}
use Rattle.table_rules.specs.Checking.{table_answer, standing-check, standing-rows, standing-space}
use Rattle.call_entry.specs.declared.Reply.{Reply}
use Rattle.call_entry.specs.declared.Effect.{Effect}
use Rattle.call_entry.specs.Replies.{reply, above-zero, passed_up, Told, Ends, lent_same, by-standing, by-refusal, by-step}
use Rattle.call_entry.specs.Prologue.{entry_of, entry_at, Within, within, InDialogue}

-- the octets of the spaces that are lent
abbrev pub has : Lent → Spaces
has l = record { rows = length l.rows; space = length l.space }

-- ---- rows written from the first on
pub no_rows : (l : List ℕ) → l ≡ sets l 0 (rows_octets [])
unfolding rows_octets
no_rows l = refl

pub one-row : (l : List ℕ) (r : Row) → sets l 0 (row_octets r) ≡ sets l 0 (rows_octets (r ∷ []))
unfolding rows_octets
one-row l r = ap (sets l 0) (sym (append-nil (row_octets r)))

-- ---- A SERVICE'S CALL: its step is refuse 3 past 15
module _ (l : Lent) (c : Call) (s : ℕ) (o : Out) (is : step (view l.table) c ≡ if_lt s services o (refuse 3 (view l.table))) where
  stood : Within l.table (has l) (spaces_for c) s → 0 ≡ standing l (spaces_for c)
  stood w = w.stands ∙ standing-check l (spaces_for c) w.long.0 w.long.1

  pub call-refused : (n : ℕ) → n ≡ entry_of l.table (has l) (spaces_for c) s → 0 < n → {r : Reply} → r ≡ reply n 0 0 0 → Told (outcome l c) r l
  unfolding entry_of
  call-refused n e h d =
      by-lt _ _ _ _ e (λ g z. by-standing l c n (z ∙ standing-rows l (spaces_for c) g) h d)
      (λ g z. by-lt _ _ _ _ z (λ k y. by-standing l c n (y ∙ standing-space l (spaces_for c) g k) h d)
      (λ k y. by-eq (table_answer l.table) 0 (if_lt s services 0 3) (table_answer l.table) y
      (λ a w. let f = was-ge s services 0 3 w (λ v. omega arith) in
      by-refusal l c (sym a ∙ standing-check l (spaces_for c) g k) (refuse 3 (view l.table)) (is ∙ sym (ge _ _ _ _ f.0 refl)) (omega arith) (d ∙ ap (λ (m : ℕ). reply m 0 0 0) f.1))
      (λ a w. by-standing l c n (w ∙ standing-check l (spaces_for c) g k) h d)))

  module _ (w : Within l.table (has l) (spaces_for c) s) where
    stepped : {q : Out} → o ≡ q → step (view l.table) c ≡ q
    stepped e = is ∙ sym (lt _ _ _ _ w.service refl) ∙ e

    pub call-no : (n : ℕ) (q : Out) → o ≡ q → n ≡ q.answer → 0 < n → {r : Reply} → r ≡ reply n 0 0 0 → Told (outcome l c) r l
    call-no n q e a h d = by-refusal l c (stood w) q (stepped e) (omega (arith, a, h)) (d ∙ ap (λ (k : ℕ). reply k 0 0 0) a)

    pub call-done : (q : Out) → o ≡ q → q.answer ≡ 0 → {r : Reply} {m : Lent} → r ≡ reply 0 (given l q).rows (given l q).length q.dialogue
        → m ≡ (given l q).lent → Told (outcome l c) r m
    call-done q e h d f = by-step l c (stood w) q (stepped e) h d f

-- ---- A REQUEST ON A DIALOGUE
refused-by : (n me : ℕ) (x : Place) (q : Request) → n ≡ refusal x q → 0 < n → request me x q ≡ refused n x
unfolding request
refused-by n me x q e h = ap (λ (k : ℕ). unless_refused k x (does me x q)) (sym e) ∙ go n h
  where
    go : (n : ℕ) → 0 < n → unless_refused n x (does me x q) ≡ refused n x
    go zero h = absurd (omega arith)
    go (suc n) h = refl

not-refused : (me : ℕ) (x : Place) (q : Request) → 0 ≡ refusal x q → request me x q ≡ does me x q
unfolding request
not-refused me x q e = ap (λ (k : ℕ). unless_refused k x (does me x q)) (sym e)

module _ (l : Lent) (s d : ℕ) (q : Request) where
  abbrev c : Call
  c = OnDialogue s d q

  abbrev T : Table
  T = view l.table

  pub dialogue-refused : (n : ℕ) → n ≡ entry_at l.table (has l) (spaces_of q) s d → 0 < n → {r : Reply} → r ≡ reply n 0 0 0 → Told (outcome l (OnDialogue s d q)) r l
  unfolding entry_at step requested
  dialogue-refused n e h f =
      by-eq (entry_of l.table (has l) (spaces_of q) s) 0 (if_b (owns T s d) 0 5) (entry_of l.table (has l) (spaces_of q) s) e
      (λ z w. by-b (owns T s d) 0 5 w (λ y v. absurd (omega arith))
      (λ y v. call-no l c s (requested T s d q) refl (within (sym z)) n (refuse 5 T) (sym (no _ _ _ y refl)) v h f))
      (λ z w. call-refused l c s (requested T s d q) refl n w h f)

  -- passed up by a `?`
  pub dialogue-entry : (r : Result Effect Refusal) (why : Refusal) → IsErrAnd r (λ e. e ≡ why) → number why ≡ entry_at l.table (has l) (spaces_of q) s d → Ends (outcome l (OnDialogue s d q)) r l
  dialogue-entry r why h e = passed_up (λ r. Ends (outcome l (OnDialogue s d q)) r l) r why h (dialogue-refused (number why) e (above-zero why) refl)

  module _ (p : ℕ) (i : InDialogue l.table (has l) (spaces_of q) s d p) where
    did : (o : Done) → request d (place_at T p) q ≡ o → requested T s d q ≡ stored T p o
    unfolding requested
    did o e = sym (yes _ _ _ i.owner refl) ∙ ap (λ (k : ℕ). stored T k (request d (place_at T k) q)) (sym i.place) ∙ ap (stored T p) e

    -- refused by the request itself, from 6 on
    pub dialogue-no : (n : ℕ) → n ≡ refusal (place_at (view l.table) p) q → 0 < n → {r : Reply} → r ≡ reply n 0 0 0 → Told (outcome l (OnDialogue s d q)) r l
    unfolding step stored
    dialogue-no n e h f =
        call-no l c s (requested T s d q) refl i.within n (stored T p (refused n (place_at T p))) (did (refused n (place_at T p)) (refused-by n d (place_at T p) q e h)) refl h f

    pub dialogue-refusal : (r : Result Effect Refusal) (why : Refusal) → IsErrAnd r (λ e. e ≡ why) → number why ≡ refusal (place_at (view l.table) p) q → Ends (outcome l (OnDialogue s d q)) r l
    dialogue-refusal r why h e = passed_up (λ r. Ends (outcome l (OnDialogue s d q)) r l) r why h (dialogue-no (number why) e (above-zero why) refl)

    -- done
    pub dialogue-done : (y : Place) (rs : List Row) (ms : List ℕ) → 0 ≡ refusal (place_at (view l.table) p) q → does d (place_at (view l.table) p) q ≡ done y rs ms
        → {r : Reply} {m : Lent} → r ≡ reply 0 (length rs) (length ms) 0
        → m.table ≡ encode (with_place (view l.table) p y) → m.rows ≡ sets l.rows 0 (rows_octets rs) → m.space ≡ sets l.space 0 ms
        → Told (outcome l (OnDialogue s d q)) r m
    unfolding step stored
    dialogue-done y rs ms e w {r} {m} f a b g =
        let o : Out = stored T p (done y rs ms) in
        call-done l c s (requested T s d q) refl i.within o (did (done y rs ms) (not-refused d (place_at T p) q e ∙ w)) refl f
        (lent_same m (given l o).lent (a ∙ ap encode (eq _ _ _ _ refl refl)) b g)

    -- done, with neither row nor message
    pub dialogue-changed : (y : Place) → 0 ≡ refusal (place_at (view l.table) p) q → does d (place_at (view l.table) p) q ≡ done y [] []
        → {r : Reply} {u : List ℕ} → r ≡ reply 0 0 0 0 → u ≡ encode (with_place (view l.table) p y)
        → Told (outcome l (OnDialogue s d q)) r (record { table = u; rows = l.rows; space = l.space })
    dialogue-changed y e w f a = dialogue-done y [] [] e w f a (no_rows l.rows) refl
