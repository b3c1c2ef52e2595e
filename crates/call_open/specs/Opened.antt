-- AN OPEN: what it gives, by the share rule. Assumes nothing.
use Rattle.std.specs.Prelude.{◌≡◌, true, false, ℕ, ◌<◌, replicate}
use Rattle.std.proofs.Math.Path.{refl, ap}
use Rattle.std.proofs.Common.{sym, ◌∙◌, arith}
use mathlib.Core.List.{List, []}
use Rattle.laws.specs.If.{yes, no, true-false}
use Rattle.paper.specs.Sizes.{places_in_all, local_id, turns}
use Rattle.paper.specs.Dialogues.{begun, dialogue_open}
use Rattle.paper.specs.Calls.{Out, place_at, with_place, may_begin, lowest_free, refuse, opened_at, opened, step}
use Rattle.paper.specs.Calls.Call.{Open}
use Rattle.paper.specs.Layout.{flag, encode, view}
use Rattle.paper.specs.Outcome.{no_space, outcome}
use Rattle.table_laws.proofs.Zeros.{zeros_of}
use Rattle.table_laws.proofs.Keeps.{peers, begun-fine}
use Rattle.table_places.specs.Storing.{Storing, with_waiting}
use Rattle.call_entry.specs.declared.Reply.{Reply}
use Rattle.call_entry.specs.Replies.{reply, Told, only}
use Rattle.call_entry.specs.Prologue.{entry_of, InService}
use Rattle.call_entry.specs.Ends.{no_rows, call-refused, call-no, call-done}

pub open-refused : (t : List ℕ) (s n : ℕ) → n ≡ entry_of t no_space no_space s → 0 < n → {r : Reply} → r ≡ reply n 0 0 0 → Told (outcome (only t) (Open s)) r (only t)
unfolding step
open-refused t s n e h d = call-refused (only t) (Open s) s (opened (view t) s) refl n e h d

module _ (t : List ℕ) (s : ℕ) (i : InService t no_space no_space s) where
  -- "open request without a place (demand 3)"
  pub open_no : may_begin (view t) s ≡ false → {r : Reply} → r ≡ reply 7 0 0 0 → Told (outcome (only t) (Open s)) r (only t)
  unfolding opened step
  open_no m d = call-no (only t) (Open s) s (opened (view t) s) refl i.within 7 (refuse 7 (view t)) (sym (no _ _ _ m refl)) refl (omega arith) d

  module _ (m : may_begin (view t) s ≡ true) (p : ℕ) (e : p ≡ lowest_free (view t)) where
    pub open-there : (p < places_in_all) × (flag (place_at (view t) p) ≡ 1)
    open-there = (omega (arith, e, (i.there m).0), ap (λ (k : ℕ). flag (place_at (view t) k)) e ∙ (i.there m).1)

    pub open-storing : (turn : ℕ) → turn < turns → Storing 1 t p (begun turn dialogue_open s 0 (replicate 4 0))
    open-storing turn l = record {
      ready = i.ready;
      small = open-there.0;
      told = open-there.1;
      control =
          begun-fine turn dialogue_open s 0 (replicate 4 0) l (omega arith) i.within.service refl
          (record { some = λ z. absurd (true-false (sym z ∙ peers.0)); none = λ z. refl; most = omega arith; rest = zeros_of 4 });
      state = λ z. omega arith;
    }

    pub open_done : (id turn : ℕ) (u : List ℕ) → id ≡ local_id p (place_at (view t) p).control.turn → turn ≡ (place_at (view t) p).control.turn
        → u ≡ encode (with_place (view t) p (with_waiting (begun turn dialogue_open s 0 (replicate 4 0)) [])) → {r : Reply} → r ≡ reply 0 0 0 id
        → Told (outcome (only t) (Open s)) r (only u)
    unfolding opened step
    open_done id turn u a b c d =
        let o : Out = opened_at (view t) s p in
        call-done (only t) (Open s) s (opened (view t) s) refl i.within o (sym (yes _ _ _ m refl) ∙ ap (opened_at (view t) s) (sym e)) refl
        (d ∙ ap (reply 0 0 0) a)
        (ap only
        (c ∙ ap (λ (n : ℕ). encode (with_place (view t) p (with_waiting (begun n dialogue_open s 0 (replicate 4 0)) []))) b)
        ∙ ap (λ (y : List ℕ). record { table = encode o.table; rows = y; space = [] }) (no_rows []))
