-- What the functions' answers cite, on plain values. Assumes nothing.
use mathlib.Core.Path.{◌≡◌, refl, sym, ap, subst, ◌∙◌}
use mathlib.Core.Bool.{Bool, true, false}
use mathlib.Core.List.{List, [], ◌∷◌, ◌++◌}
use Prim.Native.Nat.{ℕ, zero, suc, ◌+◌, ◌-◌, ◌<◌, ◌≤◌}
use native.Mathlib.Omega.{arith}
use lib.ListN.{length, get_or, take, drop, length-append, get_or-eq_default}
use lib.Seq.{sets, get_or-take, get_or-drop}
use Rattle.laws.specs.If.{if_eq, eq, ne, yes, no, was-eq, was-yes, true-false}
use Rattle.laws.specs.Lists.{pad}
use Rattle.laws.specs.Runs.{Wrote, join-before}
use Rattle.paper.specs.declared.Message.{Message}
use Rattle.paper.specs.declared.Control.{Control}
use Rattle.paper.specs.declared.Row.{Row}
use Rattle.paper.specs.Sizes.{place_of, local_id}
use Rattle.paper.specs.Problems.{no_problem}
use Rattle.paper.specs.Messages.{abort_tag, no_run}
use Rattle.paper.specs.Components.{Item, components}
use Rattle.paper.specs.Writing.{tlv, cause_abort_octets}
use Rattle.paper.specs.Kinds.{row_uni, row_begin, row_continue, row_end, row_user_abort, row_abort}
use Rattle.paper.specs.Rows.{dialogue_row, row_octets, rows_octets, component_rows, all_acted}
use Rattle.paper.specs.Dialogues.{begun, freed, with_control, empty_control, dialogue_received}
use Rattle.paper.specs.Calls.{Table, Out, refuse, shows, place_at, with_place, owns, octets_at, destination_number, assigned, faulted_at, faulted, items_of, uni_received, begun_control, begin_at, continued_control, continue_received, end_received, abort_received, lowest_free}
use Rattle.paper.specs.Layout.{encode, view}
use Rattle.table_laws.specs.Fine.{FineControl}
use Rattle.table_laws.proofs.Slots.{flag-free}
use Rattle.table_laws.specs.Ready.{Ready}
use Rattle.table_laws.specs.Owners.{Owned}
use Rattle.table_laws.proofs.Owners.{owned-is}
use Rattle.demand_kept.proofs.Leaves.{whether-eq}
use Rattle.demand_kept.specs.Acts.{AllReadable, Stays}
use Rattle.demand_kept.proofs.Acts.{all-acted-stays, components-readable}
use Rattle.demand_kept.proofs.StepKept.{begun-control-fine, continued-fine}
use Rattle.table_places.specs.Storing.{Storing, with_waiting}
use Rattle.writing_octets.specs.Lengths.{element-length, length-small}
use Rattle.call_receive_rows.specs.declared.Shown.{Shown}
use Rattle.call_receive_rows.specs.Shows.{Shows}
use Rattle.call_receive_parts.specs.Receives.{Read, Standing, Begins, Rowed, Leaves, Receives}

-- ---- IDS
pub octet-in : (s : List ℕ) (a n i : ℕ) → i < n → get_or s (a + i) 0 ≡ get_or (take n (drop a s)) i 0
octet-in s a n i h = sym (get_or-take n (drop a s) i 0 h ∙ get_or-drop a s i 0)

pub octet-past : (s : List ℕ) (a n i : ℕ) → n ≤ i → 0 ≡ get_or (take n (drop a s)) i 0
octet-past s a n i h =
    let k : length (take n (drop a s)) ≤ i = omega (arith, short n (drop a s)) in
    sym (get_or-eq_default (take n (drop a s)) 0 k)
  where
    short : (n : ℕ) (l : List ℕ) → length (take n l) ≤ n
    short zero l = omega arith
    short (suc n) [] = omega arith
    short (suc n) (x ∷ l) = omega (arith, short n l)

pub pad-four : (l : List ℕ) (a b c d : ℕ) → a ≡ get_or l 0 0 → b ≡ get_or l 1 0 → c ≡ get_or l 2 0 → d ≡ get_or l 3 0 → a ∷ b ∷ c ∷ d ∷ [] ≡ pad 4 l
unfolding pad
pad-four [] a b c d p q r s = cc
pad-four (x ∷ []) a b c d p q r s = cc
pad-four (x ∷ y ∷ []) a b c d p q r s = cc
pad-four (x ∷ y ∷ z ∷ []) a b c d p q r s = cc
pad-four (x ∷ y ∷ z ∷ w ∷ l) a b c d p q r s = cc

-- ---- ASSIGNED
module _ (T : Table) (service : ℕ) (s : List ℕ) (m : Message) where
  module _ (h : m.destination.length ≡ 4) (me : ℕ) (e : me ≡ destination_number s m) where
    pub assigned-none : owns T service me ≡ false → false ≡ assigned T service s m
    unfolding assigned
    assigned-none o = eq _ _ _ _ h (no _ _ _ (ap (owns T service) (sym e) ∙ o) refl)

    module _ (o : owns T service me ≡ true) where
      pub assigned-open : (place_at T (place_of me)).control.state ≡ 1 → false ≡ assigned T service s m
      unfolding assigned
      assigned-open q = eq _ _ _ _ h (yes _ _ _ (ap (owns T service) (sym e) ∙ o) (eq _ _ _ _ (ap (λ (k : ℕ). (place_at T (place_of k)).control.state) (sym e) ∙ q) refl))

      pub assigned-other : ((place_at T (place_of me)).control.state ≡ 1 → ⊥) → true ≡ assigned T service s m
      unfolding assigned
      assigned-other q =
          eq _ _ _ _ h (yes _ _ _ (ap (owns T service) (sym e) ∙ o) (ne _ _ _ _ (λ z. q (ap (λ (k : ℕ). (place_at T (place_of k)).control.state) e ∙ z)) refl))

  pub assigned-is : assigned T service s m ≡ true → (m.destination.length ≡ 4) × Owned T service (destination_number s m)
  unfolding assigned
  assigned-is e =
      let a = was-eq _ _ _ _ (sym e) true-false in
      let b = was-yes _ _ _ a.1 true-false in
      (a.0, owned-is T service (destination_number s m) b.0)

pub owned-standing : (t : List ℕ) → Ready t → (service d me : ℕ) → me ≡ d → Owned (view t) service d → Standing 0 t (place_of me)
owned-standing t r service d me e o = subst (λ (k : ℕ). Standing 0 t (place_of k)) (sym e) (record { ready = r; small = o.small; told = o.used })

-- ---- ROWS
-- a row alone
pub one-row : (old new : List ℕ) (row r : Row) → new ≡ sets old 0 (row_octets row) → row ≡ r → new ≡ sets old 0 (rows_octets (r ∷ []))
unfolding rows_octets
one-row old new row r e q = e ∙ ap (λ (x : Row). sets old 0 (row_octets x)) q

-- the dialogue's row before those of the components
pub rowed : (kind me room : ℕ) (c : Control) (s : List ℕ) (m : Message) (old mid new : List ℕ) (r : Shown) → Shows me room c old (items_of s m) r mid
    → (row : Row) → row ≡ dialogue_row kind me no_problem m.portion r.count → new ≡ sets mid 0 (row_octets row) → length new ≡ length mid
    → Rowed kind me room c s m old (record { control = r.control; count = r.count + 1 }) new
unfolding rows_octets
rowed kind me room c s m old mid new r w row e d g =
    let l : List Row = component_rows me room c (items_of s m) in
    record {
      control = w.control;
      count = omega (arith, w.count);
      few = omega (arith, w.few);
      holds =
          d
          ∙ ap (λ (x : List ℕ). sets x 0 (row_octets row)) w.holds
          ∙ join-before old 0 (row_octets row) (rows_octets l)
          ∙ ap (λ (x : Row). sets old 0 (row_octets x ++ rows_octets l)) (e ∙ ap (dialogue_row kind me no_problem m.portion) w.count);
      long = g ∙ w.long;
    }

-- no 6C
pub shows-none : (me room : ℕ) (c : Control) (s : List ℕ) (m : Message) (old : List ℕ) → m.from ≡ 0 → Shows me room c old (items_of s m) (record { control = c; count = 0 }) old
unfolding items_of all_acted component_rows rows_octets
shows-none me room c s m old h =
    let e : [] ≡ items_of s m = eq m.from 0 [] (components s m.to m.from) h refl in
    subst (λ (is : List Item). Shows me room c old is (record { control = c; count = 0 }) old) e
    (record { control = refl; count = refl; few = omega arith; holds = refl; long = refl })

pub shows-some : (me room : ℕ) (c : Control) (s : List ℕ) (m : Message) (old new : List ℕ) (r : Shown) → (m.from ≡ 0 → ⊥)
    → Shows me room c old (components s m.to m.from) r new → Shows me room c old (items_of s m) r new
unfolding items_of
shows-some me room c s m old new r h w = subst (λ (is : List Item). Shows me room c old is r new) (ne m.from 0 [] (components s m.to m.from) h refl) w

-- ---- WHAT IS STORED
pub acted-storing : (bit : ℕ) (t : List ℕ) (p : ℕ) → Standing bit t p → (s : List ℕ) (m : Message) → Read s m → (room : ℕ) → room ≤ 8 → (c d : Control) → FineControl c
    → (c.state ≡ 0 → ⊥) → d ≡ all_acted room c (items_of s m) → Storing bit t p d
unfolding items_of
acted-storing bit t p w s m v room h c d g n e =
    let i : AllReadable (items_of s m) = whether-eq AllReadable _ _ _ _ tt (components-readable s v.octets m.to m.from) in
    let k : Stays c d = subst (Stays c) (sym e) (all-acted-stays room h (items_of s m) i c g) in
    record { ready = w.ready; small = w.small; told = w.told; control = k.fine; state = λ z. n (sym k.state ∙ z) }

-- the dialogue in a used place
module _ (t : List ℕ) (p : ℕ) (w : Standing 0 t p) where
  pub used-state : (place_at (view t) p).control.state ≡ 0 → ⊥
  used-state z = omega (arith, w.told, flag-free (place_at (view t) p) z)

-- ---- BY TYPE
rowed-as : {kind me me' room : ℕ} {c c' : Control} {s : List ℕ} {m : Message} {old new : List ℕ} {r : Shown} → me ≡ me' → c ≡ c' → Rowed kind me room c s m old r new → Rowed kind me' room c' s m old r new
rowed-as {kind} {me} {me'} {room} {c} {c'} {s} {m} {old} {new} {r} e d w =
    subst (λ (x : Control). Rowed kind me' room x s m old r new) d (subst (λ (k : ℕ). Rowed kind k room c s m old r new) e w)

pub uni-leaves : (T : Table) (s : List ℕ) (m : Message) (old new : List ℕ) (c : Control) (r : Shown) → c ≡ empty_control 0 → Rowed row_uni 0 0 c s m old r new
    → Leaves (uni_received T s m) r.count (encode T) old new
unfolding uni_received
uni-leaves T s m old new c r e v = let w = rowed-as refl e v in
    record { answer = refl; silent = refl; table = refl; count = w.count; holds = w.holds }

module _ (t s : List ℕ) (m : Message) (r : Shown) where
  -- a Begin
  module _ (service p turn : ℕ) (peer : List ℕ) (c : Control) (e : peer ≡ pad 4 (octets_at s m.origin)) (d : c ≡ begun turn dialogue_received service m.origin.length peer) where
    pub begun-storing : Standing 1 t p → service < 16 → turn < 16777216 → 0 < m.origin.length → Read s m → r.control ≡ all_acted 8 c (items_of s m) → Storing 1 t p r.control
    begun-storing w h l o v q =
        acted-storing 1 t p w s m v 8 (omega arith) c r.control
        (subst FineControl (sym (d ∙ ap (begun turn dialogue_received service m.origin.length) e)) (begun-control-fine s m v.lies o turn service l h))
        (λ z. omega (arith, ap (λ (x : Control). x.state) d)) q

    pub begin-leaves : (old new after : List ℕ) (me : ℕ) → turn ≡ (place_at (view t) p).control.turn → me ≡ local_id p (place_at (view t) p).control.turn → Rowed row_begin me 8 c s m old r new
        → after ≡ encode (with_place (view t) p (with_waiting r.control [])) → Leaves (begin_at (view t) service p s m) r.count after old new
    unfolding begin_at
    begin-leaves old new after me a b v q =
        let k : c ≡ begun_control (view t) service p s m = d ∙ ap (λ (n : ℕ). begun n dialogue_received service m.origin.length peer) a ∙ ap (begun (place_at (view t) p).control.turn dialogue_received service m.origin.length) e in
        let w = rowed-as b k v in
        record {
          answer = refl;
          silent = refl;
          table = q ∙ ap (λ (x : Control). encode (with_place (view t) p (with_waiting x []))) w.control;
          count = w.count;
          holds = w.holds;
        }

  -- to an assigned dialogue
  module _ (me : ℕ) (c : Control) (e : c ≡ (place_at (view t) (place_of me)).control) where
    module _ (d : Control) (q : d ≡ continued_control c s m) where
      pub continued-storing : Standing 0 t (place_of me) → 0 < m.origin.length → Read s m → r.control ≡ all_acted 8 d (items_of s m) → Storing 0 t (place_of me) r.control
      continued-storing w o v a =
          let x : Control = (place_at (view t) (place_of me)).control in
          let k = continued-fine s m v.lies o x (w.ready.fine.each (place_of me) w.small).control (used-state t (place_of me) w) in
          let y : d ≡ continued_control x s m = q ∙ ap (λ (c : Control). continued_control c s m) e in
          acted-storing 0 t (place_of me) w s m v 8 (omega arith) d r.control (subst FineControl (sym y) k.0) (λ z. k.1 (ap (λ (c : Control). c.state) (sym y) ∙ z)) a

      pub continue-leaves : (old new after : List ℕ) → Rowed row_continue me 8 d s m old r new → after ≡ encode (with_place (view t) (place_of me) (with_control (place_at (view t) (place_of me)) r.control))
          → Leaves (continue_received (view t) me s m (place_at (view t) (place_of me))) r.count after old new
      unfolding continue_received
      continue-leaves old new after v a =
          let w = rowed-as refl (q ∙ ap (λ (x : Control). continued_control x s m) e) v in
          record {
            answer = refl;
            silent = refl;
            table = a ∙ ap (λ (x : Control). encode (with_place (view t) (place_of me) (with_control (place_at (view t) (place_of me)) x))) w.control;
            count = w.count;
            holds = w.holds;
          }

    pub end_leaves : (old new after : List ℕ) → Rowed row_end me 0 c s m old r new → after ≡ encode (with_place (view t) (place_of me) (freed (place_at (view t) (place_of me))))
        → Leaves (end_received (view t) me s m (place_at (view t) (place_of me))) r.count after old new
    unfolding end_received
    end_leaves old new after v a = let w = rowed-as refl e v in
        record { answer = refl; silent = refl; table = a; count = w.count; holds = w.holds }

-- a place freed with one row
module _ (t : List ℕ) (me : ℕ) (old new after : List ℕ) (row : Row) (d : new ≡ sets old 0 (row_octets row)) (a : after ≡ encode (with_place (view t) (place_of me) (freed (place_at (view t) (place_of me))))) where
  pub fault-leaves : (cause : ℕ) → row ≡ dialogue_row row_abort me cause no_run 0 → Leaves (faulted_at (view t) me cause []) 1 after old new
  unfolding faulted_at
  fault-leaves cause e = record { answer = refl; silent = refl; table = a; count = refl; holds = one-row old new row (dialogue_row row_abort me cause no_run 0) d e }

  pub abort-leaves : (m : Message)
      → row ≡ if_eq m.cause no_problem (dialogue_row row_user_abort me no_problem m.portion 0) (dialogue_row row_abort me m.cause no_run 0)
      → Leaves (abort_received (view t) me m (place_at (view t) (place_of me))) 1 after old new
  unfolding abort_received
  abort-leaves m e = record {
    answer = refl;
    silent = refl;
    table = a;
    count = refl;
    holds = one-row old new row (if_eq m.cause no_problem (dialogue_row row_user_abort me no_problem m.portion 0) (dialogue_row row_abort me m.cause no_run 0)) d e;
  }

-- "message dropped (no row, no message, no octet changed)"
pub drop-receives : (t rows space : List ℕ) → Ready t → Receives (refuse 0 (view t)) (record { rows = 0; length = 0 }) t rows rows space space
unfolding rows_octets
drop-receives t rows space r = record { answer = refl; table = sym r.same; count = refl; holds = refl; long = refl; writes = refl }

-- ---- A FAULT
pub run_is : (s : List ℕ) (a n : ℕ) → take (a + n - a) (drop a s) ≡ take n (drop a s)
run_is s a n = let e : a + n - a ≡ n = omega arith in ap (λ (k : ℕ). take k (drop a s)) e

pub abort-fits : (s : List ℕ) (a n cause : ℕ) → n ≤ 4 → length (cause_abort_octets (take (a + n - a) (drop a s)) cause) ≤ 15
unfolding cause_abort_octets
abort-fits s a n cause h = short (take (a + n - a) (drop a s)) (omega (arith, ap length (run_is s a n), most n (drop a s)))
  where
    most : (n : ℕ) (l : List ℕ) → length (take n l) ≤ n
    most zero l = omega arith
    most (suc n) [] = omega arith
    most (suc n) (x ∷ l) = omega (arith, most n l)

    short : (l : List ℕ) → length l ≤ 4 → length (cause_abort_octets l cause) ≤ 15
    short l k =
        omega (
          arith,
          element-length abort_tag (tlv 0x49 l ++ (0x4A ∷ 1 ∷ cause ∷ [])),
          length-small (length (tlv 0x49 l ++ (0x4A ∷ 1 ∷ cause ∷ []))),
          length-append (tlv 0x49 l) (0x4A ∷ 1 ∷ cause ∷ []),
          element-length 0x49 l,
          length-small (length l),
        )

module _ (s : List ℕ) (m : Message) (cause : ℕ) (given : List ℕ) (is : given ≡ octets_at s m.origin) where
  module _ (t : List ℕ) (r : Ready t) (service n : ℕ) (rows space written : List ℕ) (some : m.origin.length ≡ 0 → ⊥) (w : Wrote space 0 (cause_abort_octets given cause) n written) where
    long : n ≡ length (cause_abort_octets (octets_at s m.origin) cause)
    long = let e : n ≡ length (cause_abort_octets given cause) = omega (arith, w.past) in e ∙ ap (λ (l : List ℕ). length (cause_abort_octets l cause)) is

    holds : written ≡ sets space 0 (cause_abort_octets (octets_at s m.origin) cause)
    holds = w.holds ∙ ap (λ (l : List ℕ). sets space 0 (cause_abort_octets l cause)) is

    -- no dialogue is at the destination
    pub fault-none : assigned (view t) service s m ≡ false → Receives (faulted (view t) service s m cause) (record { rows = 0; length = n }) t rows rows space written
    unfolding faulted rows_octets
    fault-none q =
        let o : Out = shows [] (cause_abort_octets (octets_at s m.origin) cause) (view t) in
        subst (λ (x : Out). Receives x (record { rows = 0; length = n }) t rows rows space written)
        (ne m.origin.length 0 (refuse 0 (view t)) _ some (no (assigned (view t) service s m) _ o q refl))
        (record { answer = refl; table = sym r.same; count = refl; holds = refl; long = long; writes = holds })

    -- one is
    pub fault-assigned : assigned (view t) service s m ≡ true → (me : ℕ) → me ≡ destination_number s m → (after new : List ℕ) → Leaves (faulted_at (view t) me cause []) 1 after rows new
        → Receives (faulted (view t) service s m cause) (record { rows = 1; length = n }) after rows new space written
    unfolding faulted faulted_at
    fault-assigned q me e after new v =
        let o : Out = faulted_at (view t) (destination_number s m) cause (cause_abort_octets (octets_at s m.origin) cause) in
        let u : Leaves (faulted_at (view t) (destination_number s m) cause []) 1 after rows new = subst (λ (k : ℕ). Leaves (faulted_at (view t) k cause []) 1 after rows new) e v in
        subst (λ (x : Out). Receives x (record { rows = 1; length = n }) after rows new space written)
        (ne m.origin.length 0 (refuse 0 (view t)) _ some (yes (assigned (view t) service s m) o _ q refl))
        (record { answer = refl; table = u.table; count = refl; holds = u.holds; long = long; writes = holds })

-- ---- A PLACE FOR A BEGIN
pub lowest-standing : (t : List ℕ) (service : ℕ) (may : Bool) → Begins t service may → may ≡ true → (p : ℕ) → p ≡ lowest_free (view t) → Standing 1 t p
lowest-standing t service may w e p q =
    let h = w.there (sym w.is ∙ e) in
    subst (Standing 1 t) (sym q) (record { ready = w.ready; small = h.0; told = h.1 })
