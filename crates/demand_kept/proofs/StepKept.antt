-- EVERY STEP KEEPS THE TABLE RULES (01, "Answer numbers": no call leaves a table that answer 2 refuses), and what a service holds is
-- what it began less what it ended. Assumes nothing.
use Rattle.std.specs.Prelude.{◌≡◌, Bool, true, false, cond, length, drop, replicate}
use Rattle.std.proofs.Math.Path.{refl}
use Rattle.std.proofs.Common.{sym, ap, subst, ◌∙◌, length-take, length-drop}
use mathlib.Core.List.{List, [], ◌∷◌}
use Prim.Native.Nat.{ℕ, zero, suc, ◌+◌, ◌<◌}
use native.Mathlib.Omega.{arith}
use Rattle.laws.specs.If.{by-lt, by-eq, by-b, was-eq, was-yes, true-false}
use Rattle.laws.specs.Lists.{pad, zeros}
use Rattle.paper.specs.declared.Message.{Message}
use Rattle.paper.specs.declared.Control.{Control}
use Rattle.paper.specs.declared.Row.{Row}
use Rattle.paper.specs.Sizes.{services, place_of, local_id, places_in_all, turns}
use Rattle.paper.specs.Problems.{no_problem}
use Rattle.paper.specs.Messages.{message_of, is_sound, begin_tag, continue_tag, no_run}
use Rattle.paper.specs.Kinds.{row_uni, row_begin, row_continue, row_end, row_user_abort, row_abort}
use Rattle.paper.specs.Rows.{all_acted, component_rows, dialogue_row, cancel_row}
use Rattle.paper.specs.Dialogues.{Place, Request, Timeout, Done, empty_control, begun, freed, with_control, timeout_rows, unless_refused, refusal, does, request, has_peer}
use Rattle.paper.specs.Calls.{Table, place_at, with_place, lowest_free, Out, stored, requested, opened, octets_at, destination_number, assigned, faulted_at, faulted, items_of, uni_received, begun_control, begin_at, begin_received, continued_control, continue_received, end_received, abort_received, to_dialogue, sound_received, received, received_if, Call, Open, OnDialogue, Receive, refuse, of_service, step}
use Rattle.reading_messages.specs.Bounds.{MessageIn, message-in}
use Rattle.table_laws.specs.Fine.{Octets, FinePeer, FineControl, Fine}
use Rattle.table_laws.proofs.Zeros.{zeros_of, pad-length, pad-rest}
use Rattle.table_laws.specs.Owners.{Owned}
use Rattle.table_laws.proofs.Owners.{owned-is}
use Rattle.demand_kept.proofs.Leaves.{whether-eq}
use Rattle.demand_kept.specs.Acts.{AllReadable}
use Rattle.demand_kept.proofs.Acts.{all-acted-stays, components-readable}
use Rattle.table_laws.proofs.Keeps.{peers, begun-fine, with-peer-fine}
use Rattle.demand_kept.specs.Requests.{Formed, frees, Leaves}
use Rattle.demand_kept.proofs.Requests.{place-fine, control-goes-on, does-kept}
use Rattle.demand_kept.proofs.Shapes.{by_shape, does-answers}
use Rattle.paper.specs.Counting.{is_begun, is_ended, begun_rows, ended_rows, ends_by, service_of}
use Rattle.demand_kept.proofs.Counted.{row-begun, row-ended, row_other, components-none}
use Rattle.demand_kept.specs.Shared.{Moved}
use Rattle.demand_kept.proofs.Shared.{moved_as, not-moved, moved-freed, moved_on, moved-taken, lowest-there}
use Rattle.demand_kept.specs.StepKept.{Left, WellFormed}

-- A REQUEST THAT IS DONE begins nothing, and ends a dialogue where it frees the place
abbrev Ends : Request → List Row → Type 0
Ends r rows = (begun_rows rows ≡ 0) × (ended_rows rows + ends_by r 0 ≡ cond (frees r) 1 0)

timeout-told : (me : ℕ) (x : Place) (id : ℕ) → Ends (Timeout id) (timeout_rows me x id)
unfolding timeout_rows
timeout-told me x id =
    let w = row_other (cancel_row me id) (λ z. omega arith) (λ z. omega arith) (λ z. omega arith) (λ z. omega arith) in
    whether-eq (Ends (Timeout id)) _ _ _ _ (refl, refl) (omega arith, omega arith)

does-told : (me : ℕ) (x : Place) (r : Request) → Ends r (does me x r).rows
does-told me x =
    let w = row-ended (dialogue_row row_abort me no_problem no_run 0) (omega arith) (omega arith) in
    by_shape me x (λ r o. Ends r o.rows) (λ r y m e. (refl, subst (λ (t : Bool). 0 + cond (frees r) (cond t 0 1) 0 ≡ cond (frees r) 1 0) (sym e) (omega arith)))
    (λ id y. timeout-told me x id) (λ y. (omega arith, omega arith))

-- whichever way a test went
is : {T : Table} (c : Call) {a b : Out} → a ≡ b → Left T c b → Left T c a
is {T} c z g = subst (Left T c) (sym z) g

module _ (T : Table) (f : Fine T) where
  turn_small : (p : ℕ) → p < places_in_all → (place_at T p).control.turn < turns
  turn_small p h = (f.each p h).control.turn

  -- OPEN
  pub opened-kept : (service : ℕ) → service < services → Left T (Open service) (opened T service)
  unfolding opened
  opened-kept service s< =
      by-b {r = opened T service} _ _ _ refl
      (λ may z.
      let p : ℕ = lowest_free T in
      let h : p < places_in_all = lowest-there T f service s< may in
      let c : FineControl (begun (place_at T p).control.turn 1 service 0 (replicate 4 0)) =
      begun-fine (place_at T p).control.turn 1 service 0 (replicate 4 0) (turn_small p h) (omega arith) s< refl
      (record { some = λ z. absurd (true-false (sym z ∙ peers.0)); none = λ z. refl; most = omega arith; rest = zeros_of 4 }) in
      is (Open service) z (moved-taken T f service s< may _ (place-fine _ c (λ e. omega arith)) (λ e. omega arith) refl))
      (λ may z. is (Open service) z (not-moved T f service))

  -- A REQUEST OR TIMER EVENT
  pub requested-kept : (service dialogue : ℕ) (r : Request) → Formed r → Left T (OnDialogue service dialogue r) (requested T service dialogue r)
  unfolding requested stored request
  requested-kept service dialogue r w =
      by-b {r = requested T service dialogue r} _ _ _ refl
      (λ o z. let g = owned-is T service dialogue o in is (OnDialogue service dialogue r) z (go g (refusal x r) refl))
      (λ o z. is (OnDialogue service dialogue r) z (not-moved T f service))
    where
      p : ℕ
      p = place_of dialogue

      x : Place
      x = place_at T p

      leaves : (b : Bool) (y : Place) → Owned T service dialogue → Leaves b x y → Moved T service 0 (cond b 1 0) (with_place T p y)
      leaves true y g l = subst (λ (y : Place). Moved T service 0 1 (with_place T p y)) (sym l) (moved-freed T f p service g.small g.state g.service)
      leaves false y g l = moved_on T f p service g.small g.state y l

      go : Owned T service dialogue → (n : ℕ) → refusal x r ≡ n → Left T (OnDialogue service dialogue r) (stored T p (unless_refused n x (does dialogue x r)))
      go g zero e =
          let d : Done = does dialogue x r in
          let a : d.answer ≡ 0 = does-answers dialogue x r in
          let t = does-told dialogue x r in
          by-eq {r = (stored T p d).table} _ _ _ _ refl
          (λ b z. subst (Moved T service (begun_rows d.rows) (ended_rows d.rows + ends_by r d.answer)) (sym z)
          (moved_as (leaves (frees r) d.place g (does-kept x (f.each p g.small) g.state dialogue r w e)) t.0
          (ap (λ (n : ℕ). ended_rows d.rows + ends_by r n) a ∙ t.1)))
          (λ b z. absurd (b a))
      go g (suc n) e =
          by-eq {r = (stored T p (unless_refused (suc n) x (does dialogue x r))).table} _ _ _ _ refl
          (λ a z. absurd (omega arith)) (λ a z. subst (Moved T service 0 0) (sym z) (not-moved T f service))

-- WHAT A MESSAGE TELLS OF ITS SENDER: an ID of 1 to 4 octets
module _ (s : List ℕ) (m : Message) (in-s : MessageIn (length s) m) where
  abbrev origin : List ℕ
  origin = octets_at s m.origin

  pub origin-length : length origin ≡ m.origin.length
  origin-length = simp (length-take, length-drop) (omega (arith, in-s.origin.lies))

  module _ (some : 0 < m.origin.length) where
    origin-fine : (state : ℕ) → has_peer state ≡ true → FinePeer state m.origin.length (pad 4 origin)
    origin-fine state e = record {
      some = λ z. omega arith;
      none = λ z. absurd (true-false (sym e ∙ z));
      most = in-s.origin.short;
      rest = subst (λ (n : ℕ). zeros (drop n (pad 4 origin)) ≡ true) origin-length (pad-rest 4 origin (omega (arith, origin-length, in-s.origin.short))).1;
    }

    -- a Begin's dialogue
    pub begun-control-fine : (turn service : ℕ) → turn < turns → service < services → FineControl (begun turn 3 service m.origin.length (pad 4 origin))
    begun-control-fine turn service h g = begun-fine turn 3 service m.origin.length (pad 4 origin) h (omega arith) g (pad-length 4 origin) (origin-fine 3 peers.2)

    -- a Continue's: in Sent it stores the peer's ID
    pub continued-fine : (c : Control) → FineControl c → (c.state ≡ 0 → ⊥)
        → FineControl (continued_control c s m) × ((continued_control c s m).state ≡ 0 → ⊥) × ((continued_control c s m).service ≡ c.service)
    unfolding continued_control
    continued-fine c k n =
        whether-eq (λ (d : Control). FineControl d × (d.state ≡ 0 → ⊥) × (d.service ≡ c.service)) _ _ _ _
        (with-peer-fine c k m.origin.length (pad 4 origin) (pad-length 4 origin) (origin-fine 4 peers.3), λ e. omega arith, refl) (k, n, refl)

-- A RECEIVED MESSAGE, as it is read
module _ (T : Table) (f : Fine T) (service : ℕ) (s< : service < services) (s : List ℕ) (octets : Octets s) (m : Message) (in-s : MessageIn (length s) m) where
  -- what it shows counts
  abbrev Shown : Out → Type 0
  Shown o = Moved T service (begun_rows o.rows) (ended_rows o.rows) o.table

  shown : {a b : Out} → a ≡ b → Shown b → Shown a
  shown z g = subst Shown (sym z) g

  abbrev me : ℕ
  me = destination_number s m

  abbrev there : Place
  there = place_at T (place_of me)

  pub assigned-is : assigned T service s m ≡ true → Owned T service me
  unfolding assigned
  assigned-is e =
      let a = was-eq _ _ _ _ (sym e) true-false in
      let b = was-yes _ _ _ a.1 true-false in
      owned-is T service me b.0

  -- its place freed, with a row that says so
  freed-shown : (row : Row) (rows : List Row) → Owned T service me → (is_begun row ≡ 0) × (is_ended row ≡ 1) → (begun_rows rows ≡ 0) × (ended_rows rows ≡ 0)
      → Moved T service (begun_rows (row ∷ rows)) (ended_rows (row ∷ rows)) (with_place T (place_of me) (freed there))
  freed-shown row rows g a b = moved_as (moved-freed T f (place_of me) service g.small g.state g.service) (omega arith) (omega arith)

  aborted : (cause : ℕ) → (is_begun (dialogue_row row_abort me cause no_run 0) ≡ 0) × (is_ended (dialogue_row row_abort me cause no_run 0) ≡ 1)
  aborted cause = row-ended (dialogue_row row_abort me cause no_run 0) (omega arith) (omega arith)

  faulted-kept : (cause : ℕ) → Shown (faulted T service s m cause)
  unfolding faulted faulted_at
  faulted-kept cause =
      by-eq {r = faulted T service s m cause} _ _ _ _ refl (λ a z. shown z (not-moved T f service))
      (λ a z. by-b _ _ _ z
      (λ o z. shown z (freed-shown (dialogue_row row_abort me cause no_run 0) [] (assigned-is o) (aborted cause) (refl, refl)))
      (λ o z. shown z (not-moved T f service)))

  pub items-readable : AllReadable (items_of s m)
  unfolding items_of
  items-readable = whether-eq AllReadable _ _ _ _ tt (components-readable s octets m.to m.from)

  -- UNIDIRECTIONAL: rows alone
  uni-kept : Shown (uni_received T s m)
  unfolding uni_received
  uni-kept =
      let rows : List Row = component_rows 0 0 (empty_control 0) (items_of s m) in
      let row : Row = dialogue_row row_uni 0 no_problem m.portion (length rows) in
      let w = row_other row (λ z. omega arith) (λ z. omega arith) (λ z. omega arith) (λ z. omega arith) in
      let v = components-none 0 0 (items_of s m) (empty_control 0) in
      moved_as (not-moved T f service) (omega arith) (omega arith)

  -- BEGIN takes a place
  begin-kept : m.fault ≡ is_sound → m.tag ≡ begin_tag → Shown (begin_received T service s m)
  unfolding begin_received begin_at
  begin-kept sound tag =
      by-b {r = begin_received T service s m} _ _ _ refl
      (λ may z.
      let p : ℕ = lowest_free T in
      let h : p < places_in_all = lowest-there T f service s< may in
      let c : Control = begun_control T service p s m in
      let g : FineControl c = begun-control-fine s m in-s (in-s.begins sound tag) (place_at T p).control.turn service (turn_small T f p h) s< in
      let w = all-acted-stays 8 (omega arith) (items_of s m) items-readable c g in
      let n : (all_acted 8 c (items_of s m)).state ≡ 0 → ⊥ = λ e. omega (arith, w.state) in
      let rows : List Row = component_rows (local_id p (place_at T p).control.turn) 8 c (items_of s m) in
      let row : Row = dialogue_row row_begin (local_id p (place_at T p).control.turn) no_problem m.portion (length rows) in
      let a = row-begun row refl in
      let v = components-none (local_id p (place_at T p).control.turn) 8 (items_of s m) c in
      shown z (moved_as (moved-taken T f service s< may (record { control = all_acted 8 c (items_of s m); waiting = [] }) (place-fine (all_acted 8 c (items_of s m)) w.fine n) n w.service)
      (omega arith) (omega arith)))
      (λ may z. shown z (faulted-kept 4))

  -- CONTINUE goes on
  continue-kept : Owned T service me → m.fault ≡ is_sound → m.tag ≡ continue_tag → Shown (continue_received T me s m there)
  unfolding continue_received
  continue-kept g sound tag =
      let c : Control = continued_control there.control s m in
      let k = continued-fine s m in-s (in-s.continues sound tag) there.control (f.each (place_of me) g.small).control g.state in
      let w = all-acted-stays 8 (omega arith) (items_of s m) items-readable c k.0 in
      let d : Control = all_acted 8 c (items_of s m) in
      let rows : List Row = component_rows me 8 c (items_of s m) in
      let row : Row = dialogue_row row_continue me no_problem m.portion (length rows) in
      let a = row_other row (λ z. omega arith) (λ z. omega arith) (λ z. omega arith) (λ z. omega arith) in
      let v = components-none me 8 (items_of s m) c in
      moved_as (moved_on T f (place_of me) service g.small g.state (with_control there d)
      (control-goes-on there (f.each (place_of me) g.small) g.state d w.fine (λ e. k.1 (sym w.state ∙ e)) (w.service ∙ k.2)))
      (omega arith) (omega arith)

  -- END and ABORT free
  end_kept : Owned T service me → Shown (end_received T me s m there)
  unfolding end_received
  end_kept g =
      let rows : List Row = component_rows me 0 there.control (items_of s m) in
      let row : Row = dialogue_row row_end me no_problem m.portion (length rows) in
      freed-shown row rows g (row-ended row (omega arith) (omega arith)) (components-none me 0 (items_of s m) there.control)

  abort-kept : Owned T service me → Shown (abort_received T me m there)
  unfolding abort_received
  abort-kept g =
      freed-shown _ [] g
      (whether-eq (λ (row : Row). (is_begun row ≡ 0) × (is_ended row ≡ 1)) _ _ _ _
      (row-ended (dialogue_row row_user_abort me no_problem m.portion 0) (omega arith) (omega arith)) (aborted m.cause)) (refl, refl)

  -- BY ITS TYPE
  to-dialogue-kept : Owned T service me → m.fault ≡ is_sound → Shown (to_dialogue T service me s m there)
  unfolding to_dialogue
  to-dialogue-kept g sound =
      by-eq {r = to_dialogue T service me s m there} _ _ _ _ refl
      (λ a z. by-eq _ _ _ _ z (λ b z. shown z (faulted-kept 3)) (λ b z. shown z (not-moved T f service)))
      (λ a z. by-eq _ _ _ _ z (λ b z. shown z (continue-kept g sound b))
      (λ b z. by-eq _ _ _ _ z (λ c z. shown z (end_kept g)) (λ c z. shown z (abort-kept g))))

  sound-kept : m.fault ≡ is_sound → Shown (sound_received T service s m)
  unfolding sound_received
  sound-kept sound =
      by-eq {r = sound_received T service s m} _ _ _ _ refl (λ a z. shown z uni-kept)
      (λ a z. by-eq _ _ _ _ z (λ b z. shown z (begin-kept sound b))
      (λ b z. by-b _ _ _ z (λ o z. shown z (to-dialogue-kept (assigned-is o) sound)) (λ o z. shown z (faulted-kept 1))))

  message-kept : Shown (received T service s m)
  unfolding received
  message-kept =
      by-eq {r = received T service s m} _ _ _ _ refl (λ a z. shown z (not-moved T f service))
      (λ a z. by-eq _ _ _ _ z (λ b z. shown z (sound-kept b)) (λ b z. shown z (faulted-kept m.fault)))

module _ (T : Table) (f : Fine T) where
  received-kept : (service : ℕ) → service < services → (s : List ℕ) → Octets s → Left T (Receive service s) (received_if T service s)
  unfolding received_if
  received-kept service s< s octets =
      by-eq {r = received_if T service s} _ _ _ _ refl (λ a z. is (Receive service s) z (not-moved T f service))
      (λ a z. by-lt _ _ _ _ z (λ b z. is (Receive service s) z (not-moved T f service))
      (λ b z. is (Receive service s) z (message-kept T f service s< s octets (message_of s) (message-in s (message_of s) refl))))

  of-service : (c : Call) (o : Out) → (service_of c < services → Left T c o) → Left T c (refuse 3 T) → Left T c (of_service (service_of c) T o)
  of-service c o g h = by-lt {r = of_service (service_of c) T o} _ _ _ _ refl (λ a z. is c z (g a)) (λ a z. is c z h)

  -- THE STEP
  pub step_left : (c : Call) → WellFormed c → Left T c (step T c)
  unfolding step
  step_left (Open service) w = of-service (Open service) (opened T service) (opened-kept T f service) (not-moved T f service)
  step_left (OnDialogue service dialogue r) w =
      of-service (OnDialogue service dialogue r) (requested T service dialogue r) (λ h. requested-kept T f service dialogue r w) (not-moved T f service)
  step_left (Receive service s) w = of-service (Receive service s) (received_if T service s) (λ h. received-kept service h s w) (not-moved T f service)

  -- keeps the table rules
  pub step_kept : (c : Call) → WellFormed c → Fine (step T c).table
  step_kept c w = (step_left c w).fine
