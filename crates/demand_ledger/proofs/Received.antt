-- A RECEIVED MESSAGE: the ledger, played by its rows, goes with the table, and the Abort of a fault holds what the ledger says. Assumes nothing.
use Rattle.std.proofs.Math.Path.{◌≡◌, refl, sym, ap, subst, fun_ext}
use Rattle.std.proofs.Common.{◌∙◌}
use Rattle.std.specs.Prelude.{true, false, length}
use Rattle.std.proofs.Math.Option.{Option, none, some}
use mathlib.Core.List.{List, [], ◌∷◌, ◌++◌}
use Prim.Native.Nat.{ℕ, ◌≤◌, ◌<◌}
use native.Mathlib.Omega.{arith}
use Rattle.std.proofs.Math.ListN.{take}
use Rattle.laws.specs.If.{if_eq, if_b, lt, ge, eq, ne, yes, no, by-eq, by-b, was-eq, was-yes, true-false}
use Rattle.laws.specs.Lists.{pad}
use Rattle.paper.specs.declared.Message.{Message}
use Rattle.paper.specs.declared.Invocation.{Invocation}
use Rattle.paper.specs.declared.Control.{Control}
use Rattle.paper.specs.declared.Row.{Row}
use Rattle.paper.specs.Sizes.{places_in_all, services, place_of, local_id, least_space}
use Rattle.paper.specs.Problems.{no_problem}
use Rattle.paper.specs.Messages.{message_of, is_sound, no_run, uni_tag, begin_tag, continue_tag}
use Rattle.paper.specs.Writing.{Written, joined, cause_abort_octets}
use Rattle.paper.specs.Portions.{Spoken}
use Rattle.paper.specs.Kinds.{row_uni, row_begin, row_continue, row_end, row_user_abort, row_abort}
use Rattle.paper.specs.Rows.{dialogue_row, component_rows, all_acted}
use Rattle.paper.specs.Shares.{shared, gives}
use Rattle.paper.specs.Dialogues.{Place, freed, peer_of, with_control}
use Rattle.paper.specs.Calls.{Table, Out, place_at, with_place, held, may_begin, lowest_free, owns, octets_at, destination_number, assigned, faulted_at, faulted, items_of, uni_received, begun_control, begin_at, begin_received, continued_control, continue_received, end_received, abort_received, to_dialogue, sound_received, received}
use Rattle.paper.specs.Contents.{Wire, content_of}
use Rattle.paper.specs.Counting.{is_ended}
use Rattle.paper.specs.Asked.{heard_all}
use Rattle.paper.specs.Ledger.{Entry, Ledger, find, goes_on, begins, ends, partner_in, components_in, rejects_in, answered, shown, aborting, for_service, addressee, may_begin_in, to_entry, cause_of, said_for}
use Rattle.reading_messages.specs.Bounds.{MessageIn, message-in}
use Rattle.demand_readback.proofs.Contents.{nothing-content, cause-abort-fits, cause-abort-content}
use Rattle.table_laws.specs.Fine.{Octets, Fine}
use Rattle.table_laws.proofs.Zeros.{pad-rest}
use Rattle.table_laws.proofs.Slots.{free-is}
use Rattle.table_laws.proofs.Counts.{lowest-is-free}
use Rattle.table_laws.specs.Owners.{Owned}
use Rattle.table_laws.proofs.Owners.{owned-is}
use Rattle.demand_kept.proofs.Counted.{row-ended}
use Rattle.demand_kept.proofs.Shared.{lowest-there}
use Rattle.demand_kept.proofs.StepKept.{items-readable, origin-length, begun-control-fine, continued-fine}
use Rattle.demand_ledger.specs.Ours.{Ours}
use Rattle.demand_ledger.proofs.Ours.{ours-none, ours-heard}
use Rattle.demand_ledger.specs.Agrees.{waits, Holds, At, Agrees}
use Rattle.demand_ledger.proofs.Agrees.{holds-owns, owned-found, agrees-altered, agrees-ended, agrees-begun}
use Rattle.demand_ledger.proofs.Acting.{all_left}
use Rattle.demand_ledger.proofs.Read.{message-read}
use Rattle.demand_ledger.specs.Received.{Continued}

-- THE ROWS' WAY through the ledger
module _ (L : Ledger) (service : ℕ) (s : List ℕ) (r : Row) (rows : List Row) where
  shown-begin : r.kind ≡ row_begin → shown L service s (r ∷ rows)
      ≡ begins L
      (record { id = r.dialogue; service = service; state = 3; peer = partner_in s; passed = []; rejects = rejects_in rows; invocations = heard_all [] (components_in s) rows })
  unfolding shown
  shown-begin k = sym (eq _ _ _ _ k refl)

  shown-continue : r.kind ≡ row_continue → shown L service s (r ∷ rows) ≡ goes_on L r.dialogue (answered s rows)
  unfolding shown
  shown-continue k = sym (ne _ _ _ _ (λ z. omega arith) (eq _ _ _ _ k refl))

  shown-end : 4 ≤ r.kind → r.kind ≤ 6 → shown L service s (r ∷ rows) ≡ ends L r.dialogue
  unfolding shown
  shown-end a b = sym (ne _ _ _ _ (λ z. omega arith) (ne _ _ _ _ (λ z. omega arith) (eq _ _ _ _ (row-ended r a b).1 refl)))

  shown-uni : r.kind ≡ row_uni → shown L service s (r ∷ rows) ≡ L
  unfolding shown is_ended
  shown-uni k =
      sym (ne _ _ _ _ (λ z. omega arith) (ne _ _ _ _ (λ z. omega arith)
      (ne _ _ _ _ (λ z. let e : ◌≡◌ {A = ℕ} 0 (is_ended r) = ne _ _ _ _ (λ q. omega arith) (ne _ _ _ _ (λ q. omega arith) (ne _ _ _ _ (λ q. omega arith) refl)) in omega (arith, e, z)) refl)))

module _ (T : Table) (f : Fine T) (L : Ledger) (g : Agrees T L) (service : ℕ) (s< : service < services) (s : List ℕ) (octets : Octets s) where
  abbrev m : Message
  m = message_of s

  in-s : MessageIn (length s) m
  in-s = message-in s m refl

  abbrev me : ℕ
  me = destination_number s m

  abbrev there : Place
  there = place_at T (place_of me)

  abbrev origin : List ℕ
  origin = octets_at s m.origin

  long : length origin ≡ m.origin.length
  long = origin-length s m in-s

  -- WHAT IT LEAVES AND WRITES
  pub record Heard (o : Out) : Type 0 where
    pub agrees : Agrees o.table (shown L service s o.rows)
    pub says : content_of o.message ≡ said_for L service s m
    pub fits : length o.message ≤ least_space

  is : {a b : Out} → a ≡ b → Heard b → Heard a
  is z h = subst Heard (sym z) h

  -- THE SHARE RULE, on the ledger's dialogues
  may-is : may_begin T service ≡ may_begin_in L service
  unfolding may_begin may_begin_in
  may-is =
      ap (λ (k : List ℕ). gives (shared places_in_all services k T.limits (held T.places)) service) g.guarantees
      ∙ ap (λ (k : List ℕ). gives (shared places_in_all services L.guarantees k (held T.places)) service) g.limits
      ∙ ap (λ (k : ℕ → ℕ). gives (shared places_in_all services L.guarantees L.limits k) service) (fun_ext (λ i. sym (g.counts i)))

  -- THE ADDRESSEE: an assigned destination's entry
  pub record Assigned (e : Entry) : Type 0 where
    pub owned : Owned T service me
    pub found : find L.dialogues me ≡ some e
    pub holds : Holds there me e
    pub begun : there.control.state ≡ 1 → ⊥
    pub addressed : addressee L service s m ≡ some e

  pub addressed-some : assigned T service s m ≡ true → (P : Type 0) → ((e : Entry) → Assigned e → P) → P
  unfolding assigned addressee for_service
  addressed-some a P k =
      let w = was-eq _ _ _ _ (sym a) true-false in
      let v = was-yes _ _ _ w.1 true-false in
      let o = owned-is T service me v.0 in
      owned-found T f L g service me o P
      (λ e q h.
      let u : there.control.state ≡ 1 → ⊥ = λ z. true-false (v.1 ∙ sym (eq _ _ _ _ z refl)) in
      k e (record {
        owned = o;
        found = q;
        holds = h;
        begun = u;
        addressed = sym (eq _ _ _ _ w.0
            (eq {r = some e} e.service service _ _ (sym h.is.service ∙ o.service) (ne _ _ _ _ (λ z. u (h.is.state ∙ z)) refl)
            ∙ ap (for_service service) (sym q)));
      }))

  pub addressed-none : assigned T service s m ≡ false → addressee L service s m ≡ none
  unfolding addressee for_service assigned
  addressed-none a = sym (by-eq {A = ℕ} m.destination.length 4 0 0 refl (λ n _. eq _ _ _ _ n (sym (at (find L.dialogues me) refl (g.each me) n))) (λ n _. ne _ _ _ _ n refl))
    where
      at : (x : Option Entry) → find L.dialogues me ≡ x → At there me x → m.destination.length ≡ 4 → for_service service (find L.dialogues me) ≡ none
      at none q h n = ap (for_service service) q
      at (some e) q h n =
          ap (for_service service) q
          ∙ sym (by-eq {A = ℕ} e.service service 0 0 refl
          (λ i _. by-eq {A = ℕ} e.state 1 0 0 refl (λ j _. eq _ _ _ _ i (eq _ _ _ _ j refl))
          (λ j _. absurd (true-false
          (eq _ _ _ _ n (yes _ _ _ (ap (λ (k : ℕ). owns T k me) (sym i) ∙ holds-owns T me e h) (ne _ _ _ _ (λ z. j (sym h.is.state ∙ z)) refl)) ∙ a))))
          (λ i _. ne _ _ _ _ i refl))

  -- AT NO FAULT, or dropped: nothing is written
  silent : (cause : ℕ) → 5 ≤ cause → cause ≡ cause_of L service s m → Wire.Nothing ≡ said_for L service s m
  unfolding said_for
  silent cause h e = ge _ _ _ _ (omega (arith, e)) refl

  quiet : (U : Table) (rows : List Row) → Agrees U (shown L service s rows) → (cause : ℕ) → 5 ≤ cause → cause ≡ cause_of L service s m
      → Heard (record { answer = 0; dialogue = 0; rows = rows; message = []; table = U })
  quiet U rows a cause h e = record { agrees = a; says = nothing-content ∙ silent cause h e; fits = omega arith }

  unchanged : Agrees T (shown L service s [])
  unfolding shown
  unchanged = g

  -- AT FAULT, with its cause
  faulted-heard : (cause : ℕ) → cause < 5 → cause ≡ cause_of L service s m → Heard (faulted T service s m cause)
  unfolding faulted faulted_at said_for
  faulted-heard cause small e =
      by-eq {r = faulted T service s m cause} _ _ _ _ refl
      (λ a z. is z (record { agrees = unchanged; says = nothing-content ∙ lost a; fits = omega arith }))
      (λ a z. by-b _ _ _ z
      (λ o z. addressed-some o (Heard (faulted T service s m cause))
      (λ x w. is z (told a _ _
      (subst (Agrees _) (sym (shown-end L service s (dialogue_row row_abort me cause no_run 0) [] (omega arith) (omega arith)))
      (agrees-ended T f L g me x w.found w.holds)))))
      (λ o z. is z (told a _ _ unchanged)))
    where
      lost : m.origin.length ≡ 0 → Wire.Nothing ≡ said_for L service s m
      lost a = lt _ _ _ _ (omega (arith, e)) (eq _ _ _ _ a refl)

      told : (m.origin.length ≡ 0 → ⊥) → (U : Table) (rows : List Row) → Agrees U (shown L service s rows)
          → Heard (record { answer = 0; dialogue = 0; rows = rows; message = cause_abort_octets origin cause; table = U })
      told a U rows ag =
          let n : 1 ≤ length origin = omega (arith, long) in
          let k : length origin ≤ 4 = omega (arith, long, in-s.origin.short) in
          record {
            agrees = ag;
            says = cause-abort-content origin n k cause small ∙ lt _ _ _ _ (omega (arith, e)) (ne _ _ _ _ a (ap (aborting origin [] Spoken.Silent) e));
            fits = cause-abort-fits origin n k cause;
          }

  -- A SOUND MESSAGE, by its type
  module _ (sound : m.fault ≡ is_sound) where
    -- its cause, as far as its type tells
    cause-uni : m.tag ≡ uni_tag → no_problem ≡ cause_of L service s m
    unfolding cause_of
    cause-uni t = eq _ _ _ _ sound (eq _ _ _ _ t refl)

    cause-begin : m.tag ≡ begin_tag → (cause : ℕ) → cause ≡ if_b (may_begin_in L service) no_problem 4 → cause ≡ cause_of L service s m
    unfolding cause_of
    cause-begin t cause e = eq _ _ _ _ sound (ne _ _ _ _ (λ z. omega arith) (eq _ _ _ _ t e))

    cause-to : (m.tag ≡ uni_tag → ⊥) → (m.tag ≡ begin_tag → ⊥) → (x : Option Entry) → addressee L service s m ≡ x → to_entry m.tag x ≡ cause_of L service s m
    unfolding cause_of
    cause-to a b x e = eq _ _ _ _ sound (ne _ _ _ _ a (ne _ _ _ _ b (ap (to_entry m.tag) (sym e))))

    -- UNIDIRECTIONAL: rows alone
    uni-heard : m.tag ≡ uni_tag → Heard (uni_received T s m)
    unfolding uni_received
    uni-heard t =
        quiet T _ (subst (Agrees T) (sym (shown-uni L service s (dialogue_row row_uni 0 no_problem m.portion _) _ refl)) g) no_problem (omega arith) (cause-uni t)

    -- BEGIN: a dialogue begins in the lowest free place, under the ID that its row tells
    begin-heard : m.tag ≡ begin_tag → Heard (begin_received T service s m)
    unfolding begin_received begin_at joined
    begin-heard t =
        by-b {r = begin_received T service s m} _ _ _ refl
        (λ may z.
        let p : ℕ = lowest_free T in
        let h : p < places_in_all = lowest-there T f service s< may in
        let c : Control = begun_control T service p s m in
        let id : ℕ = local_id p (place_at T p).control.turn in
        let rows : List Row = component_rows id 8 c (items_of s m) in
        let k = begun-control-fine s m in-s (in-s.begins sound t) (place_at T p).control.turn service (f.each p h).control.turn s< in
        let w = all_left id (items_of s m) (items-readable T f service s< s octets m in-s) c k in
        let peer : peer_of c ≡ origin = ap (λ (n : ℕ). take n (pad 4 origin)) (sym long) ∙ (pad-rest 4 origin (omega (arith, long, in-s.origin.short))).0 in
        is z (quiet _ _
        (subst (Agrees _) (sym (shown-begin L service s (dialogue_row row_begin id no_problem m.portion _) rows refl))
        (agrees-begun T f L g p h (free-is (place_at T p) (lowest-is-free T f h)) (f.each p h).control.turn
        (record { id = id; service = service; state = 3; peer = origin; passed = []; rejects = rejects_in rows; invocations = heard_all [] (items_of s m) rows })
        (record { control = all_acted 8 c (items_of s m); waiting = [] }) refl w.turn (λ e. omega (arith, w.state))
        (record {
          state = w.state;
          service = w.service;
          peer = w.peer ∙ peer;
          passed = refl;
          allowed = tt;
          rejects = w.waiting;
          ours = ours-heard id 8 (omega arith) (items_of s m) (items-readable T f service s< s octets m in-s) c k [] ours-none;
        })))
        no_problem (omega arith) (cause-begin t no_problem (yes _ _ _ (sym may-is ∙ may) refl))))
        (λ may z. is z (faulted-heard 4 (omega arith) (cause-begin t 4 (no _ _ _ (sym may-is ∙ may) refl))))

    -- TO A DIALOGUE
    module _ (a : m.tag ≡ uni_tag → ⊥) (b : m.tag ≡ begin_tag → ⊥) (e : Entry) (w : Assigned e) where
      -- the cause that is left
      cause-is : (cause : ℕ) → cause ≡ to_entry m.tag (some e) → cause ≡ cause_of L service s m
      cause-is cause q = q ∙ cause-to a b (some e) w.addressed

      no-cause : ((m.tag ≡ continue_tag) → there.control.state ≡ 3 → ⊥) → no_problem ≡ cause_of L service s m
      unfolding to_entry
      no-cause n =
          cause-is no_problem
          (by-eq {A = ℕ} m.tag continue_tag 0 0 refl (λ t _. eq _ _ _ _ t (ne _ _ _ _ (λ z. n t (w.holds.is.state ∙ z)) refl)) (λ t _. ne _ _ _ _ t refl))

      -- its place freed, by a row 4, 5 or 6
      freed-heard : (row : Row) (rows : List Row) → row.dialogue ≡ me → 4 ≤ row.kind → row.kind ≤ 6 → no_problem ≡ cause_of L service s m
          → Heard (record { answer = 0; dialogue = 0; rows = row ∷ rows; message = []; table = with_place T (place_of me) (freed there) })
      freed-heard row rows d x y c =
          quiet _ _
          (subst (Agrees _) (sym (shown-end L service s row rows x y ∙ ap (ends L) d)) (agrees-ended T f L g me e w.found w.holds)) no_problem (omega arith) c

      -- CONTINUE: "in Sent stores the peer's ID and makes Active; later ones don't change it"
      continued : Continued there e s m origin
      unfolding continued_control
      continued n t =
          by-eq {r = continued_control there.control s m} _ _ _ _ refl
          (λ q z. subst Fits (sym z) (
            refl,
            refl,
            refl,
            ap (λ (k : ℕ). take k (pad 4 origin)) (sym long) ∙ (pad-rest 4 origin (omega (arith, long, in-s.origin.short))).0 ∙ eq _ _ _ _ (sym w.holds.is.state ∙ q) refl,
            refl,
            refl,
          ))
          (λ q z. subst Fits (sym z) (
            refl,
            active there.control.state (f.each (place_of me) w.holds.small).control.state w.holds.used w.begun q n,
            refl,
            w.holds.is.peer ∙ ne _ _ _ _ (λ i. q (w.holds.is.state ∙ i)) refl,
            refl,
            refl,
          ))
        where
          Fits : Control → Type 0
          Fits d = (d.turn ≡ there.control.turn) × (d.state ≡ 4) × (d.service ≡ there.control.service)
              × (peer_of d ≡ if_eq e.state 2 origin e.peer) × (waits d ≡ waits there.control) × (d.invocations ≡ there.control.invocations)

          active : (n : ℕ) → n < 5 → (n ≡ 0 → ⊥) → (n ≡ 1 → ⊥) → (n ≡ 2 → ⊥) → (n ≡ 3 → ⊥) → n ≡ 4
          active n h a b c d = omega arith

      continue-heard : (there.control.state ≡ 3 → ⊥) → m.tag ≡ continue_tag → Heard (continue_received T me s m there)
      unfolding continue_received answered
      continue-heard n t =
          let c : Control = continued_control there.control s m in
          let k = continued n t in
          let fine = (continued-fine s m in-s (in-s.continues sound t) there.control (f.each (place_of me) w.owned.small).control w.owned.state).0 in
          let v = all_left me (items_of s m) (items-readable T f service s< s octets m in-s) c fine in
          let rows : List Row = component_rows me 8 c (items_of s m) in
          quiet _ _
          (subst (Agrees _) (sym (shown-continue L service s (dialogue_row row_continue me no_problem m.portion _) rows refl))
          (agrees-altered T f L g me e (with_control there (all_acted 8 c (items_of s m))) (answered s rows) w.found w.holds (λ _. refl) (λ _. refl)
          (v.turn ∙ k.0 ∙ w.holds.turn) (λ z. omega (arith, v.state, k.1, z))
          (record {
            state = v.state ∙ k.1;
            service = v.service ∙ k.2 ∙ w.holds.is.service;
            peer = v.peer ∙ k.3;
            passed = w.holds.is.passed;
            allowed = w.holds.is.allowed;
            rejects = v.waiting ∙ ap (λ (l : List Written). l ++ rejects_in rows) (k.4 ∙ w.holds.is.rejects);
            ours = ours-heard me 8 (omega arith) (items_of s m) (items-readable T f service s< s octets m in-s) c fine e.invocations
                (subst (λ (l : List Invocation). Ours l e.invocations) (sym k.5) w.holds.is.ours);
          })))
          no_problem (omega arith) (no-cause (λ _. n))

      dialogue-heard : Heard (to_dialogue T service me s m there)
      unfolding to_dialogue end_received abort_received to_entry
      dialogue-heard =
          by-eq {r = to_dialogue T service me s m there} _ _ _ _ refl
          (λ n z. by-eq _ _ _ _ z
          (λ t z. is z (faulted-heard 3 (omega arith) (cause-is 3 (eq _ _ _ _ t (eq _ _ _ _ (sym w.holds.is.state ∙ n) refl)))))
          (λ t z. is z (quiet T [] unchanged no_problem (omega arith) (no-cause (λ q. absurd (t q))))))
          (λ n z. by-eq _ _ _ _ z (λ t z. is z (continue-heard n t))
          (λ t z. by-eq _ _ _ _ z
          (λ u z. is z (freed-heard (dialogue_row row_end me no_problem m.portion _) _ refl (omega arith) (omega arith) (no-cause (λ q. absurd (t q)))))
          (λ u z. is z
          (by-eq {r = if_eq m.cause no_problem (dialogue_row row_user_abort me no_problem m.portion 0) (dialogue_row row_abort me m.cause no_run 0)} _ _ _ _ refl
          (λ i y. subst Rows (sym y) (freed-heard (dialogue_row row_user_abort me no_problem m.portion 0) [] refl (omega arith) (omega arith) (no-cause (λ q. absurd (t q)))))
          (λ i y. subst Rows (sym y) (freed-heard (dialogue_row row_abort me m.cause no_run 0) [] refl (omega arith) (omega arith) (no-cause (λ q. absurd (t q)))))))))
        where
          Rows : Row → Type 0
          Rows row = Heard (record { answer = 0; dialogue = 0; rows = row ∷ []; message = []; table = with_place T (place_of me) (freed there) })

    sound-heard : Heard (sound_received T service s m)
    unfolding sound_received to_entry
    sound-heard =
        by-eq {r = sound_received T service s m} _ _ _ _ refl (λ a z. is z (uni-heard a))
        (λ a z. by-eq _ _ _ _ z (λ b z. is z (begin-heard b))
        (λ b z. by-b _ _ _ z
        (λ o z. addressed-some o (Heard (sound_received T service s m)) (λ e w. is z (dialogue-heard a b e w)))
        (λ o z. is z (faulted-heard 1 (omega arith) (cause-to a b none (addressed-none o))))))

  pub received-heard : Heard (received T service s m)
  unfolding received cause_of
  received-heard =
      by-eq {r = received T service s m} _ _ _ _ refl
      (λ a z. is z (quiet T [] unchanged m.fault (omega arith) (ne _ _ _ _ (λ b. omega arith) refl)))
      (λ a z. by-eq _ _ _ _ z (λ b z. is z (sound-heard b)) (λ b z. is z (faulted-heard m.fault ((message-read s).coded a b) (ne _ _ _ _ b refl))))
