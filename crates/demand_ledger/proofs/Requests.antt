-- A REQUEST OR TIMER EVENT that isn't refused: the ledger goes with the table, and the message holds what the ledger says. Assumes nothing.
use Rattle.std.specs.Prelude.{◌≡◌, Bool, true, length}
use Rattle.std.proofs.Math.Path.{refl, ap, subst}
use Rattle.std.proofs.Common.{sym, ◌∙◌, arith, length-append, length-take-le}
use Rattle.std.proofs.Math.Option.{Option, some}
use mathlib.Core.List.{List, [], ◌∷◌, ◌++◌}
use Prim.Native.Nat.{ℕ, ◌+◌, ◌≤◌, ◌<◌}
use Rattle.laws.specs.If.{if_eq, yes, no, by-eq, by-b, was-eq, was-ge, was-yes}
use Rattle.laws.specs.Lists.{first_at, first-le}
use Rattle.paper.specs.declared.Invocation.{Invocation}
use Rattle.paper.specs.declared.Control.{Control}
use Rattle.paper.specs.Sizes.{place_of, id_octets, most_waiting}
use Rattle.paper.specs.Problems.{kind_of, no_problem}
use Rattle.paper.specs.Writing.{Written, octets_of, joined, begin_octets, continue_octets, end_octets, uni_octets}
use Rattle.paper.specs.Invocations.{no_invocation, new_one, is_idle, idle_slot, in_state, to_idle, passed}
use Rattle.paper.specs.Messages.{begin_tag, continue_tag, end_tag, uni_tag}
use Rattle.paper.specs.Portions.{Form, aarq, aare, audt, portion_by, Spoken, spoken_in}
use Rattle.paper.specs.Dialogues.{Place, Request, with_control, freed, invoke_refusal, reject_refusal, rejected_by, peer_of, waiting_rejects, sent_components, after_sending, fits_with, has_peer, needs_peer, portion_refusal, uni_refusal, abort_portion, abort_refusal, abort_message, refusal, does}
use Rattle.paper.specs.Dialogues.Request.{Invoke, Result, Error, UserReject, Cancel, Begin, Continue, End, Prearranged, Abort, Unidirectional, Timeout, RejectTimeout, NoReaction}
use Rattle.paper.specs.Calls.{Table, place_at, with_place}
use Rattle.paper.specs.Contents.{Wire, content_of}
use Rattle.paper.specs.Asked.{becomes, user_rejects}
use Rattle.paper.specs.Ledger.{Entry, Ledger, find, fit, goes, passes, idles, unmoved, sends, goes_on, ends, noted, sending, aborting, abort_spoken, said_by, said_of}
use Rattle.demand_readback.specs.Written.{Allowed, AllAllowed}
use Rattle.demand_readback.proofs.Contents.{nothing-content, begin-fits, begin-content, continue-fits, continue-content, end_fits, end-content, uni-fits, uni-content, user-abort-fits, user-abort-content}
use Rattle.demand_readback.proofs.Aborts.{abort-formed, abort-spoken}
use Rattle.table_laws.specs.Fine.{FinePlace, Fine}
use Rattle.demand_kept.proofs.Leaves.{whether-eq}
use Rattle.table_laws.proofs.Keeps.{passed-fine, to-idle-fine}
use Rattle.demand_kept.proofs.Portions.{first-none}
use Rattle.demand_kept.specs.Requests.{Formed, request_of}
use Rattle.demand_kept.proofs.Requests.{passed-taken, invoke-told, reject-told, rejected-by-stays}
use Rattle.demand_ledger.proofs.Lookups.{idle-lookup, passed-lookup, rejected-lookup}
use Rattle.demand_ledger.specs.Ours.{Ours}
use Rattle.demand_ledger.proofs.Ours.{ours-turned}
use Rattle.demand_ledger.proofs.Entries.{find-id}
use Rattle.demand_ledger.specs.Agrees.{Is, Holds, Agrees}
use Rattle.demand_ledger.proofs.Agrees.{agrees-altered, agrees-ended}
use Rattle.demand_ledger.specs.Acting.{Alike}
use Rattle.demand_ledger.proofs.Acting.{alike_self, alike-waits, idle-alike, state-alike}
use Rattle.demand_ledger.proofs.Sending.{joined-more, allowed-append, goes-is, sent_is, sent-turn, goes-allowed, goes-few}
use Rattle.demand_ledger.specs.Portions.{Given}
use Rattle.demand_ledger.proofs.Portions.{aarq-given, aare-given, audt-given}
use Rattle.demand_ledger.specs.Requests.{Follows}

passed-alike : (c : Control) (id class : ℕ) → Alike c (passed c id class)
unfolding passed
passed-alike c id class = record { turn = refl; state = refl; service = refl; peer = refl; count = refl; rejects = refl }

rejected-alike : (c : Control) (id p : ℕ) → Alike c (rejected_by c id p)
unfolding rejected_by
rejected-alike c id p = whether-eq (Alike c) _ _ _ _ (alike_self c) (state-alike c id 4)

-- an invoke that isn't refused by 10 has a slot
invoke-room : (x : Place) (id linked class : ℕ) (op par : List ℕ) → invoke_refusal x id linked class op par ≡ 0 → length x.control.invocations ≡ 8 → idle_slot x.control.invocations < 8
unfolding invoke_refusal idle_slot
invoke-room x id linked class op par e h =
    let a = was-ge _ _ _ _ (sym e) (λ z. omega arith) in
    let b = was-ge _ _ _ _ a.1 (λ z. omega arith) in
    let c = was-eq _ _ _ _ b.1 (λ z. omega arith) in
    by-eq _ _ _ _ c.1 (λ z w. absurd (omega arith)) (λ z w. less (first_at is_idle x.control.invocations) (first-le is_idle no_invocation x.control.invocations) z)
  where
    less : (n : ℕ) → n ≤ length x.control.invocations → (n ≡ 8 → ⊥) → n < 8
    less n a b = omega arith

-- THE PEER'S ID: "1 to 4 octets in Received and Active", where Continue isn't refused
peer-told : (x : Place) → needs_peer x ≡ 0 → has_peer x.control.state ≡ true
unfolding needs_peer
peer-told x e = (was-yes _ _ _ (sym e) (λ z. omega arith)).0

needs-peer : (x : Place) → FinePlace x → has_peer x.control.state ≡ true → (1 ≤ length (peer_of x.control)) × (length (peer_of x.control) ≤ 4)
needs-peer x f e =
    let c : Control = x.control in
    let n : length (peer_of c) ≡ c.peerlen = length-take-le c.peerlen c.peer (omega (arith, f.control.four, f.control.peer.most)) in
    (omega (arith, n, f.control.peer.some e), omega (arith, n, f.control.peer.most))

-- "Unidirectional with no component" is refused
uni-some : (x : Place) (fits : Bool) → uni_refusal x ≡ 0 → length (sent_components x fits) ≡ 0 → ⊥
unfolding uni_refusal sent_components
uni-some x fits e z =
    let a = was-eq _ _ _ _ (sym e) (λ z. omega arith) in
    by-eq _ _ _ _ a.1 (λ _ q. omega arith)
    (λ some _. by-b {r = sent_components x fits} _ _ _ refl
    (λ _ q. some (omega (arith, ap length q, length-append x.waiting (waiting_rejects x.control)))) (λ _ q. some (omega (arith, ap length q))))

module _ (T : Table) (f : Fine T) (L : Ledger) (g : Agrees T L) (d : ℕ) (e : Entry) (there : find L.dialogues d ≡ some e)
    (holds : Holds (place_at T (place_of d)) d e) where
  abbrev p : ℕ
  p = place_of d

  abbrev x : Place
  x = place_at T p

  abbrev is : Is e x
  is = holds.is

  fine : FinePlace x
  fine = f.each p holds.small

  abbrev D : Request → Place → List ℕ → Type 0
  D = Follows T L d

  said-is : (r : Request) → said_by e r ≡ said_of (find L.dialogues d) r
  said-is r = ap (λ (o : Option Entry). said_of o r) (sym there)

  own-id : e.id ≡ d
  own-id = find-id L.dialogues d e there

  -- a component passed
  passes_on : (v : Written) (h : List Invocation → List Invocation) (c : Control) → Alike x.control c → Allowed v → Ours c.invocations (h e.invocations)
      → Agrees (with_place T p (record { control = c; waiting = x.waiting ++ octets_of v })) (goes_on L d (passes v h))
  passes_on v h c a w ours =
      agrees-altered T f L g d e _ (passes v h) there holds (λ _. refl) (λ _. refl) (a.turn ∙ holds.turn) (λ z. holds.used (sym a.state ∙ z))
      (record {
        state = a.state ∙ is.state;
        service = a.service ∙ is.service;
        peer = a.peer ∙ is.peer;
        passed = ap (λ (l : List ℕ). l ++ octets_of v) is.passed ∙ sym (joined-more e.passed v);
        allowed = allowed-append e.passed (v ∷ []) is.allowed (w, tt);
        rejects = alike-waits a ∙ is.rejects;
        ours = ours;
      })

  -- an invocation that goes to Idle
  goes-idle : (id : ℕ) → Agrees (with_place T p (with_control x (to_idle x.control id))) (goes_on L d (idles id))
  goes-idle id =
      let a = idle-alike x.control id in
      agrees-altered T f L g d e _ (idles id) there holds (λ _. refl) (λ _. refl) (a.turn ∙ holds.turn) (λ z. holds.used (sym a.state ∙ z))
      (record {
        state = a.state ∙ is.state;
        service = a.service ∙ is.service;
        peer = a.peer ∙ is.peer;
        passed = is.passed;
        allowed = is.allowed;
        rejects = alike-waits a ∙ is.rejects;
        ours = ours-turned id no_invocation is.ours (to-idle-fine x.control fine.control id).invocations (idle-lookup x.control fine.control id);
      })

  -- a sending
  sends-on : (state : ℕ) (portion : List ℕ) → 0 < state → Agrees (with_place T p (after_sending x (fits_with x portion) state)) (goes_on L d (sends state portion))
  sends-on state portion h =
      let w = sent_is e x is fine state portion in
      agrees-altered T f L g d e _ (sends state portion) there holds (λ _. refl) (λ _. refl) (sent-turn e x is (fits_with x portion) state ∙ holds.turn) (λ z. omega (arith, w.state)) w

  freed-on : Agrees (with_place T p (freed x)) (ends L d)
  freed-on = agrees-ended T f L g d e there holds

  -- its components, and the entry's
  abbrev cs : List ℕ → List ℕ
  cs portion = sent_components x (fits_with x portion)

  abbrev ws : List ℕ → List Written
  ws portion = goes e (fit e (length portion))

  allowed : (portion : List ℕ) → AllAllowed (ws portion)
  allowed portion = goes-allowed e x is fine (fit e (length portion))

  module _ {k : Form} {name info : List ℕ} (t : Given x k name info) where
    abbrev portion : List ℕ
    portion = portion_by k name info

    small : length portion + length (joined (ws portion)) ≤ most_waiting
    small = goes-few e x is (length portion) t.room

    few : length portion + length (cs portion) ≤ most_waiting
    few = omega (arith, ap length (goes-is e x is (length portion)), small)

    -- it is read as what the entry and the call say
    read_as : (write : List ℕ → List ℕ) (tag : ℕ) (own peer : List ℕ)
        → content_of (write (joined (ws portion)))
        ≡ Wire.Holds (record { tag = tag; origin = own; destination = peer; portion = portion; spoken = spoken_in portion; cause = no_problem; components = ws portion })
        → content_of (write (cs portion)) ≡ sending tag own peer k name info e
    read_as write tag own peer h =
        ap (λ (l : List ℕ). content_of (write l)) (goes-is e x is (length portion)) ∙ h
        ∙ ap (λ (v : Spoken). Wire.Holds (record { tag = tag; origin = own; destination = peer; portion = portion; spoken = v; cause = no_problem; components = ws portion })) t.says

  module _ (name info : List ℕ) where
    begin-done : portion_refusal x aarq name info ≡ 0
        → D (Begin name info) (after_sending x (fits_with x (portion_by aarq name info)) 2) (begin_octets (id_octets d) (portion_by aarq name info) (cs (portion_by aarq name info)))
    begin-done n =
        let t = aarq-given x name info n in
        let portion : List ℕ = portion_by aarq name info in
        record {
          agrees = sends-on 2 portion (omega arith);
          says =
              read_as t (begin_octets (id_octets d) portion) begin_tag (id_octets d) []
              (begin-content (id_octets d) (omega arith) (omega arith) portion t.formed (ws portion) (allowed portion) (small t))
              ∙ ap (λ (i : ℕ). sending begin_tag (id_octets i) [] aarq name info e) (sym own-id) ∙ said-is (Begin name info);
          fits = begin-fits (id_octets d) (omega arith) (omega arith) portion (cs portion) (few t);
        }

    uni-done : uni_refusal x ≡ 0 → portion_refusal x audt name info ≡ 0 → D (Unidirectional name info) (freed x) (uni_octets (portion_by audt name info) (cs (portion_by audt name info)))
    uni-done u n =
        let t = audt-given x name info n in
        let portion : List ℕ = portion_by audt name info in
        record {
          agrees = freed-on;
          says =
              read_as t (uni_octets portion) uni_tag [] []
              (uni-content portion t.formed (ws portion) (allowed portion) (λ z. uni-some x (fits_with x portion) u (ap length (goes-is e x is (length portion)) ∙ z)) (small t))
              ∙ said-is (Unidirectional name info);
          fits = uni-fits portion (cs portion) (few t);
        }

  module _ (n : has_peer x.control.state ≡ true) where
    abbrev peer : List ℕ
    peer = peer_of x.control

    abbrev told : (1 ≤ length peer) × (length peer ≤ 4)
    told = needs-peer x fine n

    module _ (name info : List ℕ) (r : portion_refusal x aare name info ≡ 0) where
      abbrev response : List ℕ
      response = portion_by aare name info

      continue-done : D (Continue name info) (after_sending x (fits_with x response) 4) (continue_octets (id_octets d) peer response (cs response))
      continue-done =
          let t = aare-given x name info r in
          record {
            agrees = sends-on 4 response (omega arith);
            says =
                read_as t (continue_octets (id_octets d) peer response) continue_tag (id_octets d) peer
                (continue-content (id_octets d) (omega arith) (omega arith) peer told.0 told.1 response t.formed (ws response) (allowed response) (small t))
                ∙ ap (λ (i : ℕ). sending continue_tag (id_octets i) peer aare name info e) (sym own-id)
                ∙ ap (λ (l : List ℕ). sending continue_tag (id_octets e.id) l aare name info e) is.peer ∙ said-is (Continue name info);
            fits = continue-fits (id_octets d) (omega arith) (omega arith) peer told.0 told.1 response (cs response) (few t);
          }

      end-done : D (End name info) (freed x) (end_octets peer response (cs response))
      end-done =
          let t = aare-given x name info r in
          record {
            agrees = freed-on;
            says =
                read_as t (end_octets peer response) end_tag [] peer
                (end-content peer told.0 told.1 response t.formed (ws response) (allowed response) (small t))
                ∙ ap (λ (l : List ℕ). sending end_tag [] l aare name info e) is.peer ∙ said-is (End name info);
            fits = end_fits peer told.0 told.1 response (cs response) (few t);
          }

  -- "a whole 6B element or none", or user information in an ABRT; "writes a message only in Received and Active"
  abort-done : (given : List ℕ) → abort_refusal given ≡ 0 → D (Abort given) (freed x) (abort_message x given)
  unfolding abort_refusal abort_message
  abort-done given r =
      let a = was-yes _ _ _ (sym r) (λ z. omega arith) in
      let b = was-ge _ _ _ _ a.1 (λ z. omega arith) in
      let portion : List ℕ = abort_portion given in
      by-b {r = abort_message x given} _ _ _ refl
      (λ n z. subst (D (Abort given) (freed x)) (sym z) (record {
        agrees = freed-on;
        says =
            user-abort-content (peer n) (told n).0 (told n).1 portion (abort-formed given a.0 b.0) b.0
            ∙ ap (λ (v : Spoken). aborting (peer n) portion v no_problem) (abort-spoken given a.0 b.0)
            ∙ ap (λ (l : List ℕ). aborting l portion (abort_spoken given) no_problem) is.peer
            ∙ yes _ _ _ (ap has_peer (sym is.state) ∙ n) refl ∙ said-is (Abort given);
        fits = user-abort-fits (peer n) (told n).0 (told n).1 portion b.0;
      }))
      (λ n z. subst (D (Abort given) (freed x)) (sym z) (record {
        agrees = freed-on;
        says = nothing-content ∙ no _ _ _ (ap has_peer (sym is.state) ∙ n) refl ∙ said-is (Abort given);
        fits = omega arith;
      }))

  -- no message
  quiet : (r : Request) (y : Place) → Wire.Nothing ≡ said_by e r → Agrees (with_place T p y) (noted L d r) → D r y []
  quiet r y s a = record { agrees = a; says = nothing-content ∙ s ∙ said-is r; fits = omega arith }

  passing : (class : ℕ) (v : Written) → Formed (request_of class v) → refusal x (request_of class v) ≡ 0 → Allowed v
  passing class v w n = (passed-taken x class v w n).0

  -- a new invocation; one that is rejected
  invokes-ours : (id linked class : ℕ) (op par : List ℕ) → Formed (Invoke id linked class op par) → invoke_refusal x id linked class op par ≡ 0
      → Ours (passed x.control id class).invocations (becomes e.invocations id (new_one id class))
  invokes-ours id linked class op par w n =
      let t = invoke-told x id linked class op par w.0 w.1 n in
      let k = invoke-room x id linked class op par n in
      ours-turned id (new_one id class) is.ours (passed-fine x.control fine.control id class t.2 t.0 t.1).invocations
      (passed-lookup x.control fine.control id class t.2 (k fine.control.eight))

  rejects-ours : (id q : ℕ) → id < 256 → reject_refusal x id q ≡ 0 → Ours (rejected_by x.control id q).invocations (user_rejects e.invocations id q)
  unfolding user_rejects
  rejects-ours id q w n =
      let t = reject-told x id q (omega arith) n in
      subst (λ (v : Invocation). Ours (rejected_by x.control id q).invocations (becomes e.invocations id (if_eq (kind_of q) 1 v (in_state v 4)))) (is.ours.same id)
      (ours-turned id _ is.ours (rejected-by-stays x fine holds.used id q t.0).fine.invocations (rejected-lookup x.control fine.control id q t.0))

  pub does-done : (r : Request) → Formed r → refusal x r ≡ 0 → D r (does d x r).place (does d x r).message
  unfolding does refusal octets_of
  does-done (Invoke id linked class op par) w n =
      let v : Written = Written.Invoke id linked op par in
      quiet (Invoke id linked class op par) _ refl
      (passes_on v (λ l. becomes l id (new_one id class)) (passed x.control id class) (passed-alike x.control id class) (passing class v w n)
      (invokes-ours id linked class op par w n))
  does-done (Result tag id op par) w n =
      let v : Written = Written.Result tag id op par in
      quiet (Result tag id op par) _ refl (passes_on v unmoved x.control (alike_self x.control) (passing 0 v w n) is.ours)
  does-done (Error id err par) w n =
      let v : Written = Written.Error id err par in
      quiet (Error id err par) _ refl (passes_on v unmoved x.control (alike_self x.control) (passing 0 v w n) is.ours)
  does-done (UserReject id q) w n =
      let v : Written = Written.Reject id q in
      quiet (UserReject id q) _ refl
      (passes_on v (λ l. user_rejects l id q) (rejected_by x.control id q) (rejected-alike x.control id q) (passing 0 v w n) (rejects-ours id q w n))
  does-done (Cancel id) w n = quiet (Cancel id) _ refl (goes-idle id)
  does-done (Begin name info) w n = begin-done name info (first-none _ _ n).1
  does-done (Continue name info) w n = let r = first-none _ _ n in continue-done (peer-told x r.0) name info r.1
  does-done (End name info) w n = let r = first-none _ _ n in end-done (peer-told x r.0) name info r.1
  does-done Prearranged w n = quiet Prearranged _ refl freed-on
  does-done (Abort given) w n = abort-done given n
  does-done (Unidirectional name info) w n = let r = first-none _ _ n in uni-done name info r.0 r.1
  does-done (Timeout id) w n = quiet (Timeout id) _ refl (goes-idle id)
  does-done (RejectTimeout id) w n = quiet (RejectTimeout id) _ refl (goes-idle id)
  does-done NoReaction w n = quiet NoReaction _ refl freed-on
