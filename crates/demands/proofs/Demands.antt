-- THE DEMANDS, on the outcomes that the contracts of the calls name. Assumes nothing.
-- A host's history of C calls is a list of `Made`: the call with its arguments, and the row and message spaces lent with it; each
-- is made on the octets that the call before left (`after`), the first on what a tcap_fresh answered 0 left. What a call gives is
-- `outcome`, which its contract names; nothing here speaks of another engine. Left to the host: that it hands the table on unaltered,
-- and that spaces don't overlap. That the lowest number is given, and what is left as it was, stands in proofs/Lowest.antt and proofs/Tails.antt.
use Rattle.std.specs.Prelude.{◌≡◌, Bool, false, ◌⊎◌, ◌↔◌, ℕ, zero, suc, ◌+◌, ◌-◌, ◌%◌, ◌≤◌, ◌<◌, length, get_or}
use Rattle.std.proofs.Math.Path.{refl, sym, ap, subst}
use Rattle.std.proofs.Common.{◌∙◌, inl, inr, length-take, length-drop}
use Rattle.std.proofs.Math.Bool.{true}
use Rattle.std.proofs.Math.Option.{Option, none, some}
use mathlib.Core.List.{List, [], ◌++◌}
use native.Mathlib.Omega.{arith}
use Rattle.laws.specs.If.{if_eq, if_b, eq, ne, yes, no, by-eq}
use Rattle.paper.specs.declared.Invocation.{Invocation}
use Rattle.paper.specs.declared.Row.{Row}
use Rattle.paper.specs.Sizes.{places_in_all, services, place_of, turn_of, id_octets, least_space}
use Rattle.paper.specs.Shares.{Resource, shared, gives, others, free}
use Rattle.paper.specs.Messages.{message_of, is_sound, uni_tag, begin_tag}
use Rattle.paper.specs.Kinds.{row_begin}
use Rattle.paper.specs.Writing.{cause_abort_octets}
use Rattle.paper.specs.Portions.{Spoken, parts_in, portion_at}
use Rattle.paper.specs.Invocations.{sent, wait, invocation_of, state_of}
use Rattle.paper.specs.Asked.{ours_of}
use Rattle.paper.specs.Dialogues.{Request, dialogue_open, dialogue_sent, dialogue_received, dialogue_active, needs, refusal}
use Rattle.paper.specs.Dialogues.Request.{Cancel, RejectTimeout}
use Rattle.paper.specs.Calls.{Table, Call, Out, place_at, owns, held, dialogues as dialogues_of, may_begin, lowest_free, shows, octets_at, number_at, begin_at, step, fresh_table}
use Rattle.paper.specs.Calls.Call.{OnDialogue, Receive}
use Rattle.paper.specs.Layout.{encode, view}
use Rattle.paper.specs.Rules.{rules}
use Rattle.paper.specs.Outcome.{Lent, Outcome, Gives, spaces_of, spaces_for, standing, given, shown, refused_by, outcome, fresh_outcome, one}
use Rattle.paper.specs.Contents.{Content, Wire, content_of}
use Rattle.paper.specs.Ledger.{Entry, Ledger, new_ledger, find, for_service, aborting, ended_in}
use Rattle.demand_readback.proofs.Contents.{nothing-content, cause-abort-fits, cause-abort-content}
use Rattle.reading_messages.specs.Bounds.{message-in}
use Rattle.table_laws.specs.Fine.{Octets}
use Rattle.table_laws.proofs.Whole.{view-encode}
use Rattle.table_laws.specs.Ready.{Ready}
use Rattle.demand_kept.specs.StepKept.{WellFormed}
use Rattle.demand_kept.proofs.Tables.{outcome-ready, ready-rules}
use Rattle.table_shares.specs.Share.{below-given}
use Rattle.table_shares.specs.Counting.{Moves}
use Rattle.table_shares.specs.Counting as counting
use Rattle.demand_kept.proofs.Shared.{sound}
use Rattle.demand_kept.proofs.Fresh.{fresh-is, fresh-fine}
use Rattle.demand_ledger.specs.Agrees.{Holds, At, Agrees}
use Rattle.demand_ledger.proofs.Agrees.{holds-owns, unknown-not-owned}
use Rattle.demand_ledger.proofs.StepPlayed.{fresh-agrees}
use Rattle.demand_ledger.specs.Homes.{Comes, row_for}
use Rattle.demand_ledger.proofs.Homes.{id-back, number_is, addressee-is, comes_home, comes-nowhere}
use Rattle.demands.specs.Stands.{Stands}
use Rattle.demands.proofs.Stands.{not-refused}
use Rattle.demands.proofs.Begins.{begin-step}
use Rattle.demands.proofs.Portions.{space-small, told_of}
use Rattle.demands.specs.History.{Made, gave, after, begun_of, ended_of, AllFormed, Reached, told}
use Rattle.demands.proofs.History.{history}
use Rattle.demands.specs.Booked.{ledger_of, message_out, heard, Followed}
use Rattle.demands.proofs.Booked.{first-written, booked, follows, formed-append}
use Rattle.demands.specs.Replies.{Wide, lent_with, asks}
use Rattle.demands.proofs.Replies.{begun-told, gave-done, gave-rows, open-answer, receive-answers, request-answered, unknown-answered, owned-not-5}
use Rattle.demands.specs.Demands.{row_kind}
use Rattle.demands.specs.Demands as next

-- DEMAND 1: "a refusal changes no octet of table, rows or message space", for all octets, numbers and spaces lent
pub refusal-changes-nothing : (l : Lent) (c : Call) → ((outcome l c).answer ≡ 0 → ⊥) → (outcome l c).lent ≡ l
unfolding outcome
refusal-changes-nothing l c = stand (standing l (spaces_for c))
  where
    stand : (n : ℕ) → ((shown n l (step (view l.table) c)).answer ≡ 0 → ⊥) → (shown n l (step (view l.table) c)).lent ≡ l
    stand (suc n) h = refl
    stand zero h =
        by-eq {r = shown 0 l (step (view l.table) c)} (step (view l.table) c).answer 0 (given l (step (view l.table) c)) (refused_by (step (view l.table) c).answer l) refl
        (λ z e. absurd (h (ap (λ (x : Outcome). x.answer) e))) (λ z e. ap (λ (x : Outcome). x.lent) e)

-- DEMAND 2: where the spaces have the right sizes and the table keeps the rules, the outcome is the definitions' step
pub outcome-is-step : (l : Lent) (c : Call) → Stands l (spaces_for c) → outcome l c ≡ shown 0 l (step (view l.table) c)
unfolding outcome
outcome-is-step l c w = ap (λ (n : ℕ). shown n l (step (view l.table) c)) (not-refused l (spaces_for c) w)

-- any two outcomes that the contract of a call allows are equal: reply, table, rows and message space
pub same_outcome : (l : Lent) (c : Call) {a b r q n m d e : ℕ} {k j : Lent} → Gives (outcome l c) a r n d k → Gives (outcome l c) b q m e j
    → (a ≡ b) × (r ≡ q) × (n ≡ m) × (d ≡ e) × (k ≡ j)
same_outcome l c = one

-- DEMAND 2, the table: what a call leaves of a table that keeps the rules keeps them, so that a table handed on is never refused by 2
pub never-broken : (l : Lent) (c : Call) → WellFormed c → Ready l.table → rules (outcome l c).lent.table ≡ true
never-broken l c w r = ready-rules (outcome l c).lent.table (outcome-ready l c w r)

-- A HISTORY: a tcap_fresh that is answered 0; then any list of calls, wrong ones among them, that hands the table on unaltered
module _ (t g l : List ℕ) (fresh : (fresh_outcome t g l).answer ≡ 0) (ms : List Made) (o : AllFormed ms) where
  abbrev pub start : List ℕ
  start = (fresh_outcome t g l).lent.table

  -- THE LEDGER, played over the calls, answers and rows (crates/paper/specs/Ledger.antt)
  abbrev pub ledger : Ledger
  ledger = ledger_of (new_ledger g l) start ms

  booked-start : (ns : List Made) → AllFormed ns → Followed start (new_ledger g l) ns
  booked-start ns w =
      let b = begun-told t g l fresh in
      subst (λ (x : List ℕ). Followed x (new_ledger g l) ns) (sym b.table)
      (follows (fresh_table g l) (fresh-fine g l b.guarantees b.limits b.fit) (new_ledger g l) (fresh-agrees g l) ns w)

  -- the ledger agrees with the table that the history left: the one relation between the two (crates/demand_ledger/specs/Agrees.antt)
  pub agreed : Followed start (new_ledger g l) ms
  agreed = booked-start ms o

  -- DEMAND 2, the messages: WHAT IS SENT IS WHAT THE CALLS PUT IN. The message that the next call writes, whichever it is, is read, by the
  -- definition by which a received one is read, as exactly what the ledger says: type, IDs, dialogue portion, cause, and the components passed and
  -- not yet sent, in order, then the rejects shown and not yet sent; nothing where it says nothing, and nothing where the call is refused.
  -- Of the portion it says the octets and what they are read as (02 a, "reading back includes their fields"): its kind, context name, user
  -- information, result, diagnostic and abort source, as the call gave them (`spoken_by`), an abort's 6B as it is
  pub sent-is-said : (m : Made) → WellFormed m.call
      → content_of (message_out (gave (after start ms) m)) ≡ heard ledger m.call (gave (after start ms) m).answer
  sent-is-said m w =
      subst (λ (x : List ℕ). content_of (message_out (gave x m)) ≡ heard ledger m.call (gave x m).answer) (sym agreed.table)
      (booked agreed.to agreed.fine ledger agreed.agrees m w).says

  -- it has at most 272 octets, and a call that takes no message space writes none
  pub message-fits : (m : Made) → WellFormed m.call → (gave (after start ms) m).length ≤ (spaces_for m.call).space
  message-fits m w =
      subst (λ (x : List ℕ). (gave x m).length ≤ (spaces_for m.call).space) (sym agreed.table)
      (booked agreed.to agreed.fine ledger agreed.agrees m w).fits

  -- A HOST READS THE SAME: tcap_portion, asked at the run that the reading of the message gives, tells the kind, name, user information,
  -- result, diagnostic and source that were put in, in the message's own octets
  pub portion-is-said : (m : Made) → WellFormed m.call → (c : Content) → heard ledger m.call (gave (after start ms) m).answer ≡ Wire.Holds c
      → parts_in (message_out (gave (after start ms) m))
      (portion_at (message_out (gave (after start ms) m)) (message_of (message_out (gave (after start ms) m))).portion.start
      (message_of (message_out (gave (after start ms) m))).portion.length)
      ≡ c.spoken
  portion-is-said m w c e =
      told_of (message_out (gave (after start ms) m)) c
      (omega (arith, length-take (gave (after start ms) m).length (gave (after start ms) m).lent.space, message-fits m w, space-small m.call))
      (sent-is-said m w ∙ e)

  -- DEMAND 2, IDS COME HOME. A dialogue of the ledger stands under the ID that an open or a BEGIN row told
  entry-there : (d : ℕ) (e : Entry) → find ledger.dialogues d ≡ some e → Holds (place_at agreed.to (place_of d)) d e
  entry-there d e q = subst (At (place_at agreed.to (place_of d)) d) q (agreed.agrees.each d)

  -- this ID, written as four octets, is read back as its number
  pub id-reads-back : (d : ℕ) (e : Entry) → find ledger.dialogues d ≡ some e → number_at (id_octets d) 0 ≡ d
  id-reads-back d e q = id-back d (let h = (entry-there d e q).small in omega arith)

  -- a sound Continue, End or Abort, of 1 to 512 octets, whose destination ID is the octets of an ID of ours; with spaces of the right sizes
  module _ (s : ℕ) (h : s < services) (msg rows space : List ℕ) (octets : Octets msg) (wide : 4096 ≤ length rows) (long : least_space ≤ length space) (some-octets : 0 < length msg) (few : length msg ≤ 512)
      (sound : (message_of msg).fault ≡ is_sound) (no-uni : (message_of msg).tag ≡ uni_tag → ⊥) (no-begin : (message_of msg).tag ≡ begin_tag → ⊥)
      (d : ℕ) (small : d < 4294967296) (names : octets_at msg (message_of msg).destination ≡ id_octets d) where
    abbrev comes : Made
    comes = record { call = Receive s msg; rows = rows; space = space }

    comes-wide : Wide comes
    comes-wide = record { rows = wide; space = long }

    answers : (step agreed.to (Receive s msg)).answer ≡ 0
    answers = receive-answers agreed.to s msg h some-octets few

    told_is : (told (gave (after start ms) comes)).rows ≡ (step agreed.to (Receive s msg)).rows
    told_is = ap (λ (x : List ℕ). (told (gave x comes)).rows) agreed.table ∙ gave-rows agreed.to agreed.fine comes comes-wide octets answers

    -- finds that dialogue, in its service, from its first message on until it ends: its row comes first
    pub finds-home : (e : Entry) → find ledger.dialogues d ≡ some e → e.service ≡ s → (e.state ≡ dialogue_sent) ⊎ (e.state ≡ dialogue_active)
        → Comes (told (gave (after start ms) comes)).rows d (row_for (message_of msg))
    unfolding for_service
    finds-home e q own st =
        subst (λ (rs : List Row). Comes rs d (row_for (message_of msg))) (sym told_is)
        (subst (λ (n : ℕ). Comes (step agreed.to (Receive s msg)).rows n (row_for (message_of msg))) (number_is msg d small names)
        (comes_home agreed.to agreed.fine ledger agreed.agrees s h msg octets some-octets few sound no-uni no-begin e
        (addressee-is msg d small names ledger s ∙ ap (for_service s) q ∙ sym (eq _ _ _ _ own (ne _ _ _ _ (λ z. not-open st z) refl))) (not-received st)))
      where
        not-open : (e.state ≡ dialogue_sent) ⊎ (e.state ≡ dialogue_active) → e.state ≡ dialogue_open → ⊥
        not-open (inl a) z = omega arith
        not-open (inr a) z = omega arith

        not-received : (e.state ≡ dialogue_sent) ⊎ (e.state ≡ dialogue_active) → e.state ≡ dialogue_received → ⊥
        not-received (inl a) z = omega arith
        not-received (inr a) z = omega arith

    -- finds nobody where that service has no dialogue under it: no row, and the table as it was
    pub finds-nobody : for_service s (find ledger.dialogues d) ≡ none
        → ((told (gave (after start ms) comes)).rows ≡ []) × ((gave (after start ms) comes).lent.table ≡ after start ms)
    finds-nobody q =
        let w = comes-nowhere agreed.to agreed.fine ledger agreed.agrees s h msg octets some-octets few sound no-uni no-begin (addressee-is msg d small names ledger s ∙ q) in (
          told_is ∙ w.0,
          ap (λ (x : List ℕ). (gave x comes).lent.table) agreed.table ∙ ap (λ (x : Outcome). x.lent.table) (gave-done agreed.to agreed.fine comes comes-wide answers) ∙ ap encode w.1 ∙ sym agreed.table,
        )

  -- after its place was freed, an ID finds nobody until the turn has gone round: however the history goes on, by fewer than 16,777,216 dialogues
  -- that ended in this place, the ledger has none under it
  module _ (ns : List Made) (w : AllFormed ns) where
    abbrev pub later : Ledger
    later = ledger_of (new_ledger g l) start (ms ++ ns)

    pub gone-until-round : (d : ℕ) (e : Entry) → find ledger.dialogues d ≡ some e → ended_in (place_of d) ledger.ended < ended_in (place_of d) later.ended
        → ended_in (place_of d) later.ended < ended_in (place_of d) ledger.ended + 16777216 → find later.dialogues d ≡ none
    gone-until-round d e q a b = go (find later.dialogues d) refl (k.agrees.each d)
      where
        k : Followed start (new_ledger g l) (ms ++ ns)
        k = booked-start (ms ++ ns) (formed-append ms ns o w)

        turn : (x : Option Entry) (L : Ledger) (T : Table) → Agrees T L → find L.dialogues d ≡ x → (y : Entry) → x ≡ some y → turn_of d ≡ ended_in (place_of d) L.ended % 16777216
        turn none L T ag p y z = absurd (let y : ◌≡◌ {A = ℕ} 0 1 = cc in omega arith)
        turn (some x) L T ag p y z =
            let hold : Holds (place_at T (place_of d)) d x = subst (At _ d) p (ag.each d) in
            sym hold.turn ∙ ag.turns (place_of d) hold.small

        go : (x : Option Entry) → find later.dialogues d ≡ x → At (place_at k.to (place_of d)) d x → find later.dialogues d ≡ none
        go none z at = z
        go (some x) z at =
            let u = turn (some e) ledger agreed.to agreed.agrees q e refl in
            let v = turn (some x) later k.to k.agrees z x refl in
            absurd (omega (arith, u, v))

  -- A REQUEST OR TIMER EVENT, with spaces of the right sizes
  module _ (s d : ℕ) (r : Request) (h : s < services) (rows space : List ℕ) (wide : (spaces_of r).rows ≤ length rows) (long : (spaces_of r).space ≤ length space) where
    abbrev pub asked : Made
    asked = record { call = OnDialogue s d r; rows = rows; space = space }

    asked-wide : Wide asked
    asked-wide = record { rows = wide; space = long }

    on-table : (gave (after start ms) asked).answer ≡ (gave (encode agreed.to) asked).answer
    on-table = ap (λ (x : List ℕ). (gave x asked).answer) agreed.table

    owned : (e : Entry) → find ledger.dialogues d ≡ some e → e.service ≡ s → owns agreed.to s d ≡ true
    owned e q own = ap (λ (k : ℕ). owns agreed.to k d) (sym own) ∙ holds-owns agreed.to d e (entry-there d e q)

    -- it names a dialogue of the ledger, and its service: else, and only then, the answer is 5
    pub known-not-5 : (e : Entry) → find ledger.dialogues d ≡ some e → e.service ≡ s → (gave (after start ms) asked).answer ≡ 5 → ⊥
    known-not-5 e q own z =
        owned-not-5 (record { table = encode agreed.to; rows = rows; space = space }) s d r (ap (λ (U : Table). owns U s d) (view-encode agreed.to agreed.fine) ∙ owned e q own) (sym on-table ∙ z)

    pub unknown-5 : ((e : Entry) → find ledger.dialogues d ≡ some e → e.service ≡ s → ⊥) → (gave (after start ms) asked).answer ≡ 5
    unknown-5 n =
        on-table ∙ unknown-answered agreed.to agreed.fine s d r rows space h asked-wide (unknown-not-owned agreed.to agreed.fine ledger agreed.agrees s d n)

    asked-answered : (e : Entry) → find ledger.dialogues d ≡ some e → e.service ≡ s → (gave (after start ms) asked).answer ≡ refusal (place_at agreed.to (place_of d)) r
    asked-answered e q own = on-table ∙ request-answered agreed.to agreed.fine s d r rows space h asked-wide (owned e q own)

  -- DEMAND 2, INVOCATIONS: their states, played over the calls and the rows of the components received, are those of the table
  pub invocations-are : (d : ℕ) (e : Entry) → find ledger.dialogues d ≡ some e
      → (k : ℕ) → invocation_of (place_at agreed.to (place_of d)).control.invocations k ≡ ours_of e.invocations k
  invocations-are d e q k = (entry-there d e q).is.ours.same k

  -- so a cancel is answered 0 exactly where the ledger's invocation is Sent, a reject timeout where it is in Wait; else 9
  module _ (d : ℕ) (e : Entry) (q : find ledger.dialogues d ≡ some e) (h : e.service < services) (id : ℕ) (rows space : List ℕ) where
    by_state : (state : ℕ) → ◌≡◌ {A = ℕ} (if_eq (state_of (place_at agreed.to (place_of d)).control id) state 0 9) (if_eq (ours_of e.invocations id).state state 0 9)
    by_state state = ap (λ (v : Invocation). if_eq v.state state 0 9) (invocations-are d e q id)

    pub cancel-answered : (gave (after start ms) (asked e.service d (Cancel id) h rows space (omega arith) (omega arith))).answer ≡ if_eq (ours_of e.invocations id).state sent 0 9
    unfolding refusal needs
    cancel-answered = asked-answered e.service d (Cancel id) h rows space (omega arith) (omega arith) e q refl ∙ by_state sent

    pub reject-timeout-answered : (gave (after start ms) (asked e.service d (RejectTimeout id) h rows space (omega arith) (omega arith))).answer ≡ if_eq (ours_of e.invocations id).state wait 0 9
    unfolding refusal needs
    reject-timeout-answered = asked-answered e.service d (RejectTimeout id) h rows space (omega arith) (omega arith) e q refl ∙ by_state wait

  -- DEMAND 3. The shares that fresh was given
  abbrev pub guarantee : ℕ → ℕ
  guarantee s = get_or g s 0

  abbrev pub limit : ℕ → ℕ
  limit s = get_or l s 0

  -- a service's dialogues: "those begun less those ended, counted from the calls"
  abbrev pub dialogues : ℕ → ℕ
  dialogues s = begun_of s start ms - ended_of s start ms

  pub reached : Reached start (fresh_table g l) ms
  reached =
      let b = begun-told t g l fresh in
      subst (λ (x : List ℕ). Reached x (fresh_table g l) ms) (sym b.table) (history (fresh_table g l) (fresh-fine g l b.guarantees b.limits b.fit) ms o)

  -- the places as the fresh table shares them, as the calls tell them, and as the table has them
  abbrev fresh-places : Resource
  fresh-places = shared places_in_all services g l (λ s. 0)

  abbrev pub places : Resource
  places = shared places_in_all services g l dialogues

  abbrev there : Resource
  there = dialogues_of reached.to

  moves : Moves fresh-places (λ s. begun_of s start ms) (λ s. ended_of s start ms) there
  moves = subst (λ (R : Resource). Moves R (λ s. begun_of s start ms) (λ s. ended_of s start ms) there) (fresh-is g l) reached.moves

  -- the count is what the table holds
  pub counted : (s : ℕ) → (begun_of s start ms ≡ ended_of s start ms + dialogues s) × (dialogues s ≡ held reached.to.places s)
  counted = counting.counted-held fresh-places there _ _ (λ s. refl) moves

  -- what the next open is answered
  abbrev pub answer : ℕ → ℕ
  answer s = next.answer start ms s

  answered : (s : ℕ) → s < services → answer s ≡ if_b (gives there s) 0 7
  unfolding next.answer may_begin
  answered s h = ap (λ (t : List ℕ). (gave t (asks s)).answer) reached.table ∙ open-answer reached.to reached.fine s h

  -- DEMAND 3: "no service has more dialogues than its limit"
  pub within-limit : (s : ℕ) → s < services → dialogues s ≤ limit s
  within-limit = counting.within-limit fresh-places there _ _ (λ s. refl) moves (sound reached.to reached.fine)

  -- "a service below its guarantee is never refused a place"
  pub never-refused : (s : ℕ) → s < services → dialogues s < guarantee s → answer s ≡ 0
  never-refused s h = counting.never-refused fresh-places there _ _ (λ s. refl) moves s 0 7 (answered s h)

  -- "one at or above it is refused exactly when it is at its limit, or when the free places equal the other services' unused guarantees"
  pub refused-then : (s : ℕ) → s < services → guarantee s ≤ dialogues s → (dialogues s ≡ limit s) ⊎ (free places ≡ others places s) → answer s ≡ 7
  refused-then s h = counting.refused-then fresh-places there _ _ (λ s. refl) moves s 0 7 (answered s h)

  pub refused-only : (s : ℕ) → s < services → guarantee s ≤ dialogues s → answer s ≡ 7 → (dialogues s ≡ limit s) ⊎ (free places ≡ others places s)
  refused-only s h = counting.refused-only fresh-places there _ _ (λ s. refl) moves s 0 7 (answered s h) (λ e. omega arith)

  -- THE SAME FOR A PARTNER'S BEGIN: any sound one, of 1 to 512 octets, with spaces of the right sizes
  module _ (s : ℕ) (h : s < services) (msg rows space : List ℕ) (octets : Octets msg) (wide : 4096 ≤ length rows) (long : least_space ≤ length space) (some-octets : 0 < length msg) (few : length msg ≤ 512)
      (fine : (message_of msg).fault ≡ is_sound) (begin : (message_of msg).tag ≡ begin_tag) where
    abbrev begins : Made
    begins = record { call = Receive s msg; rows = rows; space = space }

    -- what it is answered
    abbrev pub reply : Outcome
    reply = next.reply start ms begins

    -- its originating ID
    abbrev pub asker : List ℕ
    asker = octets_at msg (message_of msg).origin

    begins-wide : Wide begins
    begins-wide = record { rows = wide; space = long }

    replies : (step reached.to (Receive s msg)).answer ≡ 0
    replies = receive-answers reached.to s msg h some-octets few

    reply-is : reply ≡ given (lent_with reached.to begins) (step reached.to (Receive s msg))
    reply-is = ap (λ (x : List ℕ). gave x begins) reached.table ∙ gave-done reached.to reached.fine begins begins-wide replies

    by-rule : (b : Bool) → gives there s ≡ b
        → step reached.to (Receive s msg) ≡ if_b b (begin_at reached.to s (lowest_free reached.to) msg (message_of msg)) (shows [] (cause_abort_octets asker 4) reached.to)
    unfolding may_begin
    by-rule b e =
        begin-step reached.to s msg h some-octets few fine begin
        ∙ ap (λ (x : Bool). if_b x (begin_at reached.to s (lowest_free reached.to) msg (message_of msg)) (shows [] (cause_abort_octets asker 4) reached.to)) e

    -- where the rule gives, its first row is BEGIN, and nothing is sent
    given-begins : gives there s ≡ true → (row_kind (told reply).rows ≡ row_begin) × (content_of (message_out reply) ≡ Wire.Nothing)
    unfolding begin_at
    given-begins e =
        let is : step reached.to (Receive s msg) ≡ begin_at reached.to s (lowest_free reached.to) msg (message_of msg) = by-rule true e ∙ sym (yes true _ _ refl refl) in (
          ap (λ (x : List ℕ). row_kind (told (gave x begins)).rows) reached.table ∙ ap row_kind (gave-rows reached.to reached.fine begins begins-wide octets replies)
              ∙ ap (λ (x : Out). row_kind x.rows) is,
          ap (λ (x : Outcome). content_of (message_out x)) (reply-is ∙ ap (given (lent_with reached.to begins)) is) ∙ nothing-content,
        )

    -- else it has no row, and an Abort with cause 4 goes to its originating ID
    aborts : next.Refused there s reply asker
    aborts = record { refused-aborts = refused-by }
      where
        asker-length : length asker ≡ (message_of msg).origin.length
        asker-length = simp (length-take, length-drop) (omega (arith, (message-in msg (message_of msg) refl).origin.lies))

        refused-by : gives there s ≡ false → content_of (message_out reply) ≡ aborting asker [] Spoken.Silent 4
        refused-by e =
            let is : step reached.to (Receive s msg) ≡ shows [] (cause_abort_octets asker 4) reached.to = by-rule false e ∙ sym (no false _ _ refl refl) in
            let n : length asker ≡ (message_of msg).origin.length = asker-length in
            let some : 0 < (message_of msg).origin.length = (message-in msg (message_of msg) refl).begins fine begin in
            ap (λ (x : Outcome). content_of (message_out x)) (reply-is ∙ ap (given (lent_with reached.to begins)) is)
            ∙ ap content_of (first-written space (cause_abort_octets asker 4) (omega (arith, cause-abort-fits asker (omega arith) (omega (arith, (message-in msg (message_of msg) refl).origin.short)) 4)))
            ∙ cause-abort-content asker (omega arith) (omega (arith, (message-in msg (message_of msg) refl).origin.short)) 4 (omega arith)

    decided : content_of (message_out reply) ≡ if_b (gives there s) Wire.Nothing (aborting asker [] Spoken.Silent 4)
    decided = go (gives there s) refl
      where
        go : (b : Bool) → gives there s ≡ b → content_of (message_out reply) ≡ if_b (gives there s) Wire.Nothing (aborting asker [] Spoken.Silent 4)
        go true e = yes _ _ _ e (given-begins e).1
        go false e = no _ _ _ e (aborts.refused-aborts e)

    -- "a service below its guarantee is never refused a place"
    pub begin-never-refused : dialogues s < guarantee s → (row_kind (told reply).rows ≡ row_begin) × (content_of (message_out reply) ≡ Wire.Nothing)
    begin-never-refused q =
        given-begins (sym (ap (λ (R : Resource). gives R s) (counting.counted_is fresh-places there _ _ (λ s. refl) moves)) ∙ below-given places s q)

    -- "one at or above it is refused exactly when": said on the Abort in the reply
    pub begin-refused-exactly : guarantee s ≤ dialogues s
        → (content_of (message_out reply) ≡ aborting asker [] Spoken.Silent 4) ↔ ((dialogues s ≡ limit s) ⊎ (free places ≡ others places s))
    begin-refused-exactly q = (
      counting.refused-only fresh-places there _ _ (λ s. refl) moves s Wire.Nothing (aborting asker [] Spoken.Silent 4) decided (λ w. let y : ◌≡◌ {A = ℕ} 0 1 = cc in absurd (omega arith)) q,
      counting.refused-then fresh-places there _ _ (λ s. refl) moves s Wire.Nothing (aborting asker [] Spoken.Silent 4) decided q,
    )
