-- THE TESTS OF A DIALOGUE (paper's Rules) hold exactly where its record is fine. Assumes nothing.
use Rattle.std.specs.Prelude.{◌≡◌, refl, Bool, true, false, List, [], ◌∷◌, ℕ, zero, suc, ◌<◌, ◌≤◌, eqb, ltb, leb, length, get_or, drop}
use Rattle.std.proofs.Common.{sym, ap, ◌∙◌, arith, eqb-true, leb-true, ltb-true, ltb-false, eq-eqb, ne_eqb, lt-ltb, le-leb}
use Rattle.std.proofs.lemmas.Bool.{eqb-false}
use Rattle.laws.specs.If.{if_lt, if_eq, if_b, lt, ge, eq, ne, yes, no, was-lt, was-ge, was-eq, was-yes, by-eq, true-false}
use Rattle.laws.specs.Lists.{zeros, every}
use Rattle.paper.specs.Sizes.{most_waiting, turns}
use Rattle.paper.specs.declared.Invocation.{Invocation}
use Rattle.paper.specs.declared.Reject.{Reject}
use Rattle.paper.specs.declared.Control.{Control}
use Rattle.paper.specs.Problems.{sender_of, sender_of_problem, by_layer, by_user, by_nobody, kind_of}
use Rattle.paper.specs.Invocations.{no_invocation, is_open, slot_of}
use Rattle.paper.specs.Dialogues.{Place, no_reject, has_peer}
use Rattle.paper.specs.Rules.{invocation_kept, differs, invocations_kept, reject_kept, reject_zero, rejects_kept, peer_kept, dialogue_kept}
use Rattle.table_laws.proofs.Zeros.{none_passes, no-first}
use Rattle.table_laws.specs.Fine.{FineInvocation, FineInvocations, FineReject, FineRejects, FinePeer, FinePlace}

-- ---- an invocation
pub same-invocation : (v w : Invocation) → v.id ≡ w.id → v.class ≡ w.class → v.state ≡ w.state → v.shown ≡ w.shown → v ≡ w
same-invocation v w a b c d =
    ap (λ (n : ℕ). record { id = n; class = v.class; state = v.state; shown = v.shown }) a
    ∙ ap (λ (n : ℕ). record { id = w.id; class = n; state = v.state; shown = v.shown }) b
    ∙ ap (λ (n : ℕ). record { id = w.id; class = w.class; state = n; shown = v.shown }) c
    ∙ ap (λ (n : ℕ). record { id = w.id; class = w.class; state = w.state; shown = n }) d

pub invocation-is : (v : Invocation) → invocation_kept v ≡ true → FineInvocation v
unfolding invocation_kept
invocation-is v e = by-eq _ _ _ _ (sym e) idle used
  where
    idle : v.state ≡ 0 → true ≡ if_eq v.id 0 (if_eq v.class 0 (eqb v.shown 0) false) false → FineInvocation v
    idle s q =
        let a = was-eq v.id 0 (if_eq v.class 0 (eqb v.shown 0) false) false q true-false in
        let b = was-eq v.class 0 (eqb v.shown 0) false a.1 true-false in
        let d : v.shown ≡ 0 = eqb-true v.shown 0 (sym b.1) in
        record {
          state = omega arith;
          least = λ n. absurd (n s);
          class = omega (arith, b.0);
          shown = omega arith;
          unused = λ z. same-invocation v no_invocation a.0 b.0 s d;
        }

    used : (v.state ≡ 0 → ⊥) → true ≡ if_lt 4 v.state false (if_lt v.class 1 false (if_lt 4 v.class false (leb v.shown 1))) → FineInvocation v
    used n q =
        let a = was-ge 4 v.state false (if_lt v.class 1 false (if_lt 4 v.class false (leb v.shown 1))) q true-false in
        let b = was-ge v.class 1 false (if_lt 4 v.class false (leb v.shown 1)) a.1 true-false in
        let d = was-ge 4 v.class false (leb v.shown 1) b.1 true-false in
        record {
          state = a.0;
          least = λ z. b.0;
          class = d.0;
          shown = leb-true v.shown 1 (sym d.1);
          unused = λ z. absurd (n z);
        }

pub invocation-kept : (v : Invocation) → FineInvocation v → invocation_kept v ≡ true
unfolding invocation_kept
invocation-kept v f = go (eqb v.state 0) refl
  where
    go : (b : Bool) → eqb v.state 0 ≡ b → invocation_kept v ≡ true
    go true q =
        let s : v.state ≡ 0 = eqb-true v.state 0 q in
        let u : v ≡ no_invocation = f.unused s in
        sym (eq _ _ _ _ s (eq _ _ _ _ (ap (λ (x : Invocation). x.id) u) (eq _ _ _ _ (ap (λ (x : Invocation). x.class) u)
        (sym (eq-eqb v.shown 0 (ap (λ (x : Invocation). x.shown) u))))))
    go false q =
        let n : v.state ≡ 0 → ⊥ = eqb-false v.state 0 q in
        sym (ne _ _ _ _ n (ge _ _ _ _ f.state (ge _ _ _ _ (f.least n) (ge _ _ _ _ f.class (sym (le-leb v.shown 1 f.shown))))))

-- ---- the invocations
other-id : (id : ℕ) (w : Invocation) → is_open id w ≡ false → (w.state ≡ 0 → ⊥) → w.id ≡ id → ⊥
unfolding is_open
other-id id w q n z = true-false (ne w.state 0 false (eqb w.id id) n (sym (eq-eqb w.id id z)) ∙ q)

not-open : (id : ℕ) (w : Invocation) → ((w.state ≡ 0 → ⊥) → w.id ≡ id → ⊥) → is_open id w ≡ false
unfolding is_open
not-open id w f = go (eqb w.state 0) refl
  where
    go : (b : Bool) → eqb w.state 0 ≡ b → is_open id w ≡ false
    go true q = sym (eq w.state 0 false (eqb w.id id) (eqb-true w.state 0 q) refl)
    go false q =
        let n : w.state ≡ 0 → ⊥ = eqb-false w.state 0 q in
        sym (ne w.state 0 false (eqb w.id id) n (sym (ne_eqb w.id id (f n))))

-- no later one in use has the ID of one in use
pub differs-is : (v : Invocation) (l : List Invocation) → differs v l ≡ true → (v.state ≡ 0 → ⊥) → (j : ℕ) → j < length l
    → ((get_or l j no_invocation).state ≡ 0 → ⊥) → (get_or l j no_invocation).id ≡ v.id → ⊥
unfolding differs slot_of
differs-is v l q m j h n =
    let z : slot_of l v.id ≡ length l =
    eqb-true (slot_of l v.id) (length l) (ne v.state 0 true (eqb (slot_of l v.id) (length l)) m refl ∙ q) in
    other-id v.id (get_or l j no_invocation) (none_passes (is_open v.id) l no_invocation z j h) n

pub differs-kept : (v : Invocation) (l : List Invocation)
    → ((v.state ≡ 0 → ⊥) → (j : ℕ) → j < length l → ((get_or l j no_invocation).state ≡ 0 → ⊥) → (get_or l j no_invocation).id ≡ v.id → ⊥)
    → differs v l ≡ true
unfolding differs slot_of
differs-kept v l f = go (eqb v.state 0) refl
  where
    go : (b : Bool) → eqb v.state 0 ≡ b → differs v l ≡ true
    go true q = sym (eq _ _ _ _ (eqb-true v.state 0 q) refl)
    go false q =
        let n : v.state ≡ 0 → ⊥ = eqb-false v.state 0 q in
        sym (ne _ _ _ _ n (sym (eq-eqb (slot_of l v.id) (length l)
        (no-first (is_open v.id) l no_invocation (λ j h. not-open v.id (get_or l j no_invocation) (f n j h))))))

pub invocations-are : (l : List Invocation) → invocations_kept l ≡ true → FineInvocations l
unfolding invocations_kept
invocations-are [] e = record { each = λ i h. absurd (omega arith); differ = λ i j h g. absurd (omega arith) }
invocations-are (v ∷ l) e =
    let a = was-yes (invocation_kept v) (if_b (differs v l) (invocations_kept l) false) false (sym e) true-false in
    let b = was-yes (differs v l) (invocations_kept l) false a.1 true-false in
    let r = invocations-are l (sym b.1) in
    record { each = each (invocation-is v a.0) r; differ = differ b.0 r }
  where
    each : FineInvocation v → FineInvocations l → (i : ℕ) → i < suc (length l) → FineInvocation (get_or (v ∷ l) i no_invocation)
    each f r zero h = f
    each f r (suc i) h = r.each i (omega arith)

    differ : differs v l ≡ true → FineInvocations l → (i j : ℕ) → i < j → j < suc (length l) → ((get_or (v ∷ l) i no_invocation).state ≡ 0 → ⊥)
        → ((get_or (v ∷ l) j no_invocation).state ≡ 0 → ⊥) → (get_or (v ∷ l) j no_invocation).id ≡ (get_or (v ∷ l) i no_invocation).id → ⊥
    differ q r i zero h g m n = absurd (omega arith)
    differ q r (suc i) (suc j) h g m n = r.differ i j (omega arith) (omega arith) m n
    differ q r zero (suc j) h g m n = differs-is v l q m j (omega arith) n

pub invocations-kept : (l : List Invocation) → FineInvocations l → invocations_kept l ≡ true
unfolding invocations_kept
invocations-kept [] f = refl
invocations-kept (v ∷ l) f =
    sym (yes _ _ _ (invocation-kept v (f.each 0 (omega arith)))
    (yes _ _ _ (differs-kept v l (λ m j h n. f.differ 0 (suc j) (omega arith) (omega arith) m n))
    (sym (invocations-kept l (record {
      each = λ i h. f.each (suc i) (omega arith);
      differ = λ i j h g m n. f.differ (suc i) (suc j) (omega arith) (omega arith) m n;
    })))))

-- ---- the rejects
pub reject-is : (r : Reject) → reject_kept r ≡ true → FineReject r
unfolding reject_kept
reject-is r e = go (ltb r.id 256) refl a.1
  where
    inner : Bool
    inner = if_lt r.id 256 true (if_eq r.id 256 (eqb (kind_of r.problem) 0) false)

    a : (sender_of_problem r.problem ≡ by_layer) × (true ≡ inner)
    a = was-eq (sender_of_problem r.problem) by_layer inner false (sym e) true-false

    go : (b : Bool) → ltb r.id 256 ≡ b → true ≡ inner → FineReject r
    go true q i = let h : r.id < 256 = ltb-true r.id 256 q in record { sender = a.0; id = omega arith; general = λ z. absurd (omega arith) }
    go false q i =
        let h : 256 ≤ r.id = ltb-false r.id 256 q in
        let w : true ≡ if_eq r.id 256 (eqb (kind_of r.problem) 0) false = i ∙ sym (ge r.id 256 true (if_eq r.id 256 (eqb (kind_of r.problem) 0) false) h refl) in
        let d = was-eq r.id 256 (eqb (kind_of r.problem) 0) false w true-false in
        record { sender = a.0; id = omega (arith, d.0); general = λ z. eqb-true (kind_of r.problem) 0 (sym d.1) }

pub reject-kept : (r : Reject) → FineReject r → reject_kept r ≡ true
unfolding reject_kept
reject-kept r f = go (ltb r.id 256) refl
  where
    go : (b : Bool) → ltb r.id 256 ≡ b → reject_kept r ≡ true
    go true q = sym (eq _ _ _ _ f.sender (lt _ _ _ _ (ltb-true r.id 256 q) refl))
    go false q =
        let h : 256 ≤ r.id = ltb-false r.id 256 q in
        let z : r.id ≡ 256 = omega (arith, f.id) in
        sym (eq _ _ _ _ f.sender (ge _ _ _ _ h (eq _ _ _ _ z (sym (eq-eqb (kind_of r.problem) 0 (f.general z))))))

pub same-reject : (r w : Reject) → r.id ≡ w.id → r.problem ≡ w.problem → r ≡ w
same-reject r w a b =
    ap (λ (n : ℕ). record { id = n; problem = r.problem }) a ∙ ap (λ (n : ℕ). record { id = w.id; problem = n }) b

reject-zero : (r : Reject) → reject_zero r ≡ true → r ≡ no_reject
unfolding reject_zero
reject-zero r e =
    let a = was-eq r.id 0 (eqb r.problem 0) false (sym e) true-false in
    same-reject r no_reject a.0 (eqb-true r.problem 0 (sym a.1))

zero-reject : (r : Reject) → r ≡ no_reject → reject_zero r ≡ true
unfolding reject_zero
zero-reject r e = sym (eq _ _ _ _ (ap (λ (x : Reject). x.id) e) (sym (eq-eqb r.problem 0 (ap (λ (x : Reject). x.problem) e))))

-- a list of rejects from the first one and the others
first-waits : (n : ℕ) (r : Reject) (l : List Reject) → FineReject r → FineRejects n l → FineRejects (suc n) (r ∷ l)
first-waits n r l f g = record { each = each; rest = rest }
  where
    each : (i : ℕ) → i < suc n → i < suc (length l) → FineReject (get_or (r ∷ l) i no_reject)
    each zero h k = f
    each (suc i) h k = g.each i (omega arith) (omega arith)

    rest : (i : ℕ) → suc n ≤ i → i < suc (length l) → get_or (r ∷ l) i no_reject ≡ no_reject
    rest zero h k = absurd (omega arith)
    rest (suc i) h k = g.rest i (omega arith) (omega arith)

none-waits : (r : Reject) (l : List Reject) → r ≡ no_reject → FineRejects 0 l → FineRejects 0 (r ∷ l)
none-waits r l f g = record { each = λ i h k. absurd (omega arith); rest = rest }
  where
    rest : (i : ℕ) → 0 ≤ i → i < suc (length l) → get_or (r ∷ l) i no_reject ≡ no_reject
    rest zero h k = f
    rest (suc i) h k = g.rest i (omega arith) (omega arith)

pub rejects-are : (n : ℕ) (l : List Reject) → rejects_kept n l ≡ true → FineRejects n l
unfolding rejects_kept
rejects-are n [] e = record { each = λ i h k. absurd (omega arith); rest = λ i h k. absurd (omega arith) }
rejects-are zero (r ∷ l) e =
    let a = was-yes (reject_zero r) (rejects_kept zero l) false (sym e) true-false in
    none-waits r l (reject-zero r a.0) (rejects-are zero l (sym a.1))
rejects-are (suc n) (r ∷ l) e =
    let a = was-yes (reject_kept r) (rejects_kept n l) false (sym e) true-false in
    first-waits n r l (reject-is r a.0) (rejects-are n l (sym a.1))

pub rejects-kept : (n : ℕ) (l : List Reject) → FineRejects n l → rejects_kept n l ≡ true
unfolding rejects_kept
rejects-kept n [] f = refl
rejects-kept zero (r ∷ l) f =
    sym (yes _ _ _ (zero-reject r (f.rest 0 (omega arith) (omega arith)))
    (sym (rejects-kept zero l (record { each = λ i h k. absurd (omega arith); rest = λ i h k. f.rest (suc i) (omega arith) (omega arith) }))))
rejects-kept (suc n) (r ∷ l) f =
    sym (yes _ _ _ (reject-kept r (f.each 0 (omega arith) (omega arith)))
    (sym (rejects-kept n l (record {
      each = λ i h k. f.each (suc i) (omega arith) (omega arith);
      rest = λ i h k. f.rest (suc i) (omega arith) (omega arith);
    }))))

-- a problem that the sub-layer sends is small
pub layer-small : (kind code : ℕ) → sender_of kind code ≡ by_layer → (kind < 4) × (code < 6)
unfolding sender_of
layer-small kind code e = by-eq _ _ _ _ (sym e) zero-kind (λ n q. by-eq _ _ _ _ q one-kind
    (λ n q. by-eq _ _ _ _ q (last-kinds 2 3 (omega arith)) (λ n q. by-eq _ _ _ _ q (last-kinds 3 5 (omega arith)) (λ n q. absurd (omega arith)))))
  where
    zero-kind : kind ≡ 0 → 0 ≡ if_lt code 3 by_layer by_nobody → (kind < 4) × (code < 6)
    zero-kind k q = let a = was-lt code 3 by_layer by_nobody q (λ z. omega arith) in (omega arith, omega (arith, a.0))

    one-kind : kind ≡ 1 → 0 ≡ if_lt code 8 (if_eq code 5 by_layer by_user) by_nobody → (kind < 4) × (code < 6)
    one-kind k q =
        let a = was-lt code 8 (if_eq code 5 by_layer by_user) by_nobody q (λ z. omega arith) in
        let b = was-eq code 5 by_layer by_user a.1 (λ z. omega arith) in
        (omega arith, omega (arith, b.0))

    last-kinds : (k m : ℕ) → k < 4 → kind ≡ k → 0 ≡ if_lt code 2 by_layer (if_lt code m by_user by_nobody) → (kind < 4) × (code < 6)
    last-kinds k m h e q =
        let a = was-lt code 2 by_layer (if_lt code m by_user by_nobody) q
        (λ z. let b = was-lt code m by_user by_nobody z (λ w. omega arith) in omega (arith, b.1)) in
        (omega arith, omega (arith, a.0))

-- ---- the peer
peer-is : (c : Control) → peer_kept c ≡ true → FinePeer c.state c.peerlen c.peer
unfolding peer_kept
peer-is c e = go (has_peer c.state) refl
  where
    with-one : Bool
    with-one = if_lt c.peerlen 1 false (if_lt 4 c.peerlen false (zeros (drop c.peerlen c.peer)))

    without : Bool
    without = if_eq c.peerlen 0 (zeros c.peer) false

    go : (b : Bool) → has_peer c.state ≡ b → FinePeer c.state c.peerlen c.peer
    go true q =
        let w : true ≡ with-one = sym e ∙ sym (yes (has_peer c.state) with-one without q refl) in
        let a = was-ge c.peerlen 1 false (if_lt 4 c.peerlen false (zeros (drop c.peerlen c.peer))) w true-false in
        let b = was-ge 4 c.peerlen false (zeros (drop c.peerlen c.peer)) a.1 true-false in
        record { some = λ z. a.0; none = λ z. absurd (true-false (sym q ∙ z)); most = b.0; rest = sym b.1 }
    go false q =
        let w : true ≡ without = sym e ∙ sym (no (has_peer c.state) with-one without q refl) in
        let a = was-eq c.peerlen 0 (zeros c.peer) false w true-false in
        record {
          some = λ z. absurd (true-false (sym z ∙ q));
          none = λ z. a.0;
          most = omega (arith, a.0);
          rest = ap (λ (n : ℕ). zeros (drop n c.peer)) a.0 ∙ sym a.1;
        }

peer-kept : (c : Control) → FinePeer c.state c.peerlen c.peer → peer_kept c ≡ true
unfolding peer_kept
peer-kept c f = go (has_peer c.state) refl
  where
    go : (b : Bool) → has_peer c.state ≡ b → peer_kept c ≡ true
    go true q = sym (yes _ _ _ q (ge _ _ _ _ (f.some q) (ge _ _ _ _ f.most (sym f.rest))))
    go false q =
        let z : c.peerlen ≡ 0 = f.none q in
        sym (no _ _ _ q (eq _ _ _ _ z (sym (ap (λ (n : ℕ). zeros (drop n c.peer)) (sym z) ∙ f.rest))))

-- ---- THE DIALOGUE, test by test
pub dialogue-is : (x : Place) → x.control.turn < turns → length x.control.peer ≡ 4 → length x.control.invocations ≡ 8 → length x.control.rejects ≡ 8
    → (x.control.state ≡ 0 → ⊥) → dialogue_kept x ≡ true → FinePlace x
unfolding dialogue_kept every
dialogue-is x t p v r n e =
    let c : Control = x.control in
    let state = was-yes _ _ _ (sym e) true-false in
    let service = was-yes _ _ _ state.1 true-false in
    let peer = was-yes _ _ _ service.1 true-false in
    let count = was-yes _ _ _ peer.1 true-false in
    let invocations = was-yes _ _ _ count.1 true-false in
    let rejects = was-yes _ _ _ invocations.1 true-false in
    let room = was-yes _ _ _ rejects.1 true-false in
    let whole = was-yes _ _ _ room.1 true-false in
    record {
      control = record {
        turn = t;
        state = omega (arith, leb-true c.state 4 state.0);
        service = ltb-true c.service 16 service.0;
        four = p;
        peer = peer-is c peer.0;
        count = leb-true c.count 8 count.0;
        eight = v;
        invocations = invocations-are c.invocations invocations.0;
        eights = r;
        rejects = rejects-are c.count c.rejects rejects.0;
      };
      room = leb-true (length x.waiting) most_waiting room.0;
      whole = whole.0;
      free = λ z. absurd (n z);
    }

pub dialogue-kept : (x : Place) → FinePlace x → dialogue_kept x ≡ true
unfolding dialogue_kept every
dialogue-kept x g =
    let c : Control = x.control in
    let f = g.control in
    sym (yes _ _ _ (le-leb c.state 4 (omega (arith, f.state)))
    (yes _ _ _ (lt-ltb c.service 16 f.service)
    (yes _ _ _ (peer-kept c f.peer)
    (yes _ _ _ (le-leb c.count 8 f.count)
    (yes _ _ _ (invocations-kept c.invocations f.invocations)
    (yes _ _ _ (rejects-kept c.count c.rejects f.rejects)
    (yes _ _ _ (le-leb (length x.waiting) most_waiting g.room) (yes _ _ _ g.whole refl))))))))
