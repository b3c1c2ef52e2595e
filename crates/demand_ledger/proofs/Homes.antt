-- IDS COME HOME: our ID, written as four octets, is read back as its number; a message that has it as its destination ID finds that
-- dialogue, and nobody where the service has none under it. Assumes nothing.
use Rattle.std.proofs.Math.Path.{◌≡◌, refl, sym, ap, subst}
use Rattle.std.proofs.Common.{◌∙◌, arith, add-zero, length-take, length-drop, get_or-take, get_or-drop}
use Rattle.std.specs.Prelude.{Bool, List, [], ◌∷◌, ℕ, ◌+◌, ◌≤◌, ◌<◌, length, get_or, drop}
use Rattle.std.proofs.Math.Bool.{true, false}
use Rattle.std.proofs.Math.Option.{none, some}
use Rattle.laws.specs.If.{if_eq, if_b, lt, ge, eq, ne, yes, no, by-eq}
use Rattle.paper.specs.declared.Message.{Message}
use Rattle.paper.specs.declared.Row.{Row}
use Rattle.paper.specs.Sizes.{services, place_of, id_octets}
use Rattle.paper.specs.Problems.{no_problem}
use Rattle.paper.specs.Messages.{message_of, is_sound, no_run, uni_tag, begin_tag}
use Rattle.paper.specs.Kinds.{row_user_abort, row_abort}
use Rattle.paper.specs.Rows.{dialogue_row}
use Rattle.paper.specs.Calls.{Table, Out, place_at, octets_at, number_at, destination_number, assigned, faulted, continue_received, end_received, abort_received, to_dialogue, sound_received, received, received_if, step}
use Rattle.paper.specs.Calls.Call.{Receive}
use Rattle.paper.specs.Ledger.{Entry, Ledger, find, for_service, addressee}
use Rattle.reading_messages.specs.Bounds.{message-in}
use Rattle.table_laws.specs.Fine.{Octets, Fine}
use Rattle.demand_kept.proofs.Leaves.{whether-eq}
use Rattle.demand_ledger.specs.Agrees.{Agrees}
use Rattle.demand_ledger.proofs.Received.{Assigned, addressed-some, addressed-none}
use Rattle.demand_ledger.specs.Homes.{row_for, Comes}

-- FOUR OCTETS, high first, and the number that they are
pub id-back : (d : ℕ) → d < 4294967296 → number_at (id_octets d) 0 ≡ d
id-back d h = omega arith

-- octets that are an ID of ours
module _ (s : List ℕ) (d : ℕ) (small : d < 4294967296) (is : octets_at s (message_of s).destination ≡ id_octets d) where
  abbrev m : Message
  m = message_of s

  four : m.destination.length ≡ 4
  four =
      let n : length (octets_at s m.destination) ≡ m.destination.length = simp (length-take, length-drop) (omega (arith, (message-in s m refl).destination.lies)) in
      omega (arith, ap length is)

  octet : (i : ℕ) → i < 4 → get_or s (m.destination.start + i) 0 ≡ get_or (id_octets d) i 0
  octet i h =
      sym (get_or-drop m.destination.start s i 0) ∙ sym (get_or-take m.destination.length (drop m.destination.start s) i 0 (omega (arith, four)))
      ∙ ap (λ (l : List ℕ). get_or l i 0) is

  pub number_is : destination_number s m ≡ d
  number_is =
      let a : get_or s m.destination.start 0 ≡ get_or (id_octets d) 0 0 = ap (λ (k : ℕ). get_or s k 0) (sym (add-zero m.destination.start)) ∙ octet 0 (omega arith) in
      let b : get_or s (m.destination.start + 1) 0 ≡ get_or (id_octets d) 1 0 = octet 1 (omega arith) in
      let c : get_or s (m.destination.start + 2) 0 ≡ get_or (id_octets d) 2 0 = octet 2 (omega arith) in
      let e : get_or s (m.destination.start + 3) 0 ≡ get_or (id_octets d) 3 0 = octet 3 (omega arith) in
      omega (arith, a, b, c, e, id-back d small)

  -- whom the ledger finds
  pub addressee-is : (L : Ledger) (service : ℕ) → addressee L service s m ≡ for_service service (find L.dialogues d)
  unfolding addressee
  addressee-is L service = sym (eq _ _ _ _ four (ap (λ (n : ℕ). for_service service (find L.dialogues n)) (sym number_is)))

module _ (T : Table) (f : Fine T) (L : Ledger) (g : Agrees T L) (service : ℕ) (s< : service < services) (s : List ℕ) (octets : Octets s) (some-octets : 0 < length s) (few : length s ≤ 512)
    (sound : (message_of s).fault ≡ is_sound) (no-uni : (message_of s).tag ≡ uni_tag → ⊥) (no-begin : (message_of s).tag ≡ begin_tag → ⊥) where
  abbrev n : Message
  n = message_of s

  abbrev me : ℕ
  me = destination_number s n

  -- a sound message to a dialogue, by whether its destination is assigned
  to-whom : (b : Bool) → assigned T service s n ≡ b
      → step T (Receive service s) ≡ if_b b (to_dialogue T service me s n (place_at T (place_of me))) (faulted T service s n 1)
  unfolding step received_if received sound_received
  to-whom b q =
      sym (lt _ _ _ _ s<
      (ne _ _ _ _ (λ z. omega arith)
      (ge _ _ _ _ few
      (ne _ _ _ _ (λ z. omega (arith, sound, z))
      (eq _ _ _ _ sound
      (ne _ _ _ _ no-uni
      (ne _ _ _ _ no-begin
      (ap (λ (x : Bool). if_b x (to_dialogue T service me s n (place_at T (place_of me))) (faulted T service s n 1)) (sym q)))))))))

  -- HOME: to a dialogue of the ledger in Sent or Active
  dialogue-comes : (e : Entry) → Assigned T f L g service s< s octets e → (e.state ≡ 3 → ⊥) → Comes (to_dialogue T service me s n (place_at T (place_of me))).rows me (row_for n)
  unfolding to_dialogue continue_received end_received abort_received row_for
  dialogue-comes e w r =
      let out : Out = to_dialogue T service me s n (place_at T (place_of me)) in
      by-eq {r = out} _ _ _ _ refl (λ a z. absurd (r (sym w.holds.is.state ∙ a)))
      (λ a z. by-eq _ _ _ _ z (λ b z. comes z refl (eq _ _ _ _ b refl))
      (λ b z. by-eq _ _ _ _ z (λ c z. comes z refl (ne _ _ _ _ b (eq _ _ _ _ c refl)))
      (λ c z. comes z (whether-eq (λ (x : Row). x.dialogue ≡ me) _ _ _ _ refl refl) (abort-kind ∙ ne _ _ _ _ b (ne _ _ _ _ c refl)))))
    where
      abort-kind : (if_eq n.cause no_problem (dialogue_row row_user_abort me no_problem n.portion 0) (dialogue_row row_abort me n.cause no_run 0)).kind
          ≡ if_eq n.cause no_problem row_user_abort row_abort
      abort-kind =
          by-eq {r = if_eq n.cause no_problem (dialogue_row row_user_abort me no_problem n.portion 0) (dialogue_row row_abort me n.cause no_run 0)} _ _ _ _ refl
          (λ i y. ap (λ (x : Row). x.kind) y ∙ eq _ _ _ _ i refl) (λ i y. ap (λ (x : Row). x.kind) y ∙ ne _ _ _ _ i refl)

      comes : {o : Out} {r : Row} {rows : List Row} {U : Table} → o ≡ record { answer = 0; dialogue = 0; rows = r ∷ rows; message = []; table = U } → r.dialogue ≡ me → r.kind ≡ row_for n → Comes o.rows me (row_for n)
      comes {o} {r} {rows} z d k = record { first = r; others = rows; are = ap (λ (x : Out). x.rows) z; dialogue = d; shows = k }

  pub comes_home : (e : Entry) → addressee L service s n ≡ some e → (e.state ≡ 3 → ⊥) → Comes (step T (Receive service s)).rows me (row_for n)
  comes_home e a r = go (assigned T service s n) refl
    where
      go : (b : Bool) → assigned T service s n ≡ b → Comes (step T (Receive service s)).rows me (row_for n)
      go true q =
          addressed-some T f L g service s< s octets q _
          (λ x w. let z : x ≡ e = cc in
          subst (λ (o : Out). Comes o.rows me (row_for n)) (sym (to-whom true q ∙ sym (yes true _ _ refl refl))) (dialogue-comes x w (λ h. r (ap (λ (y : Entry). y.state) (sym z) ∙ h))))
      go false q = let z : none ≡ some e = sym (addressed-none T f L g service s< s octets q) ∙ a in absurd (let y : ◌≡◌ {A = ℕ} 0 1 = cc in omega arith)

  -- NOBODY: no row, and the table as it was
  pub comes-nowhere : addressee L service s n ≡ none → ((step T (Receive service s)).rows ≡ []) × ((step T (Receive service s)).table ≡ T) × ((step T (Receive service s)).answer ≡ 0)
  unfolding faulted
  comes-nowhere a = go (assigned T service s n) refl
    where
      go : (b : Bool) → assigned T service s n ≡ b → ((step T (Receive service s)).rows ≡ []) × ((step T (Receive service s)).table ≡ T) × ((step T (Receive service s)).answer ≡ 0)
      go true q = addressed-some T f L g service s< s octets q _ (λ x w. let z : none ≡ some x = sym a ∙ w.addressed in absurd (let y : ◌≡◌ {A = ℕ} 0 1 = cc in omega arith))
      go false q =
          subst (λ (o : Out). (o.rows ≡ []) × (o.table ≡ T) × (o.answer ≡ 0)) (sym (to-whom false q ∙ sym (no false _ _ refl refl)))
          (by-eq {r = faulted T service s n 1} _ _ _ _ refl (λ i z. subst (λ (o : Out). (o.rows ≡ []) × (o.table ≡ T) × (o.answer ≡ 0)) (sym z) (refl, refl, refl))
          (λ i z. subst (λ (o : Out). (o.rows ≡ []) × (o.table ≡ T) × (o.answer ≡ 0)) (sym (z ∙ sym (no _ _ _ q refl))) (refl, refl, refl)))
