-- Each message as it was written, read: its IDs in order, then what follows them. Assumes nothing.
use native.Mathlib.Omega.{arith}
use Prim.Native.Nat.{ℕ, ◌+◌, ◌<◌, ◌≤◌}
use Rattle.std.specs.Prelude.{◌≡◌, true, get_or}
use Rattle.std.proofs.Math.Path.{refl, sym, ap}
use Rattle.std.proofs.Common.{◌∙◌}
use Rattle.std.proofs.Math.Bool.{false}
use mathlib.Core.List.{List, [], ◌∷◌, ◌++◌}
use Rattle.std.proofs.Math.ListN.{length, length-append}
use Rattle.laws.specs.If.{if_eq, eq, ne}
use Rattle.paper.specs.declared.Run.{Run}
use Rattle.paper.specs.declared.Message.{Message}
use Rattle.paper.specs.Messages.{uni_tag, begin_tag, end_tag, continue_tag, abort_tag, no_run, id_at, origin_of, past, destination_of, Derived, portion_part, in_order, known_type, message_of}
use Rattle.paper.specs.Dialogues.{is_portion}
use Rattle.paper.specs.Calls.{octets_at}
use Rattle.paper.specs.Writing.{tlv, components_octets, begin_octets, continue_octets, end_octets, uni_octets, user_abort_octets, cause_abort_octets}
use Rattle.writing_octets.specs.Lengths.{element-length, id-length}
use Rattle.demand_readback.specs.Standing.{Has, ShortTag}
use Rattle.demand_readback.proofs.Standing.{has_first, has_rest, has-at, octet-back, contents-back}
use Rattle.demand_readback.specs.Written.{starts, run, read_begin, read_continue, read_end, read_uni, read_user_abort, read_cause_abort, Back}
use Rattle.demand_readback.proofs.Reading.{has-octets, id-back, id-has, derived-as, outer-stands, outer-back, octets-back, rest_part, rest-portion, rest-components, user-part, cause-part}

-- an ID that was read, and where the octets after it begin
past_back : (b p n : ℕ) → 1 ≤ n → p + 2 + n ≡ past (run (p + 2) n) b
past_back b p n some = ne n 0 b (p + 2 + n) (λ z. omega arith) refl

-- after a destination ID at p: what follows it
peer-then : (s : List ℕ) (b p n : ℕ) (D : Derived) → D.destination ≡ run (p + 2) n → 1 ≤ n → (D.tag ≡ uni_tag → ⊥) → (D.tag ≡ begin_tag → ⊥)
    → portion_part s false D (p + 2 + n) ≡ in_order s false b D
unfolding in_order
peer-then s b p n D is some other begin =
    let long : D.destination.length ≡ n = ap (λ (r : Run). r.length) is in
    ap (portion_part s false D) (past_back b p n some ∙ ap (λ (r : Run). past r b) (sym is))
    ∙ ne _ _ _ _ other (ne _ _ _ _ begin (ne _ _ _ _ (λ z. omega arith) refl))

-- A MESSAGE of tag t whose contents begin with an ID, 48 or 49 (k), and what follows it
record First (t k : ℕ) (id rest : List ℕ) : Type 0 where
  short : ShortTag t
  some : 1 ≤ length id
  few : length id ≤ 4
  fits : length (tlv k id ++ rest) < 65536

module _ {t k : ℕ} {id rest : List ℕ} (f : First t k id rest) where
  abbrev s : List ℕ
  s = tlv t (tlv k id ++ rest)

  abbrev b : ℕ
  b = starts (tlv k id ++ rest)

  sizes : (length (tlv k id) ≡ 2 + length id) × (length s ≡ b + 2 + length id + length rest)
  sizes = let i = id-length k id (omega arith) in (i, omega (arith, element-length t (tlv k id ++ rest), length-append (tlv k id) rest))

  first-tag : get_or s 0 0 ≡ t
  first-tag = octet-back (outer-stands t (tlv k id ++ rest) f.short f.fits)

  first-contents : Has s b (tlv k id ++ rest)
  first-contents = contents-back (outer-stands t (tlv k id ++ rest) f.short f.fits)

  first-id : run (b + 2) (length id) ≡ id_at s k b
  first-id = let n = sizes in id-back k id (has_first (tlv k id) rest first-contents) f.some f.few (omega arith)

  first-octets : octets_at s (run (b + 2) (length id)) ≡ id
  first-octets = let n = sizes in has-octets (id-has k id (has_first (tlv k id) rest first-contents) f.some f.few (omega arith)) (omega arith)

  first_rest : Has s (b + 2 + length id) rest
  first_rest = let n = sizes in has-at (has_rest (tlv k id) rest first-contents) (omega arith)

  first-whole : b + 2 + length id + length rest ≡ length s
  first-whole = let n = sizes in omega arith

  first_fits : length rest < 65536
  first_fits = omega (arith, f.fits, length-append (tlv k id) rest)

-- THE DESTINATION ID FIRST (End, Abort)
module _ {t : ℕ} {peer rest : List ℕ} (f : First t 0x49 peer rest) where
  abbrev to_peer : Derived
  to_peer = record { tag = t; origin = no_run; destination = run (starts (tlv 0x49 peer ++ rest) + 2) (length peer) }

  peer-first : known_type t ≡ true → (t ≡ uni_tag → ⊥) → (t ≡ begin_tag → ⊥) → no_run ≡ origin_of (s f) t (b f) → id_at (s f) 0x49 (b f) ≡ destination_of (s f) t (b f) no_run
      → (m : Message) → m ≡ portion_part (s f) false to_peer (b f + 2 + length peer) → message_of (s f) ≡ m
  peer-first known other begin first second m is =
      sym
      (outer-back t (tlv 0x49 peer ++ rest) f.short f.fits known to_peer refl
      (derived-as (s f) t (b f) no_run (run (b f + 2) (length peer)) (first-tag f) first (first-id f ∙ second))
      (is ∙ peer-then (s f) (b f) (b f) (length peer) to_peer refl f.some other begin))

-- contents are no longer than their element
contents-fit : (t : ℕ) (c : List ℕ) → length (tlv t c) < 65536 → length c < 65536
contents-fit t c h = omega (arith, element-length t c)

-- THE MESSAGES
module _ (peer : List ℕ) (some : 1 ≤ length peer) (few : length peer ≤ 4) where
  pub end_back : (portion : List ℕ) → is_portion portion ≡ true → (cs : List ℕ) → length (end_octets peer portion cs) < 65536
      → Back (end_octets peer portion cs) (read_end peer portion cs) [] peer portion cs
  unfolding end_octets known_type origin_of destination_of
  end_back portion formed cs h =
      let rest : List ℕ = portion ++ components_octets cs in
      let f : First end_tag 0x49 peer rest =
      record { short = ((λ z. omega arith), (λ z. omega arith)); some = some; few = few; fits = contents-fit end_tag (tlv 0x49 peer ++ rest) h } in
      let at = rest-components portion cs (first_rest f) (first-whole f) (first_fits f) formed in
      record {
        is = peer-first f (sym (ne _ _ _ _ (λ z. omega arith) (ne _ _ _ _ (λ z. omega arith) (eq _ _ _ _ refl refl)))) (λ z. omega arith) (λ z. omega arith)
            (ne _ _ _ _ (λ z. omega arith) (eq _ _ _ _ refl refl))
            (ne _ _ _ _ (λ z. omega arith) (ne _ _ _ _ (λ z. omega arith) (eq _ _ _ _ refl refl)))
            _ (rest_part portion cs (first_rest f) (first-whole f) (first_fits f) formed _ (λ z. omega arith) (λ _ z. omega arith));
        origin = refl;
        destination = first-octets f;
        portion = rest-portion portion cs (first_rest f) (first-whole f) (first_fits f) formed;
        components = at.0;
        ends = at.1;
      }

  -- an Abort's tests: 67 has no originating ID, and its destination ID comes first
  abort-first : {rest : List ℕ} (f : First abort_tag 0x49 peer rest) (m : Message) → m ≡ portion_part (s f) false (to_peer f) (b f + 2 + length peer) → message_of (s f) ≡ m
  unfolding known_type origin_of destination_of if_eq
  abort-first f m is = peer-first f refl (λ z. omega arith) (λ z. omega arith) refl refl m is

  pub user-abort-back : (user : List ℕ) → is_portion user ≡ true → length (user_abort_octets peer user) < 65536
      → Back (user_abort_octets peer user) (read_user_abort peer user) [] peer user []
  unfolding user_abort_octets
  user-abort-back user formed h =
      let f : First abort_tag 0x49 peer user =
      record { short = ((λ z. omega arith), (λ z. omega arith)); some = some; few = few; fits = contents-fit abort_tag (tlv 0x49 peer ++ user) h } in
      record {
        is = abort-first f _ (user-part user (first_rest f) (first-whole f) formed (to_peer f) refl);
        origin = refl;
        destination = first-octets f;
        portion = octets-back (first_rest f) (omega (arith, first-whole f));
        components = record { octet = λ i h. absurd (omega arith) };
        ends = refl;
      }

  pub cause-abort-back : (cause : ℕ) → cause < 5
      → Back (cause_abort_octets peer cause) (read_cause_abort peer cause) [] peer [] []
  unfolding cause_abort_octets
  cause-abort-back cause small =
      let f : First abort_tag 0x49 peer (0x4A ∷ 1 ∷ cause ∷ []) = record {
        short = ((λ z. omega arith), (λ z. omega arith));
        some = some;
        few = few;
        fits = omega (arith, id-length 0x49 peer (omega arith), length-append (tlv 0x49 peer) (0x4A ∷ 1 ∷ cause ∷ []));
      } in
      record {
        is = abort-first f _ (cause-part cause small (first_rest f) (first-whole f) (to_peer f) refl);
        origin = refl;
        destination = first-octets f;
        portion = refl;
        components = record { octet = λ i h. absurd (omega arith) };
        ends = refl;
      }

-- THE ORIGINATING ID FIRST
module _ (own : List ℕ) (some : 1 ≤ length own) (few : length own ≤ 4) where
  pub begin-back : (portion : List ℕ) → is_portion portion ≡ true → (cs : List ℕ) → length (begin_octets own portion cs) < 65536
      → Back (begin_octets own portion cs) (read_begin own portion cs) own [] portion cs
  unfolding begin_octets known_type origin_of destination_of in_order
  begin-back portion formed cs h =
      let rest : List ℕ = portion ++ components_octets cs in
      let f : First begin_tag 0x48 own rest =
      record { short = ((λ z. omega arith), (λ z. omega arith)); some = some; few = few; fits = contents-fit begin_tag (tlv 0x48 own ++ rest) h } in
      let o : Run = run (b f + 2) (length own) in
      let D : Derived = record { tag = begin_tag; origin = o; destination = no_run } in
      let at = rest-components portion cs (first_rest f) (first-whole f) (first_fits f) formed in
      let first : o ≡ origin_of (s f) begin_tag (b f) = first-id f ∙ ne _ _ _ _ (λ z. omega arith) (ne _ _ _ _ (λ z. omega arith) (ne _ _ _ _ (λ z. omega arith) refl)) in
      let second : no_run ≡ destination_of (s f) begin_tag (b f) o = ne _ _ _ _ (λ z. omega arith) (eq _ _ _ _ refl refl) in
      record {
        is = sym
            (outer-back begin_tag (tlv 0x48 own ++ rest) f.short f.fits (sym (ne _ _ _ _ (λ z. omega arith) (eq _ _ _ _ refl refl))) D refl
            (derived-as (s f) begin_tag (b f) o no_run (first-tag f) first second)
            (rest_part portion cs (first_rest f) (first-whole f) (first_fits f) formed D (λ z. omega arith) (λ _ z. omega arith)
            ∙ ap (portion_part (s f) false D) (past_back (b f) (b f) (length own) some)
            ∙ ne _ _ _ _ (λ z. omega arith) (eq _ _ _ _ refl (ne _ _ _ _ (λ z. omega arith) refl))));
        origin = first-octets f;
        destination = refl;
        portion = rest-portion portion cs (first_rest f) (first-whole f) (first_fits f) formed;
        components = at.0;
        ends = at.1;
      }

  pub continue-back : (peer : List ℕ) → 1 ≤ length peer → length peer ≤ 4 → (portion : List ℕ) → is_portion portion ≡ true → (cs : List ℕ)
      → length (continue_octets own peer portion cs) < 65536 → Back (continue_octets own peer portion cs) (read_continue own peer portion cs) own peer portion cs
  unfolding continue_octets known_type origin_of destination_of
  continue-back peer least most portion formed cs h =
      let after : List ℕ = portion ++ components_octets cs in
      let rest : List ℕ = tlv 0x49 peer ++ after in
      let f : First continue_tag 0x48 own rest =
      record { short = ((λ z. omega arith), (λ z. omega arith)); some = some; few = few; fits = contents-fit continue_tag (tlv 0x48 own ++ rest) h } in
      let o : Run = run (b f + 2) (length own) in
      let p : ℕ = b f + 2 + length own in
      let d : Run = run (p + 2) (length peer) in
      let D : Derived = record { tag = continue_tag; origin = o; destination = d } in
      let size : length (tlv 0x49 peer) ≡ 2 + length peer = id-length 0x49 peer (omega arith) in
      let sum = length-append (tlv 0x49 peer) after in
      let all = first-whole f in
      let h49 : Has (s f) p (tlv 0x49 peer) = has_first (tlv 0x49 peer) after (first_rest f) in
      let has : Has (s f) (p + 2 + length peer) after = has-at (has_rest (tlv 0x49 peer) after (first_rest f)) (omega arith) in
      let whole : p + 2 + length peer + length after ≡ length (s f) = omega arith in
      let fits : length after < 65536 = omega (arith, first_fits f) in
      let at = rest-components portion cs has whole fits formed in
      let first : o ≡ origin_of (s f) continue_tag (b f) = first-id f ∙ ne _ _ _ _ (λ z. omega arith) (ne _ _ _ _ (λ z. omega arith) (ne _ _ _ _ (λ z. omega arith) refl)) in
      let second : d ≡ destination_of (s f) continue_tag (b f) o =
      id-back 0x49 peer h49 least most (omega arith)
      ∙ ap (id_at (s f) 0x49) (past_back (b f) (b f) (length own) some)
      ∙ ne _ _ _ _ (λ z. omega arith) (ne _ _ _ _ (λ z. omega arith) (ne _ _ _ _ (λ z. omega arith) (ne _ _ _ _ (λ z. omega arith) (ne _ _ _ _ (λ z. omega arith) refl)))) in
      record {
        is = sym
            (outer-back continue_tag (tlv 0x48 own ++ rest) f.short f.fits
            (sym (ne _ _ _ _ (λ z. omega arith) (ne _ _ _ _ (λ z. omega arith) (ne _ _ _ _ (λ z. omega arith) (eq _ _ _ _ refl refl))))) D refl
            (derived-as (s f) continue_tag (b f) o d (first-tag f) first second)
            (rest_part portion cs has whole fits formed D (λ z. omega arith) (λ _ z. omega arith)
            ∙ peer-then (s f) (b f) p (length peer) D refl least (λ z. omega arith) (λ z. omega arith)));
        origin = first-octets f;
        destination = has-octets (id-has 0x49 peer h49 least most (omega arith)) (omega arith);
        portion = rest-portion portion cs has whole fits formed;
        components = at.0;
        ends = at.1;
      }

-- A UNIDIRECTIONAL, which needs components
pub uni-back : (portion : List ℕ) → is_portion portion ≡ true → (cs : List ℕ) → (length cs ≡ 0 → ⊥) → length (uni_octets portion cs) < 65536
    → Back (uni_octets portion cs) (read_uni portion cs) [] [] portion cs
unfolding uni_octets known_type origin_of destination_of in_order
uni-back portion formed cs some h =
    let rest : List ℕ = portion ++ components_octets cs in
    let s : List ℕ = tlv uni_tag rest in
    let short : ShortTag uni_tag = ((λ z. omega arith), (λ z. omega arith)) in
    let fits : length rest < 65536 = contents-fit uni_tag rest h in
    let has : Has s (starts rest) rest = contents-back (outer-stands uni_tag rest short fits) in
    let whole : starts rest + length rest ≡ length s = omega (arith, element-length uni_tag rest) in
    let at = rest-components portion cs has whole fits formed in
    let D : Derived = record { tag = uni_tag; origin = no_run; destination = no_run } in
    record {
      is = sym
          (outer-back uni_tag rest short fits (sym (eq _ _ _ _ refl refl)) D refl
          (derived-as s uni_tag (starts rest) no_run no_run (octet-back (outer-stands uni_tag rest short fits)) (eq _ _ _ _ refl refl) (eq _ _ _ _ refl refl))
          (rest_part portion cs has whole fits formed D (λ z. omega arith) (λ z _. some z) ∙ eq _ _ _ _ refl refl));
      origin = refl;
      destination = refl;
      portion = rest-portion portion cs has whole fits formed;
      components = at.0;
      ends = at.1;
    }
