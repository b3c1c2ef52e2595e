-- WHAT IS WRITTEN IS READ BACK BY ITS PARTS (demand 2: "read back as the components and IDs put in"): every component, and every
-- message with its components. Assumes nothing.
use Rattle.std.proofs.Common.{arith, ◌∙◌}
use Prim.Native.Nat.{ℕ, ◌+◌, ◌-◌, ◌<◌, ◌≤◌}
use Rattle.std.specs.Prelude.{◌≡◌, true, take, drop}
use Rattle.std.proofs.Math.Path.{refl, sym, ap}
use mathlib.Core.List.{List, [], ◌∷◌, ◌++◌, map}
use Rattle.std.proofs.Math.ListN.{length, length-append}
use Rattle.laws.specs.If.{if_eq, eq, ne, yes, by-eq}
use Rattle.laws.specs.Lists.{length_none, every}
use Rattle.paper.specs.declared.Frame.{Frame}
use Rattle.paper.specs.declared.Message.{Message}
use Rattle.paper.specs.Sizes.{depths, most_waiting, least_space}
use Rattle.paper.specs.Elements.{constructor, frame_at}
use Rattle.paper.specs.Problems.{no_problem}
use Rattle.paper.specs.Components.{Item, invoke_tag, error_tag, no_id}
use Rattle.paper.specs.Messages.{uni_tag, begin_tag, end_tag, continue_tag, abort_tag, is_sound}
use Rattle.paper.specs.Portions.{portion_of, Spoken, spoken_in}
use Rattle.paper.specs.Dialogues.{is_code, is_portion}
use Rattle.paper.specs.Writing.{tlv, id_then, error_octets, result_octets, Written, octets_of, joined, components_octets, begin_octets, continue_octets, end_octets, uni_octets, user_abort_octets, cause_abort_octets}
use Rattle.paper.specs.Writing.Written.{Invoke, Result, Error, Reject}
use Rattle.paper.specs.Calls.{items_of}
use Rattle.paper.specs.Rules.{is_sound_item}
use Rattle.paper.specs.Contents.{between, result_frame, code_at, parts_of, Wire, content_by, message_in, content_of}
use Rattle.writing_octets.specs.Heads.{components_head, components-joined}
use Rattle.writing_octets.specs.Lengths.{length-small, element-length, components-small, id-length, invoke-plain, invoke-linked, result-both}
use Rattle.demand_readback.specs.Standing.{Has, Stands, begins, ends}
use Rattle.demand_readback.proofs.Standing.{has-as, has-at, has_first, has_rest, contents-back, frame_back}
use Rattle.demand_readback.specs.Written.{Allowed, read_as, parameter_of, AllAllowed, items_from, from_of, to_of, Back}
use Rattle.demand_readback.proofs.GivenLaws.{code-told, code-copied}
use Rattle.demand_readback.specs.Pieces.{Tagged}
use Rattle.demand_readback.proofs.KindsLaws.{result-other}
use Rattle.demand_readback.proofs.Listing.{invoke-tagged, error-tagged, result-tagged, both_told, element-some, result-empty, octets-some, items-sound, components-back}
use Rattle.demand_readback.proofs.Reading.{has-octets, end-has}
use Rattle.demand_readback.proofs.Places.{parameter-fits, parameter-there}
use Rattle.demand_readback.proofs.Order.{end_back, user-abort-back, cause-abort-back, begin-back, continue-back, uni-back}

-- octets that stand from p to e
between-back : {s vs : List ℕ} {p e : ℕ} → Has s p vs → p + length vs ≡ e → e ≤ length s → between s p e ≡ vs
between-back {s} {vs} {p} {e} has whole room =
    ap (λ (n : ℕ). take n (drop p s)) (let z : e - p ≡ length vs = omega arith in z) ∙ has-octets has (omega arith)

-- AN OPERATION OR ERROR in an element, after other pieces
code_in : {s : List ℕ} {lim at t : ℕ} (before op par : List ℕ) → Stands s lim at t (before ++ (op ++ par)) → constructor t ≡ 1 → is_code op ≡ true → lim ≤ length s
    → (d q : ℕ) → q ≡ (frame_at s d lim at).from + length before → code_at s (frame_at s d lim at).to q ≡ op
code_in {s} {lim} {at} before op par w cons code room d q is =
    let c : List ℕ = before ++ (op ++ par) in
    let frame = frame_back w cons d in
    let from : begins at (length c) ≡ (frame_at s d lim at).from = ap (λ (f : Frame). f.from) frame in
    let to : ends at (length c) ≡ (frame_at s d lim at).to = ap (λ (f : Frame). f.to) frame in
    let has : Has s q op = has-at (has_first op par (has_rest before (op ++ par) (contents-back w))) (omega arith) in
    let n = length-append before (op ++ par) in
    let m = length-append op par in
    let h = w.room in
    ap (between s q) (sym (code-copied has (frame_at s d lim at).to (omega arith) (code-told op code))) ∙ between-back has refl (omega arith)

-- an element that was written, where it stands
stood : {s o : List ℕ} {at : ℕ} (lim t : ℕ) (c : List ℕ) → tlv t c ≡ o → Tagged t → Has s at o → length o < 65536 → at + length o ≤ lim → Stands s lim at t c
stood lim t c is tag has fits room =
    let n = element-length t c in
    let m = ap length is in
    record { has = has-as has (sym is); short = tag.0; fits = omega arith; room = omega arith }

-- A COMPONENT that stands in s
module _ (s : List ℕ) (at : ℕ) where
  abbrev item_of : Written → Item
  item_of w = record { start = at; part = read_as w (at + length (octets_of w)) }

  -- its parameter
  parameter-back : (w : Written) → Allowed w → Has s at (octets_of w) → at + length (octets_of w) ≤ length s
      → between s (from_of (at + length (octets_of w)) (length (parameter_of w))) (to_of (at + length (octets_of w)) (length (parameter_of w))) ≡ parameter_of w
  parameter-back w a has room =
      let x : ℕ = at + length (octets_of w) in
      let n : ℕ = length (parameter_of w) in
      let fits = parameter-fits w a in
      let e = end-has x (parameter-there s at w a has) (omega arith) in
      between-back e.0 e.1 (by-eq {r = to_of x n} _ _ _ _ refl (λ _ z. omega arith) (λ _ z. omega arith))

  BackOf : Written → Type 0
  BackOf w = Allowed w → Has s at (octets_of w) → length (octets_of w) < 65536 → at + length (octets_of w) ≤ length s → parts_of s (item_of w) ≡ w

  error-parts : (id : ℕ) (err par : List ℕ) → BackOf (Error id err par)
  unfolding BackOf parts_of read_as octets_of error_octets
  error-parts id err par a has fits room =
      let x : ℕ = at + length (error_octets id err par) in
      let w : Stands s x at error_tag (id_then id (err ++ par)) = stood x error_tag (id_then id (err ++ par)) refl error-tagged has fits (omega arith) in
      let code = code_in (2 ∷ 1 ∷ id ∷ []) err par w refl a.1 room depths _ refl in
      let p = parameter-back (Error id err par) a has room in
      sym (ne _ _ _ _ (λ z. omega arith) (eq _ _ _ _ refl (cc)))

  reject-parts : (id p : ℕ) → BackOf (Reject id p)
  unfolding BackOf parts_of read_as
  reject-parts id p a has fits room = sym (ne _ _ _ _ (λ z. omega arith) (ne _ _ _ _ (λ z. omega arith) (eq _ _ _ _ refl refl)))

  invoke-parts : (id linked : ℕ) (op par : List ℕ) → BackOf (Invoke id linked op par)
  unfolding BackOf parts_of read_as octets_of
  invoke-parts id linked op par a has fits room =
      let x : ℕ = at + length (octets_of (Invoke id linked op par)) in
      let f : Frame = frame_at s depths x at in
      let code : code_at s f.to (f.from + if_eq linked no_id 3 6) ≡ op =
      by-eq {A = ℕ} {r = if_eq linked no_id 3 6} linked no_id 3 6 refl
      (λ z k. code_in (2 ∷ 1 ∷ id ∷ []) op par (stood x invoke_tag (id_then id (op ++ par)) (invoke-plain op par id linked z) invoke-tagged has fits (omega arith))
      refl a.2 room depths _ (omega arith))
      (λ z k. code_in (2 ∷ 1 ∷ id ∷ 0x80 ∷ 1 ∷ linked ∷ []) op par
      (stood x invoke_tag (id_then id (0x80 ∷ 1 ∷ linked ∷ (op ++ par))) (invoke-linked op par id linked z) invoke-tagged has fits (omega arith))
      refl a.2 room depths _ (omega arith)) in
      let p = parameter-back (Invoke id linked op par) a has room in
      sym (eq _ _ _ _ refl (cc))

  -- a result's operation is in the 30
  result-code : (t id : ℕ) (op par : List ℕ) → Allowed (Result t id op par) → (length op ≡ 0 → ⊥) → Has s at (octets_of (Result t id op par))
      → length (octets_of (Result t id op par)) < 65536 → at + length (octets_of (Result t id op par)) ≤ length s
      → op ≡ code_at s (result_frame s (item_of (Result t id op par))).to (result_frame s (item_of (Result t id op par))).from
  unfolding read_as octets_of
  result-code t id op par (tag, small, formed) some has fits room =
      let x : ℕ = at + length (result_octets t id op par) in
      let f : Frame = frame_at s depths x at in
      let inner : List ℕ = tlv 0x30 (op ++ par) in
      let w : Stands s x at t (id_then id inner) = stood x t (id_then id inner) (result-both op par t id some) (result-tagged t tag) has fits (omega arith) in
      let from : begins at (length (id_then id inner)) ≡ f.from = ap (λ (f : Frame). f.from) (frame_back w (result-tagged t tag).1 depths) in
      let to : ends at (length (id_then id inner)) ≡ f.to = ap (λ (f : Frame). f.to) (frame_back w (result-tagged t tag).1 depths) in
      let n = element-length 0x30 (op ++ par) in
      let i : Stands s f.to (f.from + 3) 0x30 (op ++ par) = record {
        has = has-at (has_rest (2 ∷ 1 ∷ id ∷ []) inner (contents-back w)) (omega arith);
        short = ((λ z. omega arith), (λ z. omega arith));
        fits = omega (arith, w.fits);
        room = omega arith;
      } in
      sym (code_in [] op par i refl (both_told op par formed some).0 (omega (arith, w.room)) 15 _ (omega arith))

  result_parts : (t id : ℕ) (op par : List ℕ) → BackOf (Result t id op par)
  unfolding BackOf parts_of read_as octets_of
  result_parts t id op par a has fits room =
      let x : ℕ = at + length (result_octets t id op par) in
      let i : Item = item_of (Result t id op par) in
      let code : op ≡ if_eq i.part.parstop 0 [] (code_at s (result_frame s i).to (result_frame s i).from) =
      by-eq {A = ℕ} (length op) 0 0 0 refl
      (λ z _. eq _ _ _ _ (sym (eq (length par) 0 0 x (result-empty op par a.2 z) refl)) (sym (length_none op z)))
      (λ z _.
      let k : x ≡ to_of x (length par) = ne (length par) 0 0 x (element-some 14 par (both_told op par a.2 z).1) refl in
      ne _ _ _ _ (λ y. omega (arith, octets-some (Result t id op par))) (result-code t id op par a z has fits room)) in
      let p = parameter-back (Result t id op par) a has room in
      sym (result-other t _ _ _ _ a.0 (cc))

  pub parts-read-back : (w : Written) → Allowed w → Has s at (octets_of w) → length (octets_of w) < 65536 → at + length (octets_of w) ≤ length s
      → parts_of s (record { start = at; part = read_as w (at + length (octets_of w)) }) ≡ w
  unfolding BackOf
  parts-read-back (Invoke id linked op par) = invoke-parts id linked op par
  parts-read-back (Result tag id op par) = result_parts tag id op par
  parts-read-back (Error id err par) = error-parts id err par
  parts-read-back (Reject id p) = reject-parts id p

-- COMPONENTS one after another
pub all-parts-back : (s : List ℕ) (at : ℕ) (ws : List Written) → AllAllowed ws → Has s at (joined ws) → length (joined ws) < 65536 → at + length (joined ws) ≤ length s
    → map (parts_of s) (items_from at ws) ≡ ws
unfolding items_from joined
all-parts-back s at [] allowed has fits room = refl
all-parts-back s at (w ∷ ws) allowed has fits room =
    let n = length-append (octets_of w) (joined ws) in
    let first = parts-read-back s at w allowed.0 (has_first (octets_of w) (joined ws) has) (omega arith) (omega arith) in
    let rest = all-parts-back s (at + length (octets_of w)) ws allowed.1 (has_rest (octets_of w) (joined ws) has) (omega arith) (omega arith) in
    cc

-- A MESSAGE that was read back as m, with its components, of at most 240 octets, at its end
abbrev holds : Message → List ℕ → List ℕ → List ℕ → List Written → Wire
holds m own peer user ws =
    Wire.Holds (record { tag = m.tag; origin = own; destination = peer; portion = user; spoken = spoken_in user; cause = m.cause; components = ws })

items-in : {s own peer user : List ℕ} {m : Message} (ws : List Written) → AllAllowed ws → length (joined ws) ≤ most_waiting → length (joined ws) < length s
    → Back s m own peer user (joined ws) → m.from ≡ from_of (length s) (length (joined ws)) → items_of s m ≡ items_from m.from ws
unfolding items_of items_from joined
items-in {s} {m = m} [] allowed few long back from = sym (eq _ _ _ _ (from ∙ sym (eq 0 0 0 (length s - 0) refl refl)) refl)
items-in {s} {own} {peer} {user} {m} (w ∷ ws) allowed few long back from =
    let n : ℕ = length (joined (w ∷ ws)) in
    let some : n ≡ 0 → ⊥ = λ z. omega (arith, octets-some w, length-append (octets_of w) (joined ws)) in
    let f : length s - n ≡ from_of (length s) n = ne n 0 0 (length s - n) some refl in
    sym (ne _ _ _ _ (λ z. omega arith) (components-back s m.to m.from w ws allowed back.components (omega arith) back.ends))

content-back : {s own peer user : List ℕ} {m : Message} (ws : List Written) → AllAllowed ws → length (joined ws) ≤ most_waiting → (length (joined ws) < length s) × (length s ≤ least_space)
    → (length s < 65536 → Back s m own peer user (joined ws)) → m.fault ≡ is_sound → m.from ≡ from_of (length s) (length (joined ws))
    → content_of s ≡ holds m own peer user ws
unfolding content_of message_in
content-back {s} {own} {peer} {user} {m} ws allowed few long read sound from =
    let back : Back s m own peer user (joined ws) = read (omega arith) in
    let items : items_of s m ≡ items_from m.from ws = items-in ws allowed few long.0 back from in
    let room : m.from + length (joined ws) ≤ length s =
    by-eq {A = ℕ} {r = from_of (length s) (length (joined ws))} _ _ _ _ refl (λ z k. omega arith) (λ z k. omega arith) in
    let parts : map (parts_of s) (items_of s m) ≡ ws =
    ap (map (parts_of s)) items ∙ all-parts-back s m.from ws allowed back.components (omega arith) room in
    let is : holds m own peer user ws ≡ Wire.Holds (content_by s m) = cc in
    sym (ne _ _ _ _ (λ z. omega arith)
    (eq _ _ _ _ sound (yes _ _ _ (ap (every is_sound_item) items ∙ items-sound m.from ws) is) ∙ ap (message_in s) (sym back.is)))

-- SIZES: of an element whose contents, no less than cs, are at most 268 octets; of a portion and components of at most 240
element-long : (tag : ℕ) (c cs : List ℕ) → length cs ≤ length c → length c ≤ 268 → (length cs < length (tlv tag c)) × (length (tlv tag c) ≤ least_space)
element-long tag c cs least most =
    let n = element-length tag c in
    let h = length-small (length c) in
    (omega arith, omega arith)

rest-long : (portion cs : List ℕ) → length portion + length cs ≤ most_waiting
    → (length cs ≤ length (portion ++ components_octets cs)) × (length (portion ++ components_octets cs) ≤ 244)
rest-long portion cs most =
    let j = ap length (components-joined cs) in
    let n = length-append (components_head (length cs)) cs in
    let h = components-small (length cs) in
    let m = length-append portion (components_octets cs) in
    (omega arith, omega arith)

-- after an ID
id-long : (tag k : ℕ) (id rest cs : List ℕ) → length id ≤ 4 → length cs ≤ length rest → length rest ≤ 250
    → (length cs < length (tlv tag (tlv k id ++ rest))) × (length (tlv tag (tlv k id ++ rest)) ≤ least_space)
id-long tag k id rest cs few least most =
    let j = length-append (tlv k id) rest in
    let i = id-length k id (omega arith) in
    element-long tag (tlv k id ++ rest) cs (omega arith) (omega arith)

-- AN ABORT has no components
abort-content : {s peer user : List ℕ} {m : Message} → (0 < length s) × (length s ≤ least_space) → (length s < 65536 → Back s m [] peer user [])
    → m.fault ≡ is_sound → m.from ≡ 0 → content_of s ≡ holds m [] peer user []
unfolding joined
abort-content {s} long read sound from = content-back [] tt (omega arith) long read sound (from ∙ eq 0 0 0 (length s - 0) refl refl)

-- THE MESSAGES, with IDs of 1 to 4 octets: each fits its space and is read back as what was put in
pub nothing-content : content_of [] ≡ Wire.Nothing
unfolding content_of
nothing-content = sym (eq 0 0 _ _ refl refl)

-- no portion says nothing
pub silent : spoken_in [] ≡ Spoken.Silent
unfolding spoken_in portion_of if_eq
silent = refl

module _ (own : List ℕ) (some : 1 ≤ length own) (few : length own ≤ 4) where
  begin-long : (portion cs : List ℕ) → length portion + length cs ≤ most_waiting → (length cs < length (begin_octets own portion cs)) × (length (begin_octets own portion cs) ≤ least_space)
  unfolding begin_octets
  begin-long portion cs most = let r = rest-long portion cs most in id-long begin_tag 0x48 own (portion ++ components_octets cs) cs few (omega arith) (omega arith)

  pub begin-fits : (portion cs : List ℕ) → length portion + length cs ≤ most_waiting → length (begin_octets own portion cs) ≤ least_space
  begin-fits portion cs most = (begin-long portion cs most).1

  pub begin-content : (portion : List ℕ) → is_portion portion ≡ true → (ws : List Written) → AllAllowed ws → length portion + length (joined ws) ≤ most_waiting
      → content_of (begin_octets own portion (joined ws))
      ≡ Wire.Holds (record { tag = begin_tag; origin = own; destination = []; portion = portion; spoken = spoken_in portion; cause = no_problem; components = ws })
  begin-content portion formed ws allowed most =
      content-back ws allowed (omega arith) (begin-long portion (joined ws) most) (begin-back own some few portion formed (joined ws)) refl refl

  module _ (peer : List ℕ) (least : 1 ≤ length peer) (less : length peer ≤ 4) where
    continue-long : (portion cs : List ℕ) → length portion + length cs ≤ most_waiting
        → (length cs < length (continue_octets own peer portion cs)) × (length (continue_octets own peer portion cs) ≤ least_space)
    unfolding continue_octets
    continue-long portion cs most =
        let r = rest-long portion cs most in
        let j = length-append (tlv 0x49 peer) (portion ++ components_octets cs) in
        let i = id-length 0x49 peer (omega arith) in
        id-long continue_tag 0x48 own (tlv 0x49 peer ++ (portion ++ components_octets cs)) cs few (omega arith) (omega arith)

    pub continue-fits : (portion cs : List ℕ) → length portion + length cs ≤ most_waiting → length (continue_octets own peer portion cs) ≤ least_space
    continue-fits portion cs most = (continue-long portion cs most).1

    pub continue-content : (portion : List ℕ) → is_portion portion ≡ true → (ws : List Written) → AllAllowed ws → length portion + length (joined ws) ≤ most_waiting
        → content_of (continue_octets own peer portion (joined ws))
        ≡ Wire.Holds (record { tag = continue_tag; origin = own; destination = peer; portion = portion; spoken = spoken_in portion; cause = no_problem; components = ws })
    continue-content portion formed ws allowed most =
        content-back ws allowed (omega arith) (continue-long portion (joined ws) most)
        (continue-back own some few peer least less portion formed (joined ws)) refl refl

module _ (peer : List ℕ) (some : 1 ≤ length peer) (few : length peer ≤ 4) where
  end-long : (portion cs : List ℕ) → length portion + length cs ≤ most_waiting → (length cs < length (end_octets peer portion cs)) × (length (end_octets peer portion cs) ≤ least_space)
  unfolding end_octets
  end-long portion cs most = let r = rest-long portion cs most in id-long end_tag 0x49 peer (portion ++ components_octets cs) cs few (omega arith) (omega arith)

  pub end_fits : (portion cs : List ℕ) → length portion + length cs ≤ most_waiting → length (end_octets peer portion cs) ≤ least_space
  end_fits portion cs most = (end-long portion cs most).1

  pub end-content : (portion : List ℕ) → is_portion portion ≡ true → (ws : List Written) → AllAllowed ws → length portion + length (joined ws) ≤ most_waiting
      → content_of (end_octets peer portion (joined ws))
      ≡ Wire.Holds (record { tag = end_tag; origin = []; destination = peer; portion = portion; spoken = spoken_in portion; cause = no_problem; components = ws })
  end-content portion formed ws allowed most =
      content-back ws allowed (omega arith) (end-long portion (joined ws) most) (end_back peer some few portion formed (joined ws)) refl refl

  abort-long : (rest : List ℕ) → length rest ≤ most_waiting → (0 < length (tlv abort_tag (tlv 0x49 peer ++ rest))) × (length (tlv abort_tag (tlv 0x49 peer ++ rest)) ≤ least_space)
  abort-long rest most = id-long abort_tag 0x49 peer rest [] few (omega arith) (omega arith)

  pub user-abort-fits : (portion : List ℕ) → length portion ≤ most_waiting → length (user_abort_octets peer portion) ≤ least_space
  unfolding user_abort_octets
  user-abort-fits portion most = (abort-long portion most).1

  pub user-abort-content : (portion : List ℕ) → is_portion portion ≡ true → length portion ≤ most_waiting
      → content_of (user_abort_octets peer portion)
      ≡ Wire.Holds (record { tag = abort_tag; origin = []; destination = peer; portion = portion; spoken = spoken_in portion; cause = no_problem; components = [] })
  unfolding user_abort_octets
  user-abort-content portion formed most = abort-content (abort-long portion most) (user-abort-back peer some few portion formed) refl refl

  pub cause-abort-fits : (cause : ℕ) → length (cause_abort_octets peer cause) ≤ least_space
  unfolding cause_abort_octets
  cause-abort-fits cause = (abort-long (0x4A ∷ 1 ∷ cause ∷ []) (omega arith)).1

  pub cause-abort-content : (cause : ℕ) → cause < 5
      → content_of (cause_abort_octets peer cause)
      ≡ Wire.Holds (record { tag = abort_tag; origin = []; destination = peer; portion = []; spoken = Spoken.Silent; cause = cause; components = [] })
  unfolding cause_abort_octets
  cause-abort-content cause small =
      abort-content (abort-long (0x4A ∷ 1 ∷ cause ∷ []) (omega arith)) (λ _. cause-abort-back peer some few cause small) refl refl
      ∙ ap (λ (w : Spoken). Wire.Holds (record { tag = abort_tag; origin = []; destination = peer; portion = []; spoken = w; cause = cause; components = [] })) silent

uni-long : (portion cs : List ℕ) → length portion + length cs ≤ most_waiting → (length cs < length (uni_octets portion cs)) × (length (uni_octets portion cs) ≤ least_space)
unfolding uni_octets
uni-long portion cs most = let r = rest-long portion cs most in element-long uni_tag (portion ++ components_octets cs) cs (omega arith) (omega arith)

pub uni-fits : (portion cs : List ℕ) → length portion + length cs ≤ most_waiting → length (uni_octets portion cs) ≤ least_space
uni-fits portion cs most = (uni-long portion cs most).1

pub uni-content : (portion : List ℕ) → is_portion portion ≡ true → (ws : List Written) → AllAllowed ws → (length (joined ws) ≡ 0 → ⊥)
    → length portion + length (joined ws) ≤ most_waiting → content_of (uni_octets portion (joined ws))
    ≡ Wire.Holds (record { tag = uni_tag; origin = []; destination = []; portion = portion; spoken = spoken_in portion; cause = no_problem; components = ws })
uni-content portion formed ws allowed some most =
    content-back ws allowed (omega arith) (uni-long portion (joined ws) most) (uni-back portion formed (joined ws) some) refl refl
