-- A DIALOGUE PORTION THAT WAS WRITTEN IS READ BACK as what was put in (02 a). Assumes nothing.
use Rattle.std.proofs.Common.{arith, ◌∙◌, inl}
use Rattle.std.specs.Prelude.{ℕ, ◌+◌, ◌<◌, ◌≤◌, ◌≡◌, true, List, [], ◌∷◌, ◌++◌, length, get_or}
use Rattle.std.proofs.Math.Path.{refl, sym, ap}
use Rattle.laws.specs.Lists.{length_none}
use Rattle.laws.specs.If.{eq, ne, yes, by-eq, either-eq}
use Rattle.paper.specs.declared.Frame.{Frame}
use Rattle.paper.specs.declared.Pdu.{Pdu}
use Rattle.paper.specs.declared.Portion.{Portion}
use Rattle.paper.specs.Sizes.{depths, most_waiting}
use Rattle.paper.specs.Elements.{no_frame, is_element}
use Rattle.paper.specs.Dialogues.{is_name, is_block, is_information, is_portion}
use Rattle.paper.specs.Writing.{tlv}
use Rattle.paper.specs.Portions.{structured, unstructured, no_value, Parts, Piece, Form, plain, accepts, aborts, aarq, aare, abrt, audt, forms, piece_octets, pieces_octets, portion_octets, portion_by, unread, all_pieces, external, pdu_of, in_form, read_by, portion_of, Spoken, parts_in, spoken_in, spoken_by}
use Rattle.writing_octets.specs.Lengths.{element-length, id-of}
use Rattle.demand_readback.specs.Standing.{begins}
use Rattle.demand_readback.specs.Pdus.{seen, informed, taking, AllFormed, AllTold, taking_all}
use Rattle.demand_readback.proofs.Pdus.{pieces-parts, pieces-took}
use Rattle.demand_readback.specs.Shells.{core, Holding}
use Rattle.demand_readback.proofs.Shells.{pdu_at, pdu, core-parts, form-other, form-tag, form-own, core_at, inmost, external-back, octets-first, octets-formed}
use Rattle.demand_readback.proofs.Contents.{silent}
use Rattle.demand_readback.specs.Upto.{Upto, around}
use Rattle.demand_readback.proofs.Upto.{one-inner}
use Rattle.demand_readback.specs.Spoken.{OnlyNamed, addressed, answered, aborted, blank}

-- A FORM IS FOUND in the list: those before it don't fit
module _ (l : List ℕ) (x : Frame) (is : x ≡ external l) (g : Form) (gs : List Form) where
  pass : no_frame ≡ pdu_of g l x → {r : Portion} → r ≡ read_by gs l → r ≡ read_by (g ∷ gs) l
  unfolding read_by
  pass none q = eq _ _ _ _ (sym (ap (λ (f : Frame). f.stop) (none ∙ ap (pdu_of g l) is))) q

  fits : (b e : ℕ) → around b e ≡ pdu_of g l x → (e ≡ 0 → ⊥) → in_form g l (around b e) ≡ read_by (g ∷ gs) l
  unfolding read_by
  fits b e one some =
      let z = one ∙ ap (pdu_of g l) is in
      ne _ _ _ _ (λ y. some (ap (λ (f : Frame). f.stop) z ∙ y)) (ap (in_form g l) z)

-- where the contents of a form's PDU begin; there its pieces are read
abbrev pub pieces_at : (f : Form) (l : List ℕ) (y : ℕ) (c : List ℕ) → Upto l (length l) y (core f.identifier f.tag c) → ℕ
pieces_at f l y c u = begins (pdu_at f.identifier f.tag c u) (length c)

abbrev pub Found : Form → Type 0
Found f =
    (l : List ℕ) (y : ℕ) (c : List ℕ) (u : Upto l (length l) y (core f.identifier f.tag c)) → around y (length l) ≡ external l → (length l ≡ 0 → ⊥)
    → in_form f l (around (pieces_at f l y c u) (length l)) ≡ read_by forms l

holding-60 : Holding 0x60
holding-60 = (((λ z. omega arith), (λ z. omega arith)), refl)

holding-61 : Holding 0x61
holding-61 = (((λ z. omega arith), (λ z. omega arith)), refl)

holding-64 : Holding 0x64
holding-64 = (((λ z. omega arith), (λ z. omega arith)), refl)

found-aarq : Found aarq
found-aarq l y c u is some = fits l (around y (length l)) is aarq (aare ∷ abrt ∷ audt ∷ []) _ _ (form-own aarq 0x60 c u holding-60 refl) some

found-aare : Found aare
found-aare l y c u is some =
    let x : Frame = around y (length l) in
    fits l x is aare (abrt ∷ audt ∷ []) _ _ (form-own aare 0x61 c u holding-61 refl) some
    ∙ pass l x is aarq (aare ∷ abrt ∷ audt ∷ []) (form-tag aarq 0x61 c u holding-61 (λ z. omega arith)) refl

found-abrt : Found abrt
found-abrt l y c u is some =
    let x : Frame = around y (length l) in
    fits l x is abrt (audt ∷ []) _ _ (form-own abrt 0x64 c u holding-64 refl) some
    ∙ pass l x is aare (abrt ∷ audt ∷ []) (form-tag aare 0x64 c u holding-64 (λ z. omega arith)) refl
    ∙ pass l x is aarq (aare ∷ abrt ∷ audt ∷ []) (form-tag aarq 0x64 c u holding-64 (λ z. omega arith)) refl

-- the two identifiers differ in the last octet but one
unlike : {l : List ℕ} {e y : ℕ} (tag : ℕ) (c : List ℕ) → Upto l e y (core unstructured tag c) → (g : Form) → structured ≡ g.identifier → no_frame ≡ pdu_of g l (around y e)
unlike tag c u g is =
    let a : 6 ∷ 7 ∷ unstructured ≡ tlv 6 unstructured = id-of 6 unstructured (omega arith) in
    let b : 6 ∷ 7 ∷ structured ≡ tlv 6 g.identifier = id-of 6 structured (omega arith) ∙ ap (tlv 6) is in
    form-other unstructured tag c u g 7 (omega (arith, ap length a)) (omega (arith, ap length b))
    (λ z. let w : ◌≡◌ {A = ℕ} 2 1 = ap (λ (o : List ℕ). get_or o 7 0) a ∙ z ∙ ap (λ (o : List ℕ). get_or o 7 0) (sym b) in omega arith)

found-audt : Found audt
found-audt l y c u is some =
    let x : Frame = around y (length l) in
    fits l x is audt [] _ _ (form-own audt 0x60 c u holding-60 refl) some
    ∙ pass l x is abrt (audt ∷ []) (unlike 0x60 c u abrt refl) refl
    ∙ pass l x is aare (abrt ∷ audt ∷ []) (unlike 0x60 c u aare refl) refl
    ∙ pass l x is aarq (aare ∷ abrt ∷ audt ∷ []) (unlike 0x60 c u aarq refl) refl

pub record Ours (f : Form) (shown : Parts → Parts) : Type 0 where
  pub holding : Holding f.tag
  pub found : Found f
  pub says : (l : List ℕ) (w : Pdu) → parts_in l (f.made w) ≡ Spoken.Speaks f.kind (shown (seen l w))
  pub takes : (p : Parts) → shown p ≡ taking_all f.pieces p blank
  pub formed : (name info : List ℕ) → is_name name ≡ true → is_information info ≡ true → AllFormed f.pieces (f.puts name info)

-- information is the last piece, after none
last-piece : (p q : Parts) → q.information ≡ [] → informed p q ≡ taking_all (Piece.Information ∷ []) p q
unfolding taking_all taking
last-piece p q none =
    by-eq {A = ℕ} (length p.information) 0 0 0 refl
    (λ z _. eq _ _ _ _ z
    (ap (λ (o : List ℕ). record { name = q.name; information = o; result = q.result; diagnostic = q.diagnostic; source = q.source })
    (sym (length_none p.information z) ∙ sym none)))
    (λ z _. ne _ _ _ _ z refl)

pub ours-aarq : Ours aarq addressed
unfolding taking_all taking
ours-aarq = record {
  holding = holding-60;
  found = found-aarq;
  says = λ l w. refl;
  takes = λ p. last-piece p (plain p.name []) refl;
  formed = λ name info n i. (tt, (n, (i, tt)));
}

pub ours-aare : Ours aare answered
unfolding taking_all taking
ours-aare = record {
  holding = holding-61;
  found = found-aare;
  says = λ l w. refl;
  takes = λ p. last-piece p (record { name = p.name; information = []; result = p.result; diagnostic = p.diagnostic; source = no_value }) refl;
  formed = λ name info n i. (tt, (n, (tt, (inl refl, (i, tt)))));
}

pub ours-abrt : Ours abrt aborted
unfolding taking_all taking
ours-abrt = record {
  holding = holding-64;
  found = found-abrt;
  says = λ l w. refl;
  takes = λ p. last-piece p (record { name = []; information = []; result = no_value; diagnostic = no_value; source = p.source }) refl;
  formed = λ name info n i. (tt, (i, tt));
}

pub ours-audt : Ours audt addressed
unfolding taking_all taking
ours-audt = record {
  holding = holding-60;
  found = found-audt;
  says = λ l w. refl;
  takes = λ p. last-piece p (plain p.name []) refl;
  formed = λ name info n i. (tt, (n, (i, tt)));
}

-- OF ANY PARTS that the form shows and whose pieces are well formed: other values than those that we write too
module _ {f : Form} {shown : Parts → Parts} (o : Ours f shown) (p : Parts) (few : length (portion_octets f p) < 65536) (formed : AllFormed f.pieces p) where
  inner : List ℕ
  inner = pieces_octets f.pieces p

  whole : List ℕ
  whole = core f.identifier f.tag inner

  room : length (tlv 0x6B (tlv 0x28 whole)) < 65536
  unfolding inner whole portion_octets
  room = few

  at-core : Upto (portion_octets f p) (length (portion_octets f p)) (core_at whole room) whole
  unfolding inner whole portion_octets
  at-core = inmost whole room

  start : ℕ
  unfolding whole
  start = pieces_at f (portion_octets f p) (core_at whole room) inner at-core

  at-pieces : Upto (portion_octets f p) (length (portion_octets f p)) start inner
  unfolding whole start
  at-pieces = one-inner f.tag inner (pdu f.identifier f.tag inner at-core) o.holding.0

  pub parts-formed : is_element depths (portion_octets f p) ≡ true
  unfolding inner whole portion_octets start
  parts-formed = octets-formed whole room (core-parts f.identifier f.tag inner at-core o.holding (pieces-parts f.pieces p at-pieces formed))

  pub parts_first : get_or (portion_octets f p) 0 0 ≡ 0x6B
  unfolding inner whole portion_octets
  parts_first = octets-first whole room

  -- READ BACK
  module _ (told : AllTold f.pieces p) where
    read : Pdu
    read = all_pieces (portion_octets f p) (length (portion_octets f p)) (unread start) f.pieces

    read_all : (read.at ≡ length (portion_octets f p)) × (shown p ≡ seen (portion_octets f p) read)
    unfolding read inner
    read_all = let t = pieces-took f.pieces p (unread start) at-pieces formed told in (t.0, o.takes p ∙ t.1)

    read_as : f.made read ≡ portion_of (portion_octets f p)
    unfolding inner whole portion_octets start read portion_of
    read_as =
        eq _ _ _ _ parts_first
        (yes _ _ _ parts-formed
        (eq _ _ _ _ read_all.0 refl ∙ o.found (portion_octets f p) (core_at whole room) inner at-core (external-back whole room) (λ z. omega (arith, element-length 0x6B (tlv 0x28 whole)))))

    pub portion-spoken : shown p ≡ p → spoken_in (portion_octets f p) ≡ Spoken.Speaks f.kind p
    unfolding spoken_in
    portion-spoken all =
        sym (ap (parts_in (portion_octets f p)) read_as) ∙ o.says (portion_octets f p) read
        ∙ ap (λ (q : Parts). Spoken.Speaks f.kind (shown q)) (sym read_all.1 ∙ all) ∙ ap (Spoken.Speaks f.kind) all

-- OF A NAME AND INFORMATION that are given: no portion, or one
module _ (f : Form) (name info : List ℕ) where
  none-by : length name + length info ≡ 0 → ([] ≡ portion_by f name info) × (Spoken.Silent ≡ spoken_by f name info)
  unfolding portion_by spoken_by
  none-by z = (eq _ _ _ _ z refl, eq _ _ _ _ z refl)

  some-by : (length name + length info ≡ 0 → ⊥)
      → (portion_octets f (f.puts name info) ≡ portion_by f name info) × (Spoken.Speaks f.kind (f.puts name info) ≡ spoken_by f name info)
  unfolding portion_by spoken_by
  some-by z = (ne _ _ _ _ z refl, ne _ _ _ _ z refl)

-- it is as a given one must be
none-portion : is_portion [] ≡ true
unfolding is_portion
none-portion = sym (eq _ _ _ _ refl refl)

one-portion : (l : List ℕ) → get_or l 0 0 ≡ 0x6B → is_element depths l ≡ true → is_portion l ≡ true
unfolding is_portion
one-portion l first formed = sym (either-eq _ _ _ _ refl (eq _ _ _ _ first (sym formed)))

module _ {f : Form} {shown : Parts → Parts} (o : Ours f shown) (name info : List ℕ) (n : is_name name ≡ true) (i : is_information info ≡ true) (few : length (portion_by f name info) ≤ most_waiting) where
  pub portion-formed : is_portion (portion_by f name info) ≡ true
  portion-formed =
      by-eq {A = ℕ} (length name + length info) 0 0 0 refl
      (λ z _. sym (ap is_portion (none-by f name info z).0) ∙ none-portion)
      (λ z _.
      let is = (some-by f name info z).0 in
      let p : Parts = f.puts name info in
      let room : length (portion_octets f p) < 65536 = omega (arith, ap length is) in
      sym (ap is_portion is) ∙ one-portion (portion_octets f p) (parts_first o p room (o.formed name info n i)) (parts-formed o p room (o.formed name info n i)))

  pub given-spoken : shown (f.puts name info) ≡ f.puts name info → ((length name + length info ≡ 0 → ⊥) → AllTold f.pieces (f.puts name info))
      → spoken_in (portion_by f name info) ≡ spoken_by f name info
  given-spoken all told =
      by-eq {A = ℕ} (length name + length info) 0 0 0 refl
      (λ z _. let w = none-by f name info z in sym (ap spoken_in w.0) ∙ silent ∙ w.1)
      (λ z _.
      let w = some-by f name info z in
      let p : Parts = f.puts name info in
      let room : length (portion_octets f p) < 65536 = omega (arith, ap length w.0) in
      sym (ap spoken_in w.0) ∙ portion-spoken o p room (o.formed name info n i) (told z) all ∙ w.1)

-- a name is no protocol version
not-version : (ks : List Piece) (p : Parts) → (length p.name ≡ 0 → ⊥) → get_or (pieces_octets (Piece.Name ∷ ks) p) 0 0 ≡ 0x80 → ⊥
unfolding pieces_octets piece_octets tlv
not-version ks p some z =
    let full : tlv 0xA1 p.name ≡ piece_octets Piece.Name p = ne (length p.name) 0 [] (tlv 0xA1 p.name) some refl in
    let w : ◌≡◌ {A = ℕ} 0xA1 0x80 = ap (λ (o : List ℕ). get_or (o ++ pieces_octets ks p) 0 0) full ∙ z in
    omega arith

not_after : (p : Parts) → get_or (pieces_octets [] p) 0 0 ≡ 0xBE → ⊥
unfolding pieces_octets
not_after p z = omega arith

-- DIALOGUE REQUEST, RESPONSE, UNIDIRECTIONAL: user information only with a name
module _ (name info : List ℕ) (n : is_name name ≡ true) (i : is_information info ≡ true) (named : OnlyNamed name info) where
  is-named : (length name + length info ≡ 0 → ⊥) → length name ≡ 0 → ⊥
  is-named some z = some (omega (arith, z, named z))

  asking-told : (length name + length info ≡ 0 → ⊥) → AllTold (Piece.Version ∷ Piece.Name ∷ Piece.Information ∷ []) (plain name info)
  asking-told some = (not-version (Piece.Information ∷ []) (plain name info) (is-named some), (is-named some, ((λ _. not_after (plain name info)), tt)))

  pub aarq-spoken : length (portion_by aarq name info) ≤ most_waiting → spoken_in (portion_by aarq name info) ≡ spoken_by aarq name info
  aarq-spoken few = given-spoken ours-aarq name info n i few refl asking-told

  pub aare-spoken : length (portion_by aare name info) ≤ most_waiting → spoken_in (portion_by aare name info) ≡ spoken_by aare name info
  aare-spoken few =
      given-spoken ours-aare name info n i few refl
      (λ some. (
        not-version (Piece.Result ∷ Piece.Diagnostic ∷ Piece.Information ∷ []) (accepts name info) (is-named some),
        (is-named some, (omega arith, (omega arith, ((λ _. not_after (accepts name info)), tt)))),
      ))

  pub audt-spoken : length (portion_by audt name info) ≤ most_waiting → spoken_in (portion_by audt name info) ≡ spoken_by audt name info
  audt-spoken few = given-spoken ours-audt name info n i few refl asking-told

-- ABORT: user information alone
pub no_name : is_name [] ≡ true
unfolding is_name
no_name = sym (eq _ _ _ _ refl refl)

pub block-information : (info : List ℕ) → is_block info ≡ true → is_information info ≡ true
unfolding is_information
block-information info h = sym (either-eq _ _ _ _ refl (sym h))

pub abrt-spoken : (info : List ℕ) → is_block info ≡ true → length (portion_by abrt [] info) ≤ most_waiting → spoken_in (portion_by abrt [] info) ≡ spoken_by abrt [] info
abrt-spoken info i few =
    given-spoken ours-abrt [] info no_name (block-information info i) few refl (λ some. (omega arith, ((λ _. not_after (aborts [] info)), tt)))
