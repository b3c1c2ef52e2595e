-- WHAT THE FUNCTIONS DO, STEP BY STEP, against the definitions. Assumes nothing.
use Prim.Native.Nat.{ℕ, zero, suc, ◌+◌, ◌*◌, ◌-◌, ◌/◌, ◌%◌, ◌^◌, ◌<◌, ◌≤◌, min}
use Rattle.std.specs.Prelude.{Option, Some, None, is_some, eqb, Bool, cond, ◌≡◌, length, get_or, set, take}
use Rattle.std.proofs.Math.Bool.{true, false}
use Rattle.std.proofs.lemmas.Bool.{eqb-false}
use Rattle.std.proofs.Math.Path.{refl, sym, ap}
use Rattle.std.proofs.Common.{◌∙◌, subst, pow-suc, le-mul_of_pos_right, add-one, zero-add, append_assoc, drop-drop, arith, length-drop, drop-cons, take-suc, take_all, length-take-le, lt-ltb, eqb-true}
use mathlib.Core.List.{List, [], ◌∷◌, ◌++◌}
use Rattle.std.proofs.Math.ListN.{drop, drop_of_length-le}
use Rattle.std.proofs.lemmas.List.Edits.{sets, sets-eq}
use Rattle.std.proofs.lemmas.List.{drop-append-le, take-append-drop}
use borrow.Rule.Slice.PartMut.{put_mid, put_same}
use Rattle.io.specs.Digits.{hex_digit_ascii, IsDigitCount, last_digits as spelled}
use Rattle.laws.specs.If.{if_lt, if_eq, lt, ge, eq, ne, yes, no, by-lt, by-b}
use Rattle.program_digits.specs.Digits.{sign, digit, hex_digit, digits, decimal, hex, or_none, below, valued, dialogue, largest, in_base, read_decimal, negative, positive, read_id, is_hex, octets, read_here, octet_count, decoded}
use Rattle.std.specs.Bool.{then_some}
use Rattle.std.specs.Int.{to_be_bytes}
use mir.Syntax.{w32}
use Rattle.program_text.specs.Said.{Said, said_more, said-as}
use Rattle.program_digits.specs.Back.{same_digits, last_one, one_more, below-first, hex-parts}
use Rattle.laws.specs.Runs.{after, copied_more}

-- ---- the digits that the library spells are those of the number
glyph-sign : (d : ℕ) → d < 10 → hex_digit_ascii d ≡ sign d
unfolding sign
glyph-sign d h = lt d 10 (d + 48) (d + 55) h (ap (λ (b : Bool). cond b (48 + d) (87 + d)) (lt-ltb d 10 h) ∙ omega arith)

ten-pos : (k : ℕ) → 0 < 10 ^ k
ten-pos zero = omega arith
ten-pos (suc k) = omega (arith, ten-pos k, pow-suc 10 k)

spelled-digits : (k n : ℕ) → n < 10 ^ suc k → (1 < suc k → 10 ^ k ≤ n) → spelled 10 (suc k) n ≡ digits (suc k) n
spelled-digits zero n h l =
    let e : n % 10 ≡ n = omega arith in
    ap (λ (d : ℕ). d ∷ []) (ap hex_digit_ascii e ∙ glyph-sign n (omega arith)) ∙ sym (last_one 0 n (omega arith))
spelled-digits (suc k) n h l =
    let g = l (omega arith) in
    ap (λ (d : ℕ). spelled 10 (suc k) (n / 10) ++ (d ∷ [])) (glyph-sign (n % 10) (omega arith))
    ∙ ap (λ (t : List ℕ). t ++ (sign (n % 10) ∷ [])) (spelled-digits k (n / 10) (omega (arith, pow-suc 10 (suc k))) (λ _. omega (arith, pow-suc 10 k)))
    ∙ sym (one_more (suc k) n (omega (arith, pow-suc 10 k, ten-pos k)))

pub printed : (n k : ℕ) → n < 18446744073709551616 → IsDigitCount 10 1 n k → spelled 10 k n ≡ decimal n
unfolding decimal
printed n zero h f = absurd (omega (arith, f.0))
printed n (suc k) h f =
    let e : suc k - 1 ≡ k = omega arith in
    spelled-digits k n f.1 (λ p. subst (λ (j : ℕ). 10 ^ j ≤ n) e (f.2 p)) ∙ same_digits k 19 n f.1 (omega arith)

-- ---- a digit that there is, and none
pub digit_some : (x d : ℕ) → d ≡ digit x → d < 16 → Some d ≡ hex_digit x
unfolding hex_digit
digit_some x d e h = lt (digit x) 16 _ _ (omega arith) (ap Some e)

pub digit_none : (x : ℕ) → 16 ≡ digit x → None ≡ hex_digit x
unfolding hex_digit
digit_none x e = ge (digit x) 16 _ _ (omega arith) refl

pub some_digit : (x d : ℕ) → Some d ≡ hex_digit x → (d ≡ digit x) × (d < 16)
unfolding hex_digit
some_digit x d e = by-lt (digit x) 16 _ _ e (λ l f. let g : d ≡ digit x = cc in (g, omega arith)) (λ l f. (cc))

digit_found : (x : ℕ) {r : Option ℕ} → digit x < 16 → r ≡ hex_digit x → is_some r ≡ true
unfolding hex_digit
digit_found x h e = by-lt (digit x) 16 _ _ e (λ l f. ap is_some f) (λ l f. absurd (omega arith))

pub no_digit : (x : ℕ) → None ≡ hex_digit x → 16 ≤ digit x
unfolding hex_digit
no_digit x e = by-lt (digit x) 16 _ _ e (λ l f. (cc)) (λ l f. l)

-- ---- the octets of a number of 32 bits
pub of_bytes : (n : ℕ) (r : List ℕ) → n < 4294967296 → r ≡ to_be_bytes w32 n → hex (get_or r 0 0 ∷ (get_or r 1 0 ∷ (get_or r 2 0 ∷ (get_or r 3 0 ∷ [])))) ≡ dialogue n
unfolding dialogue
of_bytes n r h e =
    ap (λ (t : List ℕ). hex (get_or t 0 0 ∷ (get_or t 1 0 ∷ (get_or t 2 0 ∷ (get_or t 3 0 ∷ []))))) e
    ∙ ap (λ (k : ℕ). hex (k ∷ (n / 65536 % 256 ∷ (n / 256 % 256 ∷ (n % 256 ∷ []))))) (omega arith)

-- ---- a number that begins with `0`
pub zero_alone : (s : List ℕ) {b : Bool} {r : Option ℕ} → 0 < length s → get_or s 0 0 ≡ 48 → b ≡ eqb (length (take (length s - 1) (drop 1 s))) 0 → r ≡ then_some b 0 → r ≡ read_decimal s
unfolding read_decimal
zero_alone s {b} {r} h f e p = ne _ _ _ _ (λ z. omega arith) (eq _ _ _ _ f (go b e p))
  where
    rest : length (take (length s - 1) (drop 1 s)) ≡ length s - 1
    rest = length-take-le (length s - 1) (drop 1 s) (omega (arith, length-drop 1 s))

    go : (b : Bool) → b ≡ eqb (length (take (length s - 1) (drop 1 s))) 0 → r ≡ then_some b 0 → r ≡ if_eq (length s) 1 (Some 0) None
    go true e p = eq _ _ _ _ (omega (arith, rest, eqb-true _ _ (sym e))) p
    go false e p = ne _ _ _ _ (λ z. eqb-false _ _ (sym e) (omega (arith, rest))) p

-- ---- an invoke ID with its sign, and without
pub id_minus : (s : List ℕ) {m r : Option ℕ} → 0 < length s → get_or s 0 0 ≡ 45 → m ≡ read_decimal (take (length s - 1) (drop 1 s)) → r ≡ negative m → r ≡ read_id s
unfolding read_id
id_minus s h f e p =
    ne _ _ _ _ (λ z. omega arith) (eq _ _ _ _ f (p ∙ ap negative (e ∙ ap read_decimal (take_all (length s - 1) (drop 1 s) (omega (arith, length-drop 1 s))))))

pub id_plain : (s : List ℕ) {m r : Option ℕ} → 0 < length s → (get_or s 0 0 ≡ 45 → ⊥) → m ≡ read_decimal s → r ≡ positive m → r ≡ read_id s
unfolding read_id
id_plain s h f e p = ne _ _ _ _ (λ z. omega arith) (ne _ _ _ _ f (p ∙ ap positive e))

-- ---- octets in hex, one after another
hex-append : (s t : List ℕ) → hex (s ++ t) ≡ hex s ++ hex t
unfolding hex
hex-append [] t = refl
hex-append (x ∷ s) t = ap (λ (u : List ℕ). sign (x / 16) ∷ (sign (x % 16) ∷ u)) (hex-append s t)

pub hex-next : {l m n : List ℕ} {at p q : ℕ} (s : List ℕ) (i : ℕ) → i < length s → Said l at (hex (take i s)) p m → Said m p (hex (get_or s i 0 ∷ [])) q n
    → Said l at (hex (take (i + 1) s)) q n
hex-next s i h a b = said-as (said_more a b) (sym (hex-append (take i s) (get_or s i 0 ∷ [])) ∙ ap hex (sym (take-suc s i 0 h) ∙ ap (λ (k : ℕ). take k s) (sym (add-one i))))

or_some : (s : List ℕ) → (length s ≡ 0 → ⊥) → hex s ≡ or_none (hex s)
unfolding hex or_none
or_some [] h = absurd (h refl)
or_some (x ∷ s) h = refl

or-none : (s : List ℕ) → length s ≡ 0 → 45 ∷ [] ≡ or_none (hex s)
unfolding hex or_none
or-none [] h = refl
or-none (x ∷ s) h = absurd (omega arith)

pub hex-all : {l m : List ℕ} {at p : ℕ} (s : List ℕ) (i : ℕ) → (length s ≡ 0 → ⊥) → length s ≤ i → Said l at (hex (take i s)) p m → Said l at (or_none (hex s)) p m
hex-all s i z h a = said-as a (ap hex (take_all i s h) ∙ or_some s z)

pub hex-none : {l m : List ℕ} {at p : ℕ} (s : List ℕ) → length s ≡ 0 → Said l at (45 ∷ []) p m → Said l at (or_none (hex s)) p m
hex-none s z a = said-as a (or-none s z)

-- ---- the digits of a number, one after another: cut to 32 bits at each, it is as cut at the end
capped : (v b d : ℕ) → 0 < b → min (min v largest * b + d) largest ≡ min (v * b + d) largest
capped v b d h = by-lt {A = ℕ} {r = if_lt largest v 0 0} largest v 0 0 refl
    (λ l _. let e : min v largest ≡ largest = omega arith in ap (λ (k : ℕ). min (k * b + d) largest) e ∙ omega (arith, le-mul_of_pos_right v h))
    (λ l _. let e : min v largest ≡ v = omega arith in ap (λ (k : ℕ). min (k * b + d) largest) e)

valued-cap : (b : ℕ) (s : List ℕ) (v w : ℕ) → 0 < b → min v largest ≡ min w largest → min (valued b v s) largest ≡ min (valued b w s) largest
unfolding valued
valued-cap b [] v w h e = e
valued-cap b (x ∷ s) v w h e = valued-cap b s (v * b + digit x) (w * b + digit x) h
    (sym (capped v b (digit x) h) ∙ ap (λ (k : ℕ). min (k * b + digit x) largest) e ∙ capped w b (digit x) h)

-- of digits of which i are read
pub record Left (b : ℕ) (s : List ℕ) (v i : ℕ) : Type 0 where
  pub within : i ≤ length s
  pub fits : v ≤ largest
  pub all : below b s ≡ below b (drop i s)
  pub same : min (valued b 0 s) largest ≡ min (valued b v (drop i s)) largest

module _ (b : ℕ) (s : List ℕ) where
  pub left-first : Left b s 0 0
  left-first = record { within = omega arith; fits = omega arith; all = refl; same = refl }

  pub left-next : (v w i : ℕ) → 0 < b → i < length s → digit (get_or s i 0) < b → w ≡ min (v * b + digit (get_or s i 0)) largest → Left b s v i → Left b s w (i + 1)
  unfolding below valued
  left-next v w i z h l e a = record {
    within = omega arith;
    fits = omega arith;
    all = a.all ∙ ap (below b) (drop-cons s i 0 h) ∙ sym (lt _ _ _ _ l refl) ∙ ap (λ (k : ℕ). below b (drop k s)) (sym (add-one i));
    same = a.same ∙ ap (λ (t : List ℕ). min (valued b v t) largest) (drop-cons s i 0 h) ∙ valued-cap b (drop (suc i) s) (v * b + digit (get_or s i 0)) w z (omega arith)
        ∙ ap (λ (k : ℕ). min (valued b w (drop k s)) largest) (sym (add-one i));
  }

  pub left-none : (v i : ℕ) → i < length s → b ≤ digit (get_or s i 0) → Left b s v i → None ≡ in_base b s
  unfolding below in_base
  left-none v i h l a = no (below b s) _ _ (a.all ∙ ap (below b) (drop-cons s i 0 h) ∙ sym (ge _ _ _ _ l refl)) refl

  pub left-all : (v i : ℕ) → length s ≤ i → Left b s v i → Some v ≡ in_base b s
  unfolding below valued in_base
  left-all v i h a =
      let e : drop i s ≡ [] = drop_of_length-le s h in
      let f : min (valued b 0 s) largest ≡ min v largest = a.same ∙ ap (λ (t : List ℕ). min (valued b v t) largest) e in
      yes (below b s) _ _ (a.all ∙ ap (below b) e) (ap Some (omega (arith, a.fits)))

  pub base_ok : is_some (in_base b s) ≡ below b s
  unfolding in_base
  base_ok = by-b {r = in_base b s} (below b s) _ _ refl (λ t e. ap is_some e ∙ sym t) (λ t e. ap is_some e ∙ sym t)

-- ---- octets of which i are read, in the place of their digits
octet-at : (s : List ℕ) (i : ℕ) → 2 * i + 1 < length s → get_or (octets s) i 0 ≡ digit (get_or s (2 * i) 0) * 16 + digit (get_or s (2 * i + 1) 0)
unfolding octets
octet-at [] i h = absurd (omega arith)
octet-at (x ∷ []) i h = absurd (omega arith)
octet-at (x ∷ (y ∷ s)) zero h = refl
octet-at (x ∷ (y ∷ s)) (suc i) h =
    let a : 2 * suc i ≡ suc (suc (2 * i)) = omega arith in
    let b : 2 * suc i + 1 ≡ suc (suc (2 * i + 1)) = omega arith in
    octet-at s i (omega arith) ∙ ap (λ (k : ℕ). digit (get_or (x ∷ (y ∷ s)) k 0) * 16 + digit (get_or s (2 * i + 1) 0)) (sym a)
    ∙ ap (λ (k : ℕ). digit (get_or (x ∷ (y ∷ s)) (2 * suc i) 0) * 16 + digit (get_or (x ∷ (y ∷ s)) k 0)) (sym b)

octets-length : (s : List ℕ) → length (octets s) ≡ length s / 2
unfolding octets
octets-length [] = refl
octets-length (x ∷ []) = refl
octets-length (x ∷ (y ∷ s)) = omega (arith, octets-length s)

below_at : (b : ℕ) (s : List ℕ) (i : ℕ) → below b s ≡ true → i < length s → digit (get_or s i 0) < b
below_at b [] i e h = absurd (omega arith)
below_at b (x ∷ s) zero e h = (below-first b x s e).0
below_at b (x ∷ s) (suc i) e h = below_at b s i (below-first b x s e).1 (omega arith)

-- the octets of a text s, of which m has i in its own place
module _ (s : List ℕ) (h : is_hex s ≡ true) where
  module _ (m : List ℕ) (i : ℕ) (g : m ≡ sets s 0 (take i (octets s))) (f : i < length s / 2) where
    still : (k : ℕ) → 2 * i ≤ k → get_or m k 0 ≡ get_or s k 0
    still k z = ap (λ (t : List ℕ). get_or t k 0) g ∙ after s 0 (take i (octets s)) k (omega (arith, length-take-le i (octets s) (omega (arith, octets-length s))))

    pub decode-some : (k : ℕ) {r : Option ℕ} → 2 * i ≤ k → k < length s → r ≡ hex_digit (get_or m k 0) → is_some r ≡ true
    decode-some k z w e = digit_found (get_or m k 0) (subst (λ (x : ℕ). digit x < 16) (sym (still k z)) (below_at 16 s k (hex-parts s h).1 w)) e

    pub decode-next : (x y v : ℕ) → x ≡ digit (get_or m (2 * i) 0) → y ≡ digit (get_or m (2 * i + 1) 0) → v ≡ x * 16 + y → set m i v ≡ sets s 0 (take (i + 1) (octets s))
    decode-next x y v c d b =
        let u : v ≡ get_or (octets s) i 0 = omega (arith, c, d, b, ap digit (still (2 * i) (omega arith)), ap digit (still (2 * i + 1) (omega arith)), octet-at s i (omega arith)) in
        ap (set m i) u ∙ ap (λ (k : ℕ). set m k (get_or (octets s) i 0)) (sym (zero-add i)) ∙ copied_more s m 0 (octets s) i g (omega (arith, octets-length s))

  pub decode-all : (m : List ℕ) (i : ℕ) → length s / 2 ≤ i → m ≡ sets s 0 (take i (octets s)) → m ≡ sets s 0 (octets s)
  decode-all m i f g = g ∙ ap (sets s 0) (take_all i _ (omega (arith, octets-length s)))

pub no_octets : (s : List ℕ) → None ≡ octet_count s → is_hex s ≡ false
unfolding octet_count
no_octets s e = by-b (is_hex s) _ _ e (λ t f. (cc)) (λ t f. t)

pub some_octets : (s : List ℕ) (n : ℕ) → Some n ≡ octet_count s → (is_hex s ≡ true) × (n ≡ length s / 2)
unfolding octet_count
some_octets s n e = by-b (is_hex s) _ _ e (λ t f. let g : n ≡ length s / 2 = cc in (t, g)) (λ t f. (cc))

-- ---- a part of a line, put back with values from its start
part_sets : (l : List ℕ) (a k : ℕ) (vs : List ℕ) → a + k ≤ length l → length vs ≤ k → put_mid a k l (sets (take k (drop a l)) 0 vs) ≡ sets l a vs
part_sets l a k vs h w =
    let part : List ℕ = take k (drop a l) in
    let size : length part ≡ k = length-take-le k (drop a l) (omega (arith, length-drop a l)) in
    ap (λ (t : List ℕ). take a l ++ (t ++ drop k (drop a l))) (sets-eq vs part 0 (omega arith))
    ∙ ap (λ (n : ℕ). take a l ++ (vs ++ drop n part ++ drop k (drop a l))) (zero-add (length vs))
    ∙ ap (λ (t : List ℕ). take a l ++ t) (append_assoc vs (drop (length vs) part) (drop k (drop a l)))
    ∙ ap (λ (t : List ℕ). take a l ++ (vs ++ t)) (sym (drop-append-le (length vs) part (drop k (drop a l)) (omega arith)))
    ∙ ap (λ (t : List ℕ). take a l ++ (vs ++ drop (length vs) t)) (take-append-drop k (drop a l))
    ∙ ap (λ (t : List ℕ). take a l ++ (vs ++ t)) (drop-drop (length vs) a l)
    ∙ sym (append_assoc (take a l) vs (drop (a + length vs) l)) ∙ sym (sets-eq vs l a (omega arith))

pub part-decoded : (l : List ℕ) (a e : ℕ) → a ≤ e → e ≤ length l → put_mid a (e - a) l (read_here (take (e - a) (drop a l))) ≡ decoded a e l
unfolding read_here decoded
part-decoded l a e p q = by-b {r = decoded a e l} (is_hex (take (e - a) (drop a l))) _ _ refl
    (λ t f. ap (put_mid a (e - a) l) (sym (yes _ _ _ t refl))
    ∙ part_sets l a (e - a) (octets (take (e - a) (drop a l))) (omega arith) (omega (arith, octets-length (take (e - a) (drop a l)), length-take-le (e - a) (drop a l) (omega (arith, length-drop a l)))) ∙ sym f)
    (λ t f. ap (put_mid a (e - a) l) (sym (no _ _ _ t refl)) ∙ put_same a (e - a) l ∙ sym f)
