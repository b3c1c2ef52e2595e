-- WHAT IS PRINTED IS READ BACK, and what is read is printed again as the same text: numbers in decimal, invoke IDs with their sign, octets and
-- dialogues in hex (read in either case, printed in capitals). Assumes nothing.
use Rattle.std.specs.Prelude.{Option, Some, None, ℕ, zero, suc, ◌+◌, ◌*◌, ◌-◌, ◌/◌, ◌%◌, ◌^◌, ◌<◌, ◌≤◌, min, true, false, ◌≡◌, refl, List, [], ◌∷◌, ◌++◌, map, length, get_or, drop}
use Rattle.std.proofs.Common.{sym, ap, ◌∙◌, subst, append_assoc, append-nil, pow-suc, add-zero, zero-add, arith, length-append}
use Rattle.std.proofs.Math.ListN.{get_or-append}
use Rattle.laws.specs.If.{if_lt, if_eq, lt, ge, eq, ne, yes, by-lt, by-eq, by-b, true-false}
use Rattle.program_digits.specs.Digits.{sign, digit, digits, decimal, hex, dialogue, invoke_id, below, valued, largest, in_base, read_decimal, read_dialogue, negative, positive, read_id, is_hex, octets}

-- ---- A DIGIT AND ITS OCTET
pub digit-sign : (d : ℕ) → d < 16 → digit (sign d) ≡ d
unfolding digit sign
digit-sign d h = by-lt {r = sign d} d 10 (d + 48) (d + 55) refl
    (λ l e. ap digit e ∙ sym (ge _ _ _ _ (omega arith) (lt _ _ _ _ (omega arith) (omega arith))))
    (λ l e. ap digit e ∙ sym (ge _ _ _ _ (omega arith) (ge _ _ _ _ (omega arith) (ge _ _ _ _ (omega arith) (lt _ _ _ _ (omega arith) (omega arith))))))

-- a digit below 10 has one octet
decimal-sign : (x : ℕ) → digit x < 10 → sign (digit x) ≡ x
unfolding digit sign
decimal-sign x h = by-lt {r = digit x} x 48 _ _ refl
    (λ l e. absurd (omega (arith, h, e)))
    (λ a e. by-lt x 58 _ _ e
    (λ l e. sym (lt _ _ _ _ h (omega arith)))
    (λ l e. by-lt x 65 _ _ e
    (λ l e. absurd (omega (arith, h, e)))
    (λ b e. by-lt x 71 _ _ e
    (λ l e. absurd (omega (arith, h, e)))
    (λ l e. by-lt x 97 _ _ e
    (λ l e. absurd (omega (arith, h, e)))
    (λ d e. by-lt x 103 _ _ e (λ l e. absurd (omega (arith, h, e))) (λ l e. absurd (omega (arith, h, e))))))))

-- `0`, and `-`, which is none
of-48 : digit 48 ≡ 0
unfolding digit if_lt
of-48 = refl

sign-0 : sign 0 ≡ 48
unfolding sign if_lt
sign-0 = refl

of-45 : digit 45 ≡ 16
unfolding digit if_lt
of-45 = refl

-- ---- TEXTS JOINED
pub below-first : (b x : ℕ) (s : List ℕ) → below b (x ∷ s) ≡ true → (digit x < b) × (below b s ≡ true)
unfolding below
below-first b x s e = by-lt (digit x) b (below b s) false (sym e) (λ l q. (l, sym q)) (λ l q. absurd (true-false q))

below_more : (b x : ℕ) (s : List ℕ) → digit x < b → below b s ≡ true → below b (x ∷ s) ≡ true
unfolding below
below_more b x s h e = sym (lt (digit x) b (below b s) false h (sym e))

below-append : (b : ℕ) (s t : List ℕ) → below b s ≡ true → below b t ≡ true → below b (s ++ t) ≡ true
below-append b [] t p q = q
below-append b (x ∷ s) t p q = let f = below-first b x s p in below_more b x (s ++ t) f.0 (below-append b s t f.1 q)

valued-append : (b v : ℕ) (s t : List ℕ) → valued b v (s ++ t) ≡ valued b (valued b v s) t
unfolding valued
valued-append b v [] t = refl
valued-append b v (x ∷ s) t = valued-append b (v * b + digit x) s t

-- ---- DECIMAL, PRINTED AND READ
pub one_more : (k n : ℕ) → 10 ≤ n → digits (suc k) n ≡ digits k (n / 10) ++ (sign (n % 10) ∷ [])
unfolding digits
one_more k n h = sym (ge n 10 _ _ h refl)

pub last_one : (k n : ℕ) → n < 10 → digits (suc k) n ≡ sign n ∷ []
unfolding digits
last_one k n h = sym (lt n 10 _ _ h refl)

pub record Reads (n : ℕ) (s : List ℕ) : Type 0 where
  pub all : below 10 s ≡ true
  pub same : valued 10 0 s ≡ n
  pub some : 0 < length s
  pub leads : 0 < n → 0 < digit (get_or s 0 0)
  pub first : digit (get_or s 0 0) < 10

one-read : (n : ℕ) → n < 10 → Reads n (sign n ∷ [])
unfolding valued below
one-read n h =
    let e = digit-sign n (omega arith) in
    record { all = below_more 10 (sign n) [] (omega arith) refl; same = omega arith; some = omega arith; leads = λ p. omega arith; first = omega arith }

more-read : (n : ℕ) (s : List ℕ) → 10 ≤ n → Reads (n / 10) s → Reads n (s ++ (sign (n % 10) ∷ []))
unfolding valued below
more-read n s h r =
    let e = digit-sign (n % 10) (omega arith) in
    let f = get_or-append s (sign (n % 10) ∷ []) 0 0 r.some in
    record {
      all = below-append 10 s _ r.all (below_more 10 (sign (n % 10)) [] (omega arith) refl);
      same = valued-append 10 0 s (sign (n % 10) ∷ []) ∙ omega (arith, r.same);
      some = omega (arith, length-append s (sign (n % 10) ∷ []), r.some);
      leads = λ p. omega (arith, ap digit f, r.leads (omega arith));
      first = omega (arith, ap digit f, r.first);
    }

digits-read : (k n : ℕ) → n < 10 ^ suc k → Reads n (digits (suc k) n)
digits-read zero n h = subst (Reads n) (sym (last_one 0 n (omega arith))) (one-read n (omega arith))
digits-read (suc k) n h = by-lt {A = ℕ} {r = if_lt n 10 0 0} n 10 0 0 refl
    (λ l _. subst (Reads n) (sym (last_one (suc k) n l)) (one-read n l))
    (λ l _. subst (Reads n) (sym (one_more (suc k) n l)) (more-read n (digits (suc k) (n / 10)) l (digits-read k (n / 10) (omega (arith, pow-suc 10 (suc k))))))

zero-back : read_decimal (decimal 0) ≡ Some 0
unfolding read_decimal decimal digits sign if_lt if_eq
zero-back = refl

-- what is printed is read back
pub decimal-back : (n : ℕ) → n ≤ largest → read_decimal (decimal n) ≡ Some n
unfolding read_decimal decimal in_base
decimal-back zero h = zero-back
decimal-back (suc n) h = back (digits 20 (suc n)) (digits-read 19 (suc n) (omega arith))
  where
    back : (s : List ℕ) → Reads (suc n) s → read_decimal s ≡ Some (suc n)
    back s r = sym (ne (length s) 0 _ _ (λ e. omega (arith, r.some)) (ne (get_or s 0 0) 48 _ _ (λ f. omega (arith, ap digit f, of-48, r.leads (omega arith)))
        (yes (below 10 s) _ _ r.all (ap Some (omega (arith, r.same))))))

-- however many digits there may be, a number has its own
pub same_digits : (j k n : ℕ) → n < 10 ^ suc j → n < 10 ^ suc k → digits (suc j) n ≡ digits (suc k) n
same_digits zero zero n p q = refl
same_digits zero (suc k) n p q = last_one 0 n (omega arith) ∙ sym (last_one (suc k) n (omega arith))
same_digits (suc j) zero n p q = last_one (suc j) n (omega arith) ∙ sym (last_one 0 n (omega arith))
same_digits (suc j) (suc k) n p q = by-lt {A = ℕ} {r = if_lt n 10 0 0} n 10 0 0 refl
    (λ l _. last_one (suc j) n l ∙ sym (last_one (suc k) n l))
    (λ l _. one_more (suc j) n l
    ∙ ap (λ (s : List ℕ). s ++ (sign (n % 10) ∷ [])) (same_digits j k (n / 10) (omega (arith, pow-suc 10 (suc j))) (omega (arith, pow-suc 10 (suc k))))
    ∙ sym (one_more (suc k) n l))

-- a number's digits and more digits after them
digits-after : (s : List ℕ) (v k m : ℕ) → 0 < v → v < 10 ^ suc k → m ≡ k + length s → below 10 s ≡ true
    → (valued 10 v s < 10 ^ suc m) × (digits (suc m) (valued 10 v s) ≡ digits (suc k) v ++ s)
unfolding valued
digits-after [] v k m p q e b =
    let f : m ≡ k = e ∙ add-zero k in
    (subst (λ (j : ℕ). v < 10 ^ suc j) (sym f) q, ap (λ (j : ℕ). digits (suc j) v) f ∙ sym (append-nil (digits (suc k) v)))
digits-after (x ∷ s) v k m p q e b =
    let f = below-first 10 x s b in
    let r = digits-after s (v * 10 + digit x) (suc k) m (omega arith) (omega (arith, f.0, pow-suc 10 (suc k))) (omega arith) f.1 in
    (r.0, r.1 ∙ ap (λ (t : List ℕ). t ++ s) (grown f.0) ∙ append_assoc (digits (suc k) v) (x ∷ []) s)
  where
    grown : digit x < 10 → digits (suc (suc k)) (v * 10 + digit x) ≡ digits (suc k) v ++ (x ∷ [])
    grown h =
        let a : (v * 10 + digit x) / 10 ≡ v = omega arith in
        let b : (v * 10 + digit x) % 10 ≡ digit x = omega arith in
        one_more (suc k) (v * 10 + digit x) (omega arith) ∙ ap (λ (n : ℕ). digits (suc k) n ++ (sign ((v * 10 + digit x) % 10) ∷ [])) a
        ∙ ap (λ (n : ℕ). digits (suc k) v ++ (n ∷ [])) (ap sign b ∙ decimal-sign x h)

-- what is read is printed again, unless it was too large
again : (s : List ℕ) → 0 < length s → 0 < digit (get_or s 0 0) → below 10 s ≡ true → valued 10 0 s ≤ largest → decimal (valued 10 0 s) ≡ s
unfolding decimal valued
again [] z l b q = absurd (omega arith)
again (x ∷ s) z l b q =
    let f = below-first 10 x s b in
    let r = digits-after s (digit x) 0 (length s) l (omega (arith, f.0)) (omega arith) f.1 in
    let e : valued 10 (digit x) s ≡ valued 10 0 (x ∷ s) = ap (λ (n : ℕ). valued 10 n s) (sym (zero-add (digit x))) in
    ap (digits 20) (sym e) ∙ same_digits 19 (length s) (valued 10 (digit x) s) (omega arith) r.0 ∙ r.1
    ∙ ap (λ (t : List ℕ). t ++ s) (last_one 0 (digit x) f.0 ∙ ap (λ (n : ℕ). n ∷ []) (decimal-sign x f.0))

zero-again : decimal 0 ≡ 48 ∷ []
unfolding decimal digits sign if_lt
zero-again = refl

-- a text that begins with `0` is that alone
only_zero : (s : List ℕ) → get_or s 0 0 ≡ 48 → length s ≡ 1 → s ≡ 48 ∷ []
only_zero [] f e = absurd (omega arith)
only_zero (x ∷ []) f e = ap (λ (n : ℕ). n ∷ []) f
only_zero (x ∷ (y ∷ s)) f e = absurd (omega arith)

leads-not : (s : List ℕ) → below 10 s ≡ true → 0 < length s → (get_or s 0 0 ≡ 48 → ⊥) → 0 < digit (get_or s 0 0)
leads-not [] b z f = absurd (omega arith)
leads-not (x ∷ s) b z f = by-eq {A = ℕ} {r = if_eq (digit x) 0 0 0} (digit x) 0 0 0 refl
    (λ e _. absurd (f (sym (decimal-sign x (omega arith)) ∙ ap sign e ∙ sign-0))) (λ e _. omega arith)

same_number : {a b : ℕ} → Some a ≡ Some b → a ≡ b
same_number e = cc

pub decimal-again : (s : List ℕ) (n : ℕ) → read_decimal s ≡ Some n → valued 10 0 s ≤ largest → decimal n ≡ s
unfolding read_decimal in_base
decimal-again s n e q = by-eq (length s) 0 _ _ (sym e)
    (λ z f. (cc))
    (λ z f. by-eq (get_or s 0 0) 48 _ _ f
    (λ h g. by-eq (length s) 1 _ _ g (λ l k. ap decimal (same_number k) ∙ zero-again ∙ sym (only_zero s h l)) (λ l k. (cc)))
    (λ h g. by-b (below 10 s) _ _ g
    (λ b k. ap decimal (same_number k ∙ omega arith) ∙ again s (omega arith) (leads-not s b (omega arith) h) b q)
    (λ b k. (cc))))

-- a number that is not too large is what its digits say
small-again : (s : List ℕ) (n : ℕ) → read_decimal s ≡ Some n → n < largest → decimal n ≡ s
unfolding read_decimal in_base valued
small-again s n e q = decimal-again s n e (by-eq (length s) 0 _ _ (sym e)
    (λ z f. (cc))
    (λ z f. by-eq (get_or s 0 0) 48 _ _ f
    (λ h g. by-eq (length s) 1 _ _ g (λ l k. omega (arith, of-48, ap (valued 10 0) (only_zero s h l))) (λ l k. (cc)))
    (λ h g. by-b (below 10 s) _ _ g (λ b k. omega (arith, same_number k)) (λ b k. (cc)))))

-- ---- INVOKE IDS, with their sign
decimal-reads : (x : ℕ) → x ≤ largest → Reads x (decimal x)
unfolding decimal
decimal-reads x h = digits-read 19 x (omega arith)

pub id-back : (x : ℕ) → x < 256 → read_id (invoke_id x) ≡ Some x
unfolding read_id invoke_id negative positive
id-back x h = by-lt {r = invoke_id x} x 128 _ _ refl
    (λ l e. ap read_id e ∙ let r = decimal-reads x (omega arith) in let b = decimal-back x (omega arith) in
    sym (ne (length (decimal x)) 0 _ _ (λ z. omega (arith, r.some)) (ne (get_or (decimal x) 0 0) 45 _ _ (λ f. omega (arith, ap digit f, of-45, r.first))
    (ge 127 x _ _ (omega arith) refl ∙ ap positive (sym b)))))
    (λ l e. ap read_id e ∙ let b = decimal-back (256 - x) (omega arith) in
    sym (ne (length (45 ∷ decimal (256 - x))) 0 _ _ (λ z. omega arith) (eq 45 45 _ _ refl
    (ne (256 - x) 0 _ _ (λ z. omega arith) (ge 128 (256 - x) _ _ (omega arith) (ap Some (omega arith))) ∙ ap negative (sym b)))))

first-and-rest : (s : List ℕ) (x : ℕ) → (length s ≡ 0 → ⊥) → get_or s 0 0 ≡ x → x ∷ drop 1 s ≡ s
first-and-rest [] x z e = absurd (z refl)
first-and-rest (y ∷ s) x z e = ap (λ (k : ℕ). k ∷ s) (sym e)

pub id-again : (s : List ℕ) (n : ℕ) → read_id s ≡ Some n → invoke_id n ≡ s
unfolding read_id invoke_id negative positive
id-again s n e = by-eq (length s) 0 _ _ (sym e)
    (λ z f. (cc))
    (λ z f. by-eq (get_or s 0 0) 45 _ _ f (λ h g. signed (read_decimal (drop 1 s)) refl g ∙ first-and-rest s 45 z h) (λ h g. plain (read_decimal s) refl g))
  where
    signed : (m : Option ℕ) → read_decimal (drop 1 s) ≡ m → Some n ≡ negative m → invoke_id n ≡ 45 ∷ drop 1 s
    signed None r g = cc
    signed (Some m) r g = by-eq m 0 _ _ g
        (λ a k. (cc))
        (λ a k. by-lt 128 m _ _ k
        (λ l k. (cc))
        (λ l k. let v : 256 - n ≡ m = omega (arith, same_number k) in
        sym (ge n 128 _ _ (omega (arith, same_number k)) refl) ∙ ap (λ (j : ℕ). 45 ∷ decimal j) v ∙ ap (λ (t : List ℕ). 45 ∷ t) (small-again (drop 1 s) m r (omega arith))))

    plain : (m : Option ℕ) → read_decimal s ≡ m → Some n ≡ positive m → invoke_id n ≡ s
    plain None r g = cc
    plain (Some m) r g = by-lt 127 m _ _ g
        (λ l k. (cc))
        (λ l k. sym (lt n 128 _ _ (omega (arith, same_number k)) refl) ∙ small-again s n (r ∙ sym k) (omega (arith, same_number k)))

-- ---- OCTETS IN HEX
abbrev pub capital : ℕ → ℕ
capital x = sign (digit x)

octet-signs : (x : ℕ) → x < 256 → digit (sign (x / 16)) * 16 + digit (sign (x % 16)) ≡ x
octet-signs x h = omega (arith, digit-sign (x / 16) (omega arith), digit-sign (x % 16) (omega arith))

hex-below : (x : ℕ) (s : List ℕ) → x < 256 → below 16 (hex s) ≡ true → below 16 (hex (x ∷ s)) ≡ true
unfolding hex
hex-below x s h b =
    below_more 16 _ _ (omega (arith, digit-sign (x / 16) (omega arith))) (below_more 16 _ _ (omega (arith, digit-sign (x % 16) (omega arith))) b)

hex-length : (s : List ℕ) → length (hex s) ≡ 2 * length s
unfolding hex
hex-length [] = refl
hex-length (x ∷ s) = omega (arith, hex-length s)

pub hex-parts : (s : List ℕ) → is_hex s ≡ true → (length s % 2 ≡ 0) × (below 16 s ≡ true)
unfolding is_hex
hex-parts s e = by-eq (length s % 2) 0 (below 16 s) false (sym e) (λ p q. (p, sym q)) (λ p q. absurd (true-false q))

pub octets-back : (s : List ℕ) → ((i : ℕ) → get_or s i 0 < 256) → (is_hex (hex s) ≡ true) × (octets (hex s) ≡ s)
unfolding is_hex hex octets below
octets-back [] h = (sym (eq 0 0 _ _ refl refl), refl)
octets-back (x ∷ s) h =
    let r = octets-back s (λ i. h (suc i)) in (
      sym (eq (length (hex (x ∷ s)) % 2) 0 _ _ (omega (arith, hex-length (x ∷ s))) (sym (hex-below x s (h 0) (hex-parts (hex s) r.0).1))),
      ap (λ (k : ℕ). k ∷ octets (hex s)) (octet-signs x (h 0)) ∙ ap (λ (t : List ℕ). x ∷ t) r.1,
    )

two-again : (s : List ℕ) → length s % 2 ≡ 0 → below 16 s ≡ true → hex (octets s) ≡ map capital s
unfolding hex octets
two-again [] e b = refl
two-again (x ∷ []) e b = absurd (omega arith)
two-again (x ∷ (y ∷ s)) e b =
    let f = below-first 16 x (y ∷ s) b in
    let g = below-first 16 y s f.1 in
    let p : (digit x * 16 + digit y) / 16 ≡ digit x = omega (arith, f.0, g.0) in
    let q : (digit x * 16 + digit y) % 16 ≡ digit y = omega (arith, f.0, g.0) in
    ap (λ (k : ℕ). sign k ∷ (sign ((digit x * 16 + digit y) % 16) ∷ hex (octets s))) p ∙ ap (λ (k : ℕ). capital x ∷ (sign k ∷ hex (octets s))) q
    ∙ ap (λ (t : List ℕ). capital x ∷ (capital y ∷ t)) (two-again s (omega arith) g.1)

pub octets-again : (s : List ℕ) → is_hex s ≡ true → hex (octets s) ≡ map capital s
octets-again s e = let r = hex-parts s e in two-again s r.0 r.1

-- ---- DIALOGUES
two-valued : (v x : ℕ) (s : List ℕ) → x < 256 → valued 16 v (hex (x ∷ s)) ≡ valued 16 (v * 256 + x) (hex s)
unfolding hex valued
two-valued v x s h = ap (λ (k : ℕ). valued 16 k (hex s)) (omega (arith, octet-signs x h))

four : (n : ℕ) → (((0 * 256 + n / 16777216) * 256 + n / 65536 % 256) * 256 + n / 256 % 256) * 256 + n % 256 ≡ n
four n = go (n / 16777216) (n / 65536 % 256) (n / 256 % 256) (n % 256) (n / 65536) (n / 256) (high n) (middle n) (lower n)
  where
    high : (n : ℕ) → n / 16777216 * 256 + n / 65536 % 256 ≡ n / 65536
    high n = omega arith

    middle : (n : ℕ) → n / 65536 * 256 + n / 256 % 256 ≡ n / 256
    middle n = omega arith

    lower : (n : ℕ) → n / 256 * 256 + n % 256 ≡ n
    lower n = omega arith

    go : (a x y z b c : ℕ) → a * 256 + x ≡ b → b * 256 + y ≡ c → c * 256 + z ≡ n → (((0 * 256 + a) * 256 + x) * 256 + y) * 256 + z ≡ n
    go a x y z b c p q r = omega arith

four-valued : (a b c d : ℕ) → a < 256 → b < 256 → c < 256 → d < 256
    → valued 16 0 (hex (a ∷ (b ∷ (c ∷ (d ∷ []))))) ≡ ((((0 * 256 + a) * 256 + b) * 256) + c) * 256 + d
unfolding hex valued
four-valued a b c d p q r s =
    two-valued 0 a (b ∷ (c ∷ (d ∷ []))) p ∙ two-valued (0 * 256 + a) b (c ∷ (d ∷ [])) q
    ∙ two-valued ((0 * 256 + a) * 256 + b) c (d ∷ []) r ∙ two-valued (((0 * 256 + a) * 256 + b) * 256 + c) d [] s

pub dialogue-back : (n : ℕ) → n ≤ largest → read_dialogue (dialogue n) ≡ Some n
unfolding read_dialogue dialogue in_base below hex
dialogue-back n h =
    let a = n / 16777216 in let b = n / 65536 % 256 in let c = n / 256 % 256 in let d = n % 256 in
    let z = four-valued a b c d (omega arith) (omega arith) (omega arith) (omega arith) ∙ four n in
    sym (eq (length (dialogue n)) 8 _ _ (hex-length (a ∷ (b ∷ (c ∷ (d ∷ [])))))
    (yes (below 16 (dialogue n)) _ _ (hex-below a (b ∷ (c ∷ (d ∷ []))) (omega arith) (hex-below b (c ∷ (d ∷ [])) (omega arith) (hex-below c (d ∷ []) (omega arith) (hex-below d [] (omega arith) refl))))
    (ap Some (sym (ap (λ (k : ℕ). min k largest) z ∙ low n h)))))
  where
    low : (n : ℕ) → n ≤ largest → min n largest ≡ n
    low n h = omega arith

-- the octets of a number of four
parted : (a b c d n : ℕ) → a < 256 → b < 256 → c < 256 → d < 256 → (((0 * 256 + a) * 256 + b) * 256 + c) * 256 + d ≡ n → dialogue n ≡ hex (a ∷ (b ∷ (c ∷ (d ∷ []))))
unfolding dialogue
parted a b c d n p q r s e =
    let x : n / 16777216 ≡ a = omega arith in
    let y : n / 65536 % 256 ≡ b = omega arith in
    let z : n / 256 % 256 ≡ c = omega arith in
    let w : n % 256 ≡ d = omega arith in
    ap (λ (k : ℕ). hex (k ∷ (n / 65536 % 256 ∷ (n / 256 % 256 ∷ (n % 256 ∷ []))))) x ∙ ap (λ (k : ℕ). hex (a ∷ (k ∷ (n / 256 % 256 ∷ (n % 256 ∷ []))))) y
    ∙ ap (λ (k : ℕ). hex (a ∷ (b ∷ (k ∷ (n % 256 ∷ []))))) z ∙ ap (λ (k : ℕ). hex (a ∷ (b ∷ (c ∷ (k ∷ []))))) w

eight-again : (s : List ℕ) (n : ℕ) → length s ≡ 8 → below 16 s ≡ true → min (valued 16 0 s) largest ≡ n → dialogue n ≡ hex (octets s)
unfolding octets valued
eight-again (a ∷ (b ∷ (c ∷ (d ∷ (e ∷ (f ∷ (g ∷ (h ∷ [])))))))) n l z v =
    let p = below-first 16 a _ z in let q = below-first 16 b _ p.1 in let r = below-first 16 c _ q.1 in let s = below-first 16 d _ r.1 in
    let t = below-first 16 e _ s.1 in let u = below-first 16 f _ t.1 in let w = below-first 16 g _ u.1 in let x = below-first 16 h _ w.1 in
    parted (digit a * 16 + digit b) (digit c * 16 + digit d) (digit e * 16 + digit f) (digit g * 16 + digit h) n
    (omega (arith, p.0, q.0)) (omega (arith, r.0, s.0)) (omega (arith, t.0, u.0)) (omega (arith, w.0, x.0)) (omega (arith, v))
eight-again [] n l z v = absurd (omega arith)
eight-again (a ∷ []) n l z v = absurd (omega arith)
eight-again (a ∷ (b ∷ [])) n l z v = absurd (omega arith)
eight-again (a ∷ (b ∷ (c ∷ []))) n l z v = absurd (omega arith)
eight-again (a ∷ (b ∷ (c ∷ (d ∷ [])))) n l z v = absurd (omega arith)
eight-again (a ∷ (b ∷ (c ∷ (d ∷ (e ∷ []))))) n l z v = absurd (omega arith)
eight-again (a ∷ (b ∷ (c ∷ (d ∷ (e ∷ (f ∷ [])))))) n l z v = absurd (omega arith)
eight-again (a ∷ (b ∷ (c ∷ (d ∷ (e ∷ (f ∷ (g ∷ []))))))) n l z v = absurd (omega arith)
eight-again (a ∷ (b ∷ (c ∷ (d ∷ (e ∷ (f ∷ (g ∷ (h ∷ (i ∷ s))))))))) n l z v = absurd (omega arith)

pub dialogue-again : (s : List ℕ) (n : ℕ) → read_dialogue s ≡ Some n → dialogue n ≡ map capital s
unfolding read_dialogue in_base
dialogue-again s n e = by-eq (length s) 8 _ _ (sym e)
    (λ l f. by-b (below 16 s) _ _ f
    (λ b g. eight-again s n l b (sym (same_number g)) ∙ two-again s (omega arith) b)
    (λ b g. (cc)))
    (λ l f. (cc))

-- a number has at most as many digits as there may be
pub digits-few : (k n : ℕ) → length (digits k n) ≤ k
unfolding digits
digits-few zero n = omega arith
digits-few (suc k) n = by-lt {A = List ℕ} {r = digits (suc k) n} n 10 _ _ refl
    (λ l e. omega (arith, ap length e)) (λ l e. omega (arith, ap length e, length-append (digits k (n / 10)) (sign (n % 10) ∷ []), digits-few k (n / 10)))

pub decimal-few : (n : ℕ) → length (decimal n) ≤ 20
unfolding decimal
decimal-few n = digits-few 20 n
