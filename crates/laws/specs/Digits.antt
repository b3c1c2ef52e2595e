-- Binary digits: of a word and of octets, the lowest that is set, how many are; against the machine's counts. Assumes nothing.
use Rattle.std.specs.Prelude.{ℕ, zero, suc, ◌+◌, ◌*◌, ◌-◌, ◌/◌, ◌%◌, ◌^◌, ◌≤◌, ◌<◌, ◌≡◌, refl, List, [], ◌∷◌, ◌++◌, length, get_or, set, take, drop}
use Rattle.std.proofs.Common.{sym, ap, subst, ◌∙◌, pow-suc, add_assoc, suc-add, zero-add, mul_assoc, mul_comm, arith, length-drop, length-append, take-append-drop, get_or-append-add, length-take-le, take_at, drop_at, get_or-drop}
use Rattle.std.proofs.Math.Nat.{div-div-eq-div-mul}
use Rattle.std.proofs.Math.ListN.{get_or-append}
use Rattle.std.proofs.lemmas.List.{set-append_left}
use Rattle.std.proofs.Math.Arith.{lt-one}
use Rattle.std.specs.Int.Count.{ones, ones_step, count_trailing_zeros, under}

-- the k lowest binary digits of n, lowest first
unfoldable pub digits : ℕ → ℕ → List ℕ
digits zero n = []
digits (suc k) n = n % 2 ∷ digits k (n / 2)

-- the index of the first digit that is not 0, or the length where there is none
unfoldable pub lowest : List ℕ → ℕ
lowest [] = 0
lowest (zero ∷ l) = suc (lowest l)
lowest (suc d ∷ l) = 0

-- how many digits are set
unfoldable pub count : List ℕ → ℕ
count [] = 0
count (d ∷ l) = d + count l

-- eight octets as a word, low first
abbrev pub word_at : List ℕ → ℕ → ℕ
word_at s a =
    get_or s a 0 + get_or s (a + 1) 0 * 256 + get_or s (a + 2) 0 * 65536 + get_or s (a + 3) 0 * 16777216 + get_or s (a + 4) 0 * 4294967296
    + get_or s (a + 5) 0 * 1099511627776 + get_or s (a + 6) 0 * 281474976710656 + get_or s (a + 7) 0 * 72057594037927936

-- the digits of a run of octets, eight an octet
unfoldable pub octet_digits : List ℕ → List ℕ
octet_digits [] = []
octet_digits (b ∷ bs) = digits 8 b ++ octet_digits bs

-- binary digits, lowest first, as a number; eight an octet
unfoldable pub packed : List ℕ → ℕ
packed [] = 0
packed (d ∷ l) = d + 2 * packed l

unfoldable pub packed_octets : ℕ → List ℕ → List ℕ
packed_octets zero l = []
packed_octets (suc n) l = packed (take 8 l) ∷ packed_octets n (drop 8 l)

pub digits-length : (k n : ℕ) → length (digits k n) ≡ k
unfolding digits
digits-length zero n = refl
digits-length (suc k) n = ap suc (digits-length k (n / 2))

-- halving and 2 ^ (k + 1)
pub half_lt : (k n : ℕ) → n < 2 ^ suc k → n / 2 < 2 ^ k
half_lt k n h = omega (arith, pow-suc 2 k)

-- ---- the lowest digit that is set
under-lowest : (d : ℕ) (l : List ℕ) → under d (lowest l) ≡ lowest (d ∷ l)
unfolding lowest
under-lowest zero l = refl
under-lowest (suc d) l = refl

pub trailing-lowest : (k n : ℕ) → count_trailing_zeros k n ≡ lowest (digits k n)
unfolding count_trailing_zeros digits lowest
trailing-lowest zero n = refl
trailing-lowest (suc k) n = ap (under (n % 2)) (trailing-lowest k (n / 2)) ∙ under-lowest (n % 2) (digits k (n / 2))

pub lowest-hit : (a b : List ℕ) → lowest a < length a → lowest (a ++ b) ≡ lowest a
unfolding lowest
lowest-hit [] b h = absurd (omega arith)
lowest-hit (zero ∷ a) b h = ap suc (lowest-hit a b (omega arith))
lowest-hit (suc d ∷ a) b h = refl

pub lowest-miss : (a b : List ℕ) → lowest a ≡ length a → lowest (a ++ b) ≡ length a + lowest b
unfolding lowest
lowest-miss [] b h = omega arith
lowest-miss (zero ∷ a) b h = ap suc (lowest-miss a b (omega arith)) ∙ sym (suc-add (length a) (lowest b))
lowest-miss (suc d ∷ a) b h = absurd (omega arith)

-- a number that is not 0 has a digit that is set
lowest-some : (k n : ℕ) → n < 2 ^ k → 0 < n → lowest (digits k n) < k
unfolding digits lowest
lowest-some zero n h p = absurd (omega arith)
lowest-some (suc k) n h p = go (λ q. lowest-some k (n / 2) (half_lt k n h) q) (n % 2) refl
  where
    go : (0 < n / 2 → lowest (digits k (n / 2)) < k) → (d : ℕ) → n % 2 ≡ d → lowest (d ∷ digits k (n / 2)) < suc k
    go f zero e = let z : lowest (digits k (n / 2)) < k = f (omega arith) in omega arith
    go f (suc d) e = omega arith

pub lowest-two : (lo hi : ℕ) → lo < 2 ^ 64 → 0 < lo → count_trailing_zeros 64 lo ≡ lowest (digits 64 lo ++ digits 64 hi)
lowest-two lo hi h p =
    trailing-lowest 64 lo
    ∙ sym (lowest-hit (digits 64 lo) (digits 64 hi) (subst (λ (n : ℕ). lowest (digits 64 lo) < n) (sym (digits-length 64 lo)) (lowest-some 64 lo h p)))

pub lowest-high : (lo hi : ℕ) → lo ≡ 0 → 64 + count_trailing_zeros 64 hi ≡ lowest (digits 64 lo ++ digits 64 hi)
unfolding digits lowest
lowest-high lo hi e =
    ap (λ (n : ℕ). 64 + n) (trailing-lowest 64 hi)
    ∙ sym (lowest-miss (digits 64 0) (digits 64 hi) refl)
    ∙ ap (λ (n : ℕ). lowest (digits 64 n ++ digits 64 hi)) (sym e)

-- ---- how many are set
pub count-append : (a b : List ℕ) → count (a ++ b) ≡ count a + count b
unfolding count
count-append [] b = omega arith
count-append (d ∷ a) b = ap (λ (n : ℕ). d + n) (count-append a b) ∙ sym (add_assoc d (count a) (count b))

pub ones-count : (k n : ℕ) → n < 2 ^ k → ones n ≡ count (digits k n)
unfolding digits count ones
ones-count zero n h = ap ones (lt-one h)
ones-count (suc k) n h = ones_step n ∙ ap (λ (x : ℕ). n % 2 + x) (ones-count k (n / 2) (half_lt k n h))

-- ---- one digit set or cleared
pub digits-add : (k n q : ℕ) → q < k → get_or (digits k n) q 0 ≡ 0 → digits k (n + 2 ^ q) ≡ set (digits k n) q 1
unfolding digits
digits-add zero n q l h = absurd (omega arith)
digits-add (suc k) n zero l h =
    let a : (n + 1) % 2 ≡ 1 = omega arith in
    let b : (n + 1) / 2 ≡ n / 2 = omega arith in
    cc
digits-add (suc k) n (suc q) l h =
    let a : (n + 2 ^ suc q) % 2 ≡ n % 2 = omega (arith, pow-suc 2 q) in
    let b : (n + 2 ^ suc q) / 2 ≡ n / 2 + 2 ^ q = omega (arith, pow-suc 2 q) in
    cc (digits-add k (n / 2) q (omega arith) h)

pub digit_room : (k n q : ℕ) → q < k → n < 2 ^ k → get_or (digits k n) q 0 ≡ 0 → n + 2 ^ q < 2 ^ k
unfolding digits
digit_room zero n q l m h = absurd (omega arith)
digit_room (suc k) n zero l m h = omega (arith, pow-suc 2 k)
digit_room (suc k) n (suc q) l m h = omega (arith, pow-suc 2 k, pow-suc 2 q, digit_room k (n / 2) q (omega arith) (half_lt k n m) h)

pub digit-le : (k n q : ℕ) → q < k → get_or (digits k n) q 0 ≡ 1 → 2 ^ q ≤ n
unfolding digits
digit-le zero n q l h = absurd (omega arith)
digit-le (suc k) n zero l h = omega arith
digit-le (suc k) n (suc q) l h = omega (arith, pow-suc 2 q, digit-le k (n / 2) q (omega arith) h)

pub digits-sub : (k n q : ℕ) → q < k → get_or (digits k n) q 0 ≡ 1 → digits k (n - 2 ^ q) ≡ set (digits k n) q 0
unfolding digits
digits-sub zero n q l h = absurd (omega arith)
digits-sub (suc k) n zero l h =
    let a : (n - 1) % 2 ≡ 0 = omega arith in
    let b : (n - 1) / 2 ≡ n / 2 = omega arith in
    cc
digits-sub (suc k) n (suc q) l h =
    let w : 2 ^ q ≤ n / 2 = digit-le k (n / 2) q (omega arith) h in
    let a : (n - 2 ^ suc q) % 2 ≡ n % 2 = omega (arith, pow-suc 2 q) in
    let b : (n - 2 ^ suc q) / 2 ≡ n / 2 - 2 ^ q = omega (arith, pow-suc 2 q) in
    cc (digits-sub k (n / 2) q (omega arith) h)

-- ---- octets and words
pub digits-cat : (j k r a : ℕ) → r < 2 ^ j → digits (j + k) (r + a * 2 ^ j) ≡ digits j r ++ digits k a
unfolding digits
digits-cat zero k r a h =
    let z : r + a * 1 ≡ a = omega (arith, lt-one h) in
    ap (λ (i : ℕ). digits i (r + a * 1)) (zero-add k) ∙ ap (digits k) z
digits-cat (suc j) k r a h =
    let e : a * 2 ^ suc j ≡ a * 2 ^ j * 2 = ap (λ (x : ℕ). a * x) (pow-suc 2 j) ∙ sym (mul_assoc a (2 ^ j) 2) in
    let x : (r + a * 2 ^ suc j) % 2 ≡ r % 2 = omega (arith, e) in
    let y : (r + a * 2 ^ suc j) / 2 ≡ r / 2 + a * 2 ^ j = omega (arith, e) in
    ap (λ (i : ℕ). digits i (r + a * 2 ^ suc j)) (suc-add j k)
    ∙ cc (digits-cat j k (r / 2) a (half_lt j r h))

pub word-digits : (s : List ℕ) (a : ℕ) → ((i : ℕ) → get_or s i 0 < 256)
    → digits 64 (word_at s a)
    ≡ digits 8 (get_or s a 0) ++ (digits 8 (get_or s (a + 1) 0) ++ (digits 8 (get_or s (a + 2) 0) ++ (digits 8 (get_or s (a + 3) 0)
    ++ (digits 8 (get_or s (a + 4) 0) ++ (digits 8 (get_or s (a + 5) 0) ++ (digits 8 (get_or s (a + 6) 0) ++ digits 8 (get_or s (a + 7) 0)))))))
word-digits s a h =
    let b : ℕ → ℕ = λ i. get_or s (a + i) 0 in
    let w6 : ℕ = b 6 + b 7 * 256 in
    let w5 : ℕ = b 5 + w6 * 256 in
    let w4 : ℕ = b 4 + w5 * 256 in
    let w3 : ℕ = b 3 + w4 * 256 in
    let w2 : ℕ = b 2 + w3 * 256 in
    let w1 : ℕ = b 1 + w2 * 256 in
    let e : word_at s a ≡ get_or s a 0 + w1 * 256 = omega arith in
    ap (digits 64) e
    ∙ digits-cat 8 56 (get_or s a 0) w1 (h a)
    ∙ ap (λ (l : List ℕ). digits 8 (get_or s a 0) ++ l)
    (digits-cat 8 48 (b 1) w2 (h (a + 1)) ∙ ap (λ (l : List ℕ). digits 8 (b 1) ++ l)
    (digits-cat 8 40 (b 2) w3 (h (a + 2)) ∙ ap (λ (l : List ℕ). digits 8 (b 2) ++ l)
    (digits-cat 8 32 (b 3) w4 (h (a + 3)) ∙ ap (λ (l : List ℕ). digits 8 (b 3) ++ l)
    (digits-cat 8 24 (b 4) w5 (h (a + 4)) ∙ ap (λ (l : List ℕ). digits 8 (b 4) ++ l)
    (digits-cat 8 16 (b 5) w6 (h (a + 5)) ∙ ap (λ (l : List ℕ). digits 8 (b 5) ++ l)
    (digits-cat 8 8 (b 6) (b 7) (h (a + 6))))))))

set_append_right : (x y : List ℕ) (k v : ℕ) → set (x ++ y) (length x + k) v ≡ x ++ set y k v
set_append_right [] y k v = ap (λ (i : ℕ). set y i v) (zero-add k)
set_append_right (a ∷ x) y k v = ap (λ (i : ℕ). set (a ∷ (x ++ y)) i v) (suc-add (length x) k) ∙ ap (λ (l : List ℕ). a ∷ l) (set_append_right x y k v)

-- an octet of the map changed in its digit q: the map's digit 8 i + q
pub map-set : (m : List ℕ) (i q b v : ℕ) → i < length m → q < 8 → digits 8 b ≡ set (digits 8 (get_or m i 0)) q v
    → octet_digits (set m i b) ≡ set (octet_digits m) (8 * i + q) v
unfolding octet_digits
map-set [] i q b v l h e = absurd (omega arith)
map-set (x ∷ m) zero q b v l h e =
    ap (λ (r : List ℕ). r ++ octet_digits m) e
    ∙ sym (set-append_left (digits 8 x) (octet_digits m) q v (subst (λ (n : ℕ). q < n) (sym (digits-length 8 x)) h))
    ∙ ap (λ (n : ℕ). set (digits 8 x ++ octet_digits m) n v) (sym (zero-add q))
map-set (x ∷ m) (suc i) q b v l h e =
    let n : 8 * suc i + q ≡ length (digits 8 x) + (8 * i + q) = omega (arith, digits-length 8 x) in
    ap (λ (r : List ℕ). digits 8 x ++ r) (map-set m i q b v (omega arith) h e)
    ∙ sym (set_append_right (digits 8 x) (octet_digits m) (8 * i + q) v)
    ∙ ap (λ (j : ℕ). set (digits 8 x ++ octet_digits m) j v) (sym n)

-- ---- octets and their digits
abbrev pub Binary : List ℕ → Type 0
Binary l = (i : ℕ) → get_or l i 0 < 2

pub digits-packed : (l : List ℕ) → Binary l → digits (length l) (packed l) ≡ l
unfolding digits packed
digits-packed [] h = refl
digits-packed (d ∷ l) h =
    let b : d < 2 = h 0 in
    let x : (d + 2 * packed l) % 2 ≡ d = omega arith in
    let y : (d + 2 * packed l) / 2 ≡ packed l = omega arith in
    cc (digits-packed l (λ i. h (suc i)))

pub packed-digits : (k n : ℕ) → n < 2 ^ k → packed (digits k n) ≡ n
unfolding digits packed
packed-digits zero n h = omega arith
packed-digits (suc k) n h = omega (arith, packed-digits k (n / 2) (half_lt k n h))

pub packed_octets-length : (n : ℕ) (l : List ℕ) → length (packed_octets n l) ≡ n
unfolding packed_octets
packed_octets-length zero l = refl
packed_octets-length (suc n) l = ap suc (packed_octets-length n (drop 8 l))

pub octet_digits-length : (m : List ℕ) → length (octet_digits m) ≡ 8 * length m
unfolding octet_digits
octet_digits-length [] = refl
octet_digits-length (b ∷ m) = simp length-append (omega (arith, digits-length 8 b, octet_digits-length m))

-- the digits of the octets of some digits are those digits
pub digits_of : (n : ℕ) (l : List ℕ) → length l ≡ 8 * n → Binary l → octet_digits (packed_octets n l) ≡ l
unfolding octet_digits packed_octets
digits_of zero [] e h = refl
digits_of zero (x ∷ l) e h = absurd (omega arith)
digits_of (suc n) l e h =
    let eight : length (take 8 l) ≡ 8 = length-take-le 8 l (omega arith) in
    let a : digits 8 (packed (take 8 l)) ≡ take 8 l =
    ap (λ (k : ℕ). digits k (packed (take 8 l))) (sym eight) ∙ digits-packed (take 8 l) (λ i. small l 8 i h) in
    let b : octet_digits (packed_octets n (drop 8 l)) ≡ drop 8 l =
    digits_of n (drop 8 l) (simp length-drop (omega arith)) (λ i. subst (λ (x : ℕ). x < 2) (sym (get_or-drop 8 l i 0)) (h (8 + i))) in
    ap (λ (x : List ℕ). x ++ octet_digits (packed_octets n (drop 8 l))) a ∙ ap (λ (x : List ℕ). take 8 l ++ x) b ∙ take-append-drop 8 l
  where
    small : (l : List ℕ) (k i : ℕ) → Binary l → get_or (take k l) i 0 < 2
    small [] zero i h = omega arith
    small [] (suc k) i h = h i
    small (x ∷ l) zero i h = omega arith
    small (x ∷ l) (suc k) zero h = h 0
    small (x ∷ l) (suc k) (suc i) h = small l k i (λ j. h (suc j))

-- and the octets of the digits of some octets are those octets
pub octets-of : (m : List ℕ) → ((i : ℕ) → get_or m i 0 < 256) → packed_octets (length m) (octet_digits m) ≡ m
unfolding octet_digits packed_octets
octets-of [] h = refl
octets-of (b ∷ m) h =
    let a : packed (take 8 (digits 8 b ++ octet_digits m)) ≡ b =
    ap packed (take_at (digits 8 b) (octet_digits m) 8 (digits-length 8 b)) ∙ packed-digits 8 b (h 0) in
    let c : packed_octets (length m) (drop 8 (digits 8 b ++ octet_digits m)) ≡ m =
    ap (packed_octets (length m)) (drop_at (digits 8 b) (octet_digits m) 8 (digits-length 8 b)) ∙ octets-of m (λ i. h (suc i)) in
    cc

-- ---- octets stay octets
packed-small : (n : ℕ) (l : List ℕ) → Binary l → packed (take n l) < 2 ^ n
unfolding packed
packed-small zero l h = omega arith
packed-small (suc n) [] h = omega (arith, pow-suc 2 n, packed-small n [] h)
packed-small (suc n) (d ∷ l) h = omega (arith, pow-suc 2 n, h 0, packed-small n l (λ i. h (suc i)))

binary-drop : (n : ℕ) (l : List ℕ) → Binary l → Binary (drop n l)
binary-drop n l h i = subst (λ (x : ℕ). x < 2) (sym (get_or-drop n l i 0)) (h (n + i))

pub packed_octets-small : (n : ℕ) (l : List ℕ) → Binary l → (i : ℕ) → get_or (packed_octets n l) i 0 < 256
unfolding packed_octets
packed_octets-small zero l h i = omega arith
packed_octets-small (suc n) l h zero = packed-small 8 l h
packed_octets-small (suc n) l h (suc i) = packed_octets-small n (drop 8 l) (binary-drop 8 l h) i

pub small-set : (m : List ℕ) (k b : ℕ) → ((i : ℕ) → get_or m i 0 < 256) → b < 256 → (i : ℕ) → get_or (set m k b) i 0 < 256
small-set [] k b h l i = h i
small-set (x ∷ m) zero b h l zero = l
small-set (x ∷ m) zero b h l (suc i) = h (suc i)
small-set (x ∷ m) (suc k) b h l zero = h 0
small-set (x ∷ m) (suc k) b h l (suc i) = small-set m k b (λ j. h (suc j)) l i

-- digit 8 i + q of the octets is digit q of octet i
pub map-digit : (m : List ℕ) (i q : ℕ) → i < length m → q < 8 → get_or (octet_digits m) (8 * i + q) 0 ≡ get_or (digits 8 (get_or m i 0)) q 0
unfolding octet_digits
map-digit [] i q l h = absurd (omega arith)
map-digit (x ∷ m) zero q l h =
    ap (λ (n : ℕ). get_or (digits 8 x ++ octet_digits m) n 0) (zero-add q)
    ∙ get_or-append (digits 8 x) (octet_digits m) 0 q (subst (λ (n : ℕ). q < n) (sym (digits-length 8 x)) h)
map-digit (x ∷ m) (suc i) q l h =
    let n : 8 * suc i + q ≡ length (digits 8 x) + (8 * i + q) = omega (arith, digits-length 8 x) in
    ap (λ (j : ℕ). get_or (digits 8 x ++ octet_digits m) j 0) n
    ∙ get_or-append-add (digits 8 x) (octet_digits m) (8 * i + q) 0
    ∙ map-digit m i q (omega arith) h

-- a digit by division
pub digit-div : (k n q : ℕ) → q < k → get_or (digits k n) q 0 ≡ n / 2 ^ q % 2
unfolding digits
digit-div zero n q h = absurd (omega arith)
digit-div (suc k) n zero h = omega arith
digit-div (suc k) n (suc q) h =
    digit-div k (n / 2) q (omega arith)
    ∙ ap (λ (x : ℕ). x % 2) (div-div-eq-div-mul n 2 (2 ^ q) ∙ ap (λ (x : ℕ). n / x) (mul_comm 2 (2 ^ q) ∙ sym (pow-suc 2 q)))
