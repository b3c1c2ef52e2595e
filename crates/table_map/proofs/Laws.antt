-- The map as two words and as sixteen octets. Assumes nothing.
use Prim.Native.Nat.{ℕ, zero, suc, ◌+◌, ◌*◌, ◌/◌, ◌%◌, ◌^◌, ◌≤◌, ◌<◌}
use mathlib.Core.Path.{◌≡◌, refl, sym, ap, ◌∙◌}
use mathlib.Core.List.{List, ◌++◌, append_assoc, append-nil}
use native.Mathlib.Omega.{arith}
use lib.ListN.{length, get_or, take}
use lib.Seq.{length-take-le, get_or-take}
use Rattle.laws.specs.Lists.{span-part}
use Rattle.laws.specs.Digits.{digits, octet_digits, word_at, word-digits, map-digit, digit-div, digit_room, digit-le}
use Rattle.paper.specs.Layout.{map_bit}

-- a bit of an octet, as a shift makes it
pub power_at : (q : ℕ) → q < 8 → 1 * 2 ^ q % 256 ≡ 2 ^ q
power_at zero h = refl
power_at (suc zero) h = refl
power_at (suc (suc zero)) h = refl
power_at (suc (suc (suc zero))) h = refl
power_at (suc (suc (suc (suc zero)))) h = refl
power_at (suc (suc (suc (suc (suc zero))))) h = refl
power_at (suc (suc (suc (suc (suc (suc zero)))))) h = refl
power_at (suc (suc (suc (suc (suc (suc (suc zero))))))) h = refl
power_at (suc (suc (suc (suc (suc (suc (suc (suc q)))))))) h = absurd (omega arith)

-- bit p is a digit of octet p / 8
digit-bit : (t : List ℕ) (p : ℕ) → p < 128 → 16 ≤ length t → get_or (digits 8 (get_or t (p / 8) 0)) (p % 8) 0 ≡ map_bit t p
unfolding map_bit
digit-bit t p h l =
    let w : 8 * (p / 8) + p % 8 ≡ p = omega arith in
    let n : length (take 16 t) ≡ 16 = length-take-le 16 t l in
    ap (λ (x : ℕ). get_or (digits 8 x) (p % 8) 0) (sym (get_or-take 16 t (p / 8) 0 (omega arith)))
    ∙ sym (map-digit (take 16 t) (p / 8) (p % 8) (omega (arith, n)) (omega arith))
    ∙ ap (λ (j : ℕ). get_or (octet_digits (take 16 t)) j 0) w

pub bit_is : (t : List ℕ) (p : ℕ) → p < 128 → 16 ≤ length t → get_or t (p / 8) 0 / 2 ^ (p % 8) % 2 ≡ map_bit t p
bit_is t p h l = sym (digit-div 8 (get_or t (p / 8) 0) (p % 8) (omega arith)) ∙ digit-bit t p h l

-- what a change of one bit must know of its octet
pub bit-room : (t : List ℕ) (p : ℕ) → p < 128 → 16 ≤ length t → get_or t (p / 8) 0 < 256 → map_bit t p ≡ 0 → get_or t (p / 8) 0 + 2 ^ (p % 8) < 256
bit-room t p h l o e = digit_room 8 (get_or t (p / 8) 0) (p % 8) (omega arith) o (digit-bit t p h l ∙ e)

pub bit-there : (t : List ℕ) (p : ℕ) → p < 128 → 16 ≤ length t → map_bit t p ≡ 1 → 2 ^ (p % 8) ≤ get_or t (p / 8) 0
bit-there t p h l e = digit-le 8 (get_or t (p / 8) 0) (p % 8) (omega arith) (digit-bit t p h l ∙ e)

pub two-words : (t : List ℕ) → ((i : ℕ) → get_or t i 0 < 256) → 16 ≤ length t → digits 64 (word_at t 0) ++ digits 64 (word_at t 8) ≡ octet_digits (take 16 t)
unfolding octet_digits
two-words t o h =
    ap (λ (l : List ℕ). l ++ digits 64 (word_at t 8)) (word-digits t 0 o)
    ∙ ap (λ (l : List ℕ). (digits 8 (get_or t 0 0) ++ (digits 8 (get_or t 1 0) ++ (digits 8 (get_or t 2 0) ++ (digits 8 (get_or t 3 0) ++ (digits 8 (get_or t 4 0) ++ (digits 8 (get_or t 5 0) ++ (digits 8 (get_or t 6 0) ++ digits 8 (get_or t 7 0)))))))) ++ l) (word-digits t 8 o)
    ∙ (simp (append_assoc, append-nil) refl)
    ∙ ap octet_digits (span-part 16 0 t h)
