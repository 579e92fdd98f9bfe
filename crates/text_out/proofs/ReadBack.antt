-- What is written is read back: a number in decimal, and a byte in hexadecimal.
use Prim.Native.Nat.{ℕ, zero, suc, ◌+◌, ◌-◌, ◌*◌, ◌/◌, ◌%◌, ◌^◌, ◌≤◌, ◌<◌}
use mathlib.Core.Path.{◌≡◌, refl, ◌∙◌, ap}
use mathlib.Core.Bool.{Bool, true, false, cond, ◌&&◌}
use mathlib.Core.List.{List, [], ◌∷◌, ◌++◌}
use native.Mathlib.Nat.{pow-suc}
use native.Mathlib.Omega.{arith}
use borrow.Author.Tests.{lt-ltb, le-leb, lt-leb, ltb-true, ltb-false}
use lib.Dec.{ltb, leb}
use lib.ListN.{length}
use Rattle.io.specs.Digits.{last_digits, hex_digit_ascii}
use Rattle.laws.specs.Bools.{cond_true, cond_false, and_left, and_right, and_true}
use Rattle.text_words.specs.Text.{hex_value, glyph_of, number_from, number, all_digits, byte_of, bytes_of}
use Rattle.text_words.specs.Text.{decimal_of as read}
use Rattle.std.specs.Prelude.{Ok}
use Rattle.text_out.specs.Spelling.{hex_of, places_of, width_of, decimal_of, decimal_length}
use Rattle.text_out.proofs.Widths.{places_none, places_more}

-- a digit from 0 to 9, and from A to F
value_digit : (d : ℕ) → d < 10 → hex_value (48 + d) ≡ d
unfolding hex_value
value_digit d h =
    cond_true _ _ (and_true _ _ (le-leb 48 (48 + d) (omega arith)) (le-leb (48 + d) 57 (omega (arith, h)))) ∙ omega arith

value_letter : (d : ℕ) → d < 6 → hex_value (65 + d) ≡ 10 + d
unfolding hex_value
value_letter d h =
    let high : leb (65 + d) 57 ≡ false = lt-leb (65 + d) 57 (omega arith) in
    let low : leb 48 (65 + d) ≡ true = le-leb 48 (65 + d) (omega arith) in
    cond_false _ _ (λ t. low t && high t)
    ∙ cond_true _ _ (and_true _ _ (le-leb 65 (65 + d) (omega arith)) (le-leb (65 + d) 70 (omega (arith, h)))) ∙ omega arith

-- a digit behind others
number_behind : (base n : ℕ) (xs : List ℕ) (x : ℕ) → number_from base n (xs ++ x ∷ []) ≡ number_from base n xs * base + hex_value x
unfolding number_from
number_behind base n [] x = refl
number_behind base n (y ∷ ys) x = number_behind base (n * base + hex_value y) ys x

value_last : (n : ℕ) → hex_value (hex_digit_ascii (n % 10)) ≡ n % 10
value_last n =
    let low : n % 10 < 10 = omega arith in
    ap hex_value (cond_true _ _ (lt-ltb (n % 10) 10 low)) ∙ value_digit (n % 10) low

-- the digits of a number: they make it, and each is one
number_digits : (k n : ℕ) → n < 10 ^ k → number 10 (last_digits 10 k n) ≡ n
unfolding number_from
number_digits zero n h = omega (arith, h)
number_digits (suc k) n h =
    let rest = number_digits k (n / 10) (omega (arith, h, pow-suc 10 k)) in
    number_behind 10 0 (last_digits 10 k (n / 10)) (hex_digit_ascii (n % 10)) ∙ omega (arith, rest, value_last n)

digits_all : (k n : ℕ) → all_digits 10 (last_digits 10 k n) ≡ true
digits_all zero n = refl
digits_all (suc k) n = behind (last_digits 10 k (n / 10)) (digits_all k (n / 10))
  where
    low : ltb (hex_value (hex_digit_ascii (n % 10))) 10 ≡ true
    low = lt-ltb (hex_value (hex_digit_ascii (n % 10))) 10 (omega (arith, value_last n))

    behind : (xs : List ℕ) → all_digits 10 xs ≡ true → all_digits 10 (xs ++ hex_digit_ascii (n % 10) ∷ []) ≡ true
    behind [] h = and_true (ltb (hex_value (hex_digit_ascii (n % 10))) 10) true low refl
    behind (x ∷ xs) h =
        and_true (ltb (hex_value x) 10) (all_digits 10 (xs ++ hex_digit_ascii (n % 10) ∷ [])) (and_left (ltb (hex_value x) 10) (all_digits 10 xs) h)
        (behind xs (and_right (ltb (hex_value x) 10) (all_digits 10 xs) h))

-- a number has no more digits than its width
wide_enough : (f n : ℕ) → n ≤ f → n < 10 ^ places_of n
wide_enough zero n h = omega (arith, h, ap (λ (m : ℕ). 10 ^ m) (places_none n h))
wide_enough (suc f) n h = go (ltb 0 n) refl (wide_enough f (n / 10) (omega (arith, h)))
  where
    go : (b : Bool) → ltb 0 n ≡ b → n / 10 < 10 ^ places_of (n / 10) → n < 10 ^ places_of n
    go true e r = omega (arith, r, pow-suc 10 (places_of (n / 10)), ap (λ (m : ℕ). 10 ^ m) (places_more n (ltb-true 0 n e)))
    go false e r = omega (arith, ltb-false 0 n e, ap (λ (m : ℕ). 10 ^ m) (places_none n (ltb-false 0 n e)))

-- a number in decimal is read as that number
number_back : (n : ℕ) → number 10 (decimal_of n) ≡ n
unfolding decimal_of width_of
number_back n = number_digits (suc (places_of (n / 10))) n (omega (arith, wide_enough (n / 10) (n / 10) (omega arith), pow-suc 10 (places_of (n / 10))))

some : (n : ℕ) → 0 < length (decimal_of n)
unfolding width_of
some n = omega (arith, decimal_length n)

all : (n : ℕ) → all_digits 10 (decimal_of n) ≡ true
unfolding decimal_of
all n = digits_all (width_of n) n

pub decimal_back : (n limit : ℕ) → n ≤ limit → read (decimal_of n) limit ≡ Ok n
unfolding read
decimal_back n limit h =
    cond_true _ _ (and_true _ _ (lt-ltb 0 (length (decimal_of n)) (some n)) (all n))
    ∙ cond_true _ _ (le-leb (number 10 (decimal_of n)) limit (omega (arith, h, number_back n))) ∙ ap (λ (m : ℕ). Ok m) (number_back n)

-- a byte in hexadecimal is that byte
value_glyph : (n : ℕ) → n < 16 → hex_value (glyph_of n) ≡ n
unfolding glyph_of
value_glyph n h = go (ltb (n % 16) 10) refl
  where
    go : (b : Bool) → ltb (n % 16) 10 ≡ b → hex_value (cond b (48 + n % 16) (65 + (n % 16 - 10))) ≡ n
    go true e = value_digit (n % 16) (ltb-true (n % 16) 10 e) ∙ omega (arith, h)
    go false e = value_letter (n % 16 - 10) (omega arith) ∙ omega (arith, h, ltb-false (n % 16) 10 e)

pub hex_back : (b : ℕ) → b < 256 → bytes_of (hex_of b) ≡ b ∷ []
unfolding hex_of bytes_of byte_of number_from
hex_back b h = ap (λ (m : ℕ). m ∷ []) (omega (arith, h, value_glyph (b / 16) (omega (arith, h)), value_glyph (b % 16) (omega arith)))
