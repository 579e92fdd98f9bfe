-- Digits one by one: whether every byte is one, and the number that they write.
use Prim.Native.Nat.{ℕ, ◌+◌, ◌*◌, ◌%◌, ◌≤◌, ◌<◌}
use mathlib.Core.Path.{◌≡◌, sym, ◌∙◌, ap}
use mathlib.Core.Bool.{Bool, true, false, ◌&&◌}
use mathlib.Core.List.{List, [], ◌∷◌}
use native.Mathlib.Omega.{arith}
use borrow.Author.Tests.{lt-ltb, le-ltb, le-leb, lt-leb}
use lib.ListN.{length}
use Rattle.text_words.specs.Text.{hex_value, all_digits, number_from, number, decimal_of}
use Rattle.std.specs.Prelude.{Ok, Err}
use Rattle.text_words.specs.declared.numbers.NotDecimal.TheVariants.{NoNumber, TooLarge}

module _ (base : ℕ) {x : ℕ} {xs rest : List ℕ} (e : xs ≡ x ∷ rest) where
  -- the byte at hand is no digit, or the others decide
  pub digits_stop : base ≤ hex_value x → all_digits base xs ≡ false
  digits_stop h = ap (all_digits base) e ∙ ap (λ (b : Bool). b && all_digits base rest) (le-ltb (hex_value x) base h)

  pub digits_on : hex_value x < base → all_digits base xs ≡ all_digits base rest
  digits_on h = ap (all_digits base) e ∙ ap (λ (b : Bool). b && all_digits base rest) (lt-ltb (hex_value x) base h)

  -- the number with the digit at hand
  pub number_on : (n : ℕ) {d : ℕ} → d ≡ hex_value x → number_from base (n * base + d) rest ≡ number_from base n xs
  unfolding number_from
  number_on n h = sym (ap (number_from base n) e ∙ ap (λ (d : ℕ). number_from base (n * base + d) rest) (sym h))

pub digits_end : (base : ℕ) {xs : List ℕ} → xs ≡ [] → all_digits base xs ≡ true
digits_end base e = ap (all_digits base) e

pub number_end : (base n : ℕ) {xs : List ℕ} → xs ≡ [] → number_from base n xs ≡ n
unfolding number_from
number_end base n e = ap (number_from base n) e

-- a number only grows with its digits
pub number_grows : (n : ℕ) (xs : List ℕ) → n ≤ number_from 10 n xs
unfolding number_from
number_grows n [] = omega arith
number_grows n (x ∷ xs) = omega (arith, number_grows (n * 10 + hex_value x) xs)

-- its last 32 bits come of the last 32 bits read so far
pub number_low : (n : ℕ) (xs : List ℕ) → number_from 16 (n % 4294967296) xs % 4294967296 ≡ number_from 16 n xs % 4294967296
unfolding number_from
number_low n [] = omega arith
number_low n (x ∷ xs) =
    let e : (n % 4294967296 * 16 + hex_value x) % 4294967296 ≡ (n * 16 + hex_value x) % 4294967296 = omega arith in
    sym (number_low (n % 4294967296 * 16 + hex_value x) xs) ∙ ap (λ (m : ℕ). number_from 16 m xs % 4294967296) e ∙ number_low (n * 16 + hex_value x) xs

-- a decimal number: none without a byte, none with another byte, one above the limit, and one that fits
module _ (word : List ℕ) (limit : ℕ) where
  pub decimal_empty : length word ≡ 0 → decimal_of word limit ≡ Err NoNumber
  unfolding decimal_of
  decimal_empty h = rw (le-ltb 0 (length word) (omega arith))

  pub decimal_none : (length word ≡ 0 → ⊥) → all_digits 10 word ≡ false → decimal_of word limit ≡ Err NoNumber
  unfolding decimal_of
  decimal_none h k = rw (lt-ltb 0 (length word) (omega arith), k)

  module _ (h : length word ≡ 0 → ⊥) (k : all_digits 10 word ≡ true) where
    pub decimal_large : limit < number 10 word → decimal_of word limit ≡ Err TooLarge
    unfolding decimal_of
    decimal_large l = rw (lt-ltb 0 (length word) (omega arith), k, lt-leb (number 10 word) limit l)

    pub decimal_fits : {n : ℕ} → n ≡ number 10 word → n ≤ limit → decimal_of word limit ≡ Ok n
    unfolding decimal_of
    decimal_fits {n} e l = rw (lt-ltb 0 (length word) (omega arith), k, le-leb (number 10 word) limit (omega arith), e)
