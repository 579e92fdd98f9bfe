-- An argument taken from a line: missing, or read of the next word.
use Prim.Native.Nat.{ℕ, suc, ◌+◌, ◌-◌, ◌*◌, ◌%◌, ◌^◌, ◌≤◌, ◌<◌}
use mathlib.Core.Path.{◌≡◌, sym, ◌∙◌, ap}
use mathlib.Core.Bool.{true, false}
use mathlib.Core.List.{List, [], ◌∷◌}
use native.Mathlib.Nat.{pow-suc}
use native.Mathlib.Omega.{arith}
use borrow.Author.Tests.{lt-ltb, le-ltb, eq-eqb, ne_eqb, ltb-true}
use lib.Dec.{ltb}
use lib.ListN.{length, drop, take}
use Rattle.std.proofs.Math.Nat.{mul-le-mul_right}
use Rattle.std.specs.Prelude.{Result, Ok, Err}
use Rattle.laws.specs.Bools.{cond_true, cond_false, and_left, and_right}
use Rattle.text_words.specs.Text.{blanks, glyphs, hex_value, all_digits, number_from, number, decimal_of}
use Rattle.text_words.specs.declared.numbers.NotDecimal.{NotDecimal}
use Rattle.text_arguments.specs.declared.Reason.{Reason}
use Rattle.text_arguments.specs.declared.Reason.TheVariants.{WordMissing, NoHex, WrongHex, WordTooMany}
use Rattle.text_arguments.specs.Reading.{Found, found, start_of, word_of, end_of, needed, decimal_found, decimal_at, hex_found, hex_at, end_at}

module _ (line : List ℕ) (at : ℕ) where
  -- where the next word starts, the word, and the place behind it
  module _ {start : ℕ} (s : start ≡ at + blanks (drop at line)) where
    pub start_is : start ≡ start_of line at
    unfolding start_of
    start_is = s

    module _ {end : ℕ} (e : end ≡ start + glyphs (drop start line)) where
      pub word_read : take (end - start) (drop start line) ≡ word_of line at
      unfolding word_of start_of
      word_read =
          let n : end - start ≡ glyphs (drop start line) = omega arith in
          ap (λ (k : ℕ). take k (drop start line)) n ∙ ap (λ (m : ℕ). take (glyphs (drop m line)) (drop m line)) s

      pub end_read : end ≡ end_of line at
      unfolding end_of start_of
      end_read = e ∙ ap (λ (m : ℕ). m + glyphs (drop m line)) s

    -- a word is left, or none
    pub end_more : start < length line → Err WordTooMany ≡ end_at line at
    unfolding end_at start_of
    end_more h = sym (cond_true _ _ (lt-ltb (start_of line at) (length line) (omega arith)))

    pub end_none : length line ≤ start → Ok tt ≡ end_at line at
    unfolding end_at start_of
    end_none h = sym (cond_false _ _ (le-ltb (start_of line at) (length line) (omega arith)))

  -- no word is left
  module _ (h : length line ≤ start_of line at) where
    missing : (a : Result Found Reason) → Err WordMissing ≡ needed line at a
    unfolding needed
    missing a = sym (cond_false a _ (le-ltb (start_of line at) (length line) h))

    pub decimal_missing : (limit : ℕ) → Err WordMissing ≡ decimal_at line limit at
    unfolding decimal_at
    decimal_missing limit = missing _

    pub hex_missing : (width : ℕ) → Err WordMissing ≡ hex_at line width at
    unfolding hex_at
    hex_missing width = missing _

  -- the next word is read
  module _ (h : start_of line at < length line) {word : List ℕ} (w : word ≡ word_of line at) {end : ℕ} (e : end ≡ end_of line at) where
    there : (a : Result Found Reason) → a ≡ needed line at a
    unfolding needed
    there a = sym (cond_true a _ (lt-ltb (start_of line at) (length line) h))

    pub decimal_read : (limit : ℕ) {d : Result ℕ NotDecimal} → d ≡ decimal_of word limit → decimal_found d end ≡ decimal_at line limit at
    unfolding decimal_at
    decimal_read limit k =
        let p = k ∙ ap (λ (l : List ℕ). decimal_of l limit) w in
        (λ t. decimal_found (p t) (e t)) ∙ there _

    hex_read : (width : ℕ) → hex_found word width end ≡ hex_at line width at
    unfolding hex_at
    hex_read width = (λ t. hex_found (w t) width (e t)) ∙ there _

    module _ (width : ℕ) where
      pub hex_none : all_digits 16 word ≡ false → Err NoHex ≡ hex_at line width at
      unfolding hex_found
      hex_none k = sym (cond_false _ _ k) ∙ hex_read width

      module _ (k : all_digits 16 word ≡ true) where
        pub hex_wrong : (length word ≡ width → ⊥) → Err WrongHex ≡ hex_at line width at
        unfolding hex_found
        hex_wrong l = sym (cond_true _ _ k ∙ cond_false _ _ (ne_eqb _ width l)) ∙ hex_read width

        pub hex_right : {n : ℕ} → length word ≡ width → n ≡ number 16 word % 4294967296 → found n end ≡ hex_at line width at
        unfolding hex_found
        hex_right l m = ap (λ (n : ℕ). found n end) m ∙ sym (cond_true _ _ k ∙ cond_true _ _ (eq-eqb _ width l)) ∙ hex_read width

-- so many hexadecimal digits write a number below that power of 16
number_small : (n : ℕ) (xs : List ℕ) → all_digits 16 xs ≡ true → number_from 16 n xs < (n + 1) * 16 ^ length xs
unfolding number_from
number_small n [] h = omega arith
number_small n (x ∷ xs) h =
    let low = ltb-true (hex_value x) 16 (and_left (ltb (hex_value x) 16) (all_digits 16 xs) h) in
    let rest = number_small (n * 16 + hex_value x) xs (and_right (ltb (hex_value x) 16) (all_digits 16 xs) h) in
    let power : 16 ^ suc (length xs) ≡ 16 ^ length xs * 16 = omega (arith, pow-suc 16 (length xs)) in
    let more : n * 16 + hex_value x + 1 ≤ (n + 1) * 16 = omega (arith, low) in
    let wide = mul-le-mul_right (16 ^ length xs) more in
    omega (arith, rest, wide, ap (λ (q : ℕ). (n + 1) * q) power)

pub hex_small : (word : List ℕ) {width n : ℕ} → all_digits 16 word ≡ true → length word ≡ width → n ≡ number 16 word % 4294967296 → n < 16 ^ width
hex_small word {width} {n} k l m = omega (arith, number_small 0 word k, m, ap (λ (w : ℕ). 16 ^ w) l)
