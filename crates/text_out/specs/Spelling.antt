-- Lines, numbers as they are written, and templates with numbers in them.
use Rattle.std.specs.Prelude.{ℕ, zero, suc, ◌/◌, ◌%◌, ◌≡◌, refl, Bool, true, false, cond, List, [], ◌∷◌, ◌++◌, eqb, ltb, length}
use Prim.Native.Char.{code}
use Rattle.std.proofs.Common.{arith, length-append}
use Rattle.io.specs.Digits.{last_digits, hex_digit_ascii}
use Rattle.text_words.specs.Text.{lf, glyph_of}

-- bytes as a line: with an LF behind them
abbrev pub lined : List ℕ → List ℕ
lined bytes = bytes ++ lf ∷ []

-- a byte as two hexadecimal digits, the higher first
unfoldable pub hex_of : ℕ → List ℕ
hex_of b = glyph_of (b / 16) ∷ glyph_of (b % 16) ∷ []

-- a two-byte number as four
unfoldable pub hex_pair_of : ℕ → List ℕ
hex_pair_of n = hex_of (n / 256) ++ hex_of (n % 256)

-- how often a number can be divided by ten before nothing is left; it falls each time, so that it is itself enough to count by
unfoldable pub places_by : ℕ → ℕ → ℕ
places_by zero n = 0
places_by (suc fuel) n = let more = suc (places_by fuel (n / 10)) in cond (ltb 0 n) more 0

abbrev pub places_of : ℕ → ℕ
places_of n = places_by n n

-- how many decimal digits a number has: the last one, and those before it
unfoldable pub width_of : ℕ → ℕ
width_of n = suc (places_of (n / 10))

-- a number in decimal, with no zero in front
unfoldable pub decimal_of : ℕ → List ℕ
decimal_of n = last_digits 10 (width_of n) n

-- the width is how many digits are written
digits_length : (b k n : ℕ) → length (last_digits b k n) ≡ k
digits_length b zero n = refl
digits_length b (suc k) n = let e = digits_length b k (n / b) in let l = length-append (last_digits b k (n / b)) (hex_digit_ascii (n % b) ∷ []) in omega arith

pub decimal_length : (n : ℕ) → length (decimal_of n) ≡ width_of n
unfolding decimal_of
decimal_length n = digits_length 10 (width_of n) n

-- a value by the letter of its place in a template: b for a byte, w for two bytes, any other for decimal
unfoldable pub value_of : ℕ → ℕ → List ℕ
value_of kind value =
    cond (eqb kind (code "b")) (hex_of (value % 256))
    (cond (eqb kind (code "w")) (hex_pair_of (value % 65536))
    (decimal_of value))

-- a template with the values in it, from the first on: % and a letter stand for the next one. It ends at a % without a letter, and
-- at one without a value. `marked`: the byte before was a %
unfoldable pub filled_from : Bool → List ℕ → List ℕ → List ℕ
filled_from false [] values = []
filled_from false (x ∷ xs) values = cond (eqb x (code "%")) [] (x ∷ []) ++ filled_from (eqb x (code "%")) xs values
filled_from true [] values = []
filled_from true (x ∷ xs) [] = []
filled_from true (x ∷ xs) (v ∷ vs) = value_of x v ++ filled_from false xs vs

abbrev pub filled : List ℕ → List ℕ → List ℕ
filled template values = filled_from false template values
