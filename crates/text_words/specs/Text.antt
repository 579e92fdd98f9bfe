-- The text of a bench script: blanks, words, digits and numbers.
use Rattle.std.specs.Prelude.{ℕ, ◌+◌, ◌-◌, ◌*◌, ◌%◌, Bool, cond, not, ◌&&◌, ◌||◌, List, [], ◌∷◌, reverse, eqb, leb, ltb, length, Option, Some, None, Result, Ok, Err}
use Rattle.std.specs.List.{list_all}
use Rattle.std.specs.Str.{bytes_eq}
use Rattle.laws.specs.Runs.{leading}
use Rattle.text_words.specs.declared.numbers.NotDecimal.{NotDecimal}
use Rattle.text_words.specs.declared.numbers.NotDecimal.TheVariants.{NoNumber, TooLarge}

-- blanks are space and tab
unfoldable pub is_blank : ℕ → Bool
is_blank b = eqb b 32 || eqb b 9

-- a line ends at an LF
abbrev pub lf : ℕ
lf = 10

-- blanks and CRs at the end of a line are dropped
unfoldable pub is_dropped : ℕ → Bool
is_dropped b = eqb b 13 || is_blank b

-- a line's length without them
unfoldable pub trimmed_length : List ℕ → ℕ
trimmed_length line = length line - leading is_dropped (reverse line)

-- a line is split into words at blanks: how many bytes at its start are blanks, and how many are none
abbrev pub is_glyph : ℕ → Bool
is_glyph b = not (is_blank b)

abbrev pub blanks : List ℕ → ℕ
blanks text = leading is_blank text

abbrev pub glyphs : List ℕ → ℕ
glyphs text = leading is_glyph text

-- the same word: the same bytes
abbrev pub same_word : List ℕ → List ℕ → Bool
same_word word other = bytes_eq word other

-- a byte from `low` to `high`
abbrev pub within : ℕ → ℕ → ℕ → Bool
within low high b = leb low b && leb b high

-- a digit's value, hexadecimal in either case; 16 for what is no digit
unfoldable pub hex_value : ℕ → ℕ
hex_value b = cond (within 48 57 b) (b - 48) (cond (within 65 70 b) (b - 65 + 10) (cond (within 97 102 b) (b - 97 + 10) 16))

-- the value of what is a digit
unfoldable pub digit_of : ℕ → Option ℕ
digit_of b = cond (eqb (hex_value b) 16) None (Some (hex_value b))

-- the digit of a value's low four bits: hexadecimal is in upper case
unfoldable pub glyph_of : ℕ → ℕ
glyph_of n = cond (ltb (n % 16) 10) (48 + n % 16) (65 + (n % 16 - 10))

-- every byte is a digit to this base
abbrev pub all_digits : ℕ → List ℕ → Bool
all_digits base word = list_all (λ x. ltb (hex_value x) base) word

-- the number that digits write, the highest first, behind those that make n
unfoldable pub number_from : ℕ → ℕ → List ℕ → ℕ
number_from base n [] = n
number_from base n (x ∷ xs) = number_from base (n * base + hex_value x) xs

abbrev pub number : ℕ → List ℕ → ℕ
number base word = number_from base 0 word

-- a decimal number is a word of digits, and has a limit
unfoldable pub decimal_of : List ℕ → ℕ → Result ℕ NotDecimal
decimal_of word limit =
    cond (ltb 0 (length word) && all_digits 10 word)
    (cond (leb (number 10 word) limit) (Ok (number 10 word)) (Err TooLarge))
    (Err NoNumber)

-- two hexadecimal digits are a byte
unfoldable pub byte_of : ℕ → ℕ → ℕ
byte_of high low = number 16 (high ∷ low ∷ []) % 256

-- each group whole bytes: the bytes of a group
unfoldable pub bytes_of : List ℕ → List ℕ
bytes_of [] = []
bytes_of (x ∷ []) = []
bytes_of (x ∷ y ∷ rest) = byte_of x y ∷ bytes_of rest
