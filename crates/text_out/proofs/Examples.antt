-- Numbers, templates and a buffer worked out.
use mathlib.Core.Path.{◌≡◌, refl}
use mathlib.Core.Bool.{false}
use mathlib.Core.List.{[], ◌∷◌}
use Rattle.text_words.specs.Text.{glyph_of}
use Rattle.text_out.specs.Texts.{codes}
use Rattle.text_out.specs.Puts.{spot, laid, waits, fits}
use Rattle.text_out.specs.Spelling.{hex_of, hex_pair_of, places_by, width_of, decimal_of, value_of, filled_from, filled}

zero_has_a_digit : decimal_of 0 ≡ codes "0"
unfolding decimal_of width_of places_by
zero_has_a_digit = refl

ten_has_two : width_of 10 ≡ 2
unfolding width_of places_by
ten_has_two = refl

largest : decimal_of 18446744073709551615 ≡ codes "18446744073709551615"
unfolding decimal_of width_of places_by
largest = refl

-- each letter, and a byte behind them
letters : filled (codes "%d %b.%w%") (10 ∷ 31 ∷ 511 ∷ []) ≡ codes "10 1F.01FF"
unfolding filled_from value_of hex_of hex_pair_of glyph_of decimal_of width_of places_by
letters = refl

-- what is too large for its letter loses its higher bytes
cut : filled (codes "%b%w") (258 ∷ 65538 ∷ []) ≡ codes "020002"
unfolding filled_from value_of hex_of hex_pair_of glyph_of
cut = refl

-- no value is left
missing : filled (codes "a%db%dc") (7 ∷ []) ≡ codes "a7b"
unfolding filled_from value_of decimal_of width_of places_by
missing = refl

-- two bytes find one place free: the second stands in front, and the buffer was written out
turned : laid (1 ∷ 2 ∷ []) 65535 (7 ∷ 8 ∷ []) ≡ 8 ∷ 2 ∷ []
unfolding laid spot
turned = refl

one_waits : waits 65535 (7 ∷ 8 ∷ []) ≡ 1
unfolding waits spot
one_waits = refl

written_out : fits 65535 (7 ∷ 8 ∷ []) ≡ false
unfolding fits
written_out = refl
