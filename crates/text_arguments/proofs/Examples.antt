-- Arguments worked out: each value is what the page says of the text above it.
use mathlib.Core.Path.{◌≡◌, refl}
use mathlib.Core.List.{[], ◌∷◌}
use Rattle.std.specs.Prelude.{Err}
use Rattle.laws.specs.Runs.{leading}
use Rattle.text_words.specs.Text.{is_blank, hex_value, number_from, decimal_of, byte_of, bytes_of}
use Rattle.text_arguments.specs.declared.Reason.TheVariants.{NoDecimal, DoesNotFit, OddHex, WrongHex, WordTooMany}
use Rattle.text_arguments.specs.Reading.{found, start_of, word_of, end_of, needed, decimal_at, hex_found, hex_at, words_from, words_of, group_reason, groups_bytes, groups_reason, bytes_at, bytes_stored, end_at}

-- " 4294967295" and " 4294967296"
largest : decimal_at (32 ∷ 52 ∷ 50 ∷ 57 ∷ 52 ∷ 57 ∷ 54 ∷ 55 ∷ 50 ∷ 57 ∷ 53 ∷ []) 4294967295 0 ≡ found 4294967295 11
unfolding decimal_at needed start_of word_of end_of leading is_blank decimal_of number_from hex_value
largest = refl

too_large : decimal_at (32 ∷ 52 ∷ 50 ∷ 57 ∷ 52 ∷ 57 ∷ 54 ∷ 55 ∷ 50 ∷ 57 ∷ 54 ∷ []) 4294967295 0 ≡ Err DoesNotFit
unfolding decimal_at needed start_of word_of end_of leading is_blank decimal_of number_from hex_value
too_large = refl

-- "start 007 1a", from behind its first word and from behind its second
leading_zeros : decimal_at (115 ∷ 116 ∷ 97 ∷ 114 ∷ 116 ∷ 32 ∷ 48 ∷ 48 ∷ 55 ∷ 32 ∷ 49 ∷ 97 ∷ []) 7 5 ≡ found 7 9
unfolding decimal_at needed start_of word_of end_of leading is_blank decimal_of number_from hex_value
leading_zeros = refl

letter : decimal_at (115 ∷ 116 ∷ 97 ∷ 114 ∷ 116 ∷ 32 ∷ 48 ∷ 48 ∷ 55 ∷ 32 ∷ 49 ∷ 97 ∷ []) 7 9 ≡ Err NoDecimal
unfolding decimal_at needed start_of word_of end_of leading is_blank decimal_of number_from hex_value
letter = refl

-- "fF 1", as words of two digits
either_case : hex_at (102 ∷ 70 ∷ 32 ∷ 49 ∷ []) 2 0 ≡ found 255 2
unfolding hex_at hex_found needed start_of word_of end_of leading is_blank number_from hex_value
either_case = refl

one_digit : hex_at (102 ∷ 70 ∷ 32 ∷ 49 ∷ []) 2 2 ≡ Err WrongHex
unfolding hex_at hex_found needed start_of word_of end_of leading is_blank number_from hex_value
one_digit = refl

-- "1a2B  3c ": groups with blanks between, and the room for two bytes only
groups : words_of (49 ∷ 97 ∷ 50 ∷ 66 ∷ 32 ∷ 32 ∷ 51 ∷ 99 ∷ 32 ∷ []) ≡ (49 ∷ 97 ∷ 50 ∷ 66 ∷ []) ∷ (51 ∷ 99 ∷ []) ∷ []
unfolding words_from is_blank
groups = refl

stored : bytes_stored (49 ∷ 97 ∷ 50 ∷ 66 ∷ 32 ∷ 32 ∷ 51 ∷ 99 ∷ 32 ∷ []) 0 ≡ 26 ∷ 43 ∷ 60 ∷ []
unfolding bytes_stored groups_bytes group_reason bytes_of byte_of words_from is_blank number_from hex_value
stored = refl

counted : bytes_at (49 ∷ 97 ∷ 50 ∷ 66 ∷ 32 ∷ 32 ∷ 51 ∷ 99 ∷ 32 ∷ []) 2 0 ≡ found 2 9
unfolding bytes_at groups_bytes groups_reason group_reason bytes_of byte_of words_from is_blank number_from hex_value
counted = refl

-- "1a 2", and a word too many in "1a" behind a command that takes none
odd : bytes_at (49 ∷ 97 ∷ 32 ∷ 50 ∷ []) 9 0 ≡ Err OddHex
unfolding bytes_at groups_bytes groups_reason group_reason bytes_of byte_of words_from is_blank number_from hex_value
odd = refl

too_many : end_at (49 ∷ 97 ∷ []) 0 ≡ Err WordTooMany
unfolding end_at start_of leading is_blank
too_many = refl
