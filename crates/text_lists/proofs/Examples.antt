-- Lists worked out: each value is what the page says of the text above it.
use mathlib.Core.Path.{◌≡◌, refl}
use mathlib.Core.List.{[], ◌∷◌}
use Rattle.std.specs.Prelude.{Ok, Err}
use Rattle.laws.specs.Runs.{leading}
use Rattle.text_arguments.specs.declared.Reason.TheVariants.{NoPair, TooMany}
use Rattle.text_words.specs.Text.{is_blank, hex_value, number_from, byte_of}
use Rattle.text_arguments.specs.Reading.{found, words_from}
use Rattle.text_lists.specs.Lists.{is_pair, pair_bytes_of, pair_reason, pairs_bytes, pairs_reason, pairs_at, pairs_stored, two_blanks, close_length, hex_length}

-- "22.01  fE.0a"
two_pairs : pairs_at (50 ∷ 50 ∷ 46 ∷ 48 ∷ 49 ∷ 32 ∷ 32 ∷ 102 ∷ 69 ∷ 46 ∷ 48 ∷ 97 ∷ []) 0 ≡ found 2 12
unfolding pairs_at pairs_reason pair_reason is_pair words_from is_blank hex_value
two_pairs = refl

two_stored : pairs_stored (50 ∷ 50 ∷ 46 ∷ 48 ∷ 49 ∷ 32 ∷ 32 ∷ 102 ∷ 69 ∷ 46 ∷ 48 ∷ 97 ∷ []) 0 ≡ 34 ∷ 1 ∷ 254 ∷ 10 ∷ []
unfolding pairs_stored pairs_bytes pair_bytes_of pair_reason is_pair words_from is_blank byte_of number_from hex_value
two_stored = refl

-- "22.01 2201": the pair before the other word is stored
not_a_pair : pairs_at (50 ∷ 50 ∷ 46 ∷ 48 ∷ 49 ∷ 32 ∷ 50 ∷ 50 ∷ 48 ∷ 49 ∷ []) 0 ≡ Err NoPair
unfolding pairs_at pairs_reason pair_reason is_pair words_from is_blank hex_value
not_a_pair = refl

one_stored : pairs_stored (50 ∷ 50 ∷ 46 ∷ 48 ∷ 49 ∷ 32 ∷ 50 ∷ 50 ∷ 48 ∷ 49 ∷ []) 0 ≡ 34 ∷ 1 ∷ []
unfolding pairs_stored pairs_bytes pair_bytes_of pair_reason is_pair words_from is_blank byte_of number_from hex_value
one_stored = refl

-- none is a list too
no_pairs : pairs_at [] 3 ≡ found 0 0
unfolding pairs_at pairs_reason words_from
no_pairs = refl

-- "22.01" as the 255th word and as the 256th, and "22-01" as the 256th
last : pair_reason 254 (50 ∷ 50 ∷ 46 ∷ 48 ∷ 49 ∷ []) ≡ Ok tt
unfolding pair_reason is_pair hex_value
last = refl

one_too_many : pair_reason 255 (50 ∷ 50 ∷ 46 ∷ 48 ∷ 49 ∷ []) ≡ Err TooMany
unfolding pair_reason is_pair hex_value
one_too_many = refl

also_the_last : pair_reason 255 (50 ∷ 50 ∷ 45 ∷ 48 ∷ 49 ∷ []) ≡ Err NoPair
unfolding pair_reason is_pair hex_value
also_the_last = refl

-- "  4D 4F", a blank and a tab, and words
words_behind : hex_length (32 ∷ 32 ∷ 52 ∷ 68 ∷ 32 ∷ 52 ∷ 70 ∷ 32 ∷ 9 ∷ 79 ∷ 75 ∷ 58 ∷ 32 ∷ 97 ∷ 32 ∷ 32 ∷ 98 ∷ []) ≡ 7
unfolding hex_length close_length two_blanks leading is_blank
words_behind = refl

-- "4D 4F" to the line's end
to_the_end : hex_length (52 ∷ 68 ∷ 32 ∷ 52 ∷ 70 ∷ []) ≡ 5
unfolding hex_length close_length two_blanks leading is_blank
to_the_end = refl
