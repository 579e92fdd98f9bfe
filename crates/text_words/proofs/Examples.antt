-- A line worked out: the value is what the page says of the text above it.
use mathlib.Core.Path.{◌≡◌, refl}
use mathlib.Core.List.{[], ◌∷◌}
use Rattle.laws.specs.Runs.{leading}
use Rattle.text_words.specs.Text.{is_blank, is_dropped, trimmed_length}

-- "a b", with a CR, a blank, a CR and a tab behind it
dropped : trimmed_length (97 ∷ 32 ∷ 98 ∷ 13 ∷ 32 ∷ 13 ∷ 9 ∷ []) ≡ 3
unfolding trimmed_length leading is_dropped is_blank
dropped = refl
