-- The words of a number without a row are no row's.
use mathlib.Core.Path.{◌≡◌, refl}
use mathlib.Core.Bool.{Bool, false}
use Prim.Native.Nat.{ℕ}
use mathlib.Core.List.{List}
use Rattle.laws.specs.Lists.{any}
use Rattle.text_words.specs.Text.{same_word}
use Rattle.text_out.specs.Spelling.{filled_from, value_of, decimal_of, width_of, places_by}
use Rattle.text_arguments.specs.declared.Reason.{Reason}
use Rattle.text_arguments.specs.declared.Reason.TheVariants.{UnknownWord, WordMissing, NoDecimal, DoesNotFit, NoHex, OddHex, WrongHex, WordTooMany, TooLong, NoPair, TooMany, Unnamed}
use Rattle.text_numbers.specs.declared.Asked.{Asked}
use Rattle.text_numbers.specs.declared.Asked.TheVariants.{Record, Picture, Telegram, LookUp, Order, Unit, Compare}
use Rattle.text_numbers.specs.Wording.{Table, no_words, table_of, why_of}

-- a row has them
unfoldable has : Table → Bool
has rows = any (λ (row : ℕ × List ℕ). same_word row.1 no_words) rows

given_back : (asked : Asked) → has (table_of asked) ≡ false
unfolding has any filled_from value_of decimal_of width_of places_by
given_back Record = refl
given_back Picture = refl
given_back Telegram = refl
given_back LookUp = refl
given_back Order = refl
given_back Unit = refl
given_back Compare = refl

-- a reason has them only where it is a number that is no reason's
reason : (r : Reason) → ((n : ℕ) → r ≡ Unnamed n → ⊥) → same_word (why_of r) no_words ≡ false
unfolding filled_from value_of decimal_of width_of places_by
reason UnknownWord named = refl
reason WordMissing named = refl
reason NoDecimal named = refl
reason DoesNotFit named = refl
reason NoHex named = refl
reason OddHex named = refl
reason WrongHex named = refl
reason WordTooMany named = refl
reason TooLong named = refl
reason NoPair named = refl
reason TooMany named = refl
reason (Unnamed n) named = absurd (named n refl)
