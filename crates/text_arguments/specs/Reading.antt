-- The arguments of a command: what is read of a line from a place on, and why nothing is.
use Rattle.std.specs.Prelude.{ℕ, ◌+◌, ◌%◌, min, cond, List, [], ◌∷◌, ◌++◌, eqb, ltb, length, drop, take, Result, Ok, Err}
use Rattle.text_words.specs.Text.{is_blank, blanks, glyphs, all_digits, number, decimal_of, bytes_of}
use Rattle.text_words.specs.declared.numbers.NotDecimal.{NotDecimal}
use Rattle.text_words.specs.declared.numbers.NotDecimal.TheVariants.{NoNumber, TooLarge}
use Rattle.text_arguments.specs.declared.Reason.{Reason}
use Rattle.text_arguments.specs.declared.Reason.TheVariants.{UnknownWord, WordMissing, NoDecimal, DoesNotFit, NoHex, OddHex, WrongHex, WordTooMany, TooLong, NoPair, TooMany, Unnamed}

-- the limit of a number that has no other
abbrev pub any_number : ℕ
any_number = 4294967295

-- a value and the place behind it
pub record Found : Type 0 where
  pub value : ℕ
  pub at : ℕ

abbrev pub found : ℕ → ℕ → Result Found Reason
found value at = Ok (record { value = value; at = at })

-- the value alone, and the place from which the next argument is read: a wrong argument leaves it
abbrev pub value_of : Result Found Reason → Result ℕ Reason
value_of (Ok f) = Ok f.value
value_of (Err r) = Err r

abbrev pub place_of : ℕ → Result Found Reason → ℕ
place_of at (Ok f) = f.at
place_of at (Err r) = at

-- the reasons are looked for from the left, word by word; the first holds
abbrev pub behind : {A B : Type 0} → Result A Reason → (A → Result B Reason) → Result B Reason
behind (Ok a) next = next a
behind (Err r) next = Err r

-- where the next word from a place on starts, the word, and the place behind it
unfoldable pub start_of : List ℕ → ℕ → ℕ
start_of line at = at + blanks (drop at line)

unfoldable pub word_of : List ℕ → ℕ → List ℕ
word_of line at = take (glyphs (drop (start_of line at) line)) (drop (start_of line at) line)

unfoldable pub end_of : List ℕ → ℕ → ℕ
end_of line at = start_of line at + glyphs (drop (start_of line at) line)

-- a word is missing where the line ends
unfoldable pub needed : {A : Type 0} → List ℕ → ℕ → Result A Reason → Result A Reason
needed line at a = cond (ltb (start_of line at) (length line)) a (Err WordMissing)

-- the reason of a number: the one beside it in the table, and of a number without a row `Unnamed`
abbrev pub reasons : List (ℕ × Reason)
reasons =
    (1, UnknownWord)
    ∷ (2, WordMissing)
    ∷ (3, NoDecimal)
    ∷ (4, DoesNotFit)
    ∷ (5, NoHex)
    ∷ (6, OddHex)
    ∷ (7, WrongHex)
    ∷ (8, WordTooMany)
    ∷ (9, TooLong)
    ∷ (10, NoPair)
    ∷ (11, TooMany)
    ∷ []

abbrev pub reason_beside : List (ℕ × Reason) → ℕ → Reason
reason_beside [] n = Unnamed n
reason_beside (row ∷ rows) n = cond (eqb n row.0) row.1 (reason_beside rows n)

abbrev pub numbered : ℕ → Reason
numbered n = reason_beside reasons n

-- the next word as a decimal number
abbrev pub reason_of : NotDecimal → Reason
reason_of NoNumber = NoDecimal
reason_of TooLarge = DoesNotFit

abbrev pub decimal_found : Result ℕ NotDecimal → ℕ → Result Found Reason
decimal_found (Ok n) end = found n end
decimal_found (Err e) end = Err (reason_of e)

unfoldable pub decimal_at : List ℕ → ℕ → ℕ → Result Found Reason
decimal_at line limit at = needed line at (decimal_found (decimal_of (word_of line at) limit) (end_of line at))

-- the next word as this many hexadecimal digits
unfoldable pub hex_found : List ℕ → ℕ → ℕ → Result Found Reason
hex_found word width end =
    cond (all_digits 16 word) (cond (eqb (length word) width) (found (number 16 word % 4294967296) end) (Err WrongHex)) (Err NoHex)

unfoldable pub hex_at : List ℕ → ℕ → ℕ → Result Found Reason
hex_at line width at = needed line at (hex_found (word_of line at) width (end_of line at))

-- a line is split into words at blanks: its words, where these bytes of the first are taken already
abbrev pub ended : List ℕ → List (List ℕ) → List (List ℕ)
ended [] words = words
ended (x ∷ xs) words = (x ∷ xs) ∷ words

unfoldable pub words_from : List ℕ → List ℕ → List (List ℕ)
words_from taken [] = ended taken []
words_from taken (x ∷ xs) = cond (is_blank x) (ended taken (words_from [] xs)) (words_from (taken ++ x ∷ []) xs)

abbrev pub words_of : List ℕ → List (List ℕ)
words_of text = words_from [] text

-- each group whole bytes: why a group has none
unfoldable pub group_reason : List ℕ → Result (Unit {0}) Reason
group_reason group = cond (all_digits 16 group) (cond (eqb (length group % 2) 0) (Ok tt) (Err OddHex)) (Err NoHex)

-- HEX is what is left of the line: the bytes of its groups to the first that has none, and why that one has none
abbrev pub bytes_if : Result (Unit {0}) Reason → List ℕ → List ℕ
bytes_if (Ok u) bytes = bytes
bytes_if (Err r) bytes = []

unfoldable pub groups_bytes : List (List ℕ) → List ℕ
groups_bytes [] = []
groups_bytes (g ∷ gs) = bytes_if (group_reason g) (bytes_of g ++ groups_bytes gs)

unfoldable pub groups_reason : List (List ℕ) → Result (Unit {0}) Reason
groups_reason [] = Ok tt
groups_reason (g ∷ gs) = behind (group_reason g) (λ u. groups_reason gs)

-- a value where nothing is wrong
abbrev pub found_if : Result (Unit {0}) Reason → ℕ → ℕ → Result Found Reason
found_if (Ok u) value end = found value end
found_if (Err r) value end = Err r

-- the number of bytes is the value, as far as there is room for them; and the bytes that are stored
unfoldable pub bytes_at : List ℕ → ℕ → ℕ → Result Found Reason
bytes_at line room at =
    found_if (groups_reason (words_of (drop at line))) (min (length (groups_bytes (words_of (drop at line)))) room) (length line)

unfoldable pub bytes_stored : List ℕ → ℕ → List ℕ
bytes_stored line at = groups_bytes (words_of (drop at line))

-- a word too many is left
unfoldable pub end_at : List ℕ → ℕ → Result (Unit {0}) Reason
end_at line at = cond (ltb (start_of line at) (length line)) (Err WordTooMany) (Ok tt)
