-- Lists of words in a line: pairs, and where hexadecimal groups end.
use Rattle.std.specs.Prelude.{ℕ, suc, ◌+◌, Bool, false, cond, ◌&&◌, List, [], ◌∷◌, ◌++◌, eqb, ltb, length, drop, take, get_or, Result, Ok, Err}
use Prim.Native.Char.{code}
use Rattle.text_words.specs.Text.{is_blank, blanks, all_digits, byte_of}
use Rattle.text_arguments.specs.declared.Reason.{Reason}
use Rattle.text_arguments.specs.declared.Reason.TheVariants.{NoPair, TooMany}
use Rattle.text_arguments.specs.Reading.{Found, behind, bytes_if, found_if, decimal_at, hex_at, words_of}
use Rattle.text_lists.specs.declared.RowWords.{RowWords}

-- the most pairs of a line
abbrev pub max_pair_words : ℕ
max_pair_words = 255

-- a pair is a word BB.II: two hexadecimal digits, a dot and two hexadecimal digits
unfoldable pub is_pair : List ℕ → Bool
is_pair word = eqb (length word) 5 && (eqb (get_or word 2 0) (code ".") && (all_digits 16 (take 2 word) && all_digits 16 (take 2 (drop 3 word))))

-- its two bytes: the block and the number
unfoldable pub pair_bytes_of : List ℕ → List ℕ
pair_bytes_of word = byte_of (get_or word 0 0) (get_or word 1 0) ∷ byte_of (get_or word 3 0) (get_or word 4 0) ∷ []

-- why a word is not taken as a pair, behind so many others: it is none, or it is one too many
unfoldable pub pair_reason : ℕ → List ℕ → Result (Unit {0}) Reason
pair_reason taken word = cond (is_pair word) (cond (ltb taken max_pair_words) (Ok tt) (Err TooMany)) (Err NoPair)

-- words behind so many pairs: the bytes of those up to the first that is not taken, and why that one is not
unfoldable pub pairs_bytes : ℕ → List (List ℕ) → List ℕ
pairs_bytes taken [] = []
pairs_bytes taken (w ∷ ws) = bytes_if (pair_reason taken w) (pair_bytes_of w ++ pairs_bytes (suc taken) ws)

unfoldable pub pairs_reason : ℕ → List (List ℕ) → Result (Unit {0}) Reason
pairs_reason taken [] = Ok tt
pairs_reason taken (w ∷ ws) = behind (pair_reason taken w) (λ u. pairs_reason (suc taken) ws)

-- the rest of the line as pairs: their number is the value; and the bytes that are stored
unfoldable pub pairs_at : List ℕ → ℕ → Result Found Reason
pairs_at line at = found_if (pairs_reason 0 (words_of (drop at line))) (length (words_of (drop at line))) (length line)

unfoldable pub pairs_stored : List ℕ → ℕ → List ℕ
pairs_stored line at = pairs_bytes 0 (words_of (drop at line))

-- what names a row: a position of at most 255, an address of 4 hexadecimal digits, and pairs; and the bytes that are stored
abbrev pub max_position : ℕ
max_position = 255

unfoldable pub position_at : List ℕ → ℕ → Result Found Reason
position_at line at = decimal_at line max_position at

unfoldable pub address_at : List ℕ → ℕ → Result Found Reason
address_at line at = behind (position_at line at) (λ p. hex_at line 4 p.at)

unfoldable pub row_words : List ℕ → ℕ → Result RowWords Reason
row_words line at =
    behind (position_at line at)
    (λ p. behind (hex_at line 4 p.at) (λ a. behind (pairs_at line a.at) (λ n. Ok (record { position = p.value; address = a.value; pairs = n.value }))))

abbrev pub stored_behind : Result Found Reason → (ℕ → List ℕ) → List ℕ
stored_behind (Ok f) stored = stored f.at
stored_behind (Err r) stored = []

unfoldable pub row_stored : List ℕ → ℕ → List ℕ
row_stored line at = stored_behind (address_at line at) (pairs_stored line)

-- two blanks in a row are in front
unfoldable pub two_blanks : List ℕ → Bool
two_blanks [] = false
two_blanks (x ∷ []) = false
two_blanks (x ∷ y ∷ rest) = is_blank x && is_blank y

-- how many bytes stand before the first two blanks in a row
unfoldable pub close_length : List ℕ → ℕ
close_length [] = 0
close_length (x ∷ xs) = cond (two_blanks (x ∷ xs)) 0 (suc (close_length xs))

-- how long HEX is that a text begins with: blanks before its first group do no harm, and two in a row behind that end it
unfoldable pub hex_length : List ℕ → ℕ
hex_length text = blanks text + close_length (drop (blanks text) text)
