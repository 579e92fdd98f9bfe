-- Records and orders in hexadecimal, with a blank between their fields.
use Rattle.std.specs.Prelude.{ℕ, suc, ◌%◌, Bool, true, false, cond, ◌&&◌, ◌||◌, List, [], ◌∷◌, ◌++◌, eqb, leb, ltb, get_or}
use Prim.Native.Char.{code}
use Rattle.text_words.specs.Text.{within}
use Rattle.text_out.specs.Spelling.{hex_of, lined}
use Rattle.text_records.specs.declared.Layout.{Layout}
use Rattle.text_records.specs.declared.Layout.TheVariants.{Event, Order}

-- the kinds, of an event and of orders
abbrev pub answer : ℕ
answer = 4

abbrev pub ask : ℕ
ask = 1

abbrev pub setting : ℕ
setting = 2

abbrev pub new : ℕ
new = 5

abbrev pub invalid : ℕ
invalid = 6

abbrev pub wait_long : ℕ
wait_long = 8

-- a blank stands after byte n where a field ends: after mark, kind and pass
abbrev pub head_gap : ℕ → Bool
head_gap n = eqb n 2 || (eqb n 3 || eqb n 7)

-- in an ANSWER after the address, the count and each pair
abbrev pub answer_gap : ℕ → Bool
answer_gap n = eqb n 10 || (ltb 10 n && eqb (n % 2) 1)

-- in an event, by its kind; every one has a byte behind the pass
abbrev pub event_gap : ℕ → ℕ → Bool
event_gap kind n = head_gap n || (eqb n 8 || (eqb kind answer && answer_gap n))

-- a kind that an order has
abbrev pub is_known : ℕ → Bool
is_known kind = within ask wait_long kind

-- in a SET after the address, the block and the old number; in NEW and INVALID after each pair
abbrev pub field_gap : ℕ → ℕ → Bool
field_gap kind n = leb 10 n && cond (eqb kind setting) (leb n 12) ((eqb kind new || eqb kind invalid) && eqb (n % 2) 0)

-- in an order, by its kind; the byte behind the pass is a field of its own where the kind is known
abbrev pub order_gap : ℕ → ℕ → Bool
order_gap kind n = head_gap n || cond (eqb n 8) (is_known kind) (field_gap kind n)

abbrev pub gap_of : Layout → ℕ → ℕ → Bool
gap_of Event kind n = event_gap kind n
gap_of Order kind n = order_gap kind n

-- a byte as two digits, and a blank before them where one stands
abbrev pub spaced_byte : Bool → ℕ → List ℕ
spaced_byte true b = code " " ∷ hex_of b
spaced_byte false b = hex_of b

-- the bytes behind n others: a blank only stands where more bytes follow
unfoldable pub spaced_from : (ℕ → Bool) → ℕ → List ℕ → List ℕ
spaced_from gap n [] = []
spaced_from gap n (b ∷ bs) = spaced_byte (gap n) b ++ spaced_from gap (suc n) bs

-- the bytes of an order, or of an event; the third is its kind, and 0 where there is none
unfoldable pub spaced_of : Layout → List ℕ → List ℕ
spaced_of layout bytes = spaced_from (gap_of layout (get_or bytes 2 0)) 0 bytes

-- a mark, and the bytes behind a blank, on a line; the mark alone where there are none
unfoldable pub marked_of : ℕ → Layout → List ℕ → List ℕ
marked_of mark layout [] = lined (mark ∷ [])
marked_of mark layout (b ∷ bytes) = lined (mark ∷ code " " ∷ spaced_of layout (b ∷ bytes))

-- a pair behind a blank, as 22.01
unfoldable pub pair_word : (block number : ℕ) → List ℕ
pair_word b n = code " " ∷ hex_of b ++ code "." ∷ hex_of n

-- bytes as pairs, block and number of each; one that is left over is none
unfoldable pub pair_words : List ℕ → List ℕ
pair_words [] = []
pair_words (b ∷ []) = []
pair_words (b ∷ n ∷ rest) = pair_word b n ++ pair_words rest
