-- Before and after: the differences of two listings, each given as a list of node rows (ticket 6).
use Rattle.std.specs.Prelude.{ℕ, suc, Bool, false, cond, not, ◌&&◌, ◌||◌, List, [], ◌∷◌, ◌++◌, map, eqb, leb, ltb, length}
use Rattle.std.proofs.lemmas.List.Edits.{sets}
use Rattle.laws.specs.Lists.{any, collect, up_from}
use Rattle.rules.specs.House.{max_nodes, max_units, max_pairs}
use Rattle.rules.specs.Picture.{Pair, holds, Kept, nothing, kept, kept_in, Row, Picture}
use Rattle.rules.specs.Event.{two}
use Rattle.rules.specs.Ending.{missing}

-- "a lent list of node rows from each listing": where a unit sits, and what it announced. "A row's marks aren't looked at."
pub record NodeRow : Type 0 where
  pub position : ℕ
  pub address : ℕ
  pub pairs : List Pair

-- the rows of the ring picture's own listing: LISTED and SETTING, by position
unfoldable pub listed_row : (position : ℕ) → Kept → List NodeRow
listed_row x nothing = []
listed_row x (kept a ps) = record { position = x; address = a; pairs = ps } ∷ []

unfoldable pub listed_rows_from : (position : ℕ) → List Row → List NodeRow
listed_rows_from x [] = []
listed_rows_from x (r ∷ rs) = listed_row x (kept_in r) ++ listed_rows_from (suc x) rs

unfoldable pub listed_rows : Picture → List NodeRow
listed_rows p = listed_rows_from 1 p.rows

-- what a list of rows has at a position
pub data Seen : Type 0 where
  absent : Seen
  present : (address : ℕ) (pairs : List Pair) → Seen

unfoldable pub seen_at : ℕ → List NodeRow → Seen
seen_at x [] = absent
seen_at x (r ∷ rs) = let later = seen_at x rs in cond (eqb x r.position) (present r.address r.pairs) later

-- "the exact differences: positions gone, positions new, address changed, pairs gone, pairs new"
pub data Line : Type 0 where
  position_gone : (position : ℕ) → Line
  position_new : (position address : ℕ) → Line
  address_changed : (position address : ℕ) → Line
  pair_gone : (position : ℕ) → Pair → Line
  pair_new : (position : ℕ) → Pair → Line

-- "by position, then in this order, then as announced": the lines of one position. An address is the second listing's. "A gone position's
-- pairs get no lines, a new one's do."
unfoldable pub address_lines : (position before after : ℕ) → List Line
address_lines x a b = cond (eqb a b) [] (address_changed x b ∷ [])

unfoldable pub lines_at : ℕ → (before after : Seen) → List Line
lines_at x absent absent = []
lines_at x absent (present b qs) = position_new x b ∷ map (pair_new x) qs
lines_at x (present a ps) absent = position_gone x ∷ []
lines_at x (present a ps) (present b qs) = address_lines x a b ++ map (pair_gone x) (missing ps qs) ++ map (pair_new x) (missing qs ps)

unfoldable pub differences : (first second : List NodeRow) → List Line
differences f s = collect (λ (x : ℕ). lines_at x (seen_at x f) (seen_at x s)) (up_from 1 max_units)

-- "A line is kind (1 to 5, as listed), position, address (2; the second listing's, kinds 2 and 3), block, number (kinds 4 and 5), unused
-- bytes 0."
unfoldable pub bytes_of : (kind position address block number : ℕ) → List ℕ
bytes_of k x a b n = k ∷ x ∷ two a ++ b ∷ n ∷ []

unfoldable pub line_bytes : Line → List ℕ
line_bytes (position_gone x) = bytes_of 1 x 0 0 0
line_bytes (position_new x a) = bytes_of 2 x a 0 0
line_bytes (address_changed x a) = bytes_of 3 x a 0 0
line_bytes (pair_gone x p) = bytes_of 4 x 0 p.block p.number
line_bytes (pair_new x p) = bytes_of 5 x 0 p.block p.number

unfoldable pub lines_bytes : List Line → List ℕ
lines_bytes ls = collect line_bytes ls

-- 2: "a row with a position outside 1 to 63, more than 24 pairs or a pair twice" (24: ticket 8)
unfoldable pub twice : List Pair → Bool
twice [] = false
twice (a ∷ rest) = holds rest a || twice rest

unfoldable pub is_bad : NodeRow → Bool
is_bad r = not (leb 1 r.position && ltb r.position max_nodes) || ltb max_pairs (length r.pairs) || twice r.pairs

-- 20: "rows not in rising position order"; the first number is the position before, and lower than all
unfoldable pub falls : (last : ℕ) → List NodeRow → Bool
falls last [] = false
falls last (r ∷ rs) = leb r.position last || falls r.position rs

-- 21: "no room for all differences", given exactly if they don't fit; "in this order, and nothing is written"
pub data Compared : Type 0 where
  uncompared : (number : ℕ) → Compared
  differ : List Line → Compared

unfoldable pub fitted : List Line → (room : ℕ) → Compared
fitted ls room = cond (ltb room (length (lines_bytes ls))) (uncompared 21) (differ ls)

unfoldable pub compare : (first second : List NodeRow) → (room : ℕ) → Compared
compare f s room =
    cond (any is_bad f || any is_bad s) (uncompared 2)
    (cond (falls 0 f || falls 0 s) (uncompared 20) (fitted (differences f s) room))

-- the number given back, 0 where they are compared; the bytes written to the lent buffer, from its start; the buffer afterwards
unfoldable pub compared_number : Compared → ℕ
compared_number (uncompared n) = n
compared_number (differ ls) = 0

unfoldable pub compared_bytes : Compared → List ℕ
compared_bytes (uncompared n) = []
compared_bytes (differ ls) = lines_bytes ls

unfoldable pub compared_lent : List ℕ → Compared → List ℕ
compared_lent buffer c = sets buffer 0 (compared_bytes c)
