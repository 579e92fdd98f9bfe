-- The sentences of ticket 6 as one table: two lists of rows and the room, the number and the bytes that come back; the rows of pictures.
use Rattle.std.specs.Prelude.{ℕ, ◌+◌, List, [], ◌∷◌, ◌++◌, map}
use Rattle.laws.specs.Lists.{collect, up_from}
use Rattle.rules.specs.Picture.{Pair}
use Rattle.rules.specs.Table.{hex, with_room}
use Rattle.rules_diff.specs.Differences.{NodeRow}
use Rattle.rules_diff.specs.Table.{Edge, edge, lists, rows_after, gives, rows}

abbrev pair : (block number : ℕ) → Pair
pair b n = record { block = b; number = n }

abbrev row : (position address : ℕ) → List Pair → NodeRow
row x a ps = record { position = x; address = a; pairs = ps }

-- n pairs of a block, from number k on
unfoldable pub many : (block k n : ℕ) → List Pair
many b k n = map (pair b) (up_from k n)

-- a row with two pairs, and with none
abbrev both : List Pair
both = pair 0x22 0x01 ∷ pair 0x31 0x01 ∷ []

abbrev bare : ℕ → NodeRow
bare x = row x 0x0101 []

-- two lists with all the room they need; two that are refused, however much room there is
abbrev differing : (first second : List NodeRow) → (bytes : ℕ) → ℕ → Edge
differing f s k n = edge (lists f s k) (gives 0 (hex k n))

abbrev refused : (first second : List NodeRow) → (number : ℕ) → Edge
refused f s n = edge (lists f s 20000) (gives n [])

unfoldable pub diff_edges : List Edge
unfolding hex many
diff_edges =
    -- nothing on either side; the same; the same pairs as announced in another order
    differing [] [] 0 0x0
    ∷ differing (row 3 0x0103 both ∷ []) (row 3 0x0103 both ∷ []) 0 0x0
    ∷ differing (row 3 0x0103 both ∷ []) (row 3 0x0103 (pair 0x31 0x01 ∷ pair 0x22 0x01 ∷ []) ∷ []) 0 0x0
    -- a position gone: its pairs get no lines
    ∷ differing (row 3 0x0103 both ∷ []) [] 6 0x01_03_0000_00_00
    -- a position new: its pairs do, as announced in the second
    ∷ differing [] (row 63 0x02FF (pair 0x31 0x01 ∷ pair 0x22 0x01 ∷ []) ∷ []) 18 0x02_3F_02FF_00_00_05_3F_0000_31_01_05_3F_0000_22_01
    ∷ differing [] (row 1 0x0100 [] ∷ []) 6 0x02_01_0100_00_00
    -- an address changed, the second listing's; no pair lines for it
    ∷ differing (row 3 0x0103 both ∷ []) (row 3 0x0205 both ∷ []) 6 0x03_03_0205_00_00
    ∷ differing (row 3 0xFFFF both ∷ []) (row 3 0x0000 both ∷ []) 6 0x03_03_0000_00_00
    ∷ differing (row 3 0x0103 [] ∷ []) (row 3 0xFEDC [] ∷ row 62 0xBA98 [] ∷ []) 12 0x03_03_FEDC_00_00_02_3E_BA98_00_00
    -- a pair gone, a pair new, in the other order; a number changed is both
    ∷ differing (row 3 0x0103 both ∷ []) (row 3 0x0103 (pair 0x31 0x01 ∷ []) ∷ []) 6 0x04_03_0000_22_01
    ∷ differing (row 3 0x0103 (pair 0x31 0x01 ∷ []) ∷ []) (row 3 0x0103 both ∷ []) 6 0x05_03_0000_22_01
    ∷ differing (row 3 0x0103 both ∷ []) (row 3 0x0103 (pair 0x22 0x02 ∷ pair 0x31 0x01 ∷ []) ∷ []) 12 0x04_03_0000_22_01_05_03_0000_22_02
    ∷ differing (row 3 0x0103 (pair 0x22 0x01 ∷ []) ∷ []) (row 3 0x0103 (pair 0x01 0x22 ∷ []) ∷ []) 12 0x04_03_0000_22_01_05_03_0000_01_22
    -- address, pairs gone as announced in the first, pairs new as announced in the second
    ∷ differing (row 7 0x0107 (pair 0x50 0x02 ∷ pair 0x22 0x01 ∷ pair 0x40 0x01 ∷ []) ∷ []) (row 7 0x0108 (pair 0x60 0x01 ∷ pair 0x22 0x01 ∷ pair 0x30 0x01 ∷ []) ∷ []) 30
    0x03_07_0108_00_00_04_07_0000_50_02_04_07_0000_40_01_05_07_0000_60_01_05_07_0000_30_01
    -- by position: what is gone between what is new and what has changed
    ∷ differing (row 2 0x0102 [] ∷ row 4 0x0104 [] ∷ []) (row 1 0x0101 [] ∷ row 4 0x0105 [] ∷ row 5 0x0106 (pair 0x22 0x01 ∷ []) ∷ []) 30
    0x02_01_0101_00_00_01_02_0000_00_00_03_04_0105_00_00_02_05_0106_00_00_05_05_0000_22_01
    -- a unit that has changed places: gone from one position, new at the other, pair by pair
    ∷ differing (row 1 0x0101 (pair 0x22 0x01 ∷ []) ∷ row 2 0x0102 (pair 0x31 0x01 ∷ []) ∷ []) (row 1 0x0102 (pair 0x31 0x01 ∷ []) ∷ row 2 0x0101 (pair 0x22 0x01 ∷ []) ∷ []) 36
    0x03_01_0102_00_00_04_01_0000_22_01_05_01_0000_31_01_03_02_0101_00_00_04_02_0000_31_01_05_02_0000_22_01
    -- addresses, blocks and numbers may be anything, and shared between rows
    ∷ differing [] (row 1 0x0101 (pair 0x00 0xFF ∷ pair 0xFF 0x00 ∷ []) ∷ row 2 0x0101 (pair 0x00 0xFF ∷ []) ∷ []) 30
    0x02_01_0101_00_00_05_01_0000_00_FF_05_01_0000_FF_00_02_02_0101_00_00_05_02_0000_00_FF
    -- 2: a position outside 1 to 63, in either list
    ∷ refused (bare 0 ∷ []) [] 2
    ∷ refused [] (bare 0 ∷ []) 2
    ∷ refused (bare 64 ∷ []) [] 2
    ∷ refused [] (bare 255 ∷ []) 2
    ∷ differing (bare 1 ∷ bare 63 ∷ []) (bare 1 ∷ bare 63 ∷ []) 0 0x0
    ∷ differing (bare 63 ∷ []) [] 6 0x01_3F_0000_00_00
    ∷ differing (row 63 0x0101 (pair 0xFE 0xFD ∷ []) ∷ []) (row 63 0x0101 (pair 0xFD 0xFE ∷ []) ∷ []) 12 0x04_3F_0000_FE_FD_05_3F_0000_FD_FE
    -- more than 24 pairs; a gone position of 24 is one line
    ∷ refused (row 1 0x0101 (many 0x22 1 25) ∷ []) [] 2
    ∷ refused [] (row 1 0x0101 (many 0x22 1 25) ∷ []) 2
    ∷ differing (row 1 0x0101 (many 0x22 1 24) ∷ []) [] 6 0x01_01_0000_00_00
    ∷ edge (lists [] (row 1 0x0101 (many 0x22 1 24) ∷ []) 150) (gives 0 (hex 6 0x02_01_0101_00_00 ++ collect (λ (n : ℕ). hex 6 (0x05_01_0000_22_00 + n)) (up_from 1 24)))
    ∷ differing (row 1 0x0101 (many 0x22 1 24) ∷ []) (row 1 0x0101 (many 0x22 2 24) ∷ []) 12 0x04_01_0000_22_01_05_01_0000_22_19
    -- a pair twice, side by side and at the ends; one block or one number twice is none
    ∷ refused (row 1 0x0101 (pair 0x22 0x01 ∷ pair 0x22 0x01 ∷ []) ∷ []) [] 2
    ∷ refused [] (row 1 0x0101 (pair 0x22 0x01 ∷ many 0x31 1 10 ++ pair 0x22 0x01 ∷ []) ∷ []) 2
    ∷ refused [] (bare 1 ∷ row 2 0x0101 (many 0x31 1 10 ++ pair 0x31 0x0A ∷ []) ∷ []) 2
    ∷ differing (row 1 0x0101 (pair 0x22 0x01 ∷ pair 0x22 0x02 ∷ pair 0x31 0x01 ∷ []) ∷ []) [] 6 0x01_01_0000_00_00
    -- 20: falling and equal positions, in either list
    ∷ refused (bare 2 ∷ bare 1 ∷ []) [] 20
    ∷ refused (bare 2 ∷ bare 2 ∷ []) [] 20
    ∷ refused [] (bare 1 ∷ bare 3 ∷ bare 2 ∷ []) 20
    ∷ refused [] (bare 1 ∷ bare 3 ∷ bare 4 ∷ bare 4 ∷ []) 20
    -- 2 before 20, also for a row behind the disorder and in the other list
    ∷ refused (bare 2 ∷ bare 1 ∷ bare 0 ∷ []) [] 2
    ∷ refused (bare 2 ∷ bare 1 ∷ []) (bare 64 ∷ []) 2
    -- 2 and 20 before 21
    ∷ edge (lists (bare 0 ∷ []) [] 0) (gives 2 [])
    ∷ edge (lists (bare 2 ∷ bare 1 ∷ []) [] 0) (gives 20 [])
    -- 21: exactly if they do not fit
    ∷ edge (lists (bare 1 ∷ []) [] 5) (gives 21 [])
    ∷ edge (lists (bare 1 ∷ []) [] 7) (gives 0 (hex 6 0x01_01_0000_00_00))
    ∷ edge (lists (bare 1 ∷ bare 2 ∷ []) [] 11) (gives 21 [])
    ∷ edge (lists (bare 1 ∷ bare 2 ∷ []) [] 12) (gives 0 (hex 12 0x01_01_0000_00_00_01_02_0000_00_00))
    -- the rows of a picture: none before START; a LISTED and a SETTING row, and no WAITING one
    ∷ edge (rows_after 12 []) (rows [])
    ∷ edge
    (rows_after 12
    (with_room 8 0x4D45_01_00000000_04
    ∷ with_room 15 0x4D45_04_00000001_01_0101_02_2201_3101
    ∷ with_room 15 0x4D45_04_00000001_03_0103_02_2201_4001 ∷ []))
    (rows (row 1 0x0101 both ∷ row 3 0x0103 (pair 0x40 0x01 ∷ []) ∷ []))
    -- no SILENT row, none after a SHUTDOWN
    ∷ edge
    (rows_after 12
    (with_room 8 0x4D45_01_00000000_03
    ∷ with_room 8 0x4D45_05_00000001_01
    ∷ with_room 13 0x4D45_04_00000001_02_0102_01_2201 ∷ []))
    (rows (row 2 0x0102 (pair 0x22 0x01 ∷ []) ∷ []))
    ∷ edge
    (rows_after 12
    (with_room 8 0x4D45_01_00000000_02
    ∷ with_room 13 0x4D45_04_00000001_01_0102_01_2201
    ∷ with_room 8 0x4D45_03_00000000_00 ∷ []))
    (rows [])
    -- a unit that lists nothing is a row all the same
    ∷ edge (rows_after 12 (with_room 8 0x4D45_01_00000000_02 ∷ with_room 11 0x4D45_04_00000001_01_0102_00 ∷ [])) (rows (row 1 0x0102 [] ∷ []))
    ∷ []
