-- The edges of paper 01 and its whole session as one table; the slips to rule out stand in it too.
use Rattle.std.specs.Prelude.{ℕ, List, [], ◌∷◌, ◌++◌, replicate}
use Rattle.laws.specs.Lists.{collect, up_from}
use Rattle.rules.specs.Run.{Record}
use Rattle.rules.specs.Telegram.{count_is, cut_to, opened, still_open}
use Rattle.rules.specs.Table.{hex, with_room, gives, no_orders, refusal, entry, records, listing_after, to_count, to_cut, to_join, results, listing, count, telegram, joined, Edge, edge}

-- the 63 ASKs of pass 1
unfoldable pub asks63 : List ℕ
unfolding hex
asks63 = collect (λ (x : ℕ). hex 7 0x4D4F_01_00000001 ++ x ∷ []) (up_from 1 63)

-- "One bench session, whole (L = 12)"
abbrev pub session : List Record
session =
    with_room 8 0x4D45_01_00000000_03
    ∷ with_room 13 0x4D45_04_00000001_01_0101_01_2201
    ∷ with_room 13 0x4D45_04_00000001_02_0102_01_2201
    ∷ with_room 13 0x4D45_04_00000001_02_0102_01_2202
    ∷ []

-- a unit that refuses every renumbering of its only pair
abbrev pub stubborn : List Record
stubborn =
    with_room 8 0x4D45_01_00000000_03
    ∷ with_room 13 0x4D45_04_00000001_01_0101_01_2201
    ∷ with_room 13 0x4D45_04_00000001_02_0102_01_2201
    ∷ with_room 13 0x4D45_04_00000001_02_0102_01_2201
    ∷ with_room 13 0x4D45_04_00000001_02_0102_01_2201
    ∷ with_room 13 0x4D45_04_00000001_02_0102_01_2201
    ∷ []

unfoldable pub edges : List Edge
unfolding hex asks63
edges =
    -- * START 1 gives OK at once
    edge (records 12 (with_room 8 0x4D45_01_00000000_01 ∷ [])) (results (gives 7 0x4D4F_03_00000001 ∷ []))
    -- * N 0 and 65 refusal 2, 64 taken
    ∷ edge (records 12 (with_room 8 0x4D45_01_00000000_00 ∷ with_room 8 0x4D45_01_00000000_41 ∷ with_room 8 0x4D45_01_00000000_40 ∷ []))
    (results (refusal 2 ∷ refusal 2 ∷ record { number = 0; length = 504; bytes = asks63 } ∷ []))
    -- * address 0100 bad, 0101 good
    ∷ edge (records 12 (with_room 8 0x4D45_01_00000000_02 ∷ with_room 11 0x4D45_04_00000001_01_0100_00 ∷ with_room 11 0x4D45_04_00000002_01_0101_00 ∷ []))
    (results (gives 8 0x4D4F_01_00000001_01 ∷ gives 15 0x4D4F_04_00000002_4D4F_01_00000002_01 ∷ gives 7 0x4D4F_03_00000002 ∷ []))
    -- 02FF good, * 0300 bad
    ∷ edge (records 12 (with_room 8 0x4D45_01_00000000_02 ∷ with_room 11 0x4D45_04_00000001_01_0300_00 ∷ with_room 11 0x4D45_04_00000002_01_02FF_00 ∷ []))
    (results (gives 8 0x4D4F_01_00000001_01 ∷ gives 15 0x4D4F_04_00000002_4D4F_01_00000002_01 ∷ gives 7 0x4D4F_03_00000002 ∷ []))
    -- * count 25 refused; 24 taken (ticket 8)
    ∷ edge
    (records 12
    (with_room 8 0x4D45_01_00000000_02
    ∷ with_room 61 0x4D45_04_00000001_01_0101_19_2201_2202_2203_2204_2205_2206_2207_2208_2209_220A_220B_220C_220D_220E_220F_2210_2211_2212_2213_2214_2215_2216_2217_2218_2219
    ∷ with_room 59 0x4D45_04_00000001_01_0101_18_2201_2202_2203_2204_2205_2206_2207_2208_2209_220A_220B_220C_220D_220E_220F_2210_2211_2212_2213_2214_2215_2216_2217_2218
    ∷ []))
    (results (gives 8 0x4D4F_01_00000001_01 ∷ refusal 2 ∷ gives 7 0x4D4F_03_00000001 ∷ []))
    -- * number 00 and FF renumbered, FE kept
    ∷ edge
    (records 12
    (with_room 8 0x4D45_01_00000000_02
    ∷ with_room 17 0x4D45_04_00000001_01_0101_03_2200_22FF_22FE
    ∷ with_room 17 0x4D45_04_00000001_01_0101_03_2201_22FF_22FE
    ∷ with_room 17 0x4D45_04_00000001_01_0101_03_2201_2202_22FE
    ∷ []))
    (results
    (gives 8 0x4D4F_01_00000001_01
    ∷ gives 13 0x4D4F_02_00000001_01_0101_22_00_01
    ∷ gives 13 0x4D4F_02_00000001_01_0101_22_FF_02
    ∷ gives 7 0x4D4F_03_00000001
    ∷ []))
    -- * room 8,191 refusal 1; 8,192 taken
    ∷ edge (records 12 (record { bytes = hex 8 0x4D45_01_00000000_01; room = 8_191 } ∷ record { bytes = hex 8 0x4D45_01_00000000_01; room = 8_192 } ∷ []))
    (results (refusal 1 ∷ gives 7 0x4D4F_03_00000001 ∷ []))
    -- * NONE of an old pass after NCE, 5
    ∷ edge (records 12 (with_room 8 0x4D45_01_00000000_02 ∷ with_room 8 0x4D45_02_00000000_02 ∷ with_room 8 0x4D45_05_00000001_01 ∷ []))
    (results (gives 8 0x4D4F_01_00000001_01 ∷ gives 15 0x4D4F_04_00000002_4D4F_01_00000002_01 ∷ refusal 5 ∷ []))
    -- * payload 12 at L = 12: one telegram
    ∷ edge (to_count 12 12) (count (count_is 1))
    ∷ edge (to_cut 12 0x0102000C (hex 12 0x000102030405060708090A0B) 1 18) (telegram (cut_to (hex 18 0x0102000C_000C_000102030405060708090A0B)))
    -- * 13: two, TelLen 12 and 3
    ∷ edge (to_count 12 13) (count (count_is 2))
    ∷ edge (to_cut 12 0x0102000C (hex 13 0x000102030405060708090A0B0C) 1 18) (telegram (cut_to (hex 18 0x0102000C_100C_00_000102030405060708090A)))
    ∷ edge (to_cut 12 0x0102000C (hex 13 0x000102030405060708090A0B0C) 2 9) (telegram (cut_to (hex 9 0x0102000C_3003_01_0B0C)))
    -- * counter 255, then 0: cut, and joined
    ∷ edge (to_cut 12 0x0102000C (replicate 2_838 0xAB) 256 18) (telegram (cut_to (hex 18 0x0102000C_200C_FF_ABABABABABABABABABABAB)))
    ∷ edge (to_cut 12 0x0102000C (replicate 2_838 0xAB) 257 18) (telegram (cut_to (hex 18 0x0102000C_200C_00_ABABABABABABABABABABAB)))
    ∷ edge (to_join 12 (opened 0x0102000C 255 5) 65_535 (hex 9 0x0102000C_2003_FF_ABAB ∷ hex 9 0x0102000C_2003_00_CD_EF ∷ []))
    (joined (still_open ∷ still_open ∷ []) (opened 0x0102000C 1 9) (hex 8 0x0000000000_ABABCD))
    -- * the session above
    ∷ edge (records 12 session)
    (results (gives 16 0x4D4F_01_00000001_01_4D4F_01_00000001_02 ∷ no_orders ∷ gives 13 0x4D4F_02_00000001_02_0102_22_01_02 ∷ gives 7 0x4D4F_03_00000001 ∷ []))
    ∷ edge (listing_after 12 session) (listing (entry 1 0x0101 0x22 0x01 ∷ entry 2 0x0102 0x22 0x02 ∷ []))
    -- a unit that refuses three renumberings of its only pair ends LISTED with no pairs: the place is not reset at each answer
    ∷ edge (records 12 stubborn)
    (results
    (gives 16 0x4D4F_01_00000001_01_4D4F_01_00000001_02
    ∷ no_orders
    ∷ gives 13 0x4D4F_02_00000001_02_0102_22_01_02
    ∷ gives 13 0x4D4F_02_00000001_02_0102_22_01_02
    ∷ gives 13 0x4D4F_02_00000001_02_0102_22_01_02
    ∷ gives 7 0x4D4F_03_00000001
    ∷ []))
    ∷ edge (listing_after 12 stubborn) (listing (entry 1 0x0101 0x22 0x01 ∷ []))
    -- two units with one address: both are IGNORED, and silences for both are refusal 7
    ∷ edge
    (records 12
    (with_room 8 0x4D45_01_00000000_03
    ∷ with_room 11 0x4D45_04_00000001_01_0101_00
    ∷ with_room 11 0x4D45_04_00000001_02_0101_00
    ∷ with_room 11 0x4D45_04_00000002_01_0101_00
    ∷ with_room 11 0x4D45_04_00000002_02_0101_00
    ∷ with_room 11 0x4D45_04_00000003_01_0101_00
    ∷ with_room 11 0x4D45_04_00000003_02_0101_00
    ∷ with_room 8 0x4D45_05_00000003_01
    ∷ with_room 8 0x4D45_05_00000003_02
    ∷ []))
    (results
    (gives 16 0x4D4F_01_00000001_01_4D4F_01_00000001_02
    ∷ no_orders
    ∷ gives 23 0x4D4F_04_00000002_4D4F_01_00000002_01_4D4F_01_00000002_02
    ∷ no_orders
    ∷ gives 23 0x4D4F_04_00000003_4D4F_01_00000003_01_4D4F_01_00000003_02
    ∷ no_orders
    ∷ gives 7 0x4D4F_03_00000003
    ∷ refusal 7
    ∷ refusal 7
    ∷ []))
    -- units exchanged at a re-plug: the SET of the new pass goes to the address announced in it
    ∷ edge
    (records 12
    (with_room 8 0x4D45_01_00000000_03
    ∷ with_room 13 0x4D45_04_00000001_01_0101_01_2201
    ∷ with_room 13 0x4D45_04_00000001_02_0102_01_2202
    ∷ with_room 8 0x4D45_02_00000000_03
    ∷ with_room 13 0x4D45_04_00000002_01_0102_01_2201
    ∷ with_room 13 0x4D45_04_00000002_02_0101_01_2201
    ∷ []))
    (results
    (gives 16 0x4D4F_01_00000001_01_4D4F_01_00000001_02
    ∷ no_orders
    ∷ gives 7 0x4D4F_03_00000001
    ∷ gives 28 0x4D4F_01_00000002_01_4D4F_01_00000002_02_4D4F_06_00000002_02_2201_2202
    ∷ gives 10 0x4D4F_05_00000002_01_2201
    ∷ gives 13 0x4D4F_02_00000002_02_0101_22_01_02
    ∷ []))
    -- a silent unit does not hold back OK
    ∷ edge (records 12 (with_room 8 0x4D45_01_00000000_03 ∷ with_room 13 0x4D45_04_00000001_01_0101_01_2201 ∷ with_room 8 0x4D45_05_00000001_02 ∷ []))
    (results (gives 16 0x4D4F_01_00000001_01_4D4F_01_00000001_02 ∷ no_orders ∷ gives 14 0x4D4F_03_00000001_4D4F_07_00000001 ∷ []))
    ∷ []
