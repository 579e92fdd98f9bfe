-- Steps, refusals and limits of paper 01 that the edges do not show, as a second table. An independent model of the paper gave the
-- results, but for the row of silences, number 10 for L = 46 and for a cut: these were worked out by hand.
use Rattle.std.specs.Prelude.{ℕ, zero, suc, List, [], ◌∷◌, ◌++◌}
use Rattle.rules.specs.Run.{Record, Result}
use Rattle.rules.specs.Listing.{found, not_found}
use Rattle.rules.specs.Telegram.{uncounted, count_is, uncut, cut_to}
use Rattle.rules.specs.Table.{hex, with_room, gives, no_orders, refusal, entry, to_make, records, records_from, listing_after, look_up_after, to_count, to_cut, made, results, listing, look_up, count, telegram, Edge, edge}

-- so many times the same records, or the same results
unfoldable pub times : {A : Type 0} → ℕ → List A → List A
times zero xs = []
times (suc n) xs = xs ++ times n xs

-- a unit that is silent twenty times and more, answers, and falls silent again
abbrev pub silences : List Record
silences =
    with_room 8 0x4D45_01_00000000_02
    ∷ with_room 8 0x4D45_05_00000001_01
    ∷ times 20 (with_room 8 0x4D45_06_00000001_00 ∷ with_room 8 0x4D45_05_00000001_01 ∷ [])
    ++ with_room 8 0x4D45_06_00000001_00
    ∷ with_room 13 0x4D45_04_00000001_01_0101_01_2201
    ∷ with_room 15 0x4D45_04_00000001_01_0101_02_2201_2200
    ∷ with_room 8 0x4D45_05_00000001_01
    ∷ []

abbrev pub silences_give : List Result
silences_give =
    gives 8 0x4D4F_01_00000001_01
    ∷ gives 14 0x4D4F_03_00000001_4D4F_07_00000001
    ∷ times 18 (gives 8 0x4D4F_01_00000001_01 ∷ gives 7 0x4D4F_07_00000001 ∷ [])
    ++ times 2 (gives 8 0x4D4F_01_00000001_01 ∷ gives 7 0x4D4F_08_00000001 ∷ [])
    ++ gives 8 0x4D4F_01_00000001_01
    ∷ gives 10 0x4D4F_05_00000001_01_2201
    ∷ gives 13 0x4D4F_02_00000001_01_0101_22_00_02
    ∷ gives 17 0x4D4F_06_00000001_01_2201_4D4F_07_00000001
    ∷ []

-- sessions that are looked at in more than one way
abbrev pub malformed_records : List Record
malformed_records =
    with_room 0 0
    ∷ with_room 7 0x4D45_01_00000000
    ∷ with_room 9 0x4D45_05_00000000_01_00
    ∷ with_room 9 0x4D45_01_00000000_02_00
    ∷ with_room 8 0x4C45_01_00000000_02
    ∷ with_room 8 0x4D44_01_00000000_02
    ∷ with_room 8 0x4D45_00_00000000_00
    ∷ with_room 8 0x4D45_07_00000000_01
    ∷ with_room 8 0x4D45_01_00000001_02
    ∷ with_room 8 0x4D45_02_00000001_02
    ∷ with_room 8 0x4D45_02_00000000_00
    ∷ with_room 8 0x4D45_02_00000000_41
    ∷ with_room 8 0x4D45_03_00000001_00
    ∷ with_room 8 0x4D45_03_00000000_01
    ∷ with_room 8 0x4D45_06_00000000_01
    ∷ with_room 10 0x4D45_04_00000000_01_0101
    ∷ with_room 14 0x4D45_04_00000000_01_0101_01_2201_00
    ∷ with_room 12 0x4D45_04_00000000_01_0101_01_22
    ∷ with_room 13 0x4D45_04_00000000_01_0101_01_0001
    ∷ with_room 13 0x4D45_04_00000000_01_0101_01_0101
    ∷ with_room 13 0x4D45_04_00000000_01_0101_01_FF01
    ∷ with_room 15 0x4D45_04_00000000_01_0101_02_2201_0101
    ∷ with_room 8 0x4D45_01_00000000_02
    ∷ with_room 15 0x4D45_04_00000001_01_0101_02_0201_FE01
    ∷ []

abbrev pub reordered : List Record
reordered =
    with_room 8 0x4D45_01_00000000_02
    ∷ with_room 11 0x4D45_04_00000001_01_0101_00
    ∷ with_room 25 0x4D45_04_00000001_01_0101_07_2201_2202_2203_2204_2205_2206_2207
    ∷ with_room 25 0x4D45_04_00000001_01_0101_07_2207_2206_2205_2204_2203_2202_2201
    ∷ with_room 17 0x4D45_04_00000001_01_0101_03_3101_2203_3102
    ∷ []

abbrev pub conflicts_in_ok : List Record
conflicts_in_ok =
    with_room 8 0x4D45_01_00000000_04
    ∷ with_room 13 0x4D45_04_00000001_01_0101_01_2201
    ∷ with_room 13 0x4D45_04_00000001_02_0102_01_2202
    ∷ with_room 13 0x4D45_04_00000001_03_0103_01_2203
    ∷ with_room 13 0x4D45_04_00000001_03_0101_01_2203
    ∷ with_room 13 0x4D45_04_00000002_01_0101_01_2201
    ∷ with_room 13 0x4D45_04_00000002_02_0102_01_2202
    ∷ with_room 13 0x4D45_04_00000002_03_0103_01_2203
    ∷ with_room 13 0x4D45_04_00000002_03_0104_01_2203
    ∷ with_room 13 0x4D45_04_00000003_01_0101_01_2201
    ∷ with_room 13 0x4D45_04_00000003_02_0102_01_2202
    ∷ with_room 13 0x4D45_04_00000003_03_0103_01_2203
    ∷ with_room 13 0x4D45_04_00000003_03_0101_01_2201
    ∷ with_room 13 0x4D45_04_00000003_02_0101_01_2202
    ∷ with_room 8 0x4D45_02_00000000_03
    ∷ []

abbrev pub places_by_index : List Record
places_by_index =
    with_room 8 0x4D45_01_00000000_03
    ∷ with_room 15 0x4D45_04_00000001_01_0101_02_2201_2202
    ∷ with_room 17 0x4D45_04_00000001_02_0102_03_2203_2201_2202
    ∷ with_room 17 0x4D45_04_00000001_02_0102_03_3101_2200_2202
    ∷ with_room 15 0x4D45_04_00000001_02_0102_02_2201_22FF
    ∷ with_room 15 0x4D45_04_00000001_02_0102_02_2201_3100
    ∷ with_room 15 0x4D45_04_00000001_02_0102_02_2200_2200
    ∷ with_room 8 0x4D45_05_00000001_02
    ∷ []

abbrev pub shorter_answer : List Record
shorter_answer =
    with_room 8 0x4D45_01_00000000_03
    ∷ with_room 13 0x4D45_04_00000001_01_0101_01_2201
    ∷ with_room 15 0x4D45_04_00000001_02_0102_02_3101_2201
    ∷ with_room 13 0x4D45_04_00000001_02_0102_01_3101
    ∷ []

abbrev pub free_numbers : List Record
free_numbers =
    with_room 8 0x4D45_01_00000000_03
    ∷ with_room 17 0x4D45_04_00000001_01_0101_03_2201_2202_2204
    ∷ with_room 19 0x4D45_04_00000001_02_0102_04_2203_2206_2203_2204
    ∷ with_room 19 0x4D45_04_00000001_02_0102_04_2203_2206_2205_2204
    ∷ []

abbrev pub setting_in_ok : List Record
setting_in_ok =
    with_room 8 0x4D45_01_00000000_03
    ∷ with_room 13 0x4D45_04_00000001_01_0101_01_2201
    ∷ with_room 11 0x4D45_04_00000001_02_0102_00
    ∷ with_room 15 0x4D45_04_00000001_02_0102_02_2201_3101
    ∷ []

abbrev pub just_started : List Record
just_started =
    with_room 8 0x4D45_01_00000000_02
    ∷ []

unfoldable pub cases : List Edge
unfolding hex times
cases =
    -- nineteen short waits, then long ones; a good address zeroes the count
    edge (records 12 silences) (results silences_give)
    -- refusals 3, 4, 5, 6, 7 and 8, and the order among them
    ∷ edge
    (records 12
    (with_room 8 0x4D45_02_00000000_03
    ∷ with_room 8 0x4D45_03_00000000_00
    ∷ with_room 11 0x4D45_04_00000000_01_0101_00
    ∷ with_room 8 0x4D45_05_00000000_01
    ∷ with_room 8 0x4D45_06_00000000_00
    ∷ with_room 8 0x4D45_01_00000000_03
    ∷ with_room 8 0x4D45_01_00000000_03
    ∷ with_room 8 0x4D45_05_00000000_00
    ∷ with_room 8 0x4D45_05_00000001_00
    ∷ with_room 8 0x4D45_05_00000001_03
    ∷ with_room 11 0x4D45_04_00000001_03_0101_00
    ∷ with_room 11 0x4D45_04_00000001_FF_0101_00
    ∷ with_room 8 0x4D45_06_00000000_00
    ∷ with_room 8 0x4D45_06_00000001_00
    ∷ with_room 11 0x4D45_04_00000001_01_0101_00
    ∷ with_room 11 0x4D45_04_00000001_01_0101_00
    ∷ with_room 8 0x4D45_05_00000001_01
    ∷ with_room 11 0x4D45_04_00000000_01_0101_00
    ∷ with_room 11 0x4D45_04_00000001_02_0100_00
    ∷ with_room 11 0x4D45_04_00000002_02_0100_00
    ∷ with_room 11 0x4D45_04_00000003_02_0100_00
    ∷ with_room 8 0x4D45_05_00000003_02
    ∷ with_room 11 0x4D45_04_00000003_02_0102_00
    ∷ with_room 8 0x4D45_05_00000002_02
    ∷ with_room 8 0x4D45_05_00000003_01
    ∷ with_room 8 0x4D45_06_00000003_00
    ∷ with_room 8 0x4D45_03_00000000_00
    ∷ with_room 8 0x4D45_05_00000003_01
    ∷ with_room 8 0x4D45_01_00000000_02
    ∷ []))
    (results
    (refusal 3
    ∷ refusal 3
    ∷ refusal 3
    ∷ refusal 3
    ∷ refusal 3
    ∷ gives 16 0x4D4F_01_00000001_01_4D4F_01_00000001_02
    ∷ refusal 4
    ∷ refusal 5
    ∷ refusal 6
    ∷ refusal 6
    ∷ refusal 6
    ∷ refusal 6
    ∷ refusal 5
    ∷ refusal 8
    ∷ no_orders
    ∷ refusal 8
    ∷ refusal 8
    ∷ refusal 5
    ∷ gives 23 0x4D4F_04_00000002_4D4F_01_00000002_01_4D4F_01_00000002_02
    ∷ gives 23 0x4D4F_04_00000003_4D4F_01_00000003_01_4D4F_01_00000003_02
    ∷ no_orders
    ∷ refusal 7
    ∷ refusal 7
    ∷ refusal 5
    ∷ gives 14 0x4D4F_03_00000003_4D4F_07_00000003
    ∷ gives 8 0x4D4F_01_00000003_01
    ∷ no_orders
    ∷ refusal 3
    ∷ gives 8 0x4D4F_01_00000004_01
    ∷ []))
    -- number 2: lengths, marks, kinds, unused fields, N, count, blocks
    ∷ edge
    (records 12 malformed_records)
    (results
    (refusal 2
    ∷ refusal 2
    ∷ refusal 2
    ∷ refusal 2
    ∷ refusal 2
    ∷ refusal 2
    ∷ refusal 2
    ∷ refusal 2
    ∷ refusal 2
    ∷ refusal 2
    ∷ refusal 2
    ∷ refusal 2
    ∷ refusal 2
    ∷ refusal 2
    ∷ refusal 2
    ∷ refusal 2
    ∷ refusal 2
    ∷ refusal 2
    ∷ refusal 2
    ∷ refusal 2
    ∷ refusal 2
    ∷ refusal 2
    ∷ gives 8 0x4D4F_01_00000001_01
    ∷ gives 7 0x4D4F_03_00000001
    ∷ []))
    ∷ edge (listing_after 12 malformed_records) (listing (entry 1 0x0101 0x02 0x01 ∷ entry 1 0x0101 0xFE 0x01 ∷ []))
    -- INVALID before NEW, at most (L−1)/2 pairs in an order, as announced; a mere reordering tells nothing
    ∷ edge
    (records 12 reordered)
    (results
    (gives 8 0x4D4F_01_00000001_01
    ∷ gives 7 0x4D4F_03_00000001
    ∷ gives 30 0x4D4F_05_00000001_05_2201_2202_2203_2204_2205_4D4F_05_00000001_02_2206_2207
    ∷ no_orders
    ∷ gives 40 0x4D4F_06_00000001_05_2207_2206_2205_2204_2202_4D4F_06_00000001_01_2201_4D4F_05_00000001_02_3101_3102
    ∷ []))
    ∷ edge (listing_after 12 reordered) (listing (entry 1 0x0101 0x31 0x01 ∷ entry 1 0x0101 0x22 0x03 ∷ entry 1 0x0101 0x31 0x02 ∷ []))
    -- the same pairs fit one order more for L = 14, and one order for L = 45
    ∷ edge
    (records 14
    (with_room 8 0x4D45_01_00000000_02
    ∷ with_room 11 0x4D45_04_00000001_01_0101_00
    ∷ with_room 25 0x4D45_04_00000001_01_0101_07_2201_2202_2203_2204_2205_2206_2207
    ∷ []))
    (results
    (gives 8 0x4D4F_01_00000001_01
    ∷ gives 7 0x4D4F_03_00000001
    ∷ gives 30 0x4D4F_05_00000001_06_2201_2202_2203_2204_2205_2206_4D4F_05_00000001_01_2207
    ∷ []))
    ∷ edge
    (records 13
    (with_room 8 0x4D45_01_00000000_02
    ∷ with_room 11 0x4D45_04_00000001_01_0101_00
    ∷ with_room 25 0x4D45_04_00000001_01_0101_07_2201_2202_2203_2204_2205_2206_2207
    ∷ []))
    (results
    (gives 8 0x4D4F_01_00000001_01
    ∷ gives 7 0x4D4F_03_00000001
    ∷ gives 30 0x4D4F_05_00000001_06_2201_2202_2203_2204_2205_2206_4D4F_05_00000001_01_2207
    ∷ []))
    ∷ edge
    (records 45
    (with_room 8 0x4D45_01_00000000_02
    ∷ with_room 11 0x4D45_04_00000001_01_0101_00
    ∷ with_room 25 0x4D45_04_00000001_01_0101_07_2201_2202_2203_2204_2205_2206_2207
    ∷ with_room 11 0x4D45_04_00000001_01_0101_00
    ∷ []))
    (results
    (gives 8 0x4D4F_01_00000001_01
    ∷ gives 7 0x4D4F_03_00000001
    ∷ gives 22 0x4D4F_05_00000001_07_2201_2202_2203_2204_2205_2206_2207
    ∷ gives 22 0x4D4F_06_00000001_07_2201_2202_2203_2204_2205_2206_2207
    ∷ []))
    -- conflicts in OK: a restart tells nothing; then two rows IGNORED, told by position in separate orders; barred; look-ups
    ∷ edge
    (records 12 conflicts_in_ok)
    (results
    (gives 24 0x4D4F_01_00000001_01_4D4F_01_00000001_02_4D4F_01_00000001_03
    ∷ no_orders
    ∷ no_orders
    ∷ gives 7 0x4D4F_03_00000001
    ∷ gives 31 0x4D4F_04_00000002_4D4F_01_00000002_01_4D4F_01_00000002_02_4D4F_01_00000002_03
    ∷ no_orders
    ∷ no_orders
    ∷ gives 7 0x4D4F_03_00000002
    ∷ gives 31 0x4D4F_04_00000003_4D4F_01_00000003_01_4D4F_01_00000003_02_4D4F_01_00000003_03
    ∷ no_orders
    ∷ no_orders
    ∷ gives 7 0x4D4F_03_00000003
    ∷ gives 20 0x4D4F_06_00000003_01_2201_4D4F_06_00000003_01_2203
    ∷ gives 10 0x4D4F_06_00000003_01_2202
    ∷ gives 16 0x4D4F_01_00000004_01_4D4F_01_00000004_02
    ∷ []))
    ∷ edge (listing_after 12 conflicts_in_ok) (listing [])
    -- c: a unit that stands at 2 takes the other with it; d: a changed address; the freed address is taken again
    ∷ edge
    (records 12
    (with_room 8 0x4D45_01_00000000_04
    ∷ with_room 11 0x4D45_04_00000001_01_0300_00
    ∷ with_room 11 0x4D45_04_00000002_01_0300_00
    ∷ with_room 13 0x4D45_04_00000003_02_0102_01_3101
    ∷ with_room 13 0x4D45_04_00000003_01_0102_01_2201
    ∷ with_room 11 0x4D45_04_00000003_03_0102_00
    ∷ with_room 8 0x4D45_05_00000003_03
    ∷ []))
    (results
    (gives 24 0x4D4F_01_00000001_01_4D4F_01_00000001_02_4D4F_01_00000001_03
    ∷ gives 31 0x4D4F_04_00000002_4D4F_01_00000002_01_4D4F_01_00000002_02_4D4F_01_00000002_03
    ∷ gives 31 0x4D4F_04_00000003_4D4F_01_00000003_01_4D4F_01_00000003_02_4D4F_01_00000003_03
    ∷ no_orders
    ∷ no_orders
    ∷ gives 7 0x4D4F_03_00000003
    ∷ refusal 7
    ∷ []))
    ∷ edge
    (records 12
    (with_room 8 0x4D45_01_00000000_03
    ∷ with_room 11 0x4D45_04_00000001_01_0101_00
    ∷ with_room 11 0x4D45_04_00000001_02_0102_00
    ∷ with_room 11 0x4D45_04_00000001_02_0103_00
    ∷ with_room 11 0x4D45_04_00000002_01_0101_00
    ∷ with_room 11 0x4D45_04_00000002_02_0103_00
    ∷ with_room 11 0x4D45_04_00000002_02_0104_00
    ∷ with_room 11 0x4D45_04_00000003_01_0101_00
    ∷ with_room 11 0x4D45_04_00000003_02_0104_00
    ∷ with_room 11 0x4D45_04_00000003_02_0105_00
    ∷ with_room 11 0x4D45_04_00000003_01_0104_00
    ∷ []))
    (results
    (gives 16 0x4D4F_01_00000001_01_4D4F_01_00000001_02
    ∷ no_orders
    ∷ gives 7 0x4D4F_03_00000001
    ∷ gives 23 0x4D4F_04_00000002_4D4F_01_00000002_01_4D4F_01_00000002_02
    ∷ no_orders
    ∷ gives 7 0x4D4F_03_00000002
    ∷ gives 23 0x4D4F_04_00000003_4D4F_01_00000003_01_4D4F_01_00000003_02
    ∷ no_orders
    ∷ gives 7 0x4D4F_03_00000003
    ∷ no_orders
    ∷ gives 15 0x4D4F_04_00000004_4D4F_01_00000004_01
    ∷ []))
    -- an address out of range bars nothing
    ∷ edge
    (records 12
    (with_room 8 0x4D45_01_00000000_03
    ∷ with_room 11 0x4D45_04_00000001_01_0100_00
    ∷ with_room 11 0x4D45_04_00000002_01_0100_00
    ∷ with_room 11 0x4D45_04_00000003_01_0100_00
    ∷ with_room 11 0x4D45_04_00000003_02_0100_00
    ∷ with_room 11 0x4D45_04_00000004_02_0102_00
    ∷ []))
    (results
    (gives 16 0x4D4F_01_00000001_01_4D4F_01_00000001_02
    ∷ gives 23 0x4D4F_04_00000002_4D4F_01_00000002_01_4D4F_01_00000002_02
    ∷ gives 23 0x4D4F_04_00000003_4D4F_01_00000003_01_4D4F_01_00000003_02
    ∷ no_orders
    ∷ gives 15 0x4D4F_04_00000004_4D4F_01_00000004_02
    ∷ gives 7 0x4D4F_03_00000004
    ∷ []))
    -- NCE frees IGNORED rows, ends the delay, and names more or fewer positions; a restart ends the delay too
    ∷ edge
    (records 12
    (with_room 8 0x4D45_01_00000000_03
    ∷ with_room 13 0x4D45_04_00000001_01_0101_01_2201
    ∷ with_room 8 0x4D45_05_00000001_02
    ∷ with_room 8 0x4D45_02_00000000_04
    ∷ with_room 8 0x4D45_06_00000002_00
    ∷ with_room 8 0x4D45_05_00000002_03
    ∷ with_room 8 0x4D45_05_00000002_01
    ∷ with_room 8 0x4D45_05_00000002_02
    ∷ with_room 8 0x4D45_02_00000000_02
    ∷ with_room 8 0x4D45_05_00000003_02
    ∷ with_room 8 0x4D45_05_00000003_01
    ∷ with_room 8 0x4D45_06_00000003_00
    ∷ with_room 11 0x4D45_04_00000003_01_0100_00
    ∷ with_room 8 0x4D45_06_00000004_00
    ∷ with_room 8 0x4D45_05_00000004_01
    ∷ []))
    (results
    (gives 16 0x4D4F_01_00000001_01_4D4F_01_00000001_02
    ∷ no_orders
    ∷ gives 14 0x4D4F_03_00000001_4D4F_07_00000001
    ∷ gives 34 0x4D4F_01_00000002_01_4D4F_01_00000002_02_4D4F_01_00000002_03_4D4F_06_00000002_01_2201
    ∷ refusal 8
    ∷ no_orders
    ∷ no_orders
    ∷ gives 7 0x4D4F_07_00000002
    ∷ gives 8 0x4D4F_01_00000003_01
    ∷ refusal 6
    ∷ gives 7 0x4D4F_07_00000003
    ∷ gives 8 0x4D4F_01_00000003_01
    ∷ gives 15 0x4D4F_04_00000004_4D4F_01_00000004_01
    ∷ refusal 8
    ∷ gives 14 0x4D4F_03_00000004_4D4F_07_00000004
    ∷ []))
    -- a unit may come back from silence with another address; a delay runs on without SILENT rows; DELAY while a question is open
    ∷ edge
    (records 12
    (with_room 8 0x4D45_01_00000000_03
    ∷ with_room 13 0x4D45_04_00000001_01_0101_01_2201
    ∷ with_room 8 0x4D45_05_00000001_02
    ∷ with_room 13 0x4D45_04_00000001_02_0102_01_2201
    ∷ with_room 13 0x4D45_04_00000001_02_0102_01_2202
    ∷ with_room 8 0x4D45_06_00000001_00
    ∷ with_room 8 0x4D45_06_00000001_00
    ∷ with_room 13 0x4D45_04_00000001_02_0102_01_2200
    ∷ with_room 8 0x4D45_05_00000001_02
    ∷ with_room 13 0x4D45_04_00000001_01_0101_01_2200
    ∷ with_room 8 0x4D45_06_00000001_00
    ∷ with_room 8 0x4D45_05_00000001_01
    ∷ with_room 11 0x4D45_04_00000001_02_0103_00
    ∷ []))
    (results
    (gives 16 0x4D4F_01_00000001_01_4D4F_01_00000001_02
    ∷ no_orders
    ∷ gives 14 0x4D4F_03_00000001_4D4F_07_00000001
    ∷ gives 13 0x4D4F_02_00000001_02_0102_22_01_02
    ∷ gives 10 0x4D4F_05_00000001_01_2202
    ∷ no_orders
    ∷ refusal 8
    ∷ gives 23 0x4D4F_06_00000001_01_2202_4D4F_02_00000001_02_0102_22_00_02
    ∷ gives 7 0x4D4F_07_00000001
    ∷ gives 23 0x4D4F_06_00000001_01_2201_4D4F_02_00000001_01_0101_22_00_01
    ∷ gives 8 0x4D4F_01_00000001_02
    ∷ no_orders
    ∷ gives 7 0x4D4F_07_00000001
    ∷ []))
    -- place and tries go by index; a place behind the end is LISTED; a bad pair in front of the place is left out
    ∷ edge
    (records 12 places_by_index)
    (results
    (gives 16 0x4D4F_01_00000001_01_4D4F_01_00000001_02
    ∷ no_orders
    ∷ gives 13 0x4D4F_02_00000001_02_0102_22_01_04
    ∷ gives 13 0x4D4F_02_00000001_02_0102_22_00_03
    ∷ gives 13 0x4D4F_02_00000001_02_0102_22_FF_03
    ∷ gives 7 0x4D4F_03_00000001
    ∷ gives 13 0x4D4F_02_00000001_02_0102_22_00_03
    ∷ gives 7 0x4D4F_07_00000001
    ∷ []))
    ∷ edge (listing_after 12 places_by_index) (listing (entry 1 0x0101 0x22 0x01 ∷ entry 1 0x0101 0x22 0x02 ∷ []))
    ∷ edge
    (records 12 shorter_answer)
    (results
    (gives 16 0x4D4F_01_00000001_01_4D4F_01_00000001_02
    ∷ no_orders
    ∷ gives 13 0x4D4F_02_00000001_02_0102_22_01_02
    ∷ gives 7 0x4D4F_03_00000001
    ∷ []))
    ∷ edge (listing_after 12 shorter_answer) (listing (entry 1 0x0101 0x22 0x01 ∷ entry 2 0x0102 0x31 0x01 ∷ []))
    ∷ edge (look_up_after 12 shorter_answer 0x31 0x01) (look_up (found 2 0x0102))
    ∷ edge (look_up_after 12 shorter_answer 0x22 0x01) (look_up (found 1 0x0101))
    ∷ edge (look_up_after 12 shorter_answer 0x22 0x02) (look_up (not_found 17))
    -- free number: the least that no other row keeps and that is nowhere in the answer; a pair twice in one answer
    ∷ edge
    (records 12 free_numbers)
    (results
    (gives 16 0x4D4F_01_00000001_01_4D4F_01_00000001_02
    ∷ no_orders
    ∷ gives 13 0x4D4F_02_00000001_02_0102_22_03_05
    ∷ gives 13 0x4D4F_02_00000001_02_0102_22_04_07
    ∷ []))
    ∷ edge (listing_after 12 free_numbers) (listing (entry 1 0x0101 0x22 0x01 ∷ entry 1 0x0101 0x22 0x02 ∷ entry 1 0x0101 0x22 0x04 ∷ entry 2 0x0102 0x22 0x03 ∷ entry 2 0x0102 0x22 0x06 ∷ entry 2 0x0102 0x22 0x05 ∷ []))
    -- in OK a SETTING row is listed and looked up
    ∷ edge
    (records 12 setting_in_ok)
    (results
    (gives 16 0x4D4F_01_00000001_01_4D4F_01_00000001_02
    ∷ no_orders
    ∷ gives 7 0x4D4F_03_00000001
    ∷ gives 23 0x4D4F_05_00000001_01_3101_4D4F_02_00000001_02_0102_22_01_02
    ∷ []))
    ∷ edge (listing_after 12 setting_in_ok) (listing (entry 1 0x0101 0x22 0x01 ∷ entry 2 0x0102 0x31 0x01 ∷ []))
    ∷ edge (look_up_after 12 setting_in_ok 0x31 0x01) (look_up (found 2 0x0102))
    ∷ edge (look_up_after 12 setting_in_ok 0x22 0x02) (look_up (not_found 17))
    -- look-up in NOTOK and in OFF
    ∷ edge
    (records 12 just_started)
    (results
    (gives 8 0x4D4F_01_00000001_01 ∷ []))
    ∷ edge (look_up_after 12 just_started 0x22 0x01) (look_up (not_found 18))
    ∷ edge (look_up_after 12 [] 0x22 0x01) (look_up (not_found 18))
    -- number 9: START, NCE and a restart at the last pass; an answer that ends in IGNORED is taken
    ∷ edge
    (records_from 12 4294967295
    (with_room 8 0x4D45_01_00000000_02 ∷ []))
    (results
    (refusal 9 ∷ []))
    ∷ edge
    (records_from 12 4294967294
    (with_room 8 0x4D45_01_00000000_02
    ∷ with_room 8 0x4D45_02_00000000_02
    ∷ with_room 11 0x4D45_04_FFFFFFFF_01_0100_00
    ∷ with_room 11 0x4D45_04_FFFFFFFF_01_0101_00
    ∷ with_room 8 0x4D45_03_00000000_00
    ∷ []))
    (results
    (gives 8 0x4D4F_01_FFFFFFFF_01
    ∷ refusal 9
    ∷ refusal 9
    ∷ gives 7 0x4D4F_03_FFFFFFFF
    ∷ no_orders
    ∷ []))
    ∷ edge
    (records_from 12 4294967292
    (with_room 8 0x4D45_01_00000000_02
    ∷ with_room 11 0x4D45_04_FFFFFFFD_01_0100_00
    ∷ with_room 11 0x4D45_04_FFFFFFFE_01_0100_00
    ∷ with_room 11 0x4D45_04_FFFFFFFF_01_0100_00
    ∷ []))
    (results
    (gives 8 0x4D4F_01_FFFFFFFD_01
    ∷ gives 15 0x4D4F_04_FFFFFFFE_4D4F_01_FFFFFFFE_01
    ∷ gives 15 0x4D4F_04_FFFFFFFF_4D4F_01_FFFFFFFF_01
    ∷ gives 7 0x4D4F_03_FFFFFFFF
    ∷ []))
    -- number 10 where a picture is made: a fresh one for 12
    ∷ edge (to_make 11) (made 10 12)
    ∷ edge (to_make 12) (made 0 12)
    ∷ edge (to_make 45) (made 0 45)
    ∷ edge (to_make 46) (made 10 12)
    -- counting and cutting: 10, 12 and 13, in this order
    ∷ edge (to_count 11 0) (count (uncounted 10))
    ∷ edge (to_count 46 0) (count (uncounted 10))
    ∷ edge (to_count 12 0) (count (count_is 1))
    ∷ edge (to_count 45 45) (count (count_is 1))
    ∷ edge (to_count 45 46) (count (count_is 2))
    ∷ edge (to_count 45 89) (count (count_is 3))
    ∷ edge (to_cut 11 0x00000001 [] 0 0) (telegram (uncut 10))
    ∷ edge (to_cut 12 0x00000001 (hex 13 0x000102030405060708090A0B0C) 0 0) (telegram (uncut 12))
    ∷ edge (to_cut 12 0x00000001 (hex 13 0x000102030405060708090A0B0C) 3 0) (telegram (uncut 12))
    ∷ edge (to_cut 12 0x00000001 (hex 13 0x000102030405060708090A0B0C) 1 17) (telegram (uncut 13))
    ∷ edge (to_cut 12 0x00000001 (hex 13 0x000102030405060708090A0B0C) 2 8) (telegram (uncut 13))
    ∷ edge (to_cut 12 0xFFFFFFFF [] 1 6) (telegram (cut_to (hex 6 0xFFFFFFFF_0000)))
    ∷ edge (to_cut 12 0x00000001 [] 1 5) (telegram (uncut 13))
    ∷ edge (to_cut 12 0x01020304 (hex 24 0x000102030405060708090A0B0C0D0E0F1011121314151617) 2 18) (telegram (cut_to (hex 18 0x01020304_200C_01_0B0C0D0E0F101112131415)))
    ∷ []
