-- Corners of paper 01: where one rule meets another, or stops; a third table. An independent model of the paper gave the results.
use Rattle.std.specs.Prelude.{ℕ, ◌-◌, ◌*◌, List, [], ◌∷◌, ◌++◌, map, true, false, replicate}
use Rattle.laws.specs.Lists.{collect, up_from}
use Rattle.rules.specs.House.{min_room}
use Rattle.rules.specs.Picture.{Off, Ok, Status, LISTED, SILENT, IGNORED, Row, Picture}
use Rattle.rules.specs.Run.{Record}
use Rattle.rules.specs.Listing.{Listed, found}
use Rattle.rules.specs.Table.{hex, with_room, gives, no_orders, refusal, entry, records, records_from, listing_after, listed_after, look_up_after, picture_after, results, listing, listed, look_up, picture, Edge, edge}
use Rattle.rules.specs.Cases.{times}

-- a picture in OFF: nothing in it but pass and L
abbrev pub off_picture : (pass size : ℕ) → Picture
off_picture pass size = record { state = Off; pass = pass; size = size; delay = false; rows = [] }

-- a row by its status and its two counts
abbrev pub unit : Status → (bad silences : ℕ) → Row
unit s bad silences = record { status = s; bad = bad; silences = silences }

-- a listed position with its address
abbrev pub at : (position address : ℕ) → Listed
at x a = record { position = x; address = a }

-- the ASKs of positions 1 to n in pass 1
unfoldable pub asks_to : ℕ → List ℕ
unfolding hex
asks_to n = collect (λ (x : ℕ). hex 7 0x4D4F_01_00000001 ++ x ∷ []) (up_from 1 n)

-- position x answers in pass 1 with an address of its own and so many pairs of block 22, the numbers ascending
unfoldable pub announces : (position first many : ℕ) → Record
unfolding hex
announces x first many =
    record { bytes = hex 7 0x4D45_04_00000001 ++ x ∷ 0x01 ∷ x ∷ many ∷ collect (λ (n : ℕ). 0x22 ∷ n ∷ []) (up_from first many); room = min_room }

-- sessions that repeat records, or are looked at in more than one way
abbrev pub silent_then_bad : List Record
silent_then_bad =
    with_room 8 0x4D45_01_00000000_02
    ∷ with_room 8 0x4D45_05_00000001_01
    ∷ times 18 (with_room 8 0x4D45_06_00000001_00 ∷ with_room 8 0x4D45_05_00000001_01 ∷ [])
    ++ with_room 8 0x4D45_06_00000001_00
    ∷ with_room 11 0x4D45_04_00000001_01_0100_00
    ∷ with_room 8 0x4D45_05_00000002_01
    ∷ with_room 8 0x4D45_02_00000000_02
    ∷ with_room 8 0x4D45_05_00000003_01
    ∷ []

abbrev pub silent_over_restart : List Record
silent_over_restart =
    with_room 8 0x4D45_01_00000000_03
    ∷ with_room 11 0x4D45_04_00000001_02_0102_00
    ∷ with_room 8 0x4D45_05_00000001_01
    ∷ times 18 (with_room 8 0x4D45_06_00000001_00 ∷ with_room 8 0x4D45_05_00000001_01 ∷ [])
    ++ with_room 11 0x4D45_04_00000001_02_0103_00
    ∷ with_room 11 0x4D45_04_00000002_02_0103_00
    ∷ with_room 8 0x4D45_05_00000002_01
    ∷ []

abbrev pub short_and_long : List Record
short_and_long =
    with_room 8 0x4D45_01_00000000_04
    ∷ with_room 13 0x4D45_04_00000001_01_0101_01_2201
    ∷ with_room 11 0x4D45_04_00000001_03_0103_00
    ∷ with_room 8 0x4D45_05_00000001_02
    ∷ times 18 (with_room 8 0x4D45_06_00000001_00 ∷ with_room 8 0x4D45_05_00000001_02 ∷ [])
    ++ times 2 (with_room 8 0x4D45_06_00000001_00 ∷ with_room 8 0x4D45_05_00000001_02 ∷ [])
    ++ with_room 13 0x4D45_04_00000001_03_0103_01_3100
    ∷ with_room 8 0x4D45_05_00000001_03
    ∷ with_room 8 0x4D45_06_00000001_00
    ∷ with_room 8 0x4D45_05_00000001_02
    ∷ with_room 8 0x4D45_05_00000001_03
    ∷ with_room 8 0x4D45_06_00000001_00
    ∷ with_room 11 0x4D45_04_00000001_03_0103_00
    ∷ with_room 8 0x4D45_05_00000001_02
    ∷ with_room 13 0x4D45_04_00000001_01_0101_01_3100
    ∷ with_room 8 0x4D45_05_00000001_01
    ∷ with_room 8 0x4D45_06_00000001_00
    ∷ with_room 8 0x4D45_05_00000001_01
    ∷ with_room 8 0x4D45_05_00000001_02
    ∷ []

abbrev pub barred_in_ok : List Record
barred_in_ok =
    with_room 8 0x4D45_01_00000000_04
    ∷ with_room 11 0x4D45_04_00000001_01_0100_00
    ∷ with_room 11 0x4D45_04_00000002_01_0100_00
    ∷ with_room 13 0x4D45_04_00000003_01_0101_01_2201
    ∷ with_room 13 0x4D45_04_00000003_02_0102_01_3101
    ∷ with_room 8 0x4D45_05_00000003_03
    ∷ with_room 13 0x4D45_04_00000003_01_0104_01_2201
    ∷ with_room 13 0x4D45_04_00000003_02_0104_01_3101
    ∷ with_room 8 0x4D45_05_00000003_02
    ∷ with_room 8 0x4D45_06_00000003_00
    ∷ with_room 8 0x4D45_05_00000003_03
    ∷ []

abbrev pub ignored_together : List Record
ignored_together =
    with_room 8 0x4D45_01_00000000_04
    ∷ with_room 11 0x4D45_04_00000001_01_0100_00
    ∷ with_room 11 0x4D45_04_00000002_01_0100_00
    ∷ with_room 13 0x4D45_04_00000003_01_0101_01_2201
    ∷ with_room 13 0x4D45_04_00000003_02_0102_01_3101
    ∷ with_room 8 0x4D45_05_00000003_03
    ∷ with_room 13 0x4D45_04_00000003_01_0102_01_2201
    ∷ with_room 8 0x4D45_06_00000003_00
    ∷ with_room 11 0x4D45_04_00000003_03_0102_00
    ∷ with_room 8 0x4D45_06_00000003_00
    ∷ []

abbrev pub former_address : List Record
former_address =
    with_room 8 0x4D45_01_00000000_04
    ∷ with_room 11 0x4D45_04_00000001_01_0100_00
    ∷ with_room 11 0x4D45_04_00000002_01_0100_00
    ∷ with_room 13 0x4D45_04_00000003_01_0101_01_2200
    ∷ with_room 13 0x4D45_04_00000003_01_02FF_01_2201
    ∷ with_room 13 0x4D45_04_00000003_02_02FF_01_2201
    ∷ with_room 8 0x4D45_05_00000003_02
    ∷ with_room 8 0x4D45_05_00000003_01
    ∷ with_room 13 0x4D45_04_00000003_03_0101_01_2201
    ∷ []

abbrev pub all_numbers : List Record
all_numbers =
    with_room 8 0x4D45_01_00000000_15
    ∷ map (λ (x : ℕ). announces x (16 * x - 14) 16) (up_from 1 15)
    ++ (announces 16 242 12 ∷ announces 17 1 1 ∷ [])
    ++ with_room 15 0x4D45_04_00000001_12_0112_02_2202_3100
    ∷ with_room 13 0x4D45_04_00000001_13_0113_01_22FE
    ∷ times 3 (with_room 15 0x4D45_04_00000001_12_0112_02_2202_3100 ∷ [])
    ++ with_room 15 0x4D45_04_00000001_12_0112_02_2202_3100
    ∷ with_room 17 0x4D45_04_00000001_14_0114_03_2203_3100_2204
    ∷ with_room 17 0x4D45_04_00000001_14_0114_03_2203_3101_2204
    ∷ []

abbrev pub silent_then_setting : List Record
silent_then_setting =
    with_room 8 0x4D45_01_00000000_02
    ∷ with_room 8 0x4D45_05_00000001_01
    ∷ times 18 (with_room 8 0x4D45_06_00000001_00 ∷ with_room 8 0x4D45_05_00000001_01 ∷ [])
    ++ with_room 8 0x4D45_06_00000001_00
    ∷ with_room 8 0x4D45_05_00000001_01
    ∷ with_room 8 0x4D45_06_00000001_00
    ∷ with_room 13 0x4D45_04_00000001_01_0101_01_2200
    ∷ with_room 8 0x4D45_05_00000001_01
    ∷ []

abbrev pub moved : List Record
moved =
    with_room 8 0x4D45_01_00000000_03
    ∷ with_room 13 0x4D45_04_00000001_01_0101_01_2201
    ∷ with_room 11 0x4D45_04_00000001_02_0300_00
    ∷ with_room 13 0x4D45_04_00000002_02_0101_01_2201
    ∷ with_room 11 0x4D45_04_00000002_01_0102_00
    ∷ []

abbrev pub silent_while_setting : List Record
silent_while_setting =
    with_room 8 0x4D45_01_00000000_03
    ∷ with_room 15 0x4D45_04_00000001_01_0101_02_2201_3100
    ∷ with_room 8 0x4D45_05_00000001_01
    ∷ with_room 13 0x4D45_04_00000001_02_0101_01_2201
    ∷ []

abbrev pub silent_beside_ignored : List Record
silent_beside_ignored =
    with_room 8 0x4D45_01_00000000_03
    ∷ with_room 11 0x4D45_04_00000001_02_0100_00
    ∷ with_room 11 0x4D45_04_00000002_02_0100_00
    ∷ with_room 11 0x4D45_04_00000003_02_0100_00
    ∷ with_room 8 0x4D45_05_00000003_01
    ∷ times 18 (with_room 8 0x4D45_06_00000003_00 ∷ with_room 8 0x4D45_05_00000003_01 ∷ [])
    ++ with_room 8 0x4D45_06_00000003_00
    ∷ with_room 8 0x4D45_05_00000003_01
    ∷ []

abbrev pub silent_then_unasked : List Record
silent_then_unasked =
    with_room 8 0x4D45_01_00000000_02
    ∷ with_room 8 0x4D45_05_00000001_01
    ∷ times 18 (with_room 8 0x4D45_06_00000001_00 ∷ with_room 8 0x4D45_05_00000001_01 ∷ [])
    ++ with_room 8 0x4D45_06_00000001_00
    ∷ with_room 8 0x4D45_05_00000001_01
    ∷ with_room 13 0x4D45_04_00000001_01_0101_01_2200
    ∷ with_room 8 0x4D45_05_00000001_01
    ∷ with_room 8 0x4D45_06_00000001_00
    ∷ with_room 8 0x4D45_05_00000001_01
    ∷ []

unfoldable pub corners : List Edge
unfolding hex times asks_to announces
corners =
    -- a fresh picture is OFF with pass 0; no delay runs, and there are no rows
    edge (picture_after 29 []) (picture (off_picture 0 29))
    -- START is refused 4 in NOTOK and in OK, whatever N it names
    ∷ edge
    (records 12
    (with_room 8 0x4D45_01_00000000_02
    ∷ with_room 8 0x4D45_01_00000000_02
    ∷ with_room 8 0x4D45_05_00000001_01
    ∷ with_room 8 0x4D45_01_00000000_02
    ∷ with_room 8 0x4D45_01_00000000_01
    ∷ []))
    (results
    (gives 8 0x4D4F_01_00000001_01
    ∷ refusal 4
    ∷ gives 14 0x4D4F_03_00000001_4D4F_07_00000001
    ∷ refusal 4
    ∷ refusal 4
    ∷ []))
    -- SHUTDOWN is taken in NOTOK too; in OFF all but START is refused 3, whatever else is wrong with it; the pass goes on
    ∷ edge
    (records 12
    (with_room 8 0x4D45_01_00000000_02
    ∷ with_room 8 0x4D45_03_00000000_00
    ∷ with_room 8 0x4D45_05_00000001_01
    ∷ with_room 8 0x4D45_05_00000000_09
    ∷ with_room 8 0x4D45_03_00000000_00
    ∷ with_room 8 0x4D45_06_00000007_00
    ∷ with_room 8 0x4D45_01_00000000_02
    ∷ with_room 8 0x4D45_03_00000000_00
    ∷ with_room 8 0x4D45_01_00000000_01
    ∷ []))
    (results
    (gives 8 0x4D4F_01_00000001_01
    ∷ no_orders
    ∷ refusal 3
    ∷ refusal 3
    ∷ refusal 3
    ∷ refusal 3
    ∷ gives 8 0x4D4F_01_00000002_01
    ∷ no_orders
    ∷ gives 7 0x4D4F_03_00000003
    ∷ []))
    -- SHUTDOWN leaves L, and so do DELAY, NCE and a restart: sixteen pairs in orders of 14 and 2 are L = 29 or 30
    ∷ edge
    (records 29
    (with_room 8 0x4D45_01_00000000_02
    ∷ with_room 8 0x4D45_05_00000001_01
    ∷ with_room 8 0x4D45_03_00000000_00
    ∷ with_room 8 0x4D45_01_00000000_02
    ∷ with_room 11 0x4D45_04_00000002_01_0101_00
    ∷ with_room 43 0x4D45_04_00000002_01_0101_10_2201_2202_2203_2204_2205_2206_2207_2208_2209_220A_220B_220C_220D_220E_220F_2210
    ∷ with_room 8 0x4D45_02_00000000_02
    ∷ with_room 8 0x4D45_05_00000003_01
    ∷ with_room 8 0x4D45_06_00000003_00
    ∷ with_room 43 0x4D45_04_00000003_01_0101_10_2201_2202_2203_2204_2205_2206_2207_2208_2209_220A_220B_220C_220D_220E_220F_2210
    ∷ with_room 11 0x4D45_04_00000003_01_0102_00
    ∷ with_room 11 0x4D45_04_00000004_01_0102_00
    ∷ with_room 43 0x4D45_04_00000004_01_0102_10_2201_2202_2203_2204_2205_2206_2207_2208_2209_220A_220B_220C_220D_220E_220F_2210
    ∷ []))
    (results
    (gives 8 0x4D4F_01_00000001_01
    ∷ gives 14 0x4D4F_03_00000001_4D4F_07_00000001
    ∷ no_orders
    ∷ gives 8 0x4D4F_01_00000002_01
    ∷ gives 7 0x4D4F_03_00000002
    ∷ gives 48 0x4D4F_05_00000002_0E_2201_2202_2203_2204_2205_2206_2207_2208_2209_220A_220B_220C_220D_220E_4D4F_05_00000002_02_220F_2210
    ∷ gives 56 0x4D4F_01_00000003_01_4D4F_06_00000003_0E_2201_2202_2203_2204_2205_2206_2207_2208_2209_220A_220B_220C_220D_220E_4D4F_06_00000003_02_220F_2210
    ∷ gives 7 0x4D4F_07_00000003
    ∷ gives 8 0x4D4F_01_00000003_01
    ∷ gives 48 0x4D4F_05_00000003_0E_2201_2202_2203_2204_2205_2206_2207_2208_2209_220A_220B_220C_220D_220E_4D4F_05_00000003_02_220F_2210
    ∷ gives 15 0x4D4F_04_00000004_4D4F_01_00000004_01
    ∷ gives 7 0x4D4F_03_00000004
    ∷ gives 48 0x4D4F_05_00000004_0E_2201_2202_2203_2204_2205_2206_2207_2208_2209_220A_220B_220C_220D_220E_4D4F_05_00000004_02_220F_2210
    ∷ []))
    -- SHUTDOWN ends a delay: none runs after the next START, and a WAIT is given again; of the picture only pass and L are left
    ∷ edge
    (records 29
    (with_room 8 0x4D45_01_00000000_03
    ∷ with_room 13 0x4D45_04_00000001_01_0101_01_2201
    ∷ with_room 8 0x4D45_05_00000001_02
    ∷ with_room 8 0x4D45_03_00000000_00
    ∷ with_room 8 0x4D45_01_00000000_01
    ∷ with_room 8 0x4D45_06_00000002_00
    ∷ with_room 8 0x4D45_03_00000000_00
    ∷ with_room 8 0x4D45_01_00000000_02
    ∷ with_room 8 0x4D45_05_00000003_01
    ∷ with_room 8 0x4D45_06_00000003_00
    ∷ []))
    (results
    (gives 16 0x4D4F_01_00000001_01_4D4F_01_00000001_02
    ∷ no_orders
    ∷ gives 14 0x4D4F_03_00000001_4D4F_07_00000001
    ∷ no_orders
    ∷ gives 7 0x4D4F_03_00000002
    ∷ refusal 8
    ∷ no_orders
    ∷ gives 8 0x4D4F_01_00000003_01
    ∷ gives 14 0x4D4F_03_00000003_4D4F_07_00000003
    ∷ gives 8 0x4D4F_01_00000003_01
    ∷ []))
    ∷ edge
    (picture_after 29
    (with_room 8 0x4D45_01_00000000_03
    ∷ with_room 13 0x4D45_04_00000001_01_0101_01_2201
    ∷ with_room 8 0x4D45_05_00000001_02
    ∷ with_room 8 0x4D45_03_00000000_00
    ∷ []))
    (picture (off_picture 1 29))
    -- a bad announcement leaves the silence count: nineteen silences, a bad address, and the next one is the twentieth; NCE forgets it
    ∷ edge
    (records 12 silent_then_bad)
    (results
    (gives 8 0x4D4F_01_00000001_01
    ∷ gives 14 0x4D4F_03_00000001_4D4F_07_00000001
    ∷ times 18 (gives 8 0x4D4F_01_00000001_01 ∷ gives 7 0x4D4F_07_00000001 ∷ [])
    ++ gives 8 0x4D4F_01_00000001_01
    ∷ gives 15 0x4D4F_04_00000002_4D4F_01_00000002_01
    ∷ gives 14 0x4D4F_03_00000002_4D4F_08_00000002
    ∷ gives 8 0x4D4F_01_00000003_01
    ∷ gives 7 0x4D4F_07_00000003
    ∷ []))
    -- silence counts stay over a restart that another unit causes; its row counts below 20 and is not SILENT, so the wait is long
    ∷ edge
    (records 12 silent_over_restart)
    (results
    (gives 16 0x4D4F_01_00000001_01_4D4F_01_00000001_02
    ∷ no_orders
    ∷ gives 14 0x4D4F_03_00000001_4D4F_07_00000001
    ∷ times 18 (gives 8 0x4D4F_01_00000001_01 ∷ gives 7 0x4D4F_07_00000001 ∷ [])
    ++ gives 23 0x4D4F_04_00000002_4D4F_01_00000002_01_4D4F_01_00000002_02
    ∷ no_orders
    ∷ gives 14 0x4D4F_03_00000002_4D4F_08_00000002
    ∷ []))
    -- one SILENT row below 20 makes the wait short, in front of one at 20 or behind it; LISTED rows never do; the count stops at 20
    ∷ edge
    (records 12 short_and_long)
    (results
    (gives 24 0x4D4F_01_00000001_01_4D4F_01_00000001_02_4D4F_01_00000001_03
    ∷ no_orders
    ∷ no_orders
    ∷ gives 14 0x4D4F_03_00000001_4D4F_07_00000001
    ∷ times 18 (gives 8 0x4D4F_01_00000001_02 ∷ gives 7 0x4D4F_07_00000001 ∷ [])
    ++ times 2 (gives 8 0x4D4F_01_00000001_02 ∷ gives 7 0x4D4F_08_00000001 ∷ [])
    ++ gives 13 0x4D4F_02_00000001_03_0103_31_00_01
    ∷ no_orders
    ∷ gives 16 0x4D4F_01_00000001_02_4D4F_01_00000001_03
    ∷ no_orders
    ∷ gives 7 0x4D4F_07_00000001
    ∷ gives 16 0x4D4F_01_00000001_02_4D4F_01_00000001_03
    ∷ no_orders
    ∷ gives 7 0x4D4F_08_00000001
    ∷ gives 23 0x4D4F_06_00000001_01_2201_4D4F_02_00000001_01_0101_31_00_01
    ∷ no_orders
    ∷ gives 16 0x4D4F_01_00000001_01_4D4F_01_00000001_02
    ∷ no_orders
    ∷ gives 7 0x4D4F_07_00000001
    ∷ []))
    ∷ edge (picture_after 12 short_and_long) (picture (record { state = Ok; pass = 1; size = 12; delay = true; rows = unit SILENT 0 2 ∷ unit SILENT 0 20 ∷ unit (LISTED 0x0103 []) 0 0 ∷ [] }))
    -- no second WAIT while a delay runs
    ∷ edge
    (records 12
    (with_room 8 0x4D45_01_00000000_03
    ∷ with_room 13 0x4D45_04_00000001_01_0101_01_2201
    ∷ with_room 8 0x4D45_05_00000001_02
    ∷ with_room 13 0x4D45_04_00000001_01_0101_01_2202
    ∷ with_room 13 0x4D45_04_00000001_01_0101_01_2202
    ∷ with_room 8 0x4D45_05_00000001_01
    ∷ with_room 8 0x4D45_05_00000001_02
    ∷ with_room 8 0x4D45_06_00000001_00
    ∷ []))
    (results
    (gives 16 0x4D4F_01_00000001_01_4D4F_01_00000001_02
    ∷ no_orders
    ∷ gives 14 0x4D4F_03_00000001_4D4F_07_00000001
    ∷ gives 20 0x4D4F_06_00000001_01_2201_4D4F_05_00000001_01_2202
    ∷ no_orders
    ∷ refusal 8
    ∷ refusal 8
    ∷ gives 8 0x4D4F_01_00000001_02
    ∷ []))
    -- a NONE leaves the delay running: no WAIT, and DELAY asks both
    ∷ edge
    (records 12
    (with_room 8 0x4D45_01_00000000_03
    ∷ with_room 13 0x4D45_04_00000001_01_0101_01_2201
    ∷ with_room 8 0x4D45_05_00000001_02
    ∷ with_room 13 0x4D45_04_00000001_01_0101_01_2200
    ∷ with_room 8 0x4D45_05_00000001_01
    ∷ with_room 8 0x4D45_06_00000001_00
    ∷ with_room 8 0x4D45_05_00000001_02
    ∷ with_room 8 0x4D45_05_00000001_01
    ∷ []))
    (results
    (gives 16 0x4D4F_01_00000001_01_4D4F_01_00000001_02
    ∷ no_orders
    ∷ gives 14 0x4D4F_03_00000001_4D4F_07_00000001
    ∷ gives 23 0x4D4F_06_00000001_01_2201_4D4F_02_00000001_01_0101_22_00_01
    ∷ no_orders
    ∷ gives 16 0x4D4F_01_00000001_01_4D4F_01_00000001_02
    ∷ no_orders
    ∷ gives 7 0x4D4F_07_00000001
    ∷ []))
    -- so do a row IGNORED by d and a barred answer, which is not counted though the row keeps another address
    ∷ edge
    (records 12 barred_in_ok)
    (results
    (gives 24 0x4D4F_01_00000001_01_4D4F_01_00000001_02_4D4F_01_00000001_03
    ∷ gives 31 0x4D4F_04_00000002_4D4F_01_00000002_01_4D4F_01_00000002_02_4D4F_01_00000002_03
    ∷ gives 31 0x4D4F_04_00000003_4D4F_01_00000003_01_4D4F_01_00000003_02_4D4F_01_00000003_03
    ∷ no_orders
    ∷ no_orders
    ∷ gives 14 0x4D4F_03_00000003_4D4F_07_00000003
    ∷ gives 10 0x4D4F_06_00000003_01_2201
    ∷ gives 10 0x4D4F_06_00000003_01_3101
    ∷ refusal 7
    ∷ gives 8 0x4D4F_01_00000003_03
    ∷ gives 7 0x4D4F_07_00000003
    ∷ []))
    ∷ edge (picture_after 12 barred_in_ok) (picture (record { state = Ok; pass = 3; size = 12; delay = true; rows = unit (IGNORED 0x0104) 3 0 ∷ unit (IGNORED 0x0104) 0 0 ∷ unit SILENT 0 2 ∷ [] }))
    -- and two rows IGNORED together
    ∷ edge
    (records 12 ignored_together)
    (results
    (gives 24 0x4D4F_01_00000001_01_4D4F_01_00000001_02_4D4F_01_00000001_03
    ∷ gives 31 0x4D4F_04_00000002_4D4F_01_00000002_01_4D4F_01_00000002_02_4D4F_01_00000002_03
    ∷ gives 31 0x4D4F_04_00000003_4D4F_01_00000003_01_4D4F_01_00000003_02_4D4F_01_00000003_03
    ∷ no_orders
    ∷ no_orders
    ∷ gives 14 0x4D4F_03_00000003_4D4F_07_00000003
    ∷ gives 20 0x4D4F_06_00000003_01_2201_4D4F_06_00000003_01_3101
    ∷ gives 8 0x4D4F_01_00000003_03
    ∷ no_orders
    ∷ refusal 8
    ∷ []))
    ∷ edge (picture_after 12 ignored_together) (picture (record { state = Ok; pass = 3; size = 12; delay = false; rows = unit (IGNORED 0x0102) 3 0 ∷ unit (IGNORED 0x0102) 1 0 ∷ unit (IGNORED 0x0102) 0 1 ∷ [] }))
    -- c: the row that keeps the address stands at 2 and takes the newcomer at 0 with it, from in front and from behind
    ∷ edge
    (records 12
    (with_room 8 0x4D45_01_00000000_04
    ∷ with_room 11 0x4D45_04_00000001_01_0100_00
    ∷ with_room 11 0x4D45_04_00000002_01_0100_00
    ∷ with_room 11 0x4D45_04_00000003_01_0101_00
    ∷ with_room 11 0x4D45_04_00000003_02_0101_00
    ∷ with_room 8 0x4D45_05_00000003_01
    ∷ with_room 8 0x4D45_05_00000003_02
    ∷ with_room 11 0x4D45_04_00000003_03_0101_00
    ∷ []))
    (results
    (gives 24 0x4D4F_01_00000001_01_4D4F_01_00000001_02_4D4F_01_00000001_03
    ∷ gives 31 0x4D4F_04_00000002_4D4F_01_00000002_01_4D4F_01_00000002_02_4D4F_01_00000002_03
    ∷ gives 31 0x4D4F_04_00000003_4D4F_01_00000003_01_4D4F_01_00000003_02_4D4F_01_00000003_03
    ∷ no_orders
    ∷ no_orders
    ∷ refusal 7
    ∷ refusal 7
    ∷ gives 7 0x4D4F_03_00000003
    ∷ []))
    ∷ edge
    (records 12
    (with_room 8 0x4D45_01_00000000_04
    ∷ with_room 11 0x4D45_04_00000001_03_0300_00
    ∷ with_room 11 0x4D45_04_00000002_03_0300_00
    ∷ with_room 11 0x4D45_04_00000003_03_0103_00
    ∷ with_room 11 0x4D45_04_00000003_02_0103_00
    ∷ with_room 8 0x4D45_05_00000003_02
    ∷ with_room 8 0x4D45_05_00000003_03
    ∷ with_room 11 0x4D45_04_00000003_01_0101_00
    ∷ []))
    (results
    (gives 24 0x4D4F_01_00000001_01_4D4F_01_00000001_02_4D4F_01_00000001_03
    ∷ gives 31 0x4D4F_04_00000002_4D4F_01_00000002_01_4D4F_01_00000002_02_4D4F_01_00000002_03
    ∷ gives 31 0x4D4F_04_00000003_4D4F_01_00000003_01_4D4F_01_00000003_02_4D4F_01_00000003_03
    ∷ no_orders
    ∷ no_orders
    ∷ refusal 7
    ∷ refusal 7
    ∷ gives 7 0x4D4F_03_00000003
    ∷ []))
    -- c counts that row at a restart too, in front and behind, and no third one: two more bad announcements make it IGNORED
    ∷ edge
    (records 12
    (with_room 8 0x4D45_01_00000000_04
    ∷ with_room 11 0x4D45_04_00000001_03_0103_00
    ∷ with_room 11 0x4D45_04_00000001_01_0101_00
    ∷ with_room 11 0x4D45_04_00000001_02_0101_00
    ∷ with_room 11 0x4D45_04_00000002_01_0100_00
    ∷ with_room 11 0x4D45_04_00000003_01_0100_00
    ∷ with_room 8 0x4D45_05_00000003_01
    ∷ with_room 11 0x4D45_04_00000003_03_0100_00
    ∷ with_room 11 0x4D45_04_00000004_03_0100_00
    ∷ with_room 11 0x4D45_04_00000005_03_0103_00
    ∷ with_room 11 0x4D45_04_00000005_02_0102_00
    ∷ []))
    (results
    (gives 24 0x4D4F_01_00000001_01_4D4F_01_00000001_02_4D4F_01_00000001_03
    ∷ no_orders
    ∷ no_orders
    ∷ gives 31 0x4D4F_04_00000002_4D4F_01_00000002_01_4D4F_01_00000002_02_4D4F_01_00000002_03
    ∷ gives 31 0x4D4F_04_00000003_4D4F_01_00000003_01_4D4F_01_00000003_02_4D4F_01_00000003_03
    ∷ no_orders
    ∷ refusal 7
    ∷ gives 23 0x4D4F_04_00000004_4D4F_01_00000004_02_4D4F_01_00000004_03
    ∷ gives 23 0x4D4F_04_00000005_4D4F_01_00000005_02_4D4F_01_00000005_03
    ∷ no_orders
    ∷ gives 7 0x4D4F_03_00000005
    ∷ []))
    ∷ edge
    (records 12
    (with_room 8 0x4D45_01_00000000_04
    ∷ with_room 11 0x4D45_04_00000001_01_0101_00
    ∷ with_room 11 0x4D45_04_00000001_03_0103_00
    ∷ with_room 11 0x4D45_04_00000001_02_0103_00
    ∷ with_room 11 0x4D45_04_00000002_03_0100_00
    ∷ with_room 11 0x4D45_04_00000003_03_0100_00
    ∷ with_room 8 0x4D45_05_00000003_03
    ∷ with_room 11 0x4D45_04_00000003_01_0100_00
    ∷ with_room 11 0x4D45_04_00000004_01_0100_00
    ∷ with_room 11 0x4D45_04_00000005_01_0101_00
    ∷ with_room 11 0x4D45_04_00000005_02_0102_00
    ∷ []))
    (results
    (gives 24 0x4D4F_01_00000001_01_4D4F_01_00000001_02_4D4F_01_00000001_03
    ∷ no_orders
    ∷ no_orders
    ∷ gives 31 0x4D4F_04_00000002_4D4F_01_00000002_01_4D4F_01_00000002_02_4D4F_01_00000002_03
    ∷ gives 31 0x4D4F_04_00000003_4D4F_01_00000003_01_4D4F_01_00000003_02_4D4F_01_00000003_03
    ∷ no_orders
    ∷ refusal 7
    ∷ gives 23 0x4D4F_04_00000004_4D4F_01_00000004_01_4D4F_01_00000004_02
    ∷ gives 23 0x4D4F_04_00000005_4D4F_01_00000005_01_4D4F_01_00000005_02
    ∷ no_orders
    ∷ gives 7 0x4D4F_03_00000005
    ∷ []))
    -- c speaks of a SETTING row too, which bars nothing; its question is closed where both become IGNORED, and OK comes
    ∷ edge
    (records 12
    (with_room 8 0x4D45_01_00000000_03
    ∷ with_room 13 0x4D45_04_00000001_01_0101_01_2200
    ∷ with_room 11 0x4D45_04_00000001_02_0101_00
    ∷ with_room 11 0x4D45_04_00000002_02_0101_00
    ∷ with_room 13 0x4D45_04_00000002_01_0101_01_2200
    ∷ with_room 13 0x4D45_04_00000003_01_0101_01_2200
    ∷ with_room 11 0x4D45_04_00000003_02_0101_00
    ∷ with_room 8 0x4D45_05_00000003_01
    ∷ with_room 8 0x4D45_05_00000003_02
    ∷ []))
    (results
    (gives 16 0x4D4F_01_00000001_01_4D4F_01_00000001_02
    ∷ gives 13 0x4D4F_02_00000001_01_0101_22_00_01
    ∷ gives 23 0x4D4F_04_00000002_4D4F_01_00000002_01_4D4F_01_00000002_02
    ∷ no_orders
    ∷ gives 23 0x4D4F_04_00000003_4D4F_01_00000003_01_4D4F_01_00000003_02
    ∷ gives 13 0x4D4F_02_00000003_01_0101_22_00_01
    ∷ gives 7 0x4D4F_03_00000003
    ∷ refusal 7
    ∷ refusal 7
    ∷ []))
    -- b and d count nobody else and take nobody with them
    ∷ edge
    (records 12
    (with_room 8 0x4D45_01_00000000_03
    ∷ with_room 11 0x4D45_04_00000001_02_0102_00
    ∷ with_room 11 0x4D45_04_00000001_01_0300_00
    ∷ with_room 11 0x4D45_04_00000002_02_0102_00
    ∷ with_room 11 0x4D45_04_00000002_01_0101_00
    ∷ with_room 11 0x4D45_04_00000002_01_0103_00
    ∷ with_room 11 0x4D45_04_00000003_02_0100_00
    ∷ with_room 11 0x4D45_04_00000004_02_0100_00
    ∷ with_room 11 0x4D45_04_00000005_02_0102_00
    ∷ with_room 11 0x4D45_04_00000005_01_0100_00
    ∷ with_room 8 0x4D45_05_00000005_02
    ∷ with_room 8 0x4D45_05_00000005_01
    ∷ with_room 13 0x4D45_04_00000005_02_0102_01_2201
    ∷ []))
    (results
    (gives 16 0x4D4F_01_00000001_01_4D4F_01_00000001_02
    ∷ no_orders
    ∷ gives 23 0x4D4F_04_00000002_4D4F_01_00000002_01_4D4F_01_00000002_02
    ∷ no_orders
    ∷ gives 7 0x4D4F_03_00000002
    ∷ gives 23 0x4D4F_04_00000003_4D4F_01_00000003_01_4D4F_01_00000003_02
    ∷ gives 23 0x4D4F_04_00000004_4D4F_01_00000004_01_4D4F_01_00000004_02
    ∷ gives 23 0x4D4F_04_00000005_4D4F_01_00000005_01_4D4F_01_00000005_02
    ∷ no_orders
    ∷ gives 7 0x4D4F_03_00000005
    ∷ refusal 8
    ∷ refusal 7
    ∷ gives 10 0x4D4F_05_00000005_01_2201
    ∷ []))
    -- d is for a SETTING row as well, in NOTOK and in OK
    ∷ edge
    (records 12
    (with_room 8 0x4D45_01_00000000_02
    ∷ with_room 13 0x4D45_04_00000001_01_0101_01_2200
    ∷ with_room 13 0x4D45_04_00000001_01_0102_01_2200
    ∷ with_room 13 0x4D45_04_00000002_01_0102_01_2200
    ∷ with_room 13 0x4D45_04_00000002_01_0102_01_2201
    ∷ with_room 13 0x4D45_04_00000002_01_0102_01_2200
    ∷ with_room 13 0x4D45_04_00000002_01_0103_01_2201
    ∷ []))
    (results
    (gives 8 0x4D4F_01_00000001_01
    ∷ gives 13 0x4D4F_02_00000001_01_0101_22_00_01
    ∷ gives 15 0x4D4F_04_00000002_4D4F_01_00000002_01
    ∷ gives 13 0x4D4F_02_00000002_01_0102_22_00_01
    ∷ gives 7 0x4D4F_03_00000002
    ∷ gives 23 0x4D4F_06_00000002_01_2201_4D4F_02_00000002_01_0102_22_00_01
    ∷ gives 15 0x4D4F_04_00000003_4D4F_01_00000003_01
    ∷ []))
    -- d bars the announced address and frees the one that was kept; a SETTING row keeps one in NOTOK
    ∷ edge
    (records 12 former_address)
    (results
    (gives 24 0x4D4F_01_00000001_01_4D4F_01_00000001_02_4D4F_01_00000001_03
    ∷ gives 31 0x4D4F_04_00000002_4D4F_01_00000002_01_4D4F_01_00000002_02_4D4F_01_00000002_03
    ∷ gives 31 0x4D4F_04_00000003_4D4F_01_00000003_01_4D4F_01_00000003_02_4D4F_01_00000003_03
    ∷ gives 13 0x4D4F_02_00000003_01_0101_22_00_01
    ∷ no_orders
    ∷ no_orders
    ∷ refusal 7
    ∷ refusal 7
    ∷ gives 7 0x4D4F_03_00000003
    ∷ []))
    ∷ edge (listing_after 12 former_address) (listing (entry 3 0x0101 0x22 0x01 ∷ []))
    ∷ edge (listed_after 12 former_address) (listed (at 3 0x0101 ∷ []))
    -- FE is the last number offered; a pair without a free number is passed over, also after a SET, and the next bad pair has three
    -- tries
    ∷ edge
    (records 12 all_numbers)
    (results
    (gives 160 0x4D4F_01_00000001_01_4D4F_01_00000001_02_4D4F_01_00000001_03_4D4F_01_00000001_04_4D4F_01_00000001_05_4D4F_01_00000001_06_4D4F_01_00000001_07_4D4F_01_00000001_08_4D4F_01_00000001_09_4D4F_01_00000001_0A_4D4F_01_00000001_0B_4D4F_01_00000001_0C_4D4F_01_00000001_0D_4D4F_01_00000001_0E_4D4F_01_00000001_0F_4D4F_01_00000001_10_4D4F_01_00000001_11_4D4F_01_00000001_12_4D4F_01_00000001_13_4D4F_01_00000001_14
    ∷ replicate 15 no_orders
    ++ replicate 2 no_orders
    ++ gives 13 0x4D4F_02_00000001_12_0112_22_02_FE
    ∷ no_orders
    ∷ times 3 (gives 13 0x4D4F_02_00000001_12_0112_31_00_01 ∷ [])
    ++ no_orders
    ∷ gives 13 0x4D4F_02_00000001_14_0114_31_00_01
    ∷ gives 7 0x4D4F_03_00000001
    ∷ []))
    ∷ edge (look_up_after 12 all_numbers 0x22 0xFE) (look_up (found 19 0x0113))
    ∷ edge (look_up_after 12 all_numbers 0x31 0x01) (look_up (found 20 0x0114))
    -- the last pass: c ends in IGNORED for both rows, whichever of them stood at 2, and d in IGNORED; neither is refused 9
    ∷ edge
    (records_from 12 4_294_967_292
    (with_room 8 0x4D45_01_00000000_03
    ∷ with_room 11 0x4D45_04_FFFFFFFD_01_0100_00
    ∷ with_room 11 0x4D45_04_FFFFFFFE_01_0100_00
    ∷ with_room 11 0x4D45_04_FFFFFFFF_02_0102_00
    ∷ with_room 11 0x4D45_04_FFFFFFFF_01_0102_00
    ∷ with_room 8 0x4D45_05_FFFFFFFF_01
    ∷ with_room 8 0x4D45_05_FFFFFFFF_02
    ∷ []))
    (results
    (gives 16 0x4D4F_01_FFFFFFFD_01_4D4F_01_FFFFFFFD_02
    ∷ gives 23 0x4D4F_04_FFFFFFFE_4D4F_01_FFFFFFFE_01_4D4F_01_FFFFFFFE_02
    ∷ gives 23 0x4D4F_04_FFFFFFFF_4D4F_01_FFFFFFFF_01_4D4F_01_FFFFFFFF_02
    ∷ no_orders
    ∷ gives 7 0x4D4F_03_FFFFFFFF
    ∷ refusal 7
    ∷ refusal 7
    ∷ []))
    ∷ edge
    (records_from 12 4_294_967_292
    (with_room 8 0x4D45_01_00000000_03
    ∷ with_room 11 0x4D45_04_FFFFFFFD_01_0100_00
    ∷ with_room 11 0x4D45_04_FFFFFFFE_01_0100_00
    ∷ with_room 11 0x4D45_04_FFFFFFFF_01_0101_00
    ∷ with_room 11 0x4D45_04_FFFFFFFF_02_0101_00
    ∷ with_room 8 0x4D45_05_FFFFFFFF_01
    ∷ with_room 8 0x4D45_05_FFFFFFFF_02
    ∷ []))
    (results
    (gives 16 0x4D4F_01_FFFFFFFD_01_4D4F_01_FFFFFFFD_02
    ∷ gives 23 0x4D4F_04_FFFFFFFE_4D4F_01_FFFFFFFE_01_4D4F_01_FFFFFFFE_02
    ∷ gives 23 0x4D4F_04_FFFFFFFF_4D4F_01_FFFFFFFF_01_4D4F_01_FFFFFFFF_02
    ∷ no_orders
    ∷ gives 7 0x4D4F_03_FFFFFFFF
    ∷ refusal 7
    ∷ refusal 7
    ∷ []))
    ∷ edge
    (records_from 12 4_294_967_292
    (with_room 8 0x4D45_01_00000000_02
    ∷ with_room 11 0x4D45_04_FFFFFFFD_01_0100_00
    ∷ with_room 11 0x4D45_04_FFFFFFFE_01_0100_00
    ∷ with_room 13 0x4D45_04_FFFFFFFF_01_0101_01_2201
    ∷ with_room 11 0x4D45_04_FFFFFFFF_01_0102_00
    ∷ with_room 8 0x4D45_05_FFFFFFFF_01
    ∷ []))
    (results
    (gives 8 0x4D4F_01_FFFFFFFD_01
    ∷ gives 15 0x4D4F_04_FFFFFFFE_4D4F_01_FFFFFFFE_01
    ∷ gives 15 0x4D4F_04_FFFFFFFF_4D4F_01_FFFFFFFF_01
    ∷ gives 7 0x4D4F_03_FFFFFFFF
    ∷ gives 10 0x4D4F_06_FFFFFFFF_01_2201
    ∷ refusal 7
    ∷ []))
    -- the last pass: b, c and d are refused 9 where they would restart, in NOTOK and in OK, however often; 3, 4, 5 and 8 come first
    ∷ edge
    (records_from 12 4_294_967_294
    (with_room 8 0x4D45_02_00000000_03
    ∷ with_room 8 0x4D45_01_00000000_03
    ∷ with_room 8 0x4D45_01_00000000_03
    ∷ with_room 11 0x4D45_04_FFFFFFFF_01_0101_00
    ∷ with_room 11 0x4D45_04_FFFFFFFF_01_0300_00
    ∷ with_room 11 0x4D45_04_FFFFFFFE_02_0101_00
    ∷ with_room 11 0x4D45_04_FFFFFFFF_02_0101_00
    ∷ with_room 11 0x4D45_04_FFFFFFFF_02_0101_00
    ∷ with_room 11 0x4D45_04_FFFFFFFF_02_0101_00
    ∷ with_room 11 0x4D45_04_FFFFFFFF_02_0100_00
    ∷ with_room 13 0x4D45_04_FFFFFFFF_02_0102_01_2201
    ∷ with_room 11 0x4D45_04_FFFFFFFF_02_0103_00
    ∷ with_room 11 0x4D45_04_FFFFFFFF_02_0103_00
    ∷ with_room 11 0x4D45_04_FFFFFFFF_02_0103_00
    ∷ with_room 11 0x4D45_04_FFFFFFFF_02_0101_00
    ∷ with_room 11 0x4D45_04_FFFFFFFF_02_0300_00
    ∷ with_room 11 0x4D45_04_FFFFFFFF_02_0102_00
    ∷ with_room 8 0x4D45_02_00000000_03
    ∷ with_room 8 0x4D45_01_00000000_03
    ∷ with_room 8 0x4D45_03_00000000_00
    ∷ with_room 8 0x4D45_01_00000000_03
    ∷ []))
    (results
    (refusal 3
    ∷ gives 16 0x4D4F_01_FFFFFFFF_01_4D4F_01_FFFFFFFF_02
    ∷ refusal 4
    ∷ no_orders
    ∷ refusal 8
    ∷ refusal 5
    ∷ refusal 9
    ∷ refusal 9
    ∷ refusal 9
    ∷ refusal 9
    ∷ gives 7 0x4D4F_03_FFFFFFFF
    ∷ refusal 9
    ∷ refusal 9
    ∷ refusal 9
    ∷ refusal 9
    ∷ refusal 9
    ∷ gives 10 0x4D4F_06_FFFFFFFF_01_2201
    ∷ refusal 9
    ∷ refusal 4
    ∷ no_orders
    ∷ refusal 9
    ∷ []))
    -- the room comes before all else: 1 for a malformed record, in OFF and while the ring runs
    ∷ edge
    (records 12
    (record { bytes = []; room = 8_191 }
    ∷ record { bytes = hex 2 0x4D45; room = 0 }
    ∷ record { bytes = hex 8 0x4D45_02_00000000_03; room = 8_191 }
    ∷ with_room 8 0x4D45_01_00000000_02
    ∷ record { bytes = hex 8 0x4D45_01_00000000_02; room = 8_191 }
    ∷ record { bytes = hex 8 0x4D45_01_00000000_41; room = 8_191 }
    ∷ record { bytes = hex 8 0x4D45_05_00000000_01; room = 8_191 }
    ∷ record { bytes = hex 8 0x4D45_05_00000001_02; room = 8_191 }
    ∷ record { bytes = hex 8 0x4D45_05_00000001_01; room = 8_191 }
    ∷ with_room 0 0
    ∷ with_room 8 0x4D45_01_00000000_41
    ∷ with_room 8 0x4D45_05_00000001_01
    ∷ []))
    (results
    (refusal 1
    ∷ refusal 1
    ∷ refusal 1
    ∷ gives 8 0x4D4F_01_00000001_01
    ∷ refusal 1
    ∷ refusal 1
    ∷ refusal 1
    ∷ refusal 1
    ∷ refusal 1
    ∷ refusal 2
    ∷ refusal 2
    ∷ gives 14 0x4D4F_03_00000001_4D4F_07_00000001
    ∷ []))
    -- silence, DELAY and a good announcement leave the count of bad ones: the third is the last
    ∷ edge
    (records 12
    (with_room 8 0x4D45_01_00000000_02
    ∷ with_room 11 0x4D45_04_00000001_01_0100_00
    ∷ with_room 8 0x4D45_05_00000002_01
    ∷ with_room 8 0x4D45_06_00000002_00
    ∷ with_room 11 0x4D45_04_00000002_01_0300_00
    ∷ with_room 11 0x4D45_04_00000003_01_0101_00
    ∷ with_room 11 0x4D45_04_00000003_01_0100_00
    ∷ with_room 8 0x4D45_05_00000003_01
    ∷ with_room 8 0x4D45_06_00000003_00
    ∷ []))
    (results
    (gives 8 0x4D4F_01_00000001_01
    ∷ gives 15 0x4D4F_04_00000002_4D4F_01_00000002_01
    ∷ gives 14 0x4D4F_03_00000002_4D4F_07_00000002
    ∷ gives 8 0x4D4F_01_00000002_01
    ∷ gives 15 0x4D4F_04_00000003_4D4F_01_00000003_01
    ∷ gives 7 0x4D4F_03_00000003
    ∷ no_orders
    ∷ refusal 7
    ∷ refusal 8
    ∷ []))
    -- a good pair gives the next one three tries of its own
    ∷ edge
    (records 12
    (with_room 8 0x4D45_01_00000000_02
    ∷ with_room 15 0x4D45_04_00000001_01_0101_02_2200_3100
    ∷ times 3 (with_room 15 0x4D45_04_00000001_01_0101_02_2201_3100 ∷ [])
    ++ with_room 15 0x4D45_04_00000001_01_0101_02_2201_3100
    ∷ []))
    (results
    (gives 8 0x4D4F_01_00000001_01
    ∷ gives 13 0x4D4F_02_00000001_01_0101_22_00_01
    ∷ times 3 (gives 13 0x4D4F_02_00000001_01_0101_31_00_01 ∷ [])
    ++ gives 7 0x4D4F_03_00000001
    ∷ []))
    -- a stubborn pair is followed by the next one, with three tries of its own too
    ∷ edge
    (records 12
    (with_room 8 0x4D45_01_00000000_02
    ∷ times 3 (with_room 17 0x4D45_04_00000001_01_0101_03_2200_3100_4001 ∷ [])
    ++ times 3 (with_room 17 0x4D45_04_00000001_01_0101_03_2200_3100_4001 ∷ [])
    ++ with_room 17 0x4D45_04_00000001_01_0101_03_2200_3100_4001
    ∷ []))
    (results
    (gives 8 0x4D4F_01_00000001_01
    ∷ times 3 (gives 13 0x4D4F_02_00000001_01_0101_22_00_01 ∷ [])
    ++ times 3 (gives 13 0x4D4F_02_00000001_01_0101_31_00_01 ∷ [])
    ++ gives 7 0x4D4F_03_00000001
    ∷ []))
    -- a good address zeroes the silence count where the row goes on to SETTING, too
    ∷ edge
    (records 12 silent_then_setting)
    (results
    (gives 8 0x4D4F_01_00000001_01
    ∷ gives 14 0x4D4F_03_00000001_4D4F_07_00000001
    ∷ times 18 (gives 8 0x4D4F_01_00000001_01 ∷ gives 7 0x4D4F_07_00000001 ∷ [])
    ++ gives 8 0x4D4F_01_00000001_01
    ∷ gives 7 0x4D4F_08_00000001
    ∷ gives 8 0x4D4F_01_00000001_01
    ∷ gives 13 0x4D4F_02_00000001_01_0101_22_00_01
    ∷ gives 7 0x4D4F_07_00000001
    ∷ []))
    -- a restart frees every address and number: another unit takes them; a position without pairs is listed too
    ∷ edge
    (records 12 moved)
    (results
    (gives 16 0x4D4F_01_00000001_01_4D4F_01_00000001_02
    ∷ no_orders
    ∷ gives 23 0x4D4F_04_00000002_4D4F_01_00000002_01_4D4F_01_00000002_02
    ∷ no_orders
    ∷ gives 7 0x4D4F_03_00000002
    ∷ []))
    ∷ edge (listing_after 12 moved) (listing (entry 2 0x0101 0x22 0x01 ∷ []))
    ∷ edge (listed_after 12 moved) (listed (at 1 0x0102 ∷ at 2 0x0101 ∷ []))
    -- 5, 6 and 8 in their order for an ANSWER; in OK a NONE needs an open question, an ANSWER does not
    ∷ edge
    (records 12
    (with_room 8 0x4D45_01_00000000_03
    ∷ with_room 11 0x4D45_04_00000000_03_0101_00
    ∷ with_room 11 0x4D45_04_00000001_00_0101_00
    ∷ with_room 11 0x4D45_04_00000001_01_0101_00
    ∷ with_room 11 0x4D45_04_00000001_01_0300_00
    ∷ with_room 8 0x4D45_05_00000001_02
    ∷ with_room 8 0x4D45_05_00000001_01
    ∷ with_room 8 0x4D45_05_00000001_02
    ∷ with_room 11 0x4D45_04_00000001_02_0102_00
    ∷ with_room 8 0x4D45_06_00000000_00
    ∷ with_room 8 0x4D45_06_00000001_00
    ∷ []))
    (results
    (gives 16 0x4D4F_01_00000001_01_4D4F_01_00000001_02
    ∷ refusal 5
    ∷ refusal 6
    ∷ no_orders
    ∷ refusal 8
    ∷ gives 14 0x4D4F_03_00000001_4D4F_07_00000001
    ∷ refusal 8
    ∷ refusal 8
    ∷ no_orders
    ∷ refusal 5
    ∷ no_orders
    ∷ []))
    -- 5 comes before 7 and 8; 7 in NOTOK and in OK, for an ANSWER and for a NONE
    ∷ edge
    (records 12
    (with_room 8 0x4D45_01_00000000_03
    ∷ with_room 11 0x4D45_04_00000001_02_0100_00
    ∷ with_room 11 0x4D45_04_00000002_02_0100_00
    ∷ with_room 11 0x4D45_04_00000003_02_0100_00
    ∷ with_room 11 0x4D45_04_00000002_02_0102_00
    ∷ with_room 11 0x4D45_04_00000003_02_0102_00
    ∷ with_room 8 0x4D45_05_00000003_02
    ∷ with_room 11 0x4D45_04_00000003_01_0101_00
    ∷ with_room 11 0x4D45_04_00000003_02_0102_00
    ∷ with_room 8 0x4D45_05_00000003_02
    ∷ with_room 11 0x4D45_04_00000002_02_0102_00
    ∷ with_room 8 0x4D45_05_00000002_02
    ∷ with_room 8 0x4D45_05_00000002_01
    ∷ with_room 8 0x4D45_05_00000003_01
    ∷ with_room 8 0x4D45_06_00000003_00
    ∷ []))
    (results
    (gives 16 0x4D4F_01_00000001_01_4D4F_01_00000001_02
    ∷ gives 23 0x4D4F_04_00000002_4D4F_01_00000002_01_4D4F_01_00000002_02
    ∷ gives 23 0x4D4F_04_00000003_4D4F_01_00000003_01_4D4F_01_00000003_02
    ∷ no_orders
    ∷ refusal 5
    ∷ refusal 7
    ∷ refusal 7
    ∷ gives 7 0x4D4F_03_00000003
    ∷ refusal 7
    ∷ refusal 7
    ∷ refusal 5
    ∷ refusal 5
    ∷ refusal 5
    ∷ refusal 8
    ∷ refusal 8
    ∷ []))
    -- sixteen pairs are four orders for L = 12
    ∷ edge
    (records 12
    (with_room 8 0x4D45_01_00000000_02
    ∷ with_room 11 0x4D45_04_00000001_01_0101_00
    ∷ with_room 43 0x4D45_04_00000001_01_0101_10_2201_2202_2203_2204_2205_2206_2207_2208_2209_220A_220B_220C_220D_220E_220F_2210
    ∷ with_room 11 0x4D45_04_00000001_01_0101_00
    ∷ []))
    (results
    (gives 8 0x4D4F_01_00000001_01
    ∷ gives 7 0x4D4F_03_00000001
    ∷ gives 64 0x4D4F_05_00000001_05_2201_2202_2203_2204_2205_4D4F_05_00000001_05_2206_2207_2208_2209_220A_4D4F_05_00000001_05_220B_220C_220D_220E_220F_4D4F_05_00000001_01_2210
    ∷ gives 64 0x4D4F_06_00000001_05_2201_2202_2203_2204_2205_4D4F_06_00000001_05_2206_2207_2208_2209_220A_4D4F_06_00000001_05_220B_220C_220D_220E_220F_4D4F_06_00000001_01_2210
    ∷ []))
    -- NCE forgets bad counts, in NOTOK and in OK
    ∷ edge
    (records 12
    (with_room 8 0x4D45_01_00000000_02
    ∷ with_room 11 0x4D45_04_00000001_01_0100_00
    ∷ with_room 11 0x4D45_04_00000002_01_0100_00
    ∷ with_room 8 0x4D45_02_00000000_02
    ∷ with_room 11 0x4D45_04_00000004_01_0100_00
    ∷ with_room 11 0x4D45_04_00000005_01_0100_00
    ∷ with_room 11 0x4D45_04_00000006_01_0101_00
    ∷ with_room 8 0x4D45_02_00000000_02
    ∷ with_room 11 0x4D45_04_00000007_01_0100_00
    ∷ []))
    (results
    (gives 8 0x4D4F_01_00000001_01
    ∷ gives 15 0x4D4F_04_00000002_4D4F_01_00000002_01
    ∷ gives 15 0x4D4F_04_00000003_4D4F_01_00000003_01
    ∷ gives 15 0x4D4F_04_00000004_4D4F_01_00000004_01
    ∷ gives 15 0x4D4F_04_00000005_4D4F_01_00000005_01
    ∷ gives 15 0x4D4F_04_00000006_4D4F_01_00000006_01
    ∷ gives 7 0x4D4F_03_00000006
    ∷ gives 8 0x4D4F_01_00000007_01
    ∷ gives 15 0x4D4F_04_00000008_4D4F_01_00000008_01
    ∷ []))
    -- NOTOK: a, b and c for SETTING rows; c comes before d and counts the other row
    ∷ edge
    (records 12
    (with_room 8 0x4D45_01_00000000_04
    ∷ with_room 11 0x4D45_04_00000001_01_0100_00
    ∷ with_room 11 0x4D45_04_00000002_01_0100_00
    ∷ with_room 13 0x4D45_04_00000003_01_0101_01_2200
    ∷ with_room 11 0x4D45_04_00000003_01_0104_00
    ∷ with_room 13 0x4D45_04_00000003_02_0102_01_3100
    ∷ with_room 13 0x4D45_04_00000003_02_0104_01_3101
    ∷ with_room 8 0x4D45_05_00000003_02
    ∷ with_room 13 0x4D45_04_00000003_03_0103_01_4000
    ∷ with_room 13 0x4D45_04_00000003_03_0300_01_4001
    ∷ with_room 11 0x4D45_04_00000004_03_0103_00
    ∷ []))
    (results
    (gives 24 0x4D4F_01_00000001_01_4D4F_01_00000001_02_4D4F_01_00000001_03
    ∷ gives 31 0x4D4F_04_00000002_4D4F_01_00000002_01_4D4F_01_00000002_02_4D4F_01_00000002_03
    ∷ gives 31 0x4D4F_04_00000003_4D4F_01_00000003_01_4D4F_01_00000003_02_4D4F_01_00000003_03
    ∷ gives 13 0x4D4F_02_00000003_01_0101_22_00_01
    ∷ no_orders
    ∷ gives 13 0x4D4F_02_00000003_02_0102_31_00_01
    ∷ no_orders
    ∷ refusal 7
    ∷ gives 13 0x4D4F_02_00000003_03_0103_40_00_01
    ∷ gives 15 0x4D4F_04_00000004_4D4F_01_00000004_03
    ∷ gives 7 0x4D4F_03_00000004
    ∷ []))
    ∷ edge
    (records 12
    (with_room 8 0x4D45_01_00000000_03
    ∷ with_room 11 0x4D45_04_00000001_01_0101_00
    ∷ with_room 13 0x4D45_04_00000001_02_0102_01_3100
    ∷ with_room 13 0x4D45_04_00000001_02_0101_01_3101
    ∷ with_room 11 0x4D45_04_00000002_01_0100_00
    ∷ with_room 11 0x4D45_04_00000003_01_0100_00
    ∷ with_room 8 0x4D45_05_00000003_01
    ∷ []))
    (results
    (gives 16 0x4D4F_01_00000001_01_4D4F_01_00000001_02
    ∷ no_orders
    ∷ gives 13 0x4D4F_02_00000001_02_0102_31_00_01
    ∷ gives 23 0x4D4F_04_00000002_4D4F_01_00000002_01_4D4F_01_00000002_02
    ∷ gives 23 0x4D4F_04_00000003_4D4F_01_00000003_01_4D4F_01_00000003_02
    ∷ no_orders
    ∷ refusal 7
    ∷ []))
    -- OK: b, c and a for SETTING rows
    ∷ edge
    (records 12
    (with_room 8 0x4D45_01_00000000_04
    ∷ with_room 11 0x4D45_04_00000001_01_0100_00
    ∷ with_room 11 0x4D45_04_00000002_01_0100_00
    ∷ with_room 11 0x4D45_04_00000003_01_0101_00
    ∷ with_room 11 0x4D45_04_00000003_02_0102_00
    ∷ with_room 11 0x4D45_04_00000003_03_0103_00
    ∷ with_room 11 0x4D45_04_00000003_01_0104_00
    ∷ with_room 13 0x4D45_04_00000003_02_0102_01_3100
    ∷ with_room 11 0x4D45_04_00000003_02_0300_00
    ∷ with_room 11 0x4D45_04_00000004_02_0102_00
    ∷ with_room 11 0x4D45_04_00000004_03_0103_00
    ∷ with_room 13 0x4D45_04_00000004_02_0102_01_3100
    ∷ with_room 13 0x4D45_04_00000004_02_0103_01_3101
    ∷ with_room 11 0x4D45_04_00000005_02_0102_00
    ∷ with_room 11 0x4D45_04_00000005_03_0103_00
    ∷ with_room 13 0x4D45_04_00000005_03_0103_01_3100
    ∷ with_room 13 0x4D45_04_00000005_03_0104_01_3101
    ∷ with_room 8 0x4D45_05_00000005_03
    ∷ with_room 13 0x4D45_04_00000005_02_0102_01_4000
    ∷ with_room 13 0x4D45_04_00000005_02_0102_01_4001
    ∷ []))
    (results
    (gives 24 0x4D4F_01_00000001_01_4D4F_01_00000001_02_4D4F_01_00000001_03
    ∷ gives 31 0x4D4F_04_00000002_4D4F_01_00000002_01_4D4F_01_00000002_02_4D4F_01_00000002_03
    ∷ gives 31 0x4D4F_04_00000003_4D4F_01_00000003_01_4D4F_01_00000003_02_4D4F_01_00000003_03
    ∷ no_orders
    ∷ no_orders
    ∷ gives 7 0x4D4F_03_00000003
    ∷ no_orders
    ∷ gives 13 0x4D4F_02_00000003_02_0102_31_00_01
    ∷ gives 23 0x4D4F_04_00000004_4D4F_01_00000004_02_4D4F_01_00000004_03
    ∷ no_orders
    ∷ gives 7 0x4D4F_03_00000004
    ∷ gives 13 0x4D4F_02_00000004_02_0102_31_00_01
    ∷ gives 23 0x4D4F_04_00000005_4D4F_01_00000005_02_4D4F_01_00000005_03
    ∷ no_orders
    ∷ gives 7 0x4D4F_03_00000005
    ∷ gives 13 0x4D4F_02_00000005_03_0103_31_00_01
    ∷ no_orders
    ∷ refusal 7
    ∷ gives 13 0x4D4F_02_00000005_02_0102_40_00_01
    ∷ gives 10 0x4D4F_05_00000005_01_4001
    ∷ []))
    -- OK: b, c and a for SILENT rows that answer unasked; the delay runs on without them
    ∷ edge
    (records 12
    (with_room 8 0x4D45_01_00000000_04
    ∷ with_room 11 0x4D45_04_00000001_01_0101_00
    ∷ with_room 8 0x4D45_05_00000001_03
    ∷ with_room 8 0x4D45_05_00000001_02
    ∷ with_room 11 0x4D45_04_00000001_02_0300_00
    ∷ with_room 11 0x4D45_04_00000002_01_0101_00
    ∷ with_room 8 0x4D45_05_00000002_03
    ∷ with_room 8 0x4D45_05_00000002_02
    ∷ with_room 11 0x4D45_04_00000002_02_0101_00
    ∷ with_room 11 0x4D45_04_00000003_01_0101_00
    ∷ with_room 8 0x4D45_05_00000003_03
    ∷ with_room 8 0x4D45_05_00000003_02
    ∷ with_room 11 0x4D45_04_00000003_02_0101_00
    ∷ with_room 11 0x4D45_04_00000003_03_0101_00
    ∷ with_room 8 0x4D45_05_00000003_01
    ∷ with_room 8 0x4D45_05_00000003_02
    ∷ with_room 8 0x4D45_05_00000003_03
    ∷ with_room 8 0x4D45_06_00000003_00
    ∷ with_room 8 0x4D45_06_00000003_00
    ∷ []))
    (results
    (gives 24 0x4D4F_01_00000001_01_4D4F_01_00000001_02_4D4F_01_00000001_03
    ∷ no_orders
    ∷ no_orders
    ∷ gives 14 0x4D4F_03_00000001_4D4F_07_00000001
    ∷ gives 31 0x4D4F_04_00000002_4D4F_01_00000002_01_4D4F_01_00000002_02_4D4F_01_00000002_03
    ∷ no_orders
    ∷ no_orders
    ∷ gives 14 0x4D4F_03_00000002_4D4F_07_00000002
    ∷ gives 31 0x4D4F_04_00000003_4D4F_01_00000003_01_4D4F_01_00000003_02_4D4F_01_00000003_03
    ∷ no_orders
    ∷ no_orders
    ∷ gives 14 0x4D4F_03_00000003_4D4F_07_00000003
    ∷ no_orders
    ∷ no_orders
    ∷ refusal 7
    ∷ refusal 7
    ∷ refusal 7
    ∷ no_orders
    ∷ refusal 8
    ∷ []))
    -- OK: c and a for rows that DELAY asked
    ∷ edge
    (records 12
    (with_room 8 0x4D45_01_00000000_04
    ∷ with_room 11 0x4D45_04_00000001_01_0101_00
    ∷ with_room 8 0x4D45_05_00000001_02
    ∷ with_room 8 0x4D45_05_00000001_03
    ∷ with_room 8 0x4D45_06_00000001_00
    ∷ with_room 11 0x4D45_04_00000001_02_0101_00
    ∷ with_room 11 0x4D45_04_00000002_02_0300_00
    ∷ with_room 11 0x4D45_04_00000003_01_0101_00
    ∷ with_room 8 0x4D45_05_00000003_02
    ∷ with_room 8 0x4D45_05_00000003_03
    ∷ with_room 8 0x4D45_06_00000003_00
    ∷ with_room 11 0x4D45_04_00000003_02_0101_00
    ∷ with_room 11 0x4D45_04_00000003_03_0101_00
    ∷ with_room 8 0x4D45_05_00000003_01
    ∷ with_room 8 0x4D45_05_00000003_02
    ∷ with_room 8 0x4D45_05_00000003_03
    ∷ []))
    (results
    (gives 24 0x4D4F_01_00000001_01_4D4F_01_00000001_02_4D4F_01_00000001_03
    ∷ no_orders
    ∷ no_orders
    ∷ gives 14 0x4D4F_03_00000001_4D4F_07_00000001
    ∷ gives 16 0x4D4F_01_00000001_02_4D4F_01_00000001_03
    ∷ gives 31 0x4D4F_04_00000002_4D4F_01_00000002_01_4D4F_01_00000002_02_4D4F_01_00000002_03
    ∷ gives 31 0x4D4F_04_00000003_4D4F_01_00000003_01_4D4F_01_00000003_02_4D4F_01_00000003_03
    ∷ no_orders
    ∷ no_orders
    ∷ gives 14 0x4D4F_03_00000003_4D4F_07_00000003
    ∷ gives 16 0x4D4F_01_00000003_02_4D4F_01_00000003_03
    ∷ no_orders
    ∷ no_orders
    ∷ refusal 7
    ∷ refusal 7
    ∷ refusal 7
    ∷ []))
    -- NOTOK: a SETTING row that falls silent loses address and pairs, and nothing is told
    ∷ edge
    (records 12 silent_while_setting)
    (results
    (gives 16 0x4D4F_01_00000001_01_4D4F_01_00000001_02
    ∷ gives 13 0x4D4F_02_00000001_01_0101_31_00_01
    ∷ no_orders
    ∷ gives 14 0x4D4F_03_00000001_4D4F_07_00000001
    ∷ []))
    ∷ edge (listing_after 12 silent_while_setting) (listing (entry 2 0x0101 0x22 0x01 ∷ []))
    -- a restart empties SETTING rows: another unit takes address and pair, and the renumbering begins anew
    ∷ edge
    (records 12
    (with_room 8 0x4D45_01_00000000_03
    ∷ times 2 (with_room 15 0x4D45_04_00000001_01_0101_02_2201_3100 ∷ [])
    ++ with_room 11 0x4D45_04_00000001_02_0300_00
    ∷ with_room 13 0x4D45_04_00000002_02_0101_01_2201
    ∷ times 3 (with_room 15 0x4D45_04_00000002_01_0102_02_4001_3100 ∷ [])
    ++ with_room 15 0x4D45_04_00000002_01_0102_02_4001_3100
    ∷ []))
    (results
    (gives 16 0x4D4F_01_00000001_01_4D4F_01_00000001_02
    ∷ times 2 (gives 13 0x4D4F_02_00000001_01_0101_31_00_01 ∷ [])
    ++ gives 23 0x4D4F_04_00000002_4D4F_01_00000002_01_4D4F_01_00000002_02
    ∷ no_orders
    ∷ times 3 (gives 13 0x4D4F_02_00000002_01_0102_31_00_01 ∷ [])
    ++ gives 7 0x4D4F_03_00000002
    ∷ []))
    -- pairs of SETTING rows are kept: they are bad elsewhere, and their numbers are not free
    ∷ edge
    (records 12
    (with_room 8 0x4D45_01_00000000_03
    ∷ with_room 15 0x4D45_04_00000001_01_0101_02_2201_3100
    ∷ with_room 13 0x4D45_04_00000001_02_0102_01_2200
    ∷ with_room 13 0x4D45_04_00000001_02_0102_01_2201
    ∷ with_room 13 0x4D45_04_00000001_02_0102_01_2202
    ∷ []))
    (results
    (gives 16 0x4D4F_01_00000001_01_4D4F_01_00000001_02
    ∷ gives 13 0x4D4F_02_00000001_01_0101_31_00_01
    ∷ gives 13 0x4D4F_02_00000001_02_0102_22_00_02
    ∷ gives 13 0x4D4F_02_00000001_02_0102_22_01_02
    ∷ no_orders
    ∷ []))
    -- an IGNORED row counts below 20 and leaves the wait long
    ∷ edge
    (records 12 silent_beside_ignored)
    (results
    (gives 16 0x4D4F_01_00000001_01_4D4F_01_00000001_02
    ∷ gives 23 0x4D4F_04_00000002_4D4F_01_00000002_01_4D4F_01_00000002_02
    ∷ gives 23 0x4D4F_04_00000003_4D4F_01_00000003_01_4D4F_01_00000003_02
    ∷ no_orders
    ∷ gives 14 0x4D4F_03_00000003_4D4F_07_00000003
    ∷ times 18 (gives 8 0x4D4F_01_00000003_01 ∷ gives 7 0x4D4F_07_00000003 ∷ [])
    ++ gives 8 0x4D4F_01_00000003_01
    ∷ gives 7 0x4D4F_08_00000003
    ∷ []))
    -- a good address zeroes the silence count of a SILENT row that answers unasked
    ∷ edge
    (records 12 silent_then_unasked)
    (results
    (gives 8 0x4D4F_01_00000001_01
    ∷ gives 14 0x4D4F_03_00000001_4D4F_07_00000001
    ∷ times 18 (gives 8 0x4D4F_01_00000001_01 ∷ gives 7 0x4D4F_07_00000001 ∷ [])
    ++ gives 8 0x4D4F_01_00000001_01
    ∷ gives 7 0x4D4F_08_00000001
    ∷ gives 13 0x4D4F_02_00000001_01_0101_22_00_01
    ∷ no_orders
    ∷ gives 8 0x4D4F_01_00000001_01
    ∷ gives 7 0x4D4F_07_00000001
    ∷ []))
    ∷ []
