-- Ring changes in OK (ticket 1) as a table: the orders to the byte, and what is left.
use Rattle.std.specs.Prelude.{true, false, List, [], ◌∷◌, ◌++◌, ℕ}
use Rattle.laws.specs.Lists.{collect, up_from}
use Rattle.rules.specs.Picture.{NotOk, Ok, WAITING, LISTED, SILENT}
use Rattle.rules.specs.Run.{Record}
use Rattle.rules.specs.Listing.{not_found, found}
use Rattle.rules.specs.Table.{hex, with_room, gives, no_orders, refusal, records, records_from, picture_after, listing_after, look_up_after, results, picture, listing, look_up, Edge, edge}
use Rattle.rules.specs.Corners.{unit}

-- three rows with three, four and one pair; then the third announces a pair that the first keeps, and is renumbered: SETTING, in OK
abbrev pub renumbering_in_ok : List Record
renumbering_in_ok =
    with_room 8 0x4D45_01_00000000_04
    ∷ with_room 17 0x4D45_04_00000001_01_0101_03_2201_2202_2203
    ∷ with_room 19 0x4D45_04_00000001_02_0102_04_3101_3102_3103_3104
    ∷ with_room 13 0x4D45_04_00000001_03_0103_01_4001
    ∷ with_room 15 0x4D45_04_00000001_03_0103_02_2201_4001
    ∷ []

-- a ring change to two positions, and what is heard of them
abbrev pub smaller : List Record
smaller = renumbering_in_ok ++ with_room 8 0x4D45_02_00000000_02 ∷ []

-- one row LISTED, one SILENT, and a delay runs
abbrev pub delayed : List Record
delayed =
    with_room 8 0x4D45_01_00000000_03
    ∷ with_room 13 0x4D45_04_00000001_01_0101_01_2201
    ∷ with_room 8 0x4D45_05_00000001_02
    ∷ with_room 8 0x4D45_02_00000000_03
    ∷ []

-- two rows IGNORED for 0102, one open, one SILENT: a scan in trouble, in NOTOK
abbrev pub troubled : List Record
troubled =
    with_room 8 0x4D45_01_00000000_05
    ∷ with_room 11 0x4D45_04_00000001_01_0102_00
    ∷ with_room 11 0x4D45_04_00000001_02_0102_00
    ∷ with_room 11 0x4D45_04_00000002_01_0102_00
    ∷ with_room 11 0x4D45_04_00000002_02_0102_00
    ∷ with_room 11 0x4D45_04_00000003_01_0102_00
    ∷ with_room 11 0x4D45_04_00000003_02_0102_00
    ∷ with_room 8 0x4D45_05_00000003_04
    ∷ with_room 8 0x4D45_02_00000000_05
    ∷ []

-- an amplifier, and a head unit of 24 blocks whose 19th pair the amplifier keeps too; both come to OK (ticket 8)
abbrev pub head_unit : List Record
head_unit =
    with_room 8 0x4D45_01_00000000_03
    ∷ with_room 15 0x4D45_04_00000001_01_0101_02_2201_3101
    ∷ with_room 59 0x4D45_04_00000001_02_0102_18_1001_1101_1201_1301_1401_1501_1601_1701_1801_1901_1A01_1B01_1C01_1D01_1E01_1F01_2001_2101_2201_2301_2401_2501_2601_2701
    ∷ with_room 59 0x4D45_04_00000001_02_0102_18_1001_1101_1201_1301_1401_1501_1601_1701_1801_1901_1A01_1B01_1C01_1D01_1E01_1F01_2001_2101_2202_2301_2401_2501_2601_2701
    ∷ []

unfoldable pub ring_changes : List Edge
unfolding hex
ring_changes =
    -- ASKs, then INVALID: five pairs in an order over the end of a row, the SETTING row's pair and those of rows beyond a smaller N with
    -- them; the pass is the new one. Then a unit answers and its pairs are NEW, without an OK. A larger N, with what has answered so far.
    edge
    (records 12
    (smaller
    ++ with_room 8 0x4D45_05_00000001_01
    ∷ with_room 8 0x4D45_05_00000002_02
    ∷ with_room 17 0x4D45_04_00000002_01_0103_03_2203_2202_2201
    ∷ with_room 8 0x4D45_05_00000002_01
    ∷ with_room 8 0x4D45_02_00000000_04
    ∷ with_room 15 0x4D45_04_00000003_02_0101_02_2201_3101
    ∷ with_room 8 0x4D45_02_00000000_03
    ∷ []))
    (results
    (gives 24 0x4D4F_01_00000001_01_4D4F_01_00000001_02_4D4F_01_00000001_03
    ∷ no_orders
    ∷ no_orders
    ∷ gives 7 0x4D4F_03_00000001
    ∷ gives 13 0x4D4F_02_00000001_03_0103_22_01_04
    ∷ gives 40 0x4D4F_01_00000002_01_4D4F_06_00000002_05_2201_2202_2203_3101_3102_4D4F_06_00000002_03_3103_3104_4001
    ∷ refusal 5
    ∷ refusal 6
    ∷ gives 14 0x4D4F_05_00000002_03_2203_2202_2201
    ∷ refusal 8
    ∷ gives 38 0x4D4F_01_00000003_01_4D4F_01_00000003_02_4D4F_01_00000003_03_4D4F_06_00000003_03_2203_2202_2201
    ∷ gives 12 0x4D4F_05_00000003_02_2201_3101
    ∷ gives 28 0x4D4F_01_00000004_01_4D4F_01_00000004_02_4D4F_06_00000004_02_2201_3101
    ∷ []))
    -- rows are emptied and count nothing; nothing is listed, and a look-up says so
    ∷ edge
    (picture_after 12 smaller)
    (picture (record { state = Ok; pass = 2; size = 12; delay = false; rows = unit WAITING 0 0 ∷ [] }))
    ∷ edge (listing_after 12 smaller) (listing [])
    ∷ edge (look_up_after 12 smaller 0x22 0x01) (look_up (not_found 17))
    ∷ edge
    (look_up_after 12 (smaller ++ with_room 17 0x4D45_04_00000002_01_0103_03_2203_2202_2201 ∷ []) 0x22 0x01)
    (look_up (found 1 0x0103))
    -- N = 1: INVALIDs alone, and where nothing is listed nothing at all; each opens a pass, and the state stays OK
    ∷ edge
    (records 12 (renumbering_in_ok ++ with_room 8 0x4D45_02_00000000_01 ∷ with_room 8 0x4D45_02_00000000_01 ∷ with_room 8 0x4D45_02_00000000_02 ∷ []))
    (results
    (gives 24 0x4D4F_01_00000001_01_4D4F_01_00000001_02_4D4F_01_00000001_03
    ∷ no_orders
    ∷ no_orders
    ∷ gives 7 0x4D4F_03_00000001
    ∷ gives 13 0x4D4F_02_00000001_03_0103_22_01_04
    ∷ gives 32 0x4D4F_06_00000002_05_2201_2202_2203_3101_3102_4D4F_06_00000002_03_3103_3104_4001
    ∷ no_orders
    ∷ gives 8 0x4D4F_01_00000004_01
    ∷ []))
    ∷ edge
    (picture_after 12 (renumbering_in_ok ++ with_room 8 0x4D45_02_00000000_01 ∷ []))
    (picture (record { state = Ok; pass = 2; size = 12; delay = false; rows = [] }))
    -- orders that are just full: ten pairs at L = 12 and twelve at L = 13, over two rows; L = 14 has six in an order too, L = 15 seven
    ∷ edge
    (records 12
    (with_room 8 0x4D45_01_00000000_03
    ∷ with_room 23 0x4D45_04_00000001_01_0101_06_2201_2202_2203_2204_2205_2206
    ∷ with_room 19 0x4D45_04_00000001_02_0102_04_3101_3102_3103_3104
    ∷ with_room 8 0x4D45_02_00000000_01
    ∷ []))
    (results
    (gives 16 0x4D4F_01_00000001_01_4D4F_01_00000001_02
    ∷ no_orders
    ∷ gives 7 0x4D4F_03_00000001
    ∷ gives 36 0x4D4F_06_00000002_05_2201_2202_2203_2204_2205_4D4F_06_00000002_05_2206_3101_3102_3103_3104
    ∷ []))
    ∷ edge
    (records 13
    (with_room 8 0x4D45_01_00000000_03
    ∷ with_room 19 0x4D45_04_00000001_01_0101_04_2201_2202_2203_2204
    ∷ with_room 27 0x4D45_04_00000001_02_0102_08_3101_3102_3103_3104_3105_3106_3107_3108
    ∷ with_room 8 0x4D45_02_00000000_01
    ∷ []))
    (results
    (gives 16 0x4D4F_01_00000001_01_4D4F_01_00000001_02
    ∷ no_orders
    ∷ gives 7 0x4D4F_03_00000001
    ∷ gives 40 0x4D4F_06_00000002_06_2201_2202_2203_2204_3101_3102_4D4F_06_00000002_06_3103_3104_3105_3106_3107_3108
    ∷ []))
    ∷ edge
    (records 14
    (with_room 8 0x4D45_01_00000000_03
    ∷ with_room 19 0x4D45_04_00000001_01_0101_04_2201_2202_2203_2204
    ∷ with_room 17 0x4D45_04_00000001_02_0102_03_3101_3102_3103
    ∷ with_room 8 0x4D45_02_00000000_01
    ∷ []))
    (results
    (gives 16 0x4D4F_01_00000001_01_4D4F_01_00000001_02
    ∷ no_orders
    ∷ gives 7 0x4D4F_03_00000001
    ∷ gives 30 0x4D4F_06_00000002_06_2201_2202_2203_2204_3101_3102_4D4F_06_00000002_01_3103
    ∷ []))
    ∷ edge
    (records 15
    (with_room 8 0x4D45_01_00000000_03
    ∷ with_room 19 0x4D45_04_00000001_01_0101_04_2201_2202_2203_2204
    ∷ with_room 17 0x4D45_04_00000001_02_0102_03_3101_3102_3103
    ∷ with_room 8 0x4D45_02_00000000_01
    ∷ []))
    (results
    (gives 16 0x4D4F_01_00000001_01_4D4F_01_00000001_02
    ∷ no_orders
    ∷ gives 7 0x4D4F_03_00000001
    ∷ gives 22 0x4D4F_06_00000002_07_2201_2202_2203_2204_3101_3102_3103
    ∷ []))
    -- a running delay ends: no DELAY is taken, and the WAIT comes again with the last answer, behind NEW and without an OK
    ∷ edge
    (records 12
    (delayed
    ++ with_room 8 0x4D45_06_00000002_00
    ∷ with_room 8 0x4D45_05_00000002_02
    ∷ with_room 8 0x4D45_06_00000002_00
    ∷ with_room 13 0x4D45_04_00000002_01_0101_01_2201
    ∷ with_room 8 0x4D45_06_00000002_00
    ∷ with_room 8 0x4D45_02_00000000_03
    ∷ []))
    (results
    (gives 16 0x4D4F_01_00000001_01_4D4F_01_00000001_02
    ∷ no_orders
    ∷ gives 14 0x4D4F_03_00000001_4D4F_07_00000001
    ∷ gives 26 0x4D4F_01_00000002_01_4D4F_01_00000002_02_4D4F_06_00000002_01_2201
    ∷ refusal 8
    ∷ no_orders
    ∷ refusal 8
    ∷ gives 17 0x4D4F_05_00000002_01_2201_4D4F_07_00000002
    ∷ gives 8 0x4D4F_01_00000002_02
    ∷ gives 26 0x4D4F_01_00000003_01_4D4F_01_00000003_02_4D4F_06_00000003_01_2201
    ∷ []))
    ∷ edge
    (picture_after 12 delayed)
    (picture (record { state = Ok; pass = 2; size = 12; delay = false; rows = unit WAITING 0 0 ∷ unit WAITING 0 0 ∷ [] }))
    ∷ edge
    (picture_after 12 (delayed ++ with_room 13 0x4D45_04_00000002_01_0102_01_2201 ∷ with_room 8 0x4D45_05_00000002_02 ∷ []))
    (picture (record { state = Ok; pass = 2; size = 12; delay = true; rows = unit (LISTED 0x0102 (record { block = 0x22; number = 0x01 } ∷ [])) 0 0 ∷ unit SILENT 0 1 ∷ [] }))
    -- the last of the rescan brings nothing where nothing is new and nobody is SILENT
    ∷ edge
    (records 12
    (with_room 8 0x4D45_01_00000000_02
    ∷ with_room 11 0x4D45_04_00000001_01_0101_00
    ∷ with_room 8 0x4D45_02_00000000_02
    ∷ with_room 11 0x4D45_04_00000002_01_0101_00
    ∷ with_room 11 0x4D45_04_00000002_01_0101_00
    ∷ []))
    (results (gives 8 0x4D4F_01_00000001_01 ∷ gives 7 0x4D4F_03_00000001 ∷ gives 8 0x4D4F_01_00000002_01 ∷ no_orders ∷ no_orders ∷ []))
    -- a liar in the rescan: the restart says NOTOK and tells nothing, and OK comes at its end; an NCE in NOTOK says NOTOK first
    ∷ edge
    (records 12
    (with_room 8 0x4D45_01_00000000_03
    ∷ with_room 13 0x4D45_04_00000001_01_0101_01_2201
    ∷ with_room 13 0x4D45_04_00000001_02_0102_01_3101
    ∷ with_room 8 0x4D45_02_00000000_03
    ∷ with_room 13 0x4D45_04_00000002_01_0102_01_3101
    ∷ with_room 13 0x4D45_04_00000002_02_0102_01_3101
    ∷ with_room 13 0x4D45_04_00000003_01_0101_01_2201
    ∷ with_room 8 0x4D45_02_00000000_02
    ∷ with_room 13 0x4D45_04_00000004_01_0101_01_2201
    ∷ []))
    (results
    (gives 16 0x4D4F_01_00000001_01_4D4F_01_00000001_02
    ∷ no_orders
    ∷ gives 7 0x4D4F_03_00000001
    ∷ gives 28 0x4D4F_01_00000002_01_4D4F_01_00000002_02_4D4F_06_00000002_02_2201_3101
    ∷ gives 10 0x4D4F_05_00000002_01_3101
    ∷ gives 23 0x4D4F_04_00000003_4D4F_01_00000003_01_4D4F_01_00000003_02
    ∷ no_orders
    ∷ gives 15 0x4D4F_04_00000004_4D4F_01_00000004_01
    ∷ gives 7 0x4D4F_03_00000004
    ∷ []))
    -- barred addresses are forgotten: two units are IGNORED for 0102, and after a ring change in OK one of them may have it
    ∷ edge
    (records 12
    (with_room 8 0x4D45_01_00000000_03
    ∷ with_room 11 0x4D45_04_00000001_01_0102_00
    ∷ with_room 11 0x4D45_04_00000001_02_0102_00
    ∷ with_room 11 0x4D45_04_00000002_01_0102_00
    ∷ with_room 11 0x4D45_04_00000002_02_0102_00
    ∷ with_room 11 0x4D45_04_00000003_01_0102_00
    ∷ with_room 11 0x4D45_04_00000003_02_0102_00
    ∷ with_room 8 0x4D45_02_00000000_03
    ∷ with_room 13 0x4D45_04_00000004_02_0102_01_2201
    ∷ with_room 11 0x4D45_04_00000004_01_0101_00
    ∷ []))
    (results
    (gives 16 0x4D4F_01_00000001_01_4D4F_01_00000001_02
    ∷ no_orders
    ∷ gives 23 0x4D4F_04_00000002_4D4F_01_00000002_01_4D4F_01_00000002_02
    ∷ no_orders
    ∷ gives 23 0x4D4F_04_00000003_4D4F_01_00000003_01_4D4F_01_00000003_02
    ∷ no_orders
    ∷ gives 7 0x4D4F_03_00000003
    ∷ gives 16 0x4D4F_01_00000004_01_4D4F_01_00000004_02
    ∷ gives 10 0x4D4F_05_00000004_01_2201
    ∷ no_orders
    ∷ []))
    -- an announcement in the rescan that nobody asked for is taken, and told as ever, rows separately
    ∷ edge
    (records 12
    (with_room 8 0x4D45_01_00000000_03
    ∷ with_room 13 0x4D45_04_00000001_01_0101_01_2201
    ∷ with_room 13 0x4D45_04_00000001_02_0102_01_3101
    ∷ with_room 8 0x4D45_02_00000000_03
    ∷ with_room 13 0x4D45_04_00000002_01_0101_01_2201
    ∷ with_room 13 0x4D45_04_00000002_01_0101_01_3101
    ∷ with_room 13 0x4D45_04_00000002_02_0102_01_3101
    ∷ with_room 8 0x4D45_02_00000000_02
    ∷ with_room 13 0x4D45_04_00000002_02_0102_01_3102
    ∷ []))
    (results
    (gives 16 0x4D4F_01_00000001_01_4D4F_01_00000001_02
    ∷ no_orders
    ∷ gives 7 0x4D4F_03_00000001
    ∷ gives 28 0x4D4F_01_00000002_01_4D4F_01_00000002_02_4D4F_06_00000002_02_2201_3101
    ∷ gives 10 0x4D4F_05_00000002_01_2201
    ∷ gives 20 0x4D4F_06_00000002_01_2201_4D4F_05_00000002_01_3101
    ∷ gives 13 0x4D4F_02_00000002_02_0102_31_01_02
    ∷ gives 18 0x4D4F_01_00000003_01_4D4F_06_00000003_01_3101
    ∷ refusal 5
    ∷ []))
    -- the last pass: refused 9, and nothing is told or forgotten
    ∷ edge
    (records_from 12 4_294_967_293
    (with_room 8 0x4D45_01_00000000_02
    ∷ with_room 13 0x4D45_04_FFFFFFFE_01_0101_01_2201
    ∷ with_room 8 0x4D45_02_00000000_02
    ∷ with_room 13 0x4D45_04_FFFFFFFF_01_0101_01_2201
    ∷ with_room 8 0x4D45_02_00000000_02
    ∷ with_room 11 0x4D45_04_FFFFFFFF_01_0101_00
    ∷ []))
    (results
    (gives 8 0x4D4F_01_FFFFFFFE_01
    ∷ gives 7 0x4D4F_03_FFFFFFFE
    ∷ gives 18 0x4D4F_01_FFFFFFFF_01_4D4F_06_FFFFFFFF_01_2201
    ∷ gives 10 0x4D4F_05_FFFFFFFF_01_2201
    ∷ refusal 9
    ∷ gives 10 0x4D4F_06_FFFFFFFF_01_2201
    ∷ []))
    -- "In NOTOK nothing changes": NOTOK first, all rows asked and counting nothing, IGNORED and SILENT ones too; barred addresses are
    -- forgotten; 64 positions
    ∷ edge
    (records 12 (troubled ++ with_room 13 0x4D45_04_00000004_02_0102_01_2201 ∷ []))
    (results
    (gives 32 0x4D4F_01_00000001_01_4D4F_01_00000001_02_4D4F_01_00000001_03_4D4F_01_00000001_04
    ∷ no_orders
    ∷ gives 39 0x4D4F_04_00000002_4D4F_01_00000002_01_4D4F_01_00000002_02_4D4F_01_00000002_03_4D4F_01_00000002_04
    ∷ no_orders
    ∷ gives 39 0x4D4F_04_00000003_4D4F_01_00000003_01_4D4F_01_00000003_02_4D4F_01_00000003_03_4D4F_01_00000003_04
    ∷ no_orders
    ∷ no_orders
    ∷ no_orders
    ∷ gives 39 0x4D4F_04_00000004_4D4F_01_00000004_01_4D4F_01_00000004_02_4D4F_01_00000004_03_4D4F_01_00000004_04
    ∷ no_orders
    ∷ []))
    ∷ edge
    (picture_after 12 troubled)
    (picture (record { state = NotOk; pass = 4; size = 12; delay = false; rows = unit WAITING 0 0 ∷ unit WAITING 0 0 ∷ unit WAITING 0 0 ∷ unit WAITING 0 0 ∷ [] }))
    ∷ edge
    (records 12 (with_room 8 0x4D45_01_00000000_02 ∷ with_room 8 0x4D45_02_00000000_40 ∷ []))
    (results
    (gives 8 0x4D4F_01_00000001_01
    ∷ record { number = 0; length = 511; bytes = hex 7 0x4D4F_04_00000002 ++ collect (λ (x : ℕ). hex 7 0x4D4F_01_00000002 ++ x ∷ []) (up_from 1 63) }
    ∷ []))
    -- a pass that is still to come is not the current one; the room is looked at whatever the kind
    ∷ edge
    (records 12
    (with_room 8 0x4D45_01_00000000_02
    ∷ with_room 8 0x4D45_05_00000002_01
    ∷ with_room 11 0x4D45_04_00000002_01_0101_00
    ∷ record { bytes = hex 11 0x4D45_04_00000001_01_0101_00; room = 8_191 }
    ∷ with_room 8 0x4D45_05_00000001_01
    ∷ with_room 8 0x4D45_06_00000002_00
    ∷ record { bytes = hex 8 0x4D45_06_00000001_00; room = 8_191 }
    ∷ record { bytes = hex 8 0x4D45_02_00000000_02; room = 8_191 }
    ∷ record { bytes = hex 8 0x4D45_03_00000000_00; room = 8_191 }
    ∷ with_room 8 0x4D45_06_00000001_00
    ∷ []))
    (results
    (gives 8 0x4D4F_01_00000001_01
    ∷ refusal 5
    ∷ refusal 5
    ∷ refusal 1
    ∷ gives 14 0x4D4F_03_00000001_4D4F_07_00000001
    ∷ refusal 5
    ∷ refusal 1
    ∷ refusal 1
    ∷ refusal 1
    ∷ gives 8 0x4D4F_01_00000001_01
    ∷ []))
    -- a head unit of 24 blocks at L = 45: its 19th pair is renumbered, and behind a ring change its pairs take two orders, 22 and 2
    ∷ edge
    (records 45
    (head_unit
    ++ with_room 8 0x4D45_02_00000000_03
    ∷ with_room 59 0x4D45_04_00000002_02_0102_18_1001_1101_1201_1301_1401_1501_1601_1701_1801_1901_1A01_1B01_1C01_1D01_1E01_1F01_2001_2101_2202_2301_2401_2501_2601_2701
    ∷ with_room 15 0x4D45_04_00000002_01_0101_02_2201_3101
    ∷ []))
    (results
    (gives 16 0x4D4F_01_00000001_01_4D4F_01_00000001_02
    ∷ no_orders
    ∷ gives 13 0x4D4F_02_00000001_02_0102_22_01_02
    ∷ gives 7 0x4D4F_03_00000001
    ∷ gives 84 0x4D4F_01_00000002_01_4D4F_01_00000002_02_4D4F_06_00000002_16_2201_3101_1001_1101_1201_1301_1401_1501_1601_1701_1801_1901_1A01_1B01_1C01_1D01_1E01_1F01_2001_2101_2202_2301_4D4F_06_00000002_04_2401_2501_2601_2701
    ∷ gives 64 0x4D4F_05_00000002_16_1001_1101_1201_1301_1401_1501_1601_1701_1801_1901_1A01_1B01_1C01_1D01_1E01_1F01_2001_2101_2202_2301_2401_2501_4D4F_05_00000002_02_2601_2701
    ∷ gives 12 0x4D4F_05_00000002_02_2201_3101
    ∷ []))
    -- at L = 12 it announces nothing and then all of them again: INVALID and NEW for each pair, in five orders
    ∷ edge
    (records 12
    (head_unit
    ++ with_room 11 0x4D45_04_00000001_02_0102_00
    ∷ with_room 59 0x4D45_04_00000001_02_0102_18_1001_1101_1201_1301_1401_1501_1601_1701_1801_1901_1A01_1B01_1C01_1D01_1E01_1F01_2001_2101_2202_2301_2401_2501_2601_2701
    ∷ []))
    (results
    (gives 16 0x4D4F_01_00000001_01_4D4F_01_00000001_02
    ∷ no_orders
    ∷ gives 13 0x4D4F_02_00000001_02_0102_22_01_02
    ∷ gives 7 0x4D4F_03_00000001
    ∷ gives 88 0x4D4F_06_00000001_05_1001_1101_1201_1301_1401_4D4F_06_00000001_05_1501_1601_1701_1801_1901_4D4F_06_00000001_05_1A01_1B01_1C01_1D01_1E01_4D4F_06_00000001_05_1F01_2001_2101_2202_2301_4D4F_06_00000001_04_2401_2501_2601_2701
    ∷ gives 88 0x4D4F_05_00000001_05_1001_1101_1201_1301_1401_4D4F_05_00000001_05_1501_1601_1701_1801_1901_4D4F_05_00000001_05_1A01_1B01_1C01_1D01_1E01_4D4F_05_00000001_05_1F01_2001_2101_2202_2301_4D4F_05_00000001_04_2401_2501_2601_2701
    ∷ []))
    ∷ edge (look_up_after 45 head_unit 0x27 0x01) (look_up (found 2 0x0102))
    ∷ []
