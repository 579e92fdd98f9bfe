-- The sentences of ticket 7 as one table: units made, orders read, answers kept and forgotten, and benches.
use Rattle.std.specs.Prelude.{ℕ, ◌+◌, List, [], ◌∷◌, ◌++◌, map, replicate}
use Rattle.laws.specs.Lists.{collect, up_from}
use Rattle.rules.specs.House.{min_answer_room}
use Rattle.rules.specs.Picture.{Off, NotOk, Ok, Pair}
use Rattle.rules.specs.Listing.{found, not_found}
use Rattle.rules.specs.Table.{hex, with_room, entry}
use Rattle.rules_unit.specs.Slave.{Known, Slave, pair, Turn, reads, learns}
use Rattle.rules_unit.specs.Bench.{offers, asks}
use Rattle.rules_unit.specs.Table.{to_make, turns, last_of, acts, made, unit, gives, bench, Edge, edge}

-- an order with just enough room; a look-up that is answered; an answer
abbrev order : (bytes : ℕ) → ℕ → Turn
order k n = reads (hex k n) min_answer_room

abbrev tells : (block number address : ℕ) → Turn
tells b n a = learns (pair b n) (found 9 a)

abbrev known : (block number address : ℕ) → Known
known b n a = record { pair = pair b n; address = a }

-- the unit of this table, at position 2 with address 0102: what it lists, the last pass and what it keeps
abbrev holding : List Pair → (pass : ℕ) → List Known → Slave
holding ps n ks = record { position = 2; address = 0x0102; pairs = ps; pass = n; known = ks }

abbrev with : List Turn → List Known → (pass : ℕ) → Edge
with ts ks n = edge (turns 2 0x0102 (hex 4 0x2201_3101) ts) (unit (holding (pair 0x22 0x01 ∷ pair 0x31 0x01 ∷ []) n ks))

-- an order for a unit with these pairs: what comes back
abbrev ordered : (bytes : ℕ) → ℕ → (length : ℕ) → ℕ → (number : ℕ) → List ℕ → List Pair → Edge
ordered k ps l o n a after = edge (last_of 2 0x0102 (hex k ps) [] (hex l o) min_answer_room) (gives n a after)

-- an order that this unit refuses
abbrev refused : (length : ℕ) → ℕ → Edge
refused l o = edge (last_of 2 0x0102 (hex 4 0x2201_3101) [] (hex l o) min_answer_room) (gives 2 [] (pair 0x22 0x01 ∷ pair 0x31 0x01 ∷ []))

-- two answers of pass 1
abbrev two : List Turn
two = order 7 0x4D4F_03_00000001 ∷ tells 0x22 0x01 0x0101 ∷ tells 0x40 0x05 0x0103 ∷ []

-- n pairs of block 22
unfoldable pub many : ℕ → List ℕ
many n = collect (λ (i : ℕ). 0x22 ∷ i ∷ []) (up_from 1 n)

unfoldable pub unit_edges : List Edge
unfolding hex many
unit_edges =
    -- made: no pairs, 24, over 24, half a pair
    edge (to_make 2 0x0102 []) (made 0 (holding [] 0 []))
    ∷ edge (to_make 2 0x0102 (many 24)) (made 0 (holding (map (pair 0x22) (up_from 1 24)) 0 []))
    ∷ edge (to_make 2 0x0102 (many 25)) (made 2 (holding [] 0 []))
    ∷ edge (to_make 2 0x0102 (hex 3 0x2201_31)) (made 2 (holding [] 0 []))
    -- room below 64 first, also for what is no order
    ∷ edge (last_of 2 0x0102 (hex 2 0x2201) [] (hex 8 0x4D4F_01_00000001_02) 63) (gives 1 [] (pair 0x22 0x01 ∷ []))
    ∷ edge (last_of 2 0x0102 (hex 2 0x2201) [] [] 63) (gives 1 [] (pair 0x22 0x01 ∷ []))
    -- a wrong length of each kind, a wrong mark, a wrong kind
    ∷ refused 0 0
    ∷ refused 7 0x4D4F_01_00000001
    ∷ refused 9 0x4D4F_01_00000001_02_00
    ∷ refused 12 0x4D4F_02_00000001_02_0102_22_01
    ∷ refused 14 0x4D4F_02_00000001_02_0102_22_01_02_00
    ∷ refused 6 0x4D4F_03_000000
    ∷ refused 8 0x4D4F_03_00000001_00
    ∷ refused 8 0x4D4F_04_00000001_00
    ∷ refused 7 0x4D4F_05_00000001
    ∷ refused 9 0x4D4F_05_00000001_01_22
    ∷ refused 12 0x4D4F_06_00000001_01_2201_31
    ∷ refused 8 0x4D4F_07_00000001_00
    ∷ refused 8 0x4D4F_08_00000001_00
    ∷ refused 8 0x4E4F_01_00000001_02
    ∷ refused 8 0x4D45_01_00000001_02
    ∷ refused 7 0x4D4F_00_00000001
    ∷ refused 7 0x4D4F_09_00000001
    -- "It answers an ASK for its own position with its list", and no other
    ∷ ordered 4 0x2201_3101 8 0x4D4F_01_01020304_02 0 (hex 15 0x4D45_04_01020304_02_0102_02_2201_3101) (pair 0x22 0x01 ∷ pair 0x31 0x01 ∷ [])
    ∷ ordered 0 0 8 0x4D4F_01_00000001_02 0 (hex 11 0x4D45_04_00000001_02_0102_00) []
    ∷ ordered 2 0x2201 8 0x4D4F_01_00000001_03 0 [] (pair 0x22 0x01 ∷ [])
    ∷ ordered 4 0x0001_FF01 8 0x4D4F_01_00000001_02 0 (hex 15 0x4D45_04_00000001_02_0102_02_0001_FF01) (pair 0x00 0x01 ∷ pair 0xFF 0x01 ∷ [])
    ∷ edge (last_of 5 0x0105 (hex 2 0x2201) [] (hex 8 0x4D4F_01_00000001_05) min_answer_room) (gives 0 (hex 13 0x4D45_04_00000001_05_0105_01_2201) (pair 0x22 0x01 ∷ []))
    ∷ edge (last_of 5 0x0105 (hex 2 0x2201) [] (hex 8 0x4D4F_01_00000001_02) min_answer_room) (gives 0 [] (pair 0x22 0x01 ∷ []))
    -- a SET renumbers the first such pair; of another position or address it does nothing
    ∷ ordered 6 0x3101_2201_2201 13 0x4D4F_02_00000001_02_0102_22_01_07 0 (hex 17 0x4D45_04_00000001_02_0102_03_3101_2207_2201) (pair 0x31 0x01 ∷ pair 0x22 0x07 ∷ pair 0x22 0x01 ∷ [])
    ∷ ordered 2 0x2201 13 0x4D4F_02_00000001_03_0102_22_01_07 0 [] (pair 0x22 0x01 ∷ [])
    ∷ ordered 2 0x2201 13 0x4D4F_02_00000001_02_0103_22_01_07 0 [] (pair 0x22 0x01 ∷ [])
    -- where it has none, or another pair of that block has the new number, it answers with the list as it is
    ∷ ordered 2 0x2201 13 0x4D4F_02_00000001_02_0102_22_02_07 0 (hex 13 0x4D45_04_00000001_02_0102_01_2201) (pair 0x22 0x01 ∷ [])
    ∷ ordered 2 0x2201 13 0x4D4F_02_00000001_02_0102_31_01_07 0 (hex 13 0x4D45_04_00000001_02_0102_01_2201) (pair 0x22 0x01 ∷ [])
    ∷ ordered 4 0x2207_2201 13 0x4D4F_02_00000001_02_0102_22_01_07 0 (hex 15 0x4D45_04_00000001_02_0102_02_2207_2201) (pair 0x22 0x07 ∷ pair 0x22 0x01 ∷ [])
    ∷ ordered 4 0x2201_2207 13 0x4D4F_02_00000001_02_0102_22_01_07 0 (hex 15 0x4D45_04_00000001_02_0102_02_2201_2207) (pair 0x22 0x01 ∷ pair 0x22 0x07 ∷ [])
    -- the new number of another block does no harm; 00, FF and the old number are obeyed
    ∷ ordered 4 0x3107_2201 13 0x4D4F_02_00000001_02_0102_22_01_07 0 (hex 15 0x4D45_04_00000001_02_0102_02_3107_2207) (pair 0x31 0x07 ∷ pair 0x22 0x07 ∷ [])
    ∷ ordered 2 0x2201 13 0x4D4F_02_00000001_02_0102_22_01_00 0 (hex 13 0x4D45_04_00000001_02_0102_01_2200) (pair 0x22 0x00 ∷ [])
    ∷ ordered 2 0x2201 13 0x4D4F_02_00000001_02_0102_22_01_FF 0 (hex 13 0x4D45_04_00000001_02_0102_01_22FF) (pair 0x22 0xFF ∷ [])
    ∷ ordered 2 0x2201 13 0x4D4F_02_00000001_02_0102_22_01_01 0 (hex 13 0x4D45_04_00000001_02_0102_01_2201) (pair 0x22 0x01 ∷ [])
    -- the others are not answered, whatever their counts
    ∷ ordered 2 0x2201 7 0x4D4F_03_00000001 0 [] (pair 0x22 0x01 ∷ [])
    ∷ ordered 2 0x2201 7 0x4D4F_04_00000001 0 [] (pair 0x22 0x01 ∷ [])
    ∷ ordered 2 0x2201 8 0x4D4F_05_00000001_00 0 [] (pair 0x22 0x01 ∷ [])
    ∷ ordered 2 0x2201 10 0x4D4F_06_00000001_01_2201 0 [] (pair 0x22 0x01 ∷ [])
    ∷ ordered 2 0x2201 7 0x4D4F_07_00000001 0 [] (pair 0x22 0x01 ∷ [])
    ∷ ordered 2 0x2201 7 0x4D4F_08_00000001 0 [] (pair 0x22 0x01 ∷ [])
    ∷ edge (last_of 2 0x0102 [] [] (hex 8 0x4D4F_05_00000001_FF ++ replicate 510 0x22) min_answer_room) (gives 0 [] [])
    -- look-up answers: the oldest first, each pair once, the newest answer; a refused look-up keeps and drops nothing
    ∷ with two (known 0x22 0x01 0x0101 ∷ known 0x40 0x05 0x0103 ∷ []) 1
    ∷ with (two ++ tells 0x22 0x01 0x0104 ∷ []) (known 0x40 0x05 0x0103 ∷ known 0x22 0x01 0x0104 ∷ []) 1
    ∷ with (two ++ learns (pair 0x50 0x01) (not_found 17) ∷ learns (pair 0x22 0x01) (not_found 18) ∷ []) (known 0x22 0x01 0x0101 ∷ known 0x40 0x05 0x0103 ∷ []) 1
    -- "When full, it forgets the oldest answer": 64 are kept, the 65th takes the place of the first
    ∷ with (map (λ (n : ℕ). tells 0x22 n (256 + n)) (up_from 1 64)) (map (λ (n : ℕ). known 0x22 n (256 + n)) (up_from 1 64)) 0
    ∷ with (map (λ (n : ℕ). tells 0x22 n (256 + n)) (up_from 1 65)) (map (λ (n : ℕ). known 0x22 n (256 + n)) (up_from 2 64)) 0
    -- a full one that renews an answer forgets nothing
    ∷ with (map (λ (n : ℕ). tells 0x22 n (256 + n)) (up_from 1 64) ++ tells 0x22 0x02 0x01FF ∷ []) (known 0x22 0x01 0x0101 ∷ map (λ (n : ℕ). known 0x22 n (256 + n)) (up_from 3 62) ++ known 0x22 0x02 0x01FF ∷ []) 0
    -- and one that is renewed is the newest: the 65th makes it forget the next
    ∷ with (map (λ (n : ℕ). tells 0x22 n (256 + n)) (up_from 1 64) ++ tells 0x22 0x01 0x01FF ∷ tells 0x21 0x01 0x0100 ∷ []) (map (λ (n : ℕ). known 0x22 n (256 + n)) (up_from 3 62) ++ known 0x22 0x01 0x01FF ∷ known 0x21 0x01 0x0100 ∷ []) 0
    -- "drops those named by INVALID": all of the order's pairs, by block and number
    ∷ with (two ++ order 12 0x4D4F_06_00000001_02_3101_2201 ∷ []) (known 0x40 0x05 0x0103 ∷ []) 1
    ∷ with (two ++ order 12 0x4D4F_06_00000001_02_2205_4001 ∷ []) (known 0x22 0x01 0x0101 ∷ known 0x40 0x05 0x0103 ∷ []) 1
    -- "empties itself on NOTOK and on any order whose pass differs from the last order's"
    ∷ with (two ++ order 7 0x4D4F_04_00000001 ∷ []) [] 1
    ∷ with (two ++ order 7 0x4D4F_03_00000002 ∷ []) [] 2
    ∷ with (two ++ order 7 0x4D4F_07_00000000 ∷ []) [] 0
    ∷ with (two ++ order 8 0x4D4F_01_01000001_07 ∷ tells 0x22 0x01 0x0101 ∷ []) (known 0x22 0x01 0x0101 ∷ []) 0x01000001
    -- "0 at first": an order of pass 0 empties nothing of a unit that has read none
    ∷ with (tells 0x22 0x01 0x0101 ∷ order 7 0x4D4F_03_00000000 ∷ []) (known 0x22 0x01 0x0101 ∷ []) 0
    -- the other orders of that pass drop nothing, and NEW brings nothing
    ∷ with
    (two ++ order 8 0x4D4F_01_00000001_02 ∷ order 13 0x4D4F_02_00000001_02_0103_22_01_02 ∷ order 10 0x4D4F_05_00000001_01_4005
    ∷ order 7 0x4D4F_07_00000001 ∷ order 7 0x4D4F_08_00000001 ∷ order 8 0x4D4F_06_00000001_00 ∷ order 7 0x4D4F_03_00000001 ∷ [])
    (known 0x22 0x01 0x0101 ∷ known 0x40 0x05 0x0103 ∷ []) 1
    -- and neither does a SET that is obeyed
    ∷ edge (turns 2 0x0102 (hex 4 0x2201_3101) (two ++ order 13 0x4D4F_02_00000001_02_0102_22_01_07 ∷ [])) (unit (holding (pair 0x22 0x07 ∷ pair 0x31 0x01 ∷ []) 1 (known 0x22 0x01 0x0101 ∷ known 0x40 0x05 0x0103 ∷ [])))
    -- a refused order changes nothing, its pass included
    ∷ with (two ++ order 8 0x4D4F_04_00000002_00 ∷ reads (hex 7 0x4D4F_04_00000002) 63 ∷ []) (known 0x22 0x01 0x0101 ∷ known 0x40 0x05 0x0103 ∷ []) 1
    -- a bench: paper 01's session; the unit is the second one, and looks up the first, itself as it was renumbered, and nobody
    ∷ edge
    (acts 12 2 0x0102 (hex 2 0x2201) (offers (with_room 8 0x4D45_01_00000000_03)
    ∷ asks (pair 0x22 0x01)
    ∷ offers (with_room 13 0x4D45_04_00000001_01_0101_01_2201)
    ∷ offers (with_room 13 0x4D45_04_00000001_02_0102_01_2201)
    ∷ offers (with_room 13 0x4D45_04_00000001_02_0102_01_2202)
    ∷ asks (pair 0x22 0x01) ∷ asks (pair 0x22 0x02) ∷ asks (pair 0x31 0x01) ∷ []))
    (bench Ok (known 0x22 0x01 0x0101 ∷ known 0x22 0x02 0x0102 ∷ []) (entry 1 0x0101 0x22 0x01 ∷ entry 2 0x0102 0x22 0x02 ∷ []))
    -- the first one announces something else in OK: INVALID drops the answer
    ∷ edge
    (acts 12 2 0x0102 (hex 2 0x2201) (offers (with_room 8 0x4D45_01_00000000_02)
    ∷ offers (with_room 13 0x4D45_04_00000001_01_0101_01_2201)
    ∷ asks (pair 0x22 0x01)
    ∷ offers (with_room 13 0x4D45_04_00000001_01_0101_01_3101) ∷ []))
    (bench Ok [] (entry 1 0x0101 0x31 0x01 ∷ []))
    -- six pairs go at L = 12, in two orders: the unit reads both
    ∷ edge
    (acts 12 2 0x0102 (hex 2 0x2201) (offers (with_room 8 0x4D45_01_00000000_02)
    ∷ offers (with_room 23 0x4D45_04_00000001_01_0101_06_2201_2202_2203_2204_2205_2206)
    ∷ asks (pair 0x22 0x06)
    ∷ offers (with_room 13 0x4D45_04_00000001_01_0101_01_3101) ∷ []))
    (bench Ok [] (entry 1 0x0101 0x31 0x01 ∷ []))
    -- a ring change in OK: what is told INVALID in a new pass is forgotten, and looked up anew
    ∷ edge
    (acts 12 2 0x0102 (hex 2 0x2201) (offers (with_room 8 0x4D45_01_00000000_02)
    ∷ offers (with_room 13 0x4D45_04_00000001_01_0101_01_2201)
    ∷ asks (pair 0x22 0x01)
    ∷ offers (with_room 8 0x4D45_02_00000000_02)
    ∷ asks (pair 0x22 0x01)
    ∷ offers (with_room 13 0x4D45_04_00000002_01_0103_01_2201)
    ∷ asks (pair 0x22 0x01) ∷ []))
    (bench Ok (known 0x22 0x01 0x0103 ∷ []) (entry 1 0x0103 0x22 0x01 ∷ []))
    -- a SHUTDOWN says nothing, and the next START empties the unit
    ∷ edge
    (acts 12 2 0x0102 (hex 2 0x2201) (offers (with_room 8 0x4D45_01_00000000_02)
    ∷ offers (with_room 13 0x4D45_04_00000001_01_0101_01_2201)
    ∷ asks (pair 0x22 0x01)
    ∷ offers (with_room 8 0x4D45_03_00000000_00) ∷ []))
    (bench Off (known 0x22 0x01 0x0101 ∷ []) [])
    ∷ edge
    (acts 12 2 0x0102 (hex 2 0x2201) (offers (with_room 8 0x4D45_01_00000000_02)
    ∷ offers (with_room 13 0x4D45_04_00000001_01_0101_01_2201)
    ∷ asks (pair 0x22 0x01)
    ∷ offers (with_room 8 0x4D45_03_00000000_00)
    ∷ offers (with_room 8 0x4D45_01_00000000_02) ∷ []))
    (bench NotOk [] [])
    ∷ []
