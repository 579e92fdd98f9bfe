-- Event records: what bytes say, and how each event is written.
use Rattle.std.specs.Prelude.{ℕ, ◌+◌, ◌*◌, ◌/◌, ◌%◌, Bool, true, false, cond, not, ◌&&◌, ◌||◌, List, [], ◌∷◌, ◌++◌, eqb, leb, ltb, length, get_or, drop}
use Rattle.std.proofs.Math.Option.{Option, none, some}
use Rattle.laws.specs.Lists.{any, collect}
use Rattle.rules.specs.House.{max_nodes, max_pairs}
use Rattle.rules.specs.Picture.{Pair}

-- "Kinds: 1 START and 2 NCE (x = N), 3 SHUTDOWN (x = 0), 4 ANSWER (x = position, then address (2), count (1), count pairs), 5 NONE
-- (x = position), 6 DELAY (x = 0)." Kinds 4 to 6 "carry the pass of the order they answer".
pub data Event : Type 0 where
  START : (n : ℕ) → Event
  NCE : (n : ℕ) → Event
  SHUTDOWN : Event
  ANSWER : (pass position address : ℕ) (pairs : List Pair) → Event
  NONE : (pass position : ℕ) → Event
  DELAY : (pass : ℕ) → Event

-- "all numbers big-endian"
unfoldable pub be2 : List ℕ → ℕ → ℕ
be2 b at = get_or b at 0 * 256 + get_or b (at + 1) 0

unfoldable pub be4 : List ℕ → ℕ → ℕ
be4 b at = be2 b at * 65_536 + be2 b (at + 2)

unfoldable pub two : ℕ → List ℕ
two n = n / 256 % 256 ∷ n % 256 ∷ []

unfoldable pub four : ℕ → List ℕ
four n = two (n / 65_536) ++ two n

-- the pairs that stand in a run of bytes
unfoldable pub read_pairs : List ℕ → List Pair
read_pairs [] = []
read_pairs (b ∷ []) = []
read_pairs (b ∷ n ∷ rest) = record { block = b; number = n } ∷ read_pairs rest

unfoldable pub pair_bytes : Pair → List ℕ
pair_bytes a = a.block ∷ a.number ∷ []

-- "block 00, 01 or FF" is malformed
unfoldable pub bad_block : Pair → Bool
bad_block a = ltb a.block 0x02 || leb 0xFF a.block

-- "N is 1 to 64"
unfoldable pub good_nodes : ℕ → Bool
good_nodes n = leb 1 n && leb n max_nodes

-- the event, if the test holds
unfoldable pub check : Bool → Event → Option Event
check true e = some e
check false e = none

-- what the eight bytes of the header say where nothing may follow them: "unused field not 0" and a wrong N are malformed
unfoldable pub decode_plain : (kind pass x : ℕ) → Option Event
decode_plain kind pass x =
    cond (eqb kind 1) (check (eqb pass 0 && good_nodes x) (START x))
    (cond (eqb kind 2) (check (eqb pass 0 && good_nodes x) (NCE x))
    (cond (eqb kind 3) (check (eqb pass 0 && eqb x 0) SHUTDOWN)
    (cond (eqb kind 5) (some (NONE pass x)) (cond (eqb kind 6) (check (eqb x 0) (DELAY pass)) none))))

-- an ANSWER: a count above 24 (ticket 8) and "block 00, 01 or FF" are malformed, and so is a length that does not fit the count
unfoldable pub decode_answer : List ℕ → Option Event
decode_answer b =
    let count = get_or b 10 0 in
    let pairs = read_pairs (drop 11 b) in
    check (leb count max_pairs && eqb (length b) (11 + 2 * count) && not (any bad_block pairs)) (ANSWER (be4 b 3) (get_or b 7 0) (be2 b 8) pairs)

-- "Event: mark 4D 45, kind (1), pass (4), one byte x." None: number 2, "record malformed: length, mark, kind, unused field not 0, N,
-- count above [24, ticket 8], block 00, 01 or FF".
unfoldable pub decode : List ℕ → Option Event
decode b =
    cond (leb 8 (length b) && eqb (get_or b 0 0) 0x4D && eqb (get_or b 1 0) 0x45)
    (cond (eqb (get_or b 2 0) 4) (decode_answer b) (cond (eqb (length b) 8) (decode_plain (get_or b 2 0) (be4 b 3) (get_or b 7 0)) none))
    none

unfoldable pub header : (kind pass x : ℕ) → List ℕ
header kind pass x = 0x4D ∷ 0x45 ∷ kind ∷ four pass ++ x ∷ []

-- the bytes of each event
unfoldable pub encode_event : Event → List ℕ
encode_event (START n) = header 1 0 n
encode_event (NCE n) = header 2 0 n
encode_event SHUTDOWN = header 3 0 0
encode_event (ANSWER pass x a ps) = header 4 pass x ++ two a ++ length ps ∷ collect pair_bytes ps
encode_event (NONE pass x) = header 5 pass x
encode_event (DELAY pass) = header 6 pass 0
