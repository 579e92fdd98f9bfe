-- The sizes and limits of paper 01 and of the tickets, each by a name. Those marked (house) there are the network
-- owner's to choose.
use Rattle.std.specs.Prelude.{ℕ, ◌+◌, ◌-◌, ◌*◌}

-- "a payload size L of 12 to 45 (house)"
abbrev pub min_size : ℕ
min_size = 12

abbrev pub max_size : ℕ
max_size = 45

-- "N is 1 to 64"
abbrev pub max_nodes : ℕ
max_nodes = 64

-- "positions 1 to N−1 are units and they alone have rows"
abbrev pub max_units : ℕ
max_units = max_nodes - 1

-- "A row holds up to 24 pairs .. an ANSWER up to 24" (ticket 8)
abbrev pub max_pairs : ℕ
max_pairs = 24

-- "the whole listing up to 1,512" (ticket 8)
abbrev pub max_entries : ℕ
max_entries = max_units * max_pairs

-- "room below 8,192 bytes" is refused (ticket 1)
abbrev pub min_room : ℕ
min_room = 8_192

-- "if a counted row now stands at 3 (house)"
abbrev pub max_bad : ℕ
max_bad = 3

-- "a bad pair with tries below 3 (house)"
abbrev pub max_tries : ℕ
max_tries = 3

-- "silence count +1, stopping at 20"
abbrev pub max_silences : ℕ
max_silences = 20

-- "outside 0101 to 02FF (house)" an address is bad
abbrev pub min_address : ℕ
min_address = 0x0101

abbrev pub max_address : ℕ
max_address = 0x02FF

-- "its number is 01 to FE"
abbrev pub min_number : ℕ
min_number = 0x01

abbrev pub max_number : ℕ
max_number = 0xFE

-- "pass would exceed 4,294,967,295"
abbrev pub max_pass : ℕ
max_pass = 4_294_967_295

-- "payload above 65,535", "join buffer below 65,535", "total above 65,535"
abbrev pub max_payload : ℕ
max_payload = 65_535

-- "keeps up to 64 look-up answers" (ticket 7)
abbrev pub max_answers : ℕ
max_answers = 64

-- "lent room below 64 bytes is refused 1" (ticket 7)
abbrev pub min_answer_room : ℕ
min_answer_room = 64

-- "A line is kind .., position, address (2 ..), block, number" (ticket 6)
abbrev pub line_size : ℕ
line_size = 6

-- the most lines of one position, its own and all pairs gone and new, and of two listings
abbrev pub max_lines_each : ℕ
max_lines_each = 1 + 2 * max_pairs

abbrev pub max_lines : ℕ
max_lines = max_units * max_lines_each

-- room that is enough for all differences
abbrev pub differences_room : ℕ
differences_room = line_size * max_lines
