-- The words of a number: what a refusal means, by what was asked, and why a line is not understood.
use Rattle.std.specs.Prelude.{ℕ, cond, List, [], ◌∷◌, eqb}
use Rattle.rules.specs.House.{min_size, max_size, max_units, max_pairs, min_room, min_answer_room, max_payload}
use Rattle.text_arguments.specs.declared.Reason.{Reason}
use Rattle.text_arguments.specs.declared.Reason.TheVariants.{UnknownWord, WordMissing, NoDecimal, DoesNotFit, NoHex, OddHex, WrongHex, WordTooMany, TooLong, NoPair, TooMany, Unnamed}
use Rattle.text_in.specs.Lines.{max_line}
use Rattle.text_out.specs.Spelling.{filled}
use Rattle.text_out.specs.Texts.{codes}
use Rattle.text_numbers.specs.declared.Asked.{Asked}
use Rattle.text_numbers.specs.declared.Asked.TheVariants.{Record, Picture, Telegram, LookUp, Order, Unit, Compare}

-- a table: numbers, and the words of each
abbrev pub Table : Type 0
Table = List (ℕ × List ℕ)

-- the words of a number without a row, which no row has
abbrev pub no_words : List ℕ
no_words = codes "no words for this number"

-- the words beside a number in a table
abbrev pub words_beside : Table → ℕ → List ℕ
words_beside [] n = no_words
words_beside (row ∷ rows) n = cond (eqb n row.0) row.1 (words_beside rows n)

-- what a record is refused for
abbrev pub of_record : Table
of_record =
    (1, filled (codes "order room below %d bytes") (min_room ∷ []))
    ∷ (2, codes "record malformed")
    ∷ (3, codes "the ring does not run")
    ∷ (4, codes "the ring runs already")
    ∷ (5, codes "not the current pass")
    ∷ (6, codes "no unit at this position")
    ∷ (7, codes "the position is ignored")
    ∷ (8, codes "no open question, or no running delay")
    ∷ (9, codes "no pass is left")
    ∷ []

-- a fresh picture, for an L that is none
abbrev pub wrong_size : List ℕ
wrong_size = filled (codes "L is not %d to %d") (min_size ∷ max_size ∷ [])

abbrev pub of_picture : Table
of_picture = (10, wrong_size) ∷ []

-- a telegram, when it is counted, cut or joined
abbrev pub of_telegram : Table
of_telegram =
    (10, wrong_size)
    ∷ (11, filled (codes "payload above %d bytes") (max_payload ∷ []))
    ∷ (12, codes "no telegram of this number")
    ∷ (13, codes "lent room too short")
    ∷ (14, codes "telegram malformed")
    ∷ (15, codes "TelID above 3: passed over")
    ∷ (16, codes "out of sequence: an open message is dropped")
    ∷ []

-- a look-up
abbrev pub of_look_up : Table
of_look_up = (17, codes "not listed") ∷ (18, codes "the state is not OK") ∷ []

-- an order
abbrev pub of_order : Table
of_order = (1, filled (codes "room below %d bytes") (min_answer_room ∷ [])) ∷ (2, codes "order malformed") ∷ []

-- a unit
abbrev pub of_unit : Table
of_unit = (2, filled (codes "more than %d pairs") (max_pairs ∷ [])) ∷ []

-- a comparison of two lists of rows
abbrev pub of_compare : Table
of_compare =
    (2, filled (codes "position not 1 to %d, more than %d pairs, or a pair twice") (max_units ∷ max_pairs ∷ []))
    ∷ (20, codes "rows not in rising position order")
    ∷ (21, codes "no room for all differences")
    ∷ []

-- the table by what was asked, and what a number given back means
abbrev pub table_of : Asked → Table
table_of Record = of_record
table_of Picture = of_picture
table_of Telegram = of_telegram
table_of LookUp = of_look_up
table_of Order = of_order
table_of Unit = of_unit
table_of Compare = of_compare

abbrev pub words_of : Asked → ℕ → List ℕ
words_of asked n = words_beside (table_of asked) n

-- why a line is not understood
abbrev pub why_of : Reason → List ℕ
why_of UnknownWord = codes "unknown word"
why_of WordMissing = codes "a word is missing"
why_of NoDecimal = codes "not a decimal number"
why_of DoesNotFit = codes "number does not fit"
why_of NoHex = codes "not hexadecimal"
why_of OddHex = codes "odd number of hex digits"
why_of WrongHex = codes "wrong number of hex digits"
why_of WordTooMany = codes "a word too many"
why_of TooLong = filled (codes "line of more than %d bytes") (max_line ∷ [])
why_of NoPair = codes "not a pair"
why_of TooMany = codes "too many"
why_of (Unnamed n) = no_words
