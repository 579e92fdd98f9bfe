-- Tables of two lists of rows: the words that they are written in.
use Rattle.std.specs.Prelude.{ℕ, List, map}
use Rattle.rules.specs.Run.{Record}
use Rattle.rules.specs.Evaluate.{play_picture, open_picture, open_records, open_steps, open_listing}
use Rattle.rules_diff.specs.Differences as Differences

-- what can be given: two lists and the room lent with them; records from a fresh picture for L
pub data Given : Type 0 where
  lists : (first second : List Differences.NodeRow) → (room : ℕ) → Given
  rows_after : (size : ℕ) → List Record → Given

-- what comes of it: the number given back and the bytes written; the rows that the picture hands out
pub data Obtained : Type 0 where
  gives : (number : ℕ) → (bytes : List ℕ) → Obtained
  rows : List Differences.NodeRow → Obtained

abbrev pub given : Differences.Compared → Obtained
given c = gives (Differences.compared_number c) (Differences.compared_bytes c)

unfoldable pub obtain : Given → Obtained
unfolding play_picture open_picture open_records open_steps open_listing Differences.listed_row Differences.listed_rows_from Differences.listed_rows Differences.seen_at Differences.address_lines Differences.lines_at Differences.differences Differences.bytes_of Differences.line_bytes Differences.lines_bytes Differences.twice Differences.is_bad Differences.falls Differences.fitted Differences.compare Differences.compared_number Differences.compared_bytes
obtain (lists f s room) = given (Differences.compare f s room)
obtain (rows_after size rs) = rows (Differences.listed_rows (play_picture size rs))

pub record Edge : Type 0 where
  pub given : Given
  pub expected : Obtained

abbrev pub edge : Given → Obtained → Edge
edge g o = record { given = g; expected = o }

-- the two columns of a table: it holds if they are the same
unfoldable pub obtained : List Edge → List Obtained
obtained es = map (λ (e : Edge). obtain e.given) es

unfoldable pub expected : List Edge → List Obtained
expected es = map (λ (e : Edge). e.expected) es
