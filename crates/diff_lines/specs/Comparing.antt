-- What is compared: two gatherings of rows, position by position.
use Rattle.std.specs.Prelude.{ℕ, suc, ◌≡◌, cond, ◌||◌, List, [], ◌∷◌, ◌++◌, map, length, Option, Result, Ok, Err}
use Rattle.rules_diff.specs.Differences.{Seen, Line, lines_at, Compared, uncompared, fitted, compared_number, compared_bytes, compared_lent}
use Rattle.row_node.specs.declared.NodeRow as code
use Rattle.diff_rows.specs.Gathering.{Gathering, seen_in}
use Rattle.numbers.specs.declared.Refusal.{Refusal}
use Rattle.numbers.specs.Numbers.{number_of}
use Rattle.diff_lines.specs.declared.CompareOutcome.{CompareOutcome}

-- what stands in the seats
unfoldable pub seen : List (Option code.NodeRow) → List Seen
seen rs = map seen_in rs

-- the lines of the positions from x on
unfoldable pub lines_over : (position : ℕ) → (before after : List Seen) → List Line
lines_over x [] ts = []
lines_over x (s ∷ ss) [] = []
lines_over x (s ∷ ss) (t ∷ ts) = lines_at x s t ++ lines_over (suc x) ss ts

-- 2, 20 and 21, in this order
unfoldable pub compared_by : (first second : Gathering) → (room : ℕ) → Compared
compared_by g h room =
    cond (g.bad || h.bad) (uncompared 2)
    (cond (g.falling || h.falling) (uncompared 20) (fitted (lines_over 1 g.seats h.seats) room))

-- what the code answers: how many bytes it has written, or why it has written none
abbrev pub outcome_of : Result ℕ Refusal → CompareOutcome
outcome_of (Ok n) = record { number = 0; length = n }
outcome_of (Err r) = record { number = number_of r; length = 0 }

-- What a comparison does: number, length and lent buffer are the rules'.
pub record Compares (c : Compared) (before : List ℕ) (r : CompareOutcome) (after : List ℕ) : Type 0 where
  pub number : r.number ≡ compared_number c
  pub long : r.length ≡ length (compared_bytes c)
  pub buffer : after ≡ compared_lent before c
