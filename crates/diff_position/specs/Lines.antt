-- The bytes of a line, and of a position's lines in their three parts.
use Rattle.std.specs.Prelude.{ℕ, cond, List, [], eqb}
use Rattle.rules.specs.Picture.{Pair}
use Rattle.rules_diff.specs.Differences.{bytes_of}
use Rattle.diff_changes.specs.Changes.{number_of}
use Rattle.diff_position.specs.declared.Line.{Line}

unfoldable pub line_in : Line → List ℕ
line_in l = bytes_of (number_of l.kind) l.position.0 l.address.0 l.pair.block l.pair.number

-- the line of the position itself; kind 0 is none
unfoldable pub head_line : (kind position address : ℕ) → List ℕ
head_line k x a = cond (eqb k 0) [] (bytes_of k x a 0 0)

-- the line of a pair
unfoldable pub pair_line : (kind position : ℕ) → Pair → List ℕ
pair_line k x p = bytes_of k x 0 p.block p.number
