-- The rows beside one: what stands for no position is in its place; and what they say of an announcement.
use Rattle.std.specs.Prelude.{ℕ, ◌≡◌, Bool, false, List, map, replicate, set}
use Rattle.laws.specs.Lists.{any, collect}
use Rattle.rules.specs.House.{max_pairs}
use Rattle.rules.specs.Picture.{Pair, Row, no_row, holds, pairs_in, bars, keeps}
use Rattle.row_judge.specs.Marks.{or_each}
use Rattle.ring_answer.specs.declared.survey.Survey.{Survey}

abbrev pub beside : ℕ → List Row → List Row
beside i rows = set rows i no_row

-- a mark for each announced pair that is one of these
abbrev pub held_by : (elsewhere announced : List Pair) → List Bool
held_by el ps = or_each (replicate max_pairs false) (map (holds el) ps)

-- what these rows say of an announcement of address a and pairs ps
pub record Surveys (rows : List Row) (a : ℕ) (ps : List Pair) (r : Survey) : Type 0 where
  pub barred : r.claims.barred ≡ any (bars a) rows
  pub kept : r.claims.kept ≡ any (keeps a) rows
  pub held : r.held ≡ held_by (collect pairs_in rows) ps
