-- The table holds, by computation.
use mathlib.Core.Path.{◌≡◌, refl}
use Rattle.rules.specs.Table.{hex}
use Rattle.rules_diff.specs.Table.{obtain, obtained, expected}
use Rattle.rules_diff.specs.Edges.{many, diff_edges}

pub edges_hold : obtained diff_edges ≡ expected diff_edges
unfolding obtained expected diff_edges obtain hex many
edges_hold = refl
