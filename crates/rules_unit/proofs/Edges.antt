-- The table holds, by computation.
use mathlib.Core.Path.{◌≡◌, refl}
use Rattle.rules.specs.Table.{hex}
use Rattle.rules_unit.specs.Table.{obtain, obtained, expected}
use Rattle.rules_unit.specs.Edges.{many, unit_edges}

pub edges_hold : obtained unit_edges ≡ expected unit_edges
unfolding obtained expected unit_edges obtain hex many
edges_hold = refl
