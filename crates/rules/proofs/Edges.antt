-- The four tables hold, by computation.
use mathlib.Core.Path.{◌≡◌, refl}
use Rattle.rules.specs.Table.{hex, obtain, obtained, expected}
use Rattle.rules.specs.Edges.{edges}
use Rattle.rules.specs.Cases.{cases}
use Rattle.rules.specs.Corners.{corners}
use Rattle.rules.specs.RingChanges.{ring_changes}

pub edges_hold : obtained edges ≡ expected edges
unfolding obtained expected edges obtain hex
edges_hold = refl

pub cases_hold : obtained cases ≡ expected cases
unfolding obtained expected cases obtain hex
cases_hold = refl

pub corners_hold : obtained corners ≡ expected corners
unfolding obtained expected corners obtain hex
corners_hold = refl

pub ring_changes_hold : obtained ring_changes ≡ expected ring_changes
unfolding obtained expected ring_changes obtain hex
ring_changes_hold = refl
