-- The largest ring, by computation.
use mathlib.Core.Path.{refl}
use Rattle.rules.specs.Evaluate.{play, open_listing}
use Rattle.rules.specs.Claims.{picture_at, record_at}
use Rattle.rules.specs.Table.{hex}
use Rattle.rules_full_size.specs.Largest.{fills, full_ring, measured, LargestRing}

pub largest_ring : LargestRing
unfolding play open_listing record_at picture_at hex fills full_ring measured
largest_ring = record { reached = refl }
