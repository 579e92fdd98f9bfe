-- At every turn the nodes passed are listed.
use Prim.Native.Nat.{◌*◌, ◌≤◌}
use mathlib.Core.List.{map}
use mathlib.Core.Path.{◌≡◌}
use lib.ListN.{take}
use Rattle.rules.specs.House.{max_pairs}
use Rattle.rules.specs.Listing.{entries_from}
use Rattle.row_entry.specs.View.{row_of}
use Rattle.ring_listing.specs.View.{flat_of}
use Rattle.ring_listing.proofs.listing_of.Given as goal

abbrev pub invariant-loop-i : goal.invariant-loop-i
invariant-loop-i l = (l.listing.count ≤ max_pairs * l.i) × (l.listing ≡ flat_of (entries_from 1 (map row_of (take l.i l.ring))))
