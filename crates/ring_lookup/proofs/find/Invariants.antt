-- What is left to look at decides.
use Prim.Native.Nat.{◌+◌}
use Rattle.wire_pairs.specs.View.{pair_in}
use Rattle.rules.specs.House.{max_units}
use Rattle.row_entry.specs.View.{row_of}
use Rattle.rules.specs.Listing.{entries_from, first_of}
use lib.ListN.{drop, take}
use mathlib.Core.List.{map}
use mathlib.Core.Path.{◌≡◌}
use Rattle.ring_lookup.proofs.find.Given as goal

abbrev pub invariant-loop-i : goal.invariant-loop-i
invariant-loop-i l = first_of (pair_in l.pair) (entries_from (l.i + 1) (map row_of (drop l.i l.ring))) ≡ first_of (pair_in l.pair) (entries_from 1 (map row_of (take max_units l.entries)))
