-- At every turn the listing with the pairs passed counted lists them.
use Prim.Native.Nat.{◌+◌}
use mathlib.Core.List.{List, ◌++◌, map}
use mathlib.Core.Path.{◌≡◌}
use lib.ListN.{take}
use Rattle.rules.specs.Listing.{Entry, entry}
use Rattle.wire_pairs.specs.View.{pairs_of}
use Rattle.ring_listing.specs.View.{flat_of}
use Rattle.ring_listing.proofs.Listed.{counting}
use Rattle.ring_listing.proofs.Listing.list.Given as goal

abbrev pub invariant-loop-i : goal.invariant-loop-i
invariant-loop-i l =
    (es : List Entry) → l.initial.self ≡ flat_of es
    → counting (l.at + l.i) l.self ≡ flat_of (es ++ map (entry l.position.0 l.address.0) (take l.i (pairs_of l.pairs)))
