-- A search: what is left to look at decides.
use Rattle.rules.specs.Picture.{holds}
use Rattle.wire_pairs.specs.View.{pair_in, pairs_of}
use lib.ListN.{drop}
use mathlib.Core.Path.{◌≡◌}
use Rattle.wire_pairs.proofs.Pairs.holds_from.Given as goal

abbrev pub invariant-loop-i : goal.invariant-loop-i
invariant-loop-i l = holds (drop l.i (pairs_of l.self)) (pair_in l.pair) ≡ holds (drop l.place (pairs_of l.self)) (pair_in l.pair)
