-- A search: the place so far, and how far it is from there.
use Prim.Native.Nat.{◌+◌}
use Rattle.unit_renumber.specs.Places.{first_at}
use Rattle.wire_pairs.specs.View.{pair_in, pairs_of}
use lib.ListN.{drop}
use mathlib.Core.Path.{◌≡◌}
use Rattle.unit_renumber.proofs.first_of.Given as goal

abbrev pub invariant-loop-i : goal.invariant-loop-i
invariant-loop-i l = l.i + first_at (pair_in l.pair) (drop l.i (pairs_of l.pairs)) ≡ first_at (pair_in l.pair) (pairs_of l.pairs)
