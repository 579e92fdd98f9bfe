-- At every turn the pairs found so far and those missing of the rest are all that are missing.
use Prim.Native.Nat.{◌≤◌}
use Rattle.wire_pairs.specs.View.{pairs_of}
use Rattle.rules.specs.Ending.{missing}
use lib.ListN.{drop}
use mathlib.Core.List.{◌++◌}
use mathlib.Core.Path.{◌≡◌}
use Rattle.wire_pairs.proofs.Pairs.missing.Given as goal

abbrev pub invariant-loop-i : goal.invariant-loop-i
invariant-loop-i l = record { few : l.left.count ≤ l.i; found : pairs_of l.left ++ missing (drop l.i (pairs_of l.self)) (pairs_of l.other) ≡ missing (pairs_of l.self) (pairs_of l.other) }
