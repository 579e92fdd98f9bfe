-- At every turn the pairs found so far and the good ones of the rest are all good ones.
use Prim.Native.Nat.{◌≤◌}
use Rattle.wire_pairs.specs.View.{pairs_of}
use Rattle.row_judge.specs.Marks.{judged_of}
use Rattle.rules.specs.Renumber.{goods}
use lib.ListN.{drop}
use mathlib.Core.List.{◌++◌}
use mathlib.Core.Path.{◌≡◌}
use Rattle.row_judge.proofs.judge.good_pairs.Given as goal

abbrev pub invariant-loop-i : goal.invariant-loop-i
invariant-loop-i l = record { few : l.kept.count ≤ l.i; found : pairs_of l.kept ++ goods (drop l.i (judged_of (pairs_of l.announced) l.good)) ≡ goods (judged_of (pairs_of l.announced) l.good) }
