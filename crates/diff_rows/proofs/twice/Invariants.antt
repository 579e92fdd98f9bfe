-- A search: what is left to look at decides.
use mathlib.Core.Path.{◌≡◌}
use lib.ListN.{drop}
use Rattle.rules_diff.specs.Differences.{twice}
use Rattle.wire_pairs.specs.View.{pairs_of}
use Rattle.diff_rows.proofs.twice.Given as goal

abbrev pub invariant-loop-i : goal.invariant-loop-i
invariant-loop-i l = twice (drop l.i (pairs_of l.pairs)) ≡ twice (pairs_of l.pairs)
