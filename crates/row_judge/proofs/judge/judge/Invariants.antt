-- At every turn what is judged so far, and the judging of the rest, are the whole.
use Rattle.wire_pairs.specs.View.{pairs_of}
use Rattle.row_judge.specs.Marks.{judge_marked, judged_of}
use lib.ListN.{drop, length, take}
use Rattle.rules.specs.House.{max_pairs}
use mathlib.Core.List.{[], ◌++◌}
use mathlib.Core.Path.{◌≡◌}
use Rattle.row_judge.proofs.judge.judge.Given as goal

abbrev pub invariant-loop-i : goal.invariant-loop-i
invariant-loop-i l = record { full : length l.good ≡ max_pairs; judged : take l.i (judged_of (pairs_of l.announced) l.good) ++ judge_marked (drop l.i l.held) (take l.i (pairs_of l.announced)) (drop l.i (pairs_of l.announced)) ≡ judge_marked l.held [] (pairs_of l.announced) }
