-- What is left to mark decides.
use Rattle.wire_pairs.specs.View.{pairs_of}
use Rattle.row_judge.proofs.Holding.{or_from}
use Rattle.row_judge.specs.Marks.{or_each}
use Rattle.rules.specs.Picture.{holds}
use mathlib.Core.List.{map}
use mathlib.Core.Path.{◌≡◌}
use Rattle.row_judge.proofs.held.mark_held.Given as goal

abbrev pub invariant-loop-i : goal.invariant-loop-i
invariant-loop-i l =
    or_from l.i l.marks (map (holds (pairs_of l.kept)) (pairs_of l.announced)) ≡ or_each l.initial.marks (map (holds (pairs_of l.kept)) (pairs_of l.announced))
