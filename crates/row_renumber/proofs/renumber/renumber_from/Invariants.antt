-- What is left from the place on decides.
use Rattle.wire_pairs.specs.View.{pairs_of}
use Rattle.row_judge.specs.Marks.{judged_of}
use Rattle.row_renumber.specs.Marks.{NoneFree, free_for}
use Rattle.rules.specs.Renumber.{renumber, renumber_from}
use lib.ListN.{drop}
use mathlib.Core.Path.{◌≡◌}
use Rattle.row_renumber.proofs.renumber.renumber_from.Given as goal

abbrev pub invariant-loop-i : goal.invariant-loop-i
invariant-loop-i l = record { left : renumber_from (free_for l.entries l.announced) l.i l.left (drop l.i (judged_of (pairs_of l.announced) l.good)) ≡ renumber (free_for l.entries l.announced) l.place l.tries (judged_of (pairs_of l.announced) l.good); full : NoneFree (free_for l.entries l.announced) l.full }
