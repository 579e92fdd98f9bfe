-- What was seen or marked so far, and what is left to look at, are the whole.
use Rattle.laws.specs.Lists.{any, collect}
use Rattle.wire_pairs.specs.View.{pairs_of}
use Rattle.row_entry.specs.View.{row_of}
use Rattle.ring_answer.specs.Beside.{beside}
use Rattle.row_judge.specs.Marks.{or_each}
use Rattle.rules.specs.House.{max_pairs}
use Rattle.rules.specs.Picture.{bars, holds, keeps, pairs_in}
use lib.ListN.{drop, replicate}
use mathlib.Core.Bool.{false, ◌||◌}
use mathlib.Core.List.{map}
use mathlib.Core.Path.{◌≡◌}
use Rattle.ring_answer.proofs.survey.survey_of.Given as goal

abbrev pub invariant-loop-i : goal.invariant-loop-i
invariant-loop-i l =
    let a = l.address.0 in
    let rest = drop l.i (beside l.seat (map row_of l.entries)) in
    let whole = beside l.seat (map row_of l.entries) in
    ((l.claims.barred || any (bars a) rest) ≡ any (bars a) whole) × ((l.claims.kept || any (keeps a) rest) ≡ any (keeps a) whole)
    × (or_each l.held (map (holds (collect pairs_in rest)) (pairs_of l.announced))
    ≡ or_each (replicate max_pairs false) (map (holds (collect pairs_in whole)) (pairs_of l.announced)))
