-- At every turn the places are filled with the rows of the entries passed.
use Rattle.ring_rows.proofs.Filling.{Filling}
use Rattle.ring_rows.proofs.rows_of.Given as goal

abbrev pub invariant-loop-i : goal.invariant-loop-i
invariant-loop-i l = Filling l.ring l.i l.listed
