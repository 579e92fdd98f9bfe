-- At every turn the numbers that are left, marked from here on, make the whole.
use Rattle.wire_pairs.specs.View.{pairs_of}
use Rattle.row_renumber.proofs.Numbers.{Left}
use Rattle.rules.specs.Renumber.{numbers_of}
use lib.ListN.{drop}
use Rattle.row_renumber.proofs.free.mark_pairs.Given as goal

abbrev pub invariant-loop-i : goal.invariant-loop-i
invariant-loop-i l = Left l.initial.table (numbers_of l.block (pairs_of l.pairs)) l.table (numbers_of l.block (drop l.i (pairs_of l.pairs)))
