-- At every turn the numbers that are left, marked from here on, make the whole.
use Rattle.laws.specs.Lists.{collect}
use Rattle.row_entry.specs.View.{row_of}
use Rattle.row_renumber.proofs.Numbers.{Left}
use Rattle.rules.specs.Picture.{pairs_in}
use Rattle.rules.specs.Renumber.{numbers_of}
use lib.ListN.{drop}
use mathlib.Core.List.{map}
use Rattle.row_renumber.proofs.free.mark_entries.Given as goal

abbrev pub invariant-loop-entry : goal.invariant-loop-entry
invariant-loop-entry l = Left l.initial.table (numbers_of l.block (collect pairs_in (map row_of l.entries))) l.table (numbers_of l.block (collect pairs_in (map row_of (drop l.entry-index l.entries))))
