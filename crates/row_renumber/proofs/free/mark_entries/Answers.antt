-- At every turn the numbers that are left, marked from here on, make the whole.
use Rattle.std.proofs.lemmas.List.{drop_more}
use Rattle.row_entry.specs.View.{row_of}
use Rattle.wire_pairs.specs.View.{pairs_of}
use Rattle.row_renumber.proofs.Numbers.{left_end, left_on, numbers_row, rows_none}
use Rattle.rules.specs.Renumber.{numbers_of}
use lib.ListN.{drop_of_length-le}
use mathlib.Core.List.{map}
use mathlib.Core.Path.{ap}
use Rattle.row_renumber.proofs.free.mark_entries.Goals as goal

pub loop-entry-preserved : goal.loop-entry-preserved
loop-entry-preserved c =
    let b = c.args.block in
    left_on (numbers_of b (pairs_of c.pairs.result)) (numbers_row b (ap (map row_of) (drop_more c.args.entries.now c.loop-entry.entry-index _ c.loop-entry-test.true)) c.pairs.ensures) c.mark_pairs.ensures c.loop-entry.invariant

pub returns : goal.returns
returns c =
    left_end (rows_none c.args.block (ap (map row_of) (drop_of_length-le c.args.entries.now c.loop-entry-test.false))) c.loop-entry.invariant
