-- What is gathered so far, with the rows that are left, makes the whole.
use mathlib.Core.Path.{◌≡◌}
use mathlib.Core.List.{map}
use lib.ListN.{drop}
use Rattle.row_node.specs.View.{node_row_of}
use Rattle.diff_rows.specs.Gathering.{gathering_of, nothing_seen, gathered_all}
use Rattle.diff_slices.proofs.gathered.Given as goal

abbrev pub invariant-loop-row : goal.invariant-loop-row
invariant-loop-row l = gathered_all (gathering_of l.all) (map node_row_of (drop l.row-index l.rows)) ≡ gathered_all nothing_seen (map node_row_of l.rows)
