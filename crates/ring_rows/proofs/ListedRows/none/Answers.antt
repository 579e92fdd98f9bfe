-- Nothing fills the places.
use mathlib.Core.List.{List}
use mathlib.Core.Path.{◌∙◌, ap}
use lib.ListN.{replicate}
use Rattle.rules.specs.House.{max_units}
use Rattle.row_node.specs.declared.NodeRow.{NodeRow}
use Rattle.ring_rows.specs.declared.ListedRows.{ListedRows}
use Rattle.ring_rows.specs.View.{filled_rows}
use Rattle.ring_rows.proofs.Filling.{filled_start}
use Rattle.ring_rows.proofs.ListedRows.none.Goals as goal

empty : List NodeRow → ListedRows
empty rs = record { count = 0; rows = rs }

pub returns : goal.returns
unfolding filled_rows empty
returns c = ap empty (ap (replicate max_units) c.none.ensures ∙ filled_start max_units)
