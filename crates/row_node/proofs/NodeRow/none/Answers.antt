-- Zeros.
use mathlib.Core.Path.{refl}
use Rattle.row_node.specs.View.{no_node_row}
use Rattle.row_node.proofs.NodeRow.none.Goals as goal

pub returns : goal.returns
unfolding no_node_row
returns c = refl
