-- The entry with its count, and what the row stands for.
use Prim.Native.Nat.{ℕ}
use mathlib.Core.Path.{◌∙◌, ap}
use borrow.Author.Rules.{rules}
use Rattle.row_node.specs.declared.NodeRow.{NodeRow}
use Rattle.row_node.specs.View.{node_row_of, with_count, node_row}
use Rattle.row_node.proofs.HeldPairs.{row_held}
use Rattle.row_node.proofs.NodeRow.of.Goals as goal

pub returns : goal.returns
unfolding node_row with_count
returns c =
    let a = c.args in
    let counting : ℕ → NodeRow = λ n. record { position = a.position; entry = with_count n a.entry } in
    let e = ap counting c.min.ensures in
    (e, ap node_row_of e ∙ row_held a.position.0 a.entry (search rules) (search rules))
