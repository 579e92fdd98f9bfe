-- The arrays as they are.
use Prim.Native.Nat.{ℕ}
use mathlib.Core.Path.{ap}
use Rattle.wire_pairs.specs.View.{pairs_from, pairs_of}
use Rattle.row_node.specs.View.{held_pairs}
use Rattle.row_node.proofs.NodeRow.pairs.Goals as goal

pub returns : goal.returns
unfolding pairs_of held_pairs
returns c = ap (λ (k : ℕ). pairs_from k c.args.self.now.entry.blocks c.args.self.now.entry.numbers) c.from.ensures
