-- The row of an entry stands for the pairs that the entry has a place for.
use Prim.Native.Nat.{ℕ, ◌-◌, min}
use mathlib.Core.Path.{◌≡◌, ◌∙◌, ap}
use mathlib.Core.List.{List, append-nil}
use native.Mathlib.Omega.{arith}
use lib.ListN.{length}
use Rattle.rules.specs.House.{max_pairs}
use Rattle.rules.specs.Picture.{Pair}
use Rattle.wire_pairs.specs.View.{pairs_from}
use Rattle.wire_pairs.proofs.Arrays.{pairs_min}
use Rattle.row_entry.specs.declared.NodeEntry.{NodeEntry}
use Rattle.row_node.specs.View.{held_pairs, counted_pairs, node_row_of, with_count, node_row, held_row}

pub row_held : (x : ℕ) (e : NodeEntry) → length e.blocks ≡ max_pairs → length e.numbers ≡ max_pairs → node_row_of (node_row x e) ≡ held_row x e
unfolding node_row_of node_row with_count held_row counted_pairs held_pairs
row_held x e h k =
    let z : min e.count max_pairs - max_pairs ≡ 0 = omega arith in
    ap (λ (ps : List Pair). record { position = x; address = e.address.0; pairs = ps })
    (rw z (append-nil (pairs_from (min e.count max_pairs) e.blocks e.numbers)) ∙ pairs_min max_pairs e.blocks e.numbers h k e.count)
