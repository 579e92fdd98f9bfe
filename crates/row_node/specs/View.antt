-- What a node row stands for. Total: whatever the numbers are, they stand for something.
use Rattle.std.specs.Prelude.{ℕ, ◌-◌, min, List, ◌++◌, replicate}
use Rattle.rules.specs.House.{max_pairs}
use Rattle.rules.specs.Picture.{Pair}
use Rattle.rules_diff.specs.Differences as rules
use Rattle.wire_pairs.specs.View.{pair_of, pairs_from}
use Rattle.row_entry.specs.declared.NodeEntry.{NodeEntry}
use Rattle.row_node.specs.declared.NodeRow.{NodeRow}

-- the pairs that an entry has a place for, whatever its marks are
unfoldable pub held_pairs : NodeEntry → List Pair
held_pairs e = pairs_from e.count e.blocks e.numbers

-- as many pairs as an entry counts: behind the last place they are 00.00
unfoldable pub counted_pairs : NodeEntry → List Pair
counted_pairs e = held_pairs e ++ replicate (e.count - max_pairs) (pair_of 0 0)

unfoldable pub node_row_of : NodeRow → rules.NodeRow
node_row_of r = record { position = r.position.0; address = r.entry.address.0; pairs = counted_pairs r.entry }

-- an entry that counts so many pairs
unfoldable pub with_count : ℕ → NodeEntry → NodeEntry
with_count n e =
    record {
      address = e.address;
      status = e.status;
      bad = e.bad;
      silences = e.silences;
      place = e.place;
      tries = e.tries;
      count = n;
      blocks = e.blocks;
      numbers = e.numbers;
    }

-- the row of an entry at a position: it counts no more pairs than it has places for; and what it stands for
unfoldable pub node_row : (position : ℕ) → NodeEntry → NodeRow
node_row x e = record { position = record { 0 = x }; entry = with_count (min e.count max_pairs) e }

unfoldable pub held_row : (position : ℕ) → NodeEntry → rules.NodeRow
held_row x e = record { position = x; address = e.address.0; pairs = held_pairs e }

-- what stands where there is no row: zeros
unfoldable pub no_node_row : NodeRow
no_node_row =
    record {
      position = record { 0 = 0 };
      entry =
          record {
            address = record { 0 = 0 };
            status = record { 0 = 0 };
            bad = 0;
            silences = 0;
            place = 0;
            tries = 0;
            count = 0;
            blocks = replicate max_pairs 0;
            numbers = replicate max_pairs 0;
          };
    }
