-- The listed rows of a ring picture: which they are, and what they stand for.
use Rattle.std.specs.Prelude.{ℕ, zero, suc, cond, List, [], ◌∷◌, ◌++◌, length}
use Rattle.laws.specs.Views.{firsts}
use Rattle.rules.specs.House.{max_units}
use Rattle.rules_diff.specs.Differences as rules
use Rattle.row_entry.specs.declared.NodeEntry.{NodeEntry}
use Rattle.row_entry.specs.View.{row_of, is_listed}
use Rattle.row_node.specs.declared.NodeRow.{NodeRow}
use Rattle.row_node.specs.View.{node_row_of, node_row, no_node_row}
use Rattle.ring_rows.specs.declared.ListedRows.{ListedRows}

-- the rows of listed entries, by position
unfoldable pub listed_entry : (position : ℕ) → NodeEntry → List NodeRow
listed_entry x e = cond (is_listed (row_of e)) (node_row x e ∷ []) []

unfoldable pub listed_entries : (position : ℕ) → List NodeEntry → List NodeRow
listed_entries x [] = []
listed_entries x (e ∷ es) = listed_entry x e ++ listed_entries (suc x) es

-- n places, none behind those that are filled
unfoldable pub filled : ℕ → List NodeRow → List NodeRow
filled zero rs = []
filled (suc n) [] = no_node_row ∷ filled n []
filled (suc n) (r ∷ rs) = r ∷ filled n rs

unfoldable pub filled_rows : List NodeRow → ListedRows
filled_rows rs = record { count = length rs; rows = filled max_units rs }

-- what the rows that are handed out stand for
unfoldable pub node_rows_in : ListedRows → List rules.NodeRow
node_rows_in r = firsts node_row_of r.count r.rows
