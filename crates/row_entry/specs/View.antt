-- What the code's values stand for: a node's entry, and the entries of a ring. Total: whatever the numbers are, they stand for something.
use Rattle.std.specs.Prelude.{ℕ, Bool, true, false, cond, List, eqb}
use Rattle.laws.specs.Views.{firsts}
use Rattle.rules.specs.Picture.{Pair, Row, Status, WAITING, SETTING, LISTED, SILENT, IGNORED, Kept, nothing, kept, kept_in}
use Rattle.wire_pairs.specs.View.{pairs_from}
use Rattle.row_entry.specs.declared.NodeEntry.{NodeEntry}

-- a status by its number: 0 WAITING, 1 SETTING, 2 LISTED, 3 SILENT, any other IGNORED
unfoldable pub status_of : (mark address : ℕ) → List Pair → (place tries : ℕ) → Status
status_of m a ps place tries =
    cond (eqb m 0) WAITING (cond (eqb m 1) (SETTING a ps place tries) (cond (eqb m 2) (LISTED a ps) (cond (eqb m 3) SILENT (IGNORED a))))

unfoldable pub row_of : NodeEntry → Row
row_of e =
    record {
      status = status_of e.status.0 e.address.0 (pairs_from e.count e.blocks e.numbers) e.place e.tries;
      bad = e.bad;
      silences = e.silences;
    }

-- the rows of a ring with so many units
unfoldable pub rows_of : ℕ → List NodeEntry → List Row
rows_of k es = firsts row_of k es

-- something is kept
unfoldable pub is_kept : Kept → Bool
is_kept nothing = false
is_kept (kept a ps) = true

-- the row keeps an address and pairs
unfoldable pub is_listed : Row → Bool
is_listed r = is_kept (kept_in r)
