-- What the code's choice of entries and of pairs stands for.
use Rattle.std.specs.Prelude.{Bool, List}
use Rattle.rules.specs.Picture.{Pair, Row, is_open, is_silent}
use Rattle.rules.specs.Ending.{lost, gained}
use Rattle.wire_orders.specs.declared.Delta.{Delta}
use Rattle.wire_orders.specs.declared.Delta.TheVariants as deltas
use Rattle.ring_tell.specs.declared.asks.Which.{Which}
use Rattle.ring_tell.specs.declared.asks.Which.TheVariants as whichs

-- the pairs of an entry that an order lists
abbrev pub changes_of : Delta → (before after : Row) → List Pair
changes_of deltas.New = gained
changes_of deltas.Invalid = lost

-- the entries that are asked
abbrev pub which_of : Which → Row → Bool
which_of whichs.Open = is_open
which_of whichs.Silent = is_silent
