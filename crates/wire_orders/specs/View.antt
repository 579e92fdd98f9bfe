-- What the code's orders stand for, and the parts that they are written in.
use Rattle.std.specs.Prelude.{ℕ, ◌+◌, ◌*◌, List, ◌∷◌}
use Rattle.rules.specs.Picture.{Pair}
use Rattle.rules.specs.Event.{four}
use Rattle.rules.specs.Order.{Order, OK, NOTOK, NEW, INVALID, WAIT_SHORT, WAIT_LONG}
use Rattle.wire_orders.specs.declared.Notice.{Notice}
use Rattle.wire_orders.specs.declared.Notice.TheVariants as notices
use Rattle.wire_orders.specs.declared.Delta.{Delta}
use Rattle.wire_orders.specs.declared.Delta.TheVariants as deltas

-- an order that says nothing but its kind
abbrev pub notice_of : Notice → Order
notice_of notices.Ok = OK
notice_of notices.NotOk = NOTOK
notice_of notices.WaitShort = WAIT_SHORT
notice_of notices.WaitLong = WAIT_LONG

-- an order that lists pairs
abbrev pub delta_of : Delta → List Pair → Order
delta_of deltas.New = NEW
delta_of deltas.Invalid = INVALID

-- mark, kind and pass
abbrev pub head_bytes : (kind pass : ℕ) → List ℕ
head_bytes kind pass = 0x4D ∷ 0x4F ∷ kind ∷ four pass

abbrev pub head_size : ℕ
head_size = 7

-- block and number
abbrev pub pair_size : ℕ
pair_size = 2

-- an order that lists n pairs: head, count and pairs
abbrev pub list_size : (n : ℕ) → ℕ
list_size n = head_size + 1 + pair_size * n
