-- What the code's orders stand for, with the bytes that they were read from.
use Rattle.std.specs.Prelude.{List, ℕ, get_or, drop, Option, Some, None}
use Rattle.std.proofs.Math.Option as math
use Rattle.rules.specs.Event.{be2, read_pairs}
use Rattle.rules.specs.Order as rules
use Rattle.rules.specs.Run.{Sent, sent_with}
use Rattle.wire_order_reading.specs.declared.Order.{Order}
use Rattle.wire_order_reading.specs.declared.Order.TheVariants as orders
use Rattle.wire_order_reading.specs.declared.OrderRecord.{OrderRecord}

abbrev pub order_of : Order → List ℕ → rules.Order
order_of (orders.Ask x) b = rules.ASK x.0
order_of (orders.Set x a k o n) b = rules.SET x.0 a.0 k o n
order_of orders.Ok b = rules.OK
order_of orders.NotOk b = rules.NOTOK
order_of orders.New b = rules.NEW (read_pairs (drop 8 b))
order_of orders.Invalid b = rules.INVALID (read_pairs (drop 8 b))
order_of orders.WaitShort b = rules.WAIT_SHORT
order_of orders.WaitLong b = rules.WAIT_LONG

-- an order, or none where there is no such kind
abbrev pub order_in : Option Order → List ℕ → math.Option rules.Order
order_in (Some o) b = math.some (order_of o b)
order_in None b = math.none

-- a SET, as it stands in the bytes
abbrev pub set_in : List ℕ → rules.Order
set_in b = rules.SET (get_or b 7 0) (be2 b 8) (get_or b 10 0) (get_or b 11 0) (get_or b 12 0)

-- an order with its pass, or none where the bytes are no order
abbrev pub record_in : Option OrderRecord → List ℕ → math.Option Sent
record_in (Some r) b = math.some (sent_with r.pass (order_of r.order b))
record_in None b = math.none
