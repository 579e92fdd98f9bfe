-- The room, then whether it is an order, then by the order.
use mathlib.Core.Option.{none}
use Rattle.rules_unit.specs.Slave.{on_order}
use Rattle.unit_slave.proofs.Hearing.{read_short, read_order, reads_along, refused}
use Rattle.unit_slave.specs.View.{slave_of}
use Rattle.unit_slave.proofs.NetworkSlave.take.Goals as goal

pub returns-then-out-lt-MIN_ANSWER_ROOM : goal.returns-then-out-lt-MIN_ANSWER_ROOM
returns-then-out-lt-MIN_ANSWER_ROOM c =
    let a = c.args in
    reads_along (read_short (slave_of a.self.now) a.order.now _ c.if-out-lt-MIN_ANSWER_ROOM.true) (refused a.self.now a.out.now 1)

pub returns-in_default : goal.returns-in_default
unfolding on_order
returns-in_default c =
    let a = c.args in
    reads_along (read_order (slave_of a.self.now) a.order.now _ c.if-out-lt-MIN_ANSWER_ROOM.false none c.in_default.ensures) (refused a.self.now a.out.now 2)

pub returns : goal.returns
returns c =
    let a = c.args in
    reads_along (read_order (slave_of a.self.now) a.order.now _ c.if-out-lt-MIN_ANSWER_ROOM.false _ c.in-Some.ensures) c.obey.ensures
