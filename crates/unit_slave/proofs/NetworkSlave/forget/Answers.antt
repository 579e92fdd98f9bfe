-- The pairs behind the count are those that are named.
use Rattle.unit_slave.proofs.Hearing.{besides_rest, besides_short, knows}
use Rattle.unit_slave.specs.View.{slave_of}
use Rattle.rules_unit.specs.Slave.{with_known}
use mathlib.Core.Path.{◌∙◌}
use Rattle.unit_slave.proofs.NetworkSlave.forget.Goals as goal

pub returns-then-order-ge-PAIRS : goal.returns-then-order-ge-PAIRS
unfolding slave_of
returns-then-order-ge-PAIRS c =
    let u = c.args.self.now in
    let e = c.besides-self.ensures in
    knows u c.besides-self.result _ (e.0 ∙ besides_rest c.args.order.now (slave_of u).known, e.1)

pub returns-else-order-ge-PAIRS : goal.returns-else-order-ge-PAIRS
unfolding slave_of with_known
returns-else-order-ge-PAIRS c =
    let u = c.args.self.now in
    record { unit = λ i. with_known (besides_short c.args.order.now (slave_of u).known c.if-order-ge-PAIRS.false i) (slave_of u); counts = λ k. k }
