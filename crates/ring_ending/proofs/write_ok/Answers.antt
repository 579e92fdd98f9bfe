-- One test.
use Rattle.wire_orders.proofs.Writing.{room_if, wrote_else, wrote_if}
use Rattle.rules.specs.Order.{OK}
use Rattle.ring_ending.proofs.write_ok.Goals as goal

pub write_notice-requires : goal.write_notice-requires
write_notice-requires c =
    room_if c.args.pass OK c.args.ok c.args.at c.if-ok.true c.requires

pub returns-then-ok : goal.returns-then-ok
returns-then-ok c =
    wrote_if c.args.pass OK c.args.ok c.if-ok.true c.write_notice.ensures

pub returns-else-ok : goal.returns-else-ok
returns-else-ok c =
    wrote_else c.args.pass OK c.args.ok c.args.out.now c.args.at c.if-ok.false
