-- One test, and the wait.
use Rattle.laws.specs.Buffers.{wrote_along}
use Rattle.wire_orders.proofs.Writing.{room_if, wrote_else, wrote_if}
use Rattle.rules.specs.Order.{Order, WAIT_LONG, WAIT_SHORT, encode}
use Prim.Native.Nat.{◌+◌, ◌≤◌}
use lib.ListN.{length}
use mathlib.Core.Bool.{cond}
use mathlib.Core.Path.{ap, subst, sym}
use Rattle.ring_ending.proofs.write_wait.Goals as goal

pub write_notice-requires : goal.write_notice-requires
write_notice-requires c =
    subst (λ (o : Order). c.args.at + length (encode c.args.pass o) ≤ length c.args.out.now) (sym c.wait_of.ensures)
    (room_if c.args.pass (cond c.args.short WAIT_SHORT WAIT_LONG) c.args.starts c.args.at c.if-starts.true c.requires)

pub returns-then-starts : goal.returns-then-starts
returns-then-starts c =
    wrote_if c.args.pass (cond c.args.short WAIT_SHORT WAIT_LONG) c.args.starts c.if-starts.true
    (wrote_along (ap (encode c.args.pass) c.wait_of.ensures) c.write_notice.ensures)

pub returns-else-starts : goal.returns-else-starts
returns-else-starts c =
    wrote_else c.args.pass (cond c.args.short WAIT_SHORT WAIT_LONG) c.args.starts c.args.out.now c.args.at c.if-starts.false
