-- A notice is its head alone.
use Rattle.wire_orders.proofs.Bytes.{order_length_lem, wrote_notice}
use Rattle.wire_orders.specs.View.{notice_of}
use native.Mathlib.Omega.{arith}
use Rattle.wire_orders.proofs.write_notice.Goals as goal

pub write_head-requires : goal.write_head-requires
write_head-requires c =
    omega (arith, order_length_lem c.args.pass (notice_of c.args.notice))

pub returns : goal.returns
returns c =
    wrote_notice c.args.pass c.args.notice c.from.ensures c.write_head.ensures
