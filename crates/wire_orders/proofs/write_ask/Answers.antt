-- The head, and the position.
use Rattle.rules.specs.Order.{ASK, kind_of, body_of}
use Rattle.wire_orders.proofs.Bytes.{head_end, order_length_lem, wrote_one, wrote_order}
use native.Mathlib.Omega.{arith}
use Rattle.wire_orders.proofs.write_ask.Goals as goal

pub write_head-body-requires : goal.write_head-body-requires
unfolding body_of
write_head-body-requires c =
    omega (arith, order_length_lem c.args.pass (ASK c.args.position.0))

pub bounds-out-body : goal.bounds-out-body
unfolding body_of
bounds-out-body c =
    omega (arith, order_length_lem c.args.pass (ASK c.args.position.0), head_end c.args.pass c.write_head-body.ensures, c.write_head-body.auto.out)

pub overflow_add-result : goal.overflow_add-result
unfolding body_of
overflow_add-result c =
    omega (arith, order_length_lem c.args.pass (ASK c.args.position.0), head_end c.args.pass c.write_head-body.ensures)

pub returns : goal.returns
unfolding kind_of body_of
returns c =
    wrote_order c.args.pass (ASK c.args.position.0) c.write_head-body.ensures (wrote_one _ _ _)
