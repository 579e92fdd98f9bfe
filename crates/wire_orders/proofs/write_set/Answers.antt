-- The head, then position, address and pair.
use Prim.Native.Nat.{◌+◌, ◌≤◌}
use Rattle.rules.specs.Order.{SET, kind_of, body_of}
use Rattle.rules.specs.Event.{two}
use Rattle.wire_orders.proofs.Bytes.{body_room, order_length_lem, wrote_order, wrote_set}
use lib.ListN.{length, length-set}
use mathlib.Core.Path.{◌∙◌}
use native.Mathlib.Omega.{arith}
use Rattle.wire_orders.proofs.write_set.Goals as goal

pub write_head-body-requires : goal.write_head-body-requires
write_head-body-requires c =
    omega (arith, order_length_lem c.args.pass (SET c.args.position.0 c.args.address.0 c.args.block c.args.old c.args.new))

pub bounds-out-body : goal.bounds-out-body
unfolding body_of two
bounds-out-body c =
    let order = SET c.args.position.0 c.args.address.0 c.args.block c.args.old c.args.new in
    let room : c.write_head-body.result + 6 ≤ length c.write_head-body.new.out = omega (arith, body_room c.args.pass order c.requires c.write_head-body.ensures, c.write_head-body.auto.out) in
    omega arith

pub overflow_add-body : goal.overflow_add-body
unfolding body_of two
overflow_add-body c =
    let order = SET c.args.position.0 c.args.address.0 c.args.block c.args.old c.args.new in
    let room : c.write_head-body.result + 6 ≤ length c.write_head-body.new.out = omega (arith, body_room c.args.pass order c.requires c.write_head-body.ensures, c.write_head-body.auto.out) in
    omega arith

pub write2-requires : goal.write2-requires
unfolding body_of two
write2-requires c =
    let order = SET c.args.position.0 c.args.address.0 c.args.block c.args.old c.args.new in
    let room : c.write_head-body.result + 6 ≤ length c.write_head-body.new.out = omega (arith, body_room c.args.pass order c.requires c.write_head-body.ensures, c.write_head-body.auto.out) in
    simp length-set (omega arith)

pub overflow_add-out : goal.overflow_add-out
unfolding body_of two
overflow_add-out c =
    let order = SET c.args.position.0 c.args.address.0 c.args.block c.args.old c.args.new in
    let room : c.write_head-body.result + 6 ≤ length c.write_head-body.new.out = omega (arith, body_room c.args.pass order c.requires c.write_head-body.ensures, c.write_head-body.auto.out) in
    omega arith

pub overflow_add-out-2 : goal.overflow_add-out-2
unfolding body_of two
overflow_add-out-2 c =
    let order = SET c.args.position.0 c.args.address.0 c.args.block c.args.old c.args.new in
    let room : c.write_head-body.result + 6 ≤ length c.write_head-body.new.out = omega (arith, body_room c.args.pass order c.requires c.write_head-body.ensures, c.write_head-body.auto.out) in
    omega arith

pub overflow_add-out-3 : goal.overflow_add-out-3
unfolding body_of two
overflow_add-out-3 c =
    let order = SET c.args.position.0 c.args.address.0 c.args.block c.args.old c.args.new in
    let room : c.write_head-body.result + 6 ≤ length c.write_head-body.new.out = omega (arith, body_room c.args.pass order c.requires c.write_head-body.ensures, c.write_head-body.auto.out) in
    omega arith

pub overflow_add-result : goal.overflow_add-result
unfolding body_of two
overflow_add-result c =
    let order = SET c.args.position.0 c.args.address.0 c.args.block c.args.old c.args.new in
    let room : c.write_head-body.result + 6 ≤ length c.write_head-body.new.out = omega (arith, body_room c.args.pass order c.requires c.write_head-body.ensures, c.write_head-body.auto.out) in
    omega arith

pub bounds-out-body-2 : goal.bounds-out-body-2
unfolding body_of two
bounds-out-body-2 c =
    let order = SET c.args.position.0 c.args.address.0 c.args.block c.args.old c.args.new in
    let room : c.write_head-body.result + 6 ≤ length c.write_head-body.new.out = omega (arith, body_room c.args.pass order c.requires c.write_head-body.ensures, c.write_head-body.auto.out) in
    let on : c.write_head-body.result + 6 ≤ length c.write2.new.buffer = omega (arith, room, simp length-set at c.write2.auto.buffer) in
    omega arith

pub bounds-out-body-3 : goal.bounds-out-body-3
unfolding body_of two
bounds-out-body-3 c =
    let order = SET c.args.position.0 c.args.address.0 c.args.block c.args.old c.args.new in
    let room : c.write_head-body.result + 6 ≤ length c.write_head-body.new.out = omega (arith, body_room c.args.pass order c.requires c.write_head-body.ensures, c.write_head-body.auto.out) in
    let on : c.write_head-body.result + 6 ≤ length c.write2.new.buffer = omega (arith, room, simp length-set at c.write2.auto.buffer) in
    simp length-set (omega arith)

pub bounds-out-body-4 : goal.bounds-out-body-4
unfolding body_of two
bounds-out-body-4 c =
    let order = SET c.args.position.0 c.args.address.0 c.args.block c.args.old c.args.new in
    let room : c.write_head-body.result + 6 ≤ length c.write_head-body.new.out = omega (arith, body_room c.args.pass order c.requires c.write_head-body.ensures, c.write_head-body.auto.out) in
    let on : c.write_head-body.result + 6 ≤ length c.write2.new.buffer = omega (arith, room, simp length-set at c.write2.auto.buffer) in
    simp length-set (omega arith)

pub shape_of-out : goal.shape_of-out
shape_of-out c =
    simp length-set (simp length-set at c.write2.auto.buffer ∙ c.write_head-body.auto.out)

pub returns : goal.returns
unfolding kind_of body_of
returns c =
    wrote_order c.args.pass (SET c.args.position.0 c.args.address.0 c.args.block c.args.old c.args.new) c.write_head-body.ensures (wrote_set _ _ _ _ _ _ _ c.write2.ensures)
