-- Three stores, and the pass.
use Rattle.wire_orders.proofs.Bytes.{wrote_head}
use lib.ListN.{length-set}
use mathlib.Core.Path.{◌∙◌}
use native.Mathlib.Omega.{arith}
use Rattle.wire_orders.proofs.write_head.Goals as goal

pub bounds-out-at-2 : goal.bounds-out-at-2
bounds-out-at-2 c = simp length-set (omega arith)

pub bounds-out-at-3 : goal.bounds-out-at-3
bounds-out-at-3 c = simp length-set (omega arith)

pub write4-requires : goal.write4-requires
write4-requires c = simp length-set (omega arith)

pub shape_of-out : goal.shape_of-out
shape_of-out c =
    c.write4.auto.buffer ∙ simp length-set

pub returns : goal.returns
returns c =
    wrote_head c.args.out.now c.args.at c.args.kind c.args.pass c.write4.ensures
