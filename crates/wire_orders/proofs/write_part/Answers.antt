-- The head, the count, and the pairs.
use Rattle.wire_orders.proofs.Bytes.{head_end, wrote_delta}
use Rattle.wire_pairs.specs.View.{zip_pairs}
use Rattle.wire_pairs.proofs.Arrays.{zip_short}
use lib.ListN.{length-set}
use mathlib.Core.Path.{◌∙◌, sym}
use native.Mathlib.Omega.{arith}
use Rattle.wire_orders.proofs.write_part.Goals as goal

pub bounds-out-body : goal.bounds-out-body
bounds-out-body c =
    omega (arith, head_end c.args.pass c.write_head-body.ensures, c.write_head-body.auto.out)

pub overflow_add-body : goal.overflow_add-body
overflow_add-body c =
    omega (arith, head_end c.args.pass c.write_head-body.ensures)

pub write_pairs-requires : goal.write_pairs-requires
write_pairs-requires c =
    simp length-set (omega (arith, head_end c.args.pass c.write_head-body.ensures, c.write_head-body.auto.out))

pub shape_of-out : goal.shape_of-out
shape_of-out c =
    simp length-set at c.write_pairs.auto.out ∙ c.write_head-body.auto.out

pub returns : goal.returns
returns c =
    let bs = c.args.blocks.now in
    let ns = c.args.numbers.now in
    wrote_delta c.args.pass _ c.args.delta (zip_pairs bs ns) c.from.ensures (c.min.ensures ∙ sym (zip_short bs ns)) c.write_head-body.ensures c.write_pairs.ensures
