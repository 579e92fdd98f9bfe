-- At every turn the pairs that are left, written from here on, make the whole.
use Rattle.laws.specs.Buffers.{owes_end, owes_on}
use Rattle.std.proofs.lemmas.List.{nil_from_length}
use Rattle.wire_orders.proofs.Bytes.{pairs_end, pairs_end_other, pairs_on, pairs_room, wrote_two}
use lib.ListN.{length-set}
use mathlib.Core.Logic.{inl, inr}
use native.Mathlib.Omega.{arith}
use Rattle.wire_orders.proofs.write_pairs.Goals as goal

pub bounds-out-end : goal.bounds-out-end
bounds-out-end c =
    omega (arith, pairs_room c.args.blocks.now c.args.numbers.now c.requires c.loop-block.invariant.0 c.in-Some.ensures.steps.0 c.in-Some.ensures.steps.1 c.loop-block.invariant.1)

pub overflow_add-out : goal.overflow_add-out
overflow_add-out c =
    omega (arith, pairs_room c.args.blocks.now c.args.numbers.now c.requires c.loop-block.invariant.0 c.in-Some.ensures.steps.0 c.in-Some.ensures.steps.1 c.loop-block.invariant.1)

pub bounds-out-end-in-loop-block : goal.bounds-out-end-in-loop-block
bounds-out-end-in-loop-block c =
    omega (arith, pairs_room c.args.blocks.now c.args.numbers.now c.requires c.loop-block.invariant.0 c.in-Some.ensures.steps.0 c.in-Some.ensures.steps.1 c.loop-block.invariant.1, length-set c.loop-block.out c.loop-block.end c.in-Some.block.now)

pub overflow_add-end : goal.overflow_add-end
overflow_add-end c =
    omega (arith, pairs_room c.args.blocks.now c.args.numbers.now c.requires c.loop-block.invariant.0 c.in-Some.ensures.steps.0 c.in-Some.ensures.steps.1 c.loop-block.invariant.1)

pub loop-block-preserved : goal.loop-block-preserved
loop-block-preserved c =
    let w = c.loop-block.invariant in
    let s = c.in-Some.ensures.steps in
    (simp length-set w.0, owes_on _ (pairs_on s.0 s.1) (wrote_two _ _ _ _) w.1)

pub returns : goal.returns
returns c =
    let it = c.loop-block.block-iterator in
    owes_end
    (elim c.in-None.ensures.steps [
      | inl e ↦ pairs_end it.b.rest.now (nil_from_length it.a.rest.now e.1.0)
      | inr e ↦ pairs_end_other it.a.rest.now (nil_from_length it.b.rest.now e.1.0)
    ])
    c.loop-block.invariant.1
