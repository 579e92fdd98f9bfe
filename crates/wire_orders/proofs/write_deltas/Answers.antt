-- At every turn the orders for the pairs that are left, written from here on, make the whole.
use Rattle.laws.specs.Buffers.{owes_end}
use Rattle.std.proofs.lemmas.List.{nil_from_length}
use Rattle.std.specs.Slice.Iter.{chunks_rest}
use Rattle.wire_pairs.specs.View.{zip_pairs}
use Rattle.wire_pairs.proofs.Arrays.{zip_short}
use Rattle.wire_orders.proofs.Tellings.{chunk_room, chunk_turn, tell_end}
use Rattle.wire_orders.specs.View.{delta_of}
use mathlib.Core.Logic.{inl, inr}
use mathlib.Core.Path.{◌∙◌}
use native.Mathlib.Omega.{arith}
use Rattle.wire_orders.proofs.write_deltas.Goals as goal

pub write_part-end-requires : goal.write_part-end-requires
write_part-end-requires c =
    let w = c.loop-blocks.invariant in
    let a = c.in-Some.ensures.steps.0 in
    let b = c.in-Some.ensures.steps.1 in
    (omega (arith, a.1.1, w.1, c.ranges.size.fits), chunk_room c.args.pass c.args.delta c.args.size c.requires.0 _ _ _ _ _ _ w.1 w.2 a.1.0 a.1.1 a.1.2 b.1.0 b.1.1 b.1.2 w.3 (omega (arith, c.requires.1, w.0)))

pub loop-blocks-preserved : goal.loop-blocks-preserved
loop-blocks-preserved c =
    let w = c.loop-blocks.invariant in
    let a = c.in-Some.ensures.steps.0 in
    let b = c.in-Some.ensures.steps.1 in
    (c.write_part-end.auto.out ∙ w.0, a.0 ∙ w.1, b.0 ∙ w.2, chunk_turn c.args.pass c.args.delta c.args.size c.requires.0 _ _ _ _ _ _ w.1 w.2 a.1.0 a.1.1 a.1.2 b.1.0 b.1.1 b.1.2 c.write_part-end.ensures w.3)

pub returns : goal.returns
returns c =
    let w = c.loop-blocks.invariant in
    let bs = chunks_rest c.loop-blocks.blocks-iterator.a in
    let ns = chunks_rest c.loop-blocks.blocks-iterator.b in
    owes_end
    (tell_end c.args.pass (delta_of c.args.delta) c.args.size (elim c.in-None.ensures.steps [
      | inl e ↦ nil_from_length (zip_pairs bs ns) (omega (arith, zip_short bs ns, e.1.0))
      | inr e ↦ nil_from_length (zip_pairs bs ns) (omega (arith, zip_short bs ns, e.1.0))
    ]))
    w.3
