-- At every turn the orders for the pairs that are left, written from here on, make the whole.
use Rattle.laws.specs.Buffers.{Owes}
use Rattle.rules.specs.Ending.{tell}
use Rattle.rules.specs.Order.{encode_all}
use Rattle.wire_pairs.specs.View.{zip_pairs}
use Rattle.wire_orders.specs.View.{delta_of}
use Prim.Native.Nat.{◌-◌, ◌/◌}
use lib.ListN.{length}
use mathlib.Core.Path.{◌≡◌}
use Rattle.std.specs.Slice.Iter.{chunks_rest, chunks_size}
use Rattle.wire_orders.proofs.write_deltas.Given as goal

abbrev pub invariant-loop-blocks : goal.invariant-loop-blocks
invariant-loop-blocks l =
    let it = l.blocks-iterator in
    (length l.out ≡ length l.initial.out) × (chunks_size it.a ≡ (l.size - 1) / 2) × (chunks_size it.b ≡ (l.size - 1) / 2)
    × Owes l.initial.out l.at (encode_all l.pass (tell (delta_of l.delta) l.size (zip_pairs l.blocks l.numbers))) l.end l.out
    (encode_all l.pass (tell (delta_of l.delta) l.size (zip_pairs (chunks_rest it.a) (chunks_rest it.b))))
