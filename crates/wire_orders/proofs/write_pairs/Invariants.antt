-- At every turn the pairs that are left, written from here on, make the whole.
use Rattle.laws.specs.Buffers.{Owes}
use Rattle.laws.specs.Lists.{collect}
use Rattle.rules.specs.Event.{pair_bytes}
use Rattle.wire_pairs.specs.View.{zip_pairs}
use lib.ListN.{length}
use mathlib.Core.Path.{◌≡◌}
use Rattle.wire_orders.proofs.write_pairs.Given as goal

abbrev pub invariant-loop-block : goal.invariant-loop-block
invariant-loop-block l =
    (length l.out ≡ length l.initial.out)
    × Owes l.initial.out l.at (collect pair_bytes (zip_pairs l.blocks l.numbers)) l.end l.out
    (collect pair_bytes (zip_pairs l.block-iterator.a.rest.now l.block-iterator.b.rest.now))
